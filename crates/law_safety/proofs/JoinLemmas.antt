-- What is known at the end of an arm is known after the branch, of the variables that occur outside it.
use Rattle.std.proofs.Common.{◌≡◌, refl, sym, ap, ◌∙◌, subst, inl, inr, arith, ℕ, zero, suc, ◌<◌, ◌≤◌, Bool, true, false, not, ◌&&◌, ◌||◌, cond, List, [], ◌∷◌, length, Option, Some, None, Ok}
use Rattle.std.proofs.lemmas.Bool.{cases_eq, cases_lt, or_parts, false≢true}
use Rattle.std.specs.Prelude.{⊤}
use Rattle.md_hlds.specs.Hlds.{HldsType, Hlds}
use Rattle.md_hlds.specs.Value.{Value, Env, value_at}
use Rattle.md_inst.specs.Instantiation.{Instantiation, free, has, InstMap, known_at, is_bound, is_newly_bound, some_below, times}
use Rattle.md_inst.specs.Common.{disagree, common, is_alike}
use Rattle.md_modes.specs.Branches.{After, after, in_common, all_have, differ, some_differ, some_unlike, clash, reachable, joined_ends, joined}
use Rattle.md_modes.proofs.InstantiationLemmas.{known_at-outside, length-in_common, known_at-in_common}
use Rattle.law_safety.specs.Values.{HasType, Agrees, Fits}
use Rattle.law_safety.proofs.SameTypes.{same_sort_is}
use Rattle.law_safety.proofs.Growing.{Later, AllLater, EachOf, reachable_later, joined_ok}

-- the same of a variable, but for whether an io state was used
abbrev pub Alike : Instantiation → Instantiation → Type 0
Alike free free = ⊤
Alike (has t used) (has u spent) = t ≡ u
Alike k j = ⊥

alike_has : (k j : Instantiation) (t : HldsType) (a b : Bool) → k ≡ has t a → j ≡ has t b → Alike k j
alike_has k j t a b e f = rw (e, f) refl

alike_free : (k j : Instantiation) → k ≡ free → j ≡ free → Alike k j
alike_free k j e f = rw (e, f) tt

below_step : (x n : ℕ) (p : ℕ → Bool) → x < suc n → (x ≡ n → ⊥) → x < n
below_step x n p lt other = elim (cases_lt x n) [ inl less ↦ less | inr more ↦ absurd (other (omega (arith, lt, more))) ]

none_below : (n : ℕ) (p : ℕ → Bool) (x : ℕ) → some_below n p ≡ false → x < n → p x ≡ false
none_below zero p x none lt = absurd (omega (arith, lt))
none_below (suc n) p x none lt =
    let both = or_parts (some_below n p) (p n) none in
    elim (cases_eq x n) [
      | inl same ↦ ap p same ∙ both.1
      | inr other ↦ none_below n p x both.0 (below_step x n p lt other)
    ]

-- ---- what all arms have

all_have_size : (r : InstMap) (qs : List InstMap) → length (all_have r qs) ≡ length r
all_have_size r [] = refl
all_have_size r (q ∷ qs) = all_have_size (in_common r q) qs ∙ length-in_common r q

abbrev IsBoundAt : ℕ → InstMap → Type 0
IsBoundAt x q = (t : HldsType) × (used : Bool) × (known_at q x ≡ has t used)

common_has : (k j : Instantiation) (t u : HldsType) (a b : Bool) → k ≡ has t a → j ≡ has u b → common k j ≡ has t (a || b)
common_has k j t u a b e f = rw (e, f) refl

common_none : (k j : Instantiation) → k ≡ free → common k j ≡ free
common_none k j e = rw e refl

all_have_has : (x : ℕ) (t : HldsType) (a : Bool) (r : InstMap) (qs : List InstMap) → known_at r x ≡ has t a → EachOf (IsBoundAt x) qs → (b : Bool) × (known_at (all_have r qs) x ≡ has t b)
all_have_has x t a r [] e h = (a, e)
all_have_has x t a r (q ∷ qs) e h =
    all_have_has x t (a || h.0.1) (in_common r q) qs (known_at-in_common r q x ∙ common_has (known_at r x) (known_at q x) t h.0.0 a h.0.1 e h.0.2) h.1

all_have_free : (x : ℕ) (r : InstMap) (qs : List InstMap) → known_at r x ≡ free → known_at (all_have r qs) x ≡ free
all_have_free x r [] e = e
all_have_free x r (q ∷ qs) e = all_have_free x (in_common r q) qs (known_at-in_common r q x ∙ common_none (known_at r x) (known_at q x) e)

-- ---- one variable

each_map : (P Q : InstMap → Type 0) (qs : List InstMap) → ((q : InstMap) → P q → Q q) → EachOf P qs → EachOf Q qs
each_map P Q [] f h = tt
each_map P Q (q ∷ qs) f h = (f q h.0, each_map P Q qs f h.1)

each_both : (P Q : InstMap → Type 0) (qs : List InstMap) → EachOf P qs → EachOf Q qs → EachOf (λ q. P q × Q q) qs
each_both P Q [] h g = tt
each_both P Q (q ∷ qs) h g = ((h.0, g.0), each_both P Q qs h.1 g.1)

-- at this variable the arms agree with what all have
abbrev AgreesAt : ℕ → InstMap → InstMap → Type 0
AgreesAt x all q = Alike (known_at q x) (known_at all x)

-- a variable that was bound before
bound_before : (x : ℕ) (t : HldsType) (used : Bool) (kn r : InstMap) (qs : List InstMap) → known_at kn x ≡ has t used → Later kn r → EachOf (Later kn) qs → EachOf (AgreesAt x (all_have r qs)) (r ∷ qs)
bound_before x t used kn r qs is h g =
    let a = h.bound x t used is in
    let all = all_have_has x t a.0 r qs a.1 (each_map (Later kn) (IsBoundAt x) qs (λ q later. let b = later.bound x t used is in (t, b.0, b.1)) g) in (
      alike_has (known_at r x) (known_at (all_have r qs) x) t a.0 all.0 a.1 all.1,
      each_map (Later kn) (AgreesAt x (all_have r qs)) qs (λ q later. let b = later.bound x t used is in alike_has (known_at q x) (known_at (all_have r qs) x) t b.0 all.0 b.1 all.1) g,
    )

-- one past the end
past_end : (x : ℕ) (kn r : InstMap) (qs : List InstMap) → length kn ≤ x → Later kn r → EachOf (Later kn) qs → EachOf (AgreesAt x (all_have r qs)) (r ∷ qs)
past_end x kn r qs le h g =
    let here = known_at-outside r x (let size = h.size in omega (arith, le, size)) in
    let all = all_have_free x r qs here in (
      alike_free (known_at r x) (known_at (all_have r qs) x) here all,
      each_map (Later kn) (AgreesAt x (all_have r qs)) qs (λ q later. alike_free (known_at q x) (known_at (all_have r qs) x) (known_at-outside q x (let size = later.size in omega (arith, le, size))) all) g,
    )

agree_false : (b : Bool) (k j i : Instantiation) → b ≡ true → k ≡ free → (b && (not (is_bound k) && disagree j i)) ≡ false → disagree j i ≡ false
agree_false true free j i e f h = h
agree_false true (has t used) j i e f h = absurd (cc f)
agree_false false k j i e f h = absurd (false≢true e)

some_differ_each : (p : ℕ → Bool) (x : ℕ) (kn r : InstMap) (qs : List InstMap) → p x ≡ true → known_at kn x ≡ free → x < length kn → some_differ p kn r qs ≡ false
    → EachOf (λ q. disagree (known_at r x) (known_at q x) ≡ false) qs
some_differ_each p x kn r [] px none lt h = tt
some_differ_each p x kn r (q ∷ qs) px none lt h =
    let both = or_parts (differ p kn r q) (some_differ p kn r qs) h in
    (agree_false (p x) (known_at kn x) (known_at r x) (known_at q x) px none (none_below (length kn) _ x both.0 lt), some_differ_each p x kn r qs px none lt both.1)

alike_true : (b : Bool) → not b ≡ false → b ≡ true
alike_true true h = refl
alike_true false h = absurd (false≢true (sym h))

unlike_each : (k : Instantiation) (x : ℕ) (qs : List InstMap) → some_unlike k x qs ≡ false → EachOf (λ q. is_alike k (known_at q x) ≡ true) qs
unlike_each k x [] h = tt
unlike_each k x (q ∷ qs) h =
    let both = or_parts (not (is_alike k (known_at q x))) (some_unlike k x qs) h in
    (alike_true (is_alike k (known_at q x)) both.0, unlike_each k x qs both.1)

both_free : (k j : Instantiation) → k ≡ free → disagree k j ≡ false → j ≡ free
both_free free free e h = refl
both_free free (has t used) e h = absurd (false≢true (sym h))
both_free (has t used) j e h = absurd (cc e)

both_bound : (k j : Instantiation) (t : HldsType) (used : Bool) → k ≡ has t used → disagree k j ≡ false → (u : HldsType) × (b : Bool) × (j ≡ has u b)
both_bound free j t used e h = absurd (cc e)
both_bound (has u b) free t used e h = absurd (false≢true (sym h))
both_bound (has u b) (has v d) t used e h = (v, d, refl)

alike_types : (k j : Instantiation) (t : HldsType) (used : Bool) → k ≡ has t used → is_alike k j ≡ true → disagree k j ≡ false → (b : Bool) × (j ≡ has t b)
alike_types free j t used e h d = absurd (cc e)
alike_types (has u a) free t used e h d = absurd (false≢true (sym d))
alike_types (has u a) (has v b) t used e h d =
    let first : u ≡ t = cc e in
    (b, ap (λ (z : HldsType). has z b) (sym (same_sort_is u v h) ∙ first))

newly_false : (k j : Instantiation) (t : HldsType) (used b : Bool) → k ≡ free → j ≡ has t used → (is_newly_bound k j && b) ≡ false → b ≡ false
newly_false free (has u a) t used b e f h = h
newly_false free free t used b e f h = absurd (cc f)
newly_false (has u a) j t used b e f h = absurd (cc e)

-- one that was free before, by whether the first arm binds it
free_before : (p : ℕ → Bool) (x : ℕ) (kn r : InstMap) (qs : List InstMap) (k : Instantiation) → known_at r x ≡ k → p x ≡ true → known_at kn x ≡ free → x < length kn → length r ≡ length kn
    → some_differ p kn r qs ≡ false → clash kn (all_have r qs) r qs ≡ false → EachOf (AgreesAt x (all_have r qs)) (r ∷ qs)
free_before p x kn r qs free is px none lt size d c =
    let all = all_have_free x r qs is in (
      alike_free (known_at r x) (known_at (all_have r qs) x) is all,
      each_map _ (AgreesAt x (all_have r qs)) qs (λ q h. alike_free (known_at q x) (known_at (all_have r qs) x) (both_free (known_at r x) (known_at q x) is h) all) (some_differ_each p x kn r qs px none lt d),
    )
free_before p x kn r qs (has t used) is px none lt size d c =
    let agree = some_differ_each p x kn r qs px none lt d in
    let all = all_have_has x t used r qs is (each_map _ (IsBoundAt x) qs (λ q h. both_bound (known_at r x) (known_at q x) t used is h) agree) in
    let long = all_have_size r qs in
    let unlike = newly_false (known_at kn x) (known_at (all_have r qs) x) t all.0 (some_unlike (known_at r x) x qs) none all.1
    (none_below (length (all_have r qs)) _ x c (omega (arith, lt, long, size))) in (
      alike_has (known_at r x) (known_at (all_have r qs) x) t used all.0 is all.1,
      each_map _ (AgreesAt x (all_have r qs)) qs
          (λ q h. let b = alike_types (known_at r x) (known_at q x) t used is h.0 h.1 in alike_has (known_at q x) (known_at (all_have r qs) x) t b.0 all.0 b.1 all.1)
          (each_both (λ q. is_alike (known_at r x) (known_at q x) ≡ true) (λ q. disagree (known_at r x) (known_at q x) ≡ false) qs (unlike_each (known_at r x) x qs unlike) agree),
    )

at_variable : (p : ℕ → Bool) (x : ℕ) (kn r : InstMap) (qs : List InstMap) (k : Instantiation) → known_at kn x ≡ k → p x ≡ true → Later kn r → EachOf (Later kn) qs
    → some_differ p kn r qs ≡ false → clash kn (all_have r qs) r qs ≡ false → EachOf (AgreesAt x (all_have r qs)) (r ∷ qs)
at_variable p x kn r qs (has t used) is px h g d c = bound_before x t used kn r qs is h g
at_variable p x kn r qs free is px h g d c = elim (cases_lt x (length kn)) [
  | inl lt ↦ free_before p x kn r qs (known_at r x) refl px is lt h.size d c
  | inr le ↦ past_end x kn r qs le h g
]

-- ---- the ends

-- what is known at an end is known after the branch, of the variables with the property
pub record Joins (p : ℕ → Bool) (a : After) (q : InstMap) : Type 0 where
  pub size : length a.known ≡ length q
  pub reach : a.reach ≡ true
  pub alike : (x : ℕ) → p x ≡ true → Alike (known_at q x) (known_at a.known x)

abbrev pub EndsJoin : (ℕ → Bool) → After → List After → Type 0
EndsJoin p a [] = ⊤
EndsJoin p a (b ∷ ends) = (b.reach ≡ true → Joins p a b.known) × EndsJoin p a ends

each_all : (Q : ℕ → InstMap → Type 0) (P : ℕ → Type 0) (qs : List InstMap) → ((x : ℕ) → P x → EachOf (Q x) qs) → EachOf (λ q. (x : ℕ) → P x → Q x q) qs
each_all Q P [] h = tt
each_all Q P (q ∷ qs) h = (λ x px. (h x px).0, each_all Q P qs (λ x px. (h x px).1))

each_joins : (p : ℕ → Bool) (kn : InstMap) (a : After) (qs : List InstMap) → length a.known ≡ length kn → a.reach ≡ true → EachOf (Later kn) qs
    → EachOf (λ q. (x : ℕ) → p x ≡ true → Alike (known_at q x) (known_at a.known x)) qs → EachOf (Joins p a) qs
each_joins p kn a [] size reach later h = tt
each_joins p kn a (q ∷ qs) size reach later h =
    (record { size = size ∙ sym later.0.size; reach = reach; alike = h.0 }, each_joins p kn a qs size reach later.1 h.1)

ends_joined : (l : ℕ) (p : ℕ → Bool) (kn : InstMap) (rs : List InstMap) (a : After) → EachOf (Later kn) rs → joined_ends l p kn rs ≡ Ok a → EachOf (Joins p a) rs
ends_joined l p kn [] a later ok = tt
ends_joined l p kn (r ∷ qs) a later ok =
    let o = joined_ok l p kn r qs a ok in
    subst (λ (b : After). EachOf (Joins p b) (r ∷ qs)) o.2
    (each_joins p kn (after (all_have r qs) true) (r ∷ qs) (all_have_size r qs ∙ later.0.size) refl later
    (each_all (λ x q. AgreesAt x (all_have r qs) q) (λ x. p x ≡ true) (r ∷ qs) (λ x px. at_variable p x kn r qs (known_at kn x) refl px later.0 later.1 o.0 o.1)))

cond_first : (P : InstMap → Type 0) (q : InstMap) (qs : List InstMap) (b : Bool) → EachOf P (cond b (q ∷ qs) qs) → (b ≡ true → P q) × EachOf P qs
cond_first P q qs true h = (λ e. h.0, h.1)
cond_first P q qs false h = (λ e. absurd (false≢true e), h)

each_end : (p : ℕ → Bool) (a : After) (ends : List After) → EachOf (Joins p a) (reachable ends) → EndsJoin p a ends
each_end p a [] h = tt
each_end p a (b ∷ ends) h =
    let both = cond_first (Joins p a) b.known (reachable ends) b.reach h in
    (both.0, each_end p a ends both.1)

pub joined_join : (l : ℕ) (p : ℕ → Bool) (kn : InstMap) (ends : List After) (a : After) → AllLater kn ends → joined l p kn ends ≡ Ok a → EndsJoin p a ends
joined_join l p kn ends a later ok = each_end p a ends (ends_joined l p kn (reachable ends) a (reachable_later kn ends later) ok)

agrees_alike : (s : Hlds) (o : Option Value) (k j : Instantiation) → Alike k j → Agrees s o k → Agrees s o j
agrees_alike s None free free h g = tt
agrees_alike s (Some v) (has t used) (has u spent) h g = subst (λ (z : HldsType). HasType s v z) h g
agrees_alike s None (has t used) j h g = elim g [ ]
agrees_alike s (Some v) free j h g = elim g [ ]
agrees_alike s None free (has t used) h g = elim h [ ]
agrees_alike s (Some v) (has t used) free h g = elim h [ ]

-- an environment at the end of an arm fits what is known after the branch
pub fits_joined : (s : Hlds) (p : ℕ → Bool) (vars : List ℕ) (a : After) (q : InstMap) (e : Env) → Joins p a q → ((x : ℕ) → 0 < times x vars → p x ≡ true) → Fits s vars q e → Fits s vars a.known e
fits_joined s p vars a q e h all fits = record {
  size = fits.size ∙ sym h.size;
  each = λ x there. agrees_alike s (value_at e x) (known_at q x) (known_at a.known x) (h.alike x (all x there)) (fits.each x there);
}
