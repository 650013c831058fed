-- What arms have in common, by the variables that need a look at each arm.
use Rattle.std.proofs.Common.{◌≡◌, refl, sym, ap, ◌∙◌, arith, ℕ, zero, suc, ◌+◌, ◌<◌, ◌≤◌, Bool, true, false, not, ◌&&◌, ◌||◌, ◌⊎◌, inl, inr, ⊎_elim, cond, List, [], ◌∷◌, ◌++◌, length}
use Rattle.std.proofs.lemmas.Bool.{cases_eq, cases_lt, true≢false, or_cases, or_left, or_right, or_parts, and_parts, and_from, false_from_ne_true}
use Rattle.md_inst.specs.Instantiation.{Instantiation, free, has, InstMap, known_at, put, is_bound, is_newly_bound, times}
use Rattle.md_inst.specs.Common.{disagree, common, is_alike}
use Rattle.md_modes.specs.declared.joined.Shared.{Shared}
use Rattle.md_modes.specs.Branches.{some_of, differ, some_differ, in_common, all_have, some_unlike, clash}
use Rattle.md_modes.specs.Shares.{numbers, common_at, commons, compared, kept, unsettled, begun, AllRight, Shares, lost, gained, some_clash}
use Rattle.md_modes.proofs.Below.{some_below-found}
use Rattle.md_modes.proofs.JoinLemmas.{some_differ-more}
use Rattle.md_modes.proofs.InstantiationLemmas.{length-put, known_at-put, known_at-put_other, known_at-outside, same_knowledge, length-in_common, known_at-in_common, not_first, not_in, not_in_rest}
use Rattle.md_modes.proofs.Views.{same_tests, Witness, some_below-witness, some_of-found, Member, some_of-member}

-- ---- one variable compared

common_again : (k j : Instantiation) → common (common k j) j ≡ common k j
common_again free j = refl
common_again (has t used) free = refl
common_again (has t used) (has u spent) = ap (has t) (either_again used spent)
  where
    either_again : (a b : Bool) → ((a || b) || b) ≡ (a || b)
    either_again true b = refl
    either_again false true = refl
    either_again false false = refl

-- what all arms so far have in common, once one variable was compared
abbrev narrowed : (c q : InstMap) → ℕ → InstMap
narrowed c q n = put c n (common_at c q n)

narrowed_here : (c q : InstMap) (n : ℕ) → known_at (narrowed c q n) n ≡ common_at c q n
narrowed_here c q n = ⊎_elim
    (λ (lt : suc n ≤ length c). known_at-put c n (common_at c q n) lt)
    (λ (le : length c ≤ n).
    known_at-outside (narrowed c q n) n (omega (arith, le, length-put c n (common_at c q n)))
    ∙ sym (ap (λ (k : Instantiation). common k (known_at q n)) (known_at-outside c n le)))
    (cases_lt n (length c))

narrowed_other : (c q : InstMap) (n x : ℕ) → (x ≡ n → ⊥) → known_at (narrowed c q n) x ≡ known_at c x
narrowed_other c q n x other = known_at-put_other c n x (common_at c q n) other

narrowed_common : (c q : InstMap) (n x : ℕ) → common_at (narrowed c q n) q x ≡ common_at c q x
narrowed_common c q n x = ⊎_elim
    (λ (same : x ≡ n). rw (same, narrowed_here c q n) (common_again (known_at c n) (known_at q n)))
    (λ (other : x ≡ n → ⊥). ap (λ (k : Instantiation). common k (known_at q x)) (narrowed_other c q n x other))
    (cases_eq x n)

-- ---- all variables compared

commons_common : (c q : InstMap) (es : List Shared) (x : ℕ) → common_at (commons c q es) q x ≡ common_at c q x
commons_common c q [] x = refl
commons_common c q (e ∷ es) x = commons_common (narrowed c q e.number) q es x ∙ narrowed_common c q e.number x

-- a variable was compared, or it is none of these and what is known of it stays
abbrev Looked : (c q : InstMap) → List Shared → ℕ → Type 0
Looked c q es x = (known_at (commons c q es) x ≡ common_at c q x) ⊎ ((times x (numbers es) ≡ 0) × (known_at (commons c q es) x ≡ known_at c x))

looked_first : (c q : InstMap) (e : Shared) (es : List Shared) (x : ℕ) → times x (numbers es) ≡ 0
    → known_at (commons (narrowed c q e.number) q es) x ≡ known_at (narrowed c q e.number) x → Looked c q (e ∷ es) x
looked_first c q e es x none stays = ⊎_elim
    (λ (same : x ≡ e.number). inl (stays ∙ rw same (narrowed_here c q e.number)))
    (λ (other : x ≡ e.number → ⊥). inr (not_in x e.number (numbers es) other none, stays ∙ narrowed_other c q e.number x other))
    (cases_eq x e.number)

looked : (c q : InstMap) (es : List Shared) (x : ℕ) → Looked c q es x
looked c q [] x = inr (refl, refl)
looked c q (e ∷ es) x = ⊎_elim
    (λ (here : known_at (commons (narrowed c q e.number) q es) x ≡ common_at (narrowed c q e.number) q x). inl (here ∙ narrowed_common c q e.number x))
    (λ (rest : (times x (numbers es) ≡ 0) × (known_at (commons (narrowed c q e.number) q es) x ≡ known_at (narrowed c q e.number) x)). looked_first c q e es x rest.0 rest.1)
    (looked (narrowed c q e.number) q es x)

-- ---- variables that need no look

settled_either : (a b : Bool) → (b && not a) ≡ false → (a || b) ≡ a
settled_either true b e = refl
settled_either false false e = refl
settled_either false true e = absurd (true≢false e)

settled_common : (b k : Instantiation) → unsettled b k ≡ false → common k b ≡ k
settled_common free free e = refl
settled_common (has u spent) free e = refl
settled_common free (has t used) e = absurd (true≢false e)
settled_common (has u spent) (has t used) e = ap (has t) (settled_either used spent e)

settled_free : (b : Instantiation) → unsettled b free ≡ false
settled_free free = refl
settled_free (has u spent) = refl

unsettled_bound : (b k : Instantiation) → unsettled b k ≡ true → is_bound k ≡ true
unsettled_bound b free e = absurd (true≢false (sym e ∙ settled_free b))
unsettled_bound b (has t used) e = refl

unsettled_both : (c a b : Bool) → (c && not (a || b)) ≡ true → (c && not a) ≡ true
unsettled_both c false b e = and_from c true (and_parts c (not b) e).0 refl
unsettled_both c true b e = e

-- what needs a look after one arm more needed one before
unsettled_common : (b k j : Instantiation) → unsettled b (common k j) ≡ true → unsettled b k ≡ true
unsettled_common b free j e = e
unsettled_common b (has t used) free e = absurd (true≢false (sym e ∙ settled_free b))
unsettled_common free (has t used) (has u spent) e = refl
unsettled_common (has v over) (has t used) (has u spent) e = unsettled_both over used spent e

newly_unsettled : (b k : Instantiation) → not (is_bound b) ≡ true → is_bound k ≡ true → unsettled b k ≡ true
newly_unsettled b free e f = absurd (true≢false (sym f))
newly_unsettled free (has t used) e f = refl
newly_unsettled (has u spent) (has t used) e f = absurd (true≢false (sym e))

-- an arm left this variable alone
left_alone : (s c q : InstMap) (es : List Shared) (x : ℕ) → known_at q x ≡ known_at s x
    → (unsettled (known_at s x) (known_at c x) ≡ true → times x (numbers es) ≡ 0 → ⊥) → known_at (commons c q es) x ≡ common_at c q x
left_alone s c q es x alone h = ⊎_elim
    (λ (here : known_at (commons c q es) x ≡ common_at c q x). here)
    (λ (rest : (times x (numbers es) ≡ 0) × (known_at (commons c q es) x ≡ known_at c x)).
    rest.1
    ∙ sym (settled_common (known_at s x) (known_at c x) (false_from_ne_true (unsettled (known_at s x) (known_at c x)) (λ e. h e rest.0)))
    ∙ ap (common (known_at c x)) (sym alone))
    (looked c q es x)

-- what is known of a variable at the end is what the arms have in common at it, or nothing had to be done
abbrev Settled : (s c q d : InstMap) → List Shared → ℕ → Type 0
Settled s c q d es x = (known_at d x ≡ common_at (commons c q es) q x) ⊎ ((known_at d x ≡ known_at (commons c q es) x) × (known_at q x ≡ known_at s x))

settled_at : (s c q d : InstMap) (es : List Shared) (x : ℕ) → Settled s c q d es x
    → (unsettled (known_at s x) (known_at c x) ≡ true → times x (numbers es) ≡ 0 → ⊥) → known_at d x ≡ common_at c q x
settled_at s c q d es x told h = ⊎_elim
    (λ (here : known_at d x ≡ common_at (commons c q es) q x). here ∙ commons_common c q es x)
    (λ (rest : (known_at d x ≡ known_at (commons c q es) x) × (known_at q x ≡ known_at s x)). rest.0 ∙ left_alone s c q es x rest.1 h)
    told

pub settled_is : (s c q d : InstMap) (es : List Shared) → length d ≡ length c
    → ((x : ℕ) → x < length c → (known_at d x ≡ common_at (commons c q es) q x) ⊎ ((known_at d x ≡ known_at (commons c q es) x) × (known_at q x ≡ known_at s x)))
    → ((x : ℕ) → unsettled (known_at s x) (known_at c x) ≡ true → times x (numbers es) ≡ 0 → ⊥)
    → d ≡ in_common c q
settled_is s c q d es size told h = same_knowledge d (in_common c q) (size ∙ sym (length-in_common c q)) (λ x. ⊎_elim
    (λ (lt : suc x ≤ length c). settled_at s c q d es x (told x lt) (h x) ∙ sym (known_at-in_common c q x))
    (λ (le : length c ≤ x).
    known_at-outside d x (omega (arith, le, size)) ∙ sym (known_at-outside (in_common c q) x (omega (arith, le, length-in_common c q))))
    (cases_lt x (length c)))

-- ---- the variables that one arm more binds too

bound_common : (k j : Instantiation) → is_bound (common k j) ≡ true → is_bound k ≡ true
bound_common free j e = e
bound_common (has t used) j e = refl

both_bound : (k j : Instantiation) → is_bound k ≡ true → is_bound j ≡ true → is_bound (common k j) ≡ true
both_bound free j e f = e
both_bound (has t used) free e f = f
both_bound (has t used) (has u spent) e f = refl

not_in_kept : (b : Bool) (x : ℕ) (e : Shared) (es : List Shared) → times x (numbers (cond b (e ∷ es) es)) ≡ 0 → times x (numbers es) ≡ 0
not_in_kept true x e es none = not_in_rest x e.number (numbers es) none
not_in_kept false x e es none = none

first_kept : (b : Bool) (x : ℕ) (e : Shared) (es : List Shared) → b ≡ true → x ≡ e.number → times x (numbers (cond b (e ∷ es) es)) ≡ 0 → ⊥
first_kept true x e es right same none = not_first x e.number (numbers es) none same
first_kept false x e es right same none = true≢false (sym right)

all_kept : (r c q : InstMap) (es : List Shared) (x : ℕ) → is_bound (common_at c q x) ≡ true → times x (numbers (kept r c q es)) ≡ 0 → times x (numbers es) ≡ 0
all_kept r c q [] x e none = refl
all_kept r c q (f ∷ es) x e none =
    let rest : List Shared = kept r (narrowed c q f.number) q es in
    let b : Bool = is_bound (common_at c q f.number) in
    ⊎_elim
    (λ (same : x ≡ f.number). absurd (first_kept b x (compared r q f) rest (ap (λ n. is_bound (common_at c q n)) (sym same) ∙ e) same none))
    (λ (other : x ≡ f.number → ⊥).
    not_in x f.number (numbers es) other
    (all_kept r (narrowed c q f.number) q es x (ap is_bound (narrowed_common c q f.number x) ∙ e) (not_in_kept b x (compared r q f) rest none)))
    (cases_eq x f.number)

right_kept : (b : Bool) (u : ℕ → Bool) (e : Shared) (es : List Shared) → e.unlike ≡ u e.number → AllRight u es → AllRight u (cond b (e ∷ es) es)
right_kept true u e es f h = (f, h)
right_kept false u e es f h = h

all_right-kept : (r c q : InstMap) (es : List Shared) (u : ℕ → Bool) → AllRight u es → AllRight (λ x. u x || not (is_alike (known_at r x) (known_at q x))) (kept r c q es)
all_right-kept r c q [] u h = tt
all_right-kept r c q (e ∷ es) u h =
    right_kept (is_bound (common_at c q e.number)) (λ x. u x || not (is_alike (known_at r x) (known_at q x))) (compared r q e) (kept r (narrowed c q e.number) q es)
    (ap (λ b. b || not (is_alike (known_at r e.number) (known_at q e.number))) h.0)
    (all_right-kept r (narrowed c q e.number) q es u h.1)

pub kept_shares : (s r c q : InstMap) (es : List Shared) (u : ℕ → Bool) → Shares s c u es
    → Shares s (in_common c q) (λ x. u x || not (is_alike (known_at r x) (known_at q x))) (kept r c q es)
kept_shares s r c q es u h = record {
  all = λ x e none.
      let now : unsettled (known_at s x) (common_at c q x) ≡ true = ap (unsettled (known_at s x)) (sym (known_at-in_common c q x)) ∙ e in
      let bound : is_bound (common_at c q x) ≡ true = unsettled_bound (known_at s x) (common_at c q x) now in
      h.all x (unsettled_common (known_at s x) (known_at c x) (known_at q x) now) (all_kept r c q es x bound none);
  right = all_right-kept r c q es u h.right;
}

-- ---- the same told in other words

right_along : (u v : ℕ → Bool) (es : List Shared) → ((x : ℕ) → u x ≡ v x) → AllRight u es → AllRight v es
right_along u v [] same h = tt
right_along u v (e ∷ es) same h = (h.0 ∙ same e.number, right_along u v es same h.1)

pub shares_along : (s c d : InstMap) (u v : ℕ → Bool) (es : List Shared) → c ≡ d → ((x : ℕ) → u x ≡ v x) → Shares s c u es → Shares s d v es
shares_along s c d u v es known same h = record {
  all = λ x e none. h.all x (ap (λ (k : InstMap). unsettled (known_at s x) (known_at k x)) known ∙ e) none;
  right = right_along u v es same h.right;
}

-- ---- those that the first arm binds and that need a look

all_begun : (n : ℕ) (s r : InstMap) (i x : ℕ) → x ≡ n + i → unsettled (known_at s i) (known_at r i) ≡ true → times x (numbers (begun n s r)) ≡ 0 → ⊥
all_begun n s [] i x at e none = true≢false (sym e ∙ settled_free (known_at s i))
all_begun n [] (k ∷ r) zero x at e none = first_kept (unsettled free k) x (record { number = n; unlike = false }) (begun (suc n) [] r) e (omega (arith, at)) none
all_begun n [] (k ∷ r) (suc i) x at e none =
    all_begun (suc n) [] r i x (omega (arith, at)) e (not_in_kept (unsettled free k) x (record { number = n; unlike = false }) (begun (suc n) [] r) none)
all_begun n (b ∷ s) (k ∷ r) zero x at e none = first_kept (unsettled b k) x (record { number = n; unlike = false }) (begun (suc n) s r) e (omega (arith, at)) none
all_begun n (b ∷ s) (k ∷ r) (suc i) x at e none =
    all_begun (suc n) s r i x (omega (arith, at)) e (not_in_kept (unsettled b k) x (record { number = n; unlike = false }) (begun (suc n) s r) none)

right_begun : (n : ℕ) (s r : InstMap) → AllRight (λ x. false) (begun n s r)
right_begun n [] [] = tt
right_begun n (b ∷ s) [] = tt
right_begun n [] (k ∷ r) = right_kept (unsettled free k) (λ x. false) (record { number = n; unlike = false }) (begun (suc n) [] r) refl (right_begun (suc n) [] r)
right_begun n (b ∷ s) (k ∷ r) = right_kept (unsettled b k) (λ x. false) (record { number = n; unlike = false }) (begun (suc n) s r) refl (right_begun (suc n) s r)

pub begun_shares : (s r : InstMap) → Shares s r (λ x. false) (begun 0 s r)
begun_shares s r = record { all = λ x e none. all_begun 0 s r x x (omega arith) e none; right = right_begun 0 s r }

-- ---- one arm binds a variable and another doesn't

within : (s : InstMap) (x : ℕ) → is_bound (known_at s x) ≡ true → x < length s
within s x e = ⊎_elim
    (λ (lt : suc x ≤ length s). lt)
    (λ (le : length s ≤ x). absurd (true≢false (sym e ∙ ap is_bound (known_at-outside s x le))))
    (cases_lt x (length s))

bound_first : (r : InstMap) (qs : List InstMap) (x : ℕ) → is_bound (known_at (all_have r qs) x) ≡ true → is_bound (known_at r x) ≡ true
bound_first r [] x e = e
bound_first r (q ∷ qs) x e =
    bound_common (known_at r x) (known_at q x) (ap is_bound (sym (known_at-in_common r q x)) ∙ bound_first (in_common r q) qs x e)

-- they don't disagree, so what one binds the other binds
agreed : (k j : Instantiation) → disagree k j ≡ false → is_bound k ≡ true → is_bound j ≡ true
agreed free j e f = absurd (true≢false (sym f))
agreed (has t used) free e f = absurd (true≢false e)
agreed (has t used) (has u spent) e f = refl

-- one of them alone binds it
gains : (k j : Instantiation) → (not (is_bound k) && is_bound j) ≡ true → disagree k j ≡ true
gains free free e = e
gains free (has u spent) e = refl
gains (has t used) j e = absurd (true≢false (sym e))

loses : (k j : Instantiation) → is_bound k ≡ true → not (is_bound j) ≡ true → disagree k j ≡ true
loses free j e f = absurd (true≢false (sym e))
loses (has t used) free e f = refl
loses (has t used) (has u spent) e f = absurd (true≢false (sym f))

abbrev Apart : (k j : Instantiation) → Type 0
Apart k j = ((not (is_bound k) && is_bound j) ≡ true) ⊎ ((is_bound k ≡ true) × (not (is_bound j) ≡ true))

apart : (k j : Instantiation) → disagree k j ≡ true → Apart k j
apart free free e = absurd (true≢false (sym e))
apart free (has u spent) e = inl refl
apart (has t used) free e = inr (refl, refl)
apart (has t used) (has u spent) e = absurd (true≢false (sym e))

-- a variable with the property, free before
abbrev Watched : (ℕ → Bool) → InstMap → ℕ → Type 0
Watched p s x = (p x ≡ true) × (not (is_bound (known_at s x)) ≡ true)

watched_and : (p : ℕ → Bool) (s : InstMap) (x : ℕ) (b : Bool) → Watched p s x → b ≡ true → (p x && (not (is_bound (known_at s x)) && b)) ≡ true
watched_and p s x b h e = and_from (p x) (not (is_bound (known_at s x)) && b) h.0 (and_from (not (is_bound (known_at s x))) b h.1 e)

-- what such a test tells
abbrev Told : (ℕ → Bool) → InstMap → ℕ → Bool → Type 0
Told p s x b = Watched p s x × (b ≡ true)

told : (p : ℕ → Bool) (s : InstMap) (x : ℕ) (b : Bool) → (p x && (not (is_bound (known_at s x)) && b)) ≡ true → Told p s x b
told p s x b e =
    let first : (p x ≡ true) × ((not (is_bound (known_at s x)) && b) ≡ true) = and_parts (p x) (not (is_bound (known_at s x)) && b) e in
    let rest : (not (is_bound (known_at s x)) ≡ true) × (b ≡ true) = and_parts (not (is_bound (known_at s x))) b first.1 in
    ((first.0, rest.0), rest.1)

not_found : (b : Bool) → b ≡ false → (b ≡ true → ⊥)
not_found b e f = true≢false (sym f ∙ e)

differs_at : (p : ℕ → Bool) (s r q : InstMap) (x : ℕ) → x < length s → Watched p s x → disagree (known_at r x) (known_at q x) ≡ true → differ p s r q ≡ true
differs_at p s r q x lt h e =
    some_below-found (length s) x (λ y. p y && (not (is_bound (known_at s y)) && disagree (known_at r y) (known_at q y))) lt
    (watched_and p s x (disagree (known_at r x) (known_at q x)) h e)

no_disagreement : (p : ℕ → Bool) (s r q : InstMap) (x : ℕ) → x < length s → Watched p s x → differ p s r q ≡ false → disagree (known_at r x) (known_at q x) ≡ false
no_disagreement p s r q x lt h none = false_from_ne_true (disagree (known_at r x) (known_at q x)) (λ e. not_found (differ p s r q) none (differs_at p s r q x lt h e))

-- the arms so far don't differ, so all bind what the first binds
bound_all : (p : ℕ → Bool) (s r c : InstMap) (qs : List InstMap) (x : ℕ) → x < length s → Watched p s x → some_differ p s r qs ≡ false → is_bound (known_at r x) ≡ true
    → is_bound (known_at c x) ≡ true → is_bound (known_at (all_have c qs) x) ≡ true
bound_all p s r c [] x lt h none e f = f
bound_all p s r c (q ∷ qs) x lt h none e f =
    let parts : (differ p s r q ≡ false) × (some_differ p s r qs ≡ false) = or_parts (differ p s r q) (some_differ p s r qs) none in
    let here : is_bound (known_at q x) ≡ true = agreed (known_at r x) (known_at q x) (no_disagreement p s r q x lt h parts.0) e in
    bound_all p s r (in_common c q) qs x lt h parts.1 e (ap is_bound (known_at-in_common c q x) ∙ both_bound (known_at c x) (known_at q x) f here)

-- one arm more differs from the first
lost_differs : (p : ℕ → Bool) (s r q : InstMap) (qs : List InstMap) (ns : List ℕ) → length r ≡ length s → Member (lost p s (all_have r qs) q) ns → differ p s r q ≡ true
lost_differs p s r q qs ns size m =
    let x : ℕ = m.0 in
    let k : Instantiation = known_at (all_have r qs) x in
    let h : Told p s x (is_bound k && not (is_bound (known_at q x))) = told p s x (is_bound k && not (is_bound (known_at q x))) m.2 in
    let parts : (is_bound k ≡ true) × (not (is_bound (known_at q x)) ≡ true) = and_parts (is_bound k) (not (is_bound (known_at q x))) h.1 in
    let bound : is_bound (known_at r x) ≡ true = bound_first r qs x parts.0 in
    differs_at p s r q x (omega (arith, within r x bound, size)) h.0 (loses (known_at r x) (known_at q x) bound parts.1)

gained_differs : (p : ℕ → Bool) (s r q : InstMap) → ((x : ℕ) × (x < length s) × (gained p s r q x ≡ true)) → differ p s r q ≡ true
gained_differs p s r q w =
    let x : ℕ = w.0 in
    let h : Told p s x (not (is_bound (known_at r x)) && is_bound (known_at q x)) = told p s x (not (is_bound (known_at r x)) && is_bound (known_at q x)) w.2 in
    differs_at p s r q x w.1 h.0 (gains (known_at r x) (known_at q x) h.1)

-- where they differ, a variable is gained or lost
differ_found : (p : ℕ → Bool) (s r q : InstMap) (qs : List InstMap) (u : ℕ → Bool) (es : List Shared) (a b : Bool) → Shares s (all_have r qs) u es
    → some_differ p s r qs ≡ false → a ≡ some_of (lost p s (all_have r qs) q) (numbers es)
    → ((x : ℕ) → x < length s → gained p s r q x ≡ true → b ≡ true)
    → Witness (length s) (λ x. p x && (not (is_bound (known_at s x)) && disagree (known_at r x) (known_at q x))) → (b || a) ≡ true
differ_found p s r q qs u es a b shares none lose gain w = ⊎_elim
    (λ (g : (not (is_bound k) && is_bound j) ≡ true). or_left b a (gain x w.1 (watched_and p s x (not (is_bound k) && is_bound j) h.0 g)))
    (λ (l : (is_bound k ≡ true) × (not (is_bound j) ≡ true)). or_right b a (lose ∙ some_of-found (lost p s (all_have r qs) q) (numbers es) x (λ absent. shares.all x (newly_unsettled (known_at s x) (known_at (all_have r qs) x) h.0.1 (bound l.0)) absent) (losing l)))
    (apart k j h.1)
  where
    x : ℕ
    x = w.0

    k : Instantiation
    k = known_at r x

    j : Instantiation
    j = known_at q x

    h : Told p s x (disagree k j)
    h = told p s x (disagree k j) w.2

    bound : is_bound k ≡ true → is_bound (known_at (all_have r qs) x) ≡ true
    bound e = bound_all p s r r qs x w.1 h.0 none e e

    losing : ((is_bound k ≡ true) × (not (is_bound j) ≡ true)) → lost p s (all_have r qs) q x ≡ true
    losing l =
        watched_and p s x (is_bound (known_at (all_have r qs) x) && not (is_bound j)) h.0
        (and_from (is_bound (known_at (all_have r qs) x)) (not (is_bound j)) (bound l.0) l.1)

pub differ_by : (p : ℕ → Bool) (s r q : InstMap) (qs : List InstMap) (u : ℕ → Bool) (es : List Shared) (a b d : Bool) → length r ≡ length s → Shares s (all_have r qs) u es
    → d ≡ some_differ p s r qs
    → a ≡ some_of (lost p s (all_have r qs) q) (numbers es)
    → (b ≡ true → (x : ℕ) × (x < length s) × (gained p s r q x ≡ true))
    → ((x : ℕ) → x < length s → gained p s r q x ≡ true → b ≡ true)
    → (d || (b || a)) ≡ some_differ p s r (qs ++ q ∷ [])
differ_by p s r q qs u es a b d size shares before lose find gain =
    ap (λ c. c || (b || a)) before ∙ or_same (some_differ p s r qs) (b || a) (differ p s r q) step ∙ sym (some_differ-more p s r q qs)
  where
    or_same : (c e f : Bool) → (c ≡ false → e ≡ f) → (c || e) ≡ (c || f)
    or_same true e f h = refl
    or_same false e f h = h refl

    differs : (b || a) ≡ true → differ p s r q ≡ true
    differs e = ⊎_elim
        (λ (more : b ≡ true). gained_differs p s r q (find more))
        (λ (less : a ≡ true). lost_differs p s r q qs (numbers es) size (some_of-member (lost p s (all_have r qs) q) (numbers es) (sym lose ∙ less)))
        (or_cases b a e)

    step : some_differ p s r qs ≡ false → (b || a) ≡ differ p s r q
    step none = same_tests (b || a) (differ p s r q) differs
        (λ e. differ_found p s r q qs u es a b shares none lose gain
        (some_below-witness (length s) (λ x. p x && (not (is_bound (known_at s x)) && disagree (known_at r x) (known_at q x))) e))

-- ---- the types of what all arms bind

newly_now : (k j : Instantiation) → is_newly_bound k j ≡ true → is_bound j ≡ true
newly_now k j e = (and_parts (not (is_bound k)) (is_bound j) e).1

new_unsettled : (k j : Instantiation) → is_newly_bound k j ≡ true → unsettled k j ≡ true
new_unsettled k j e =
    let parts : (not (is_bound k) ≡ true) × (is_bound j ≡ true) = and_parts (not (is_bound k)) (is_bound j) e in
    newly_unsettled k j parts.0 parts.1

-- a variable that is free before and bound in all arms, and of which u is told
abbrev Clashing : (s c : InstMap) → (ℕ → Bool) → Type 0
Clashing s c u = (x : ℕ) × (is_newly_bound (known_at s x) (known_at c x) ≡ true) × (u x ≡ true)

clash_found : (s c : InstMap) (u : ℕ → Bool) (es : List Shared) (x : ℕ) → AllRight u es → (times x (numbers es) ≡ 0 → ⊥) → is_newly_bound (known_at s x) (known_at c x) ≡ true → u x ≡ true
    → some_clash s c es ≡ true
clash_found s c u [] x h some new e = absurd (some refl)
clash_found s c u (f ∷ es) x h some new e = ⊎_elim
    (λ (same : x ≡ f.number).
    or_left (is_newly_bound (known_at s f.number) (known_at c f.number) && f.unlike) (some_clash s c es)
    (and_from (is_newly_bound (known_at s f.number) (known_at c f.number)) f.unlike
    (ap (λ n. is_newly_bound (known_at s n) (known_at c n)) (sym same) ∙ new)
    (h.0 ∙ ap u (sym same) ∙ e)))
    (λ (other : x ≡ f.number → ⊥).
    or_right (is_newly_bound (known_at s f.number) (known_at c f.number) && f.unlike) (some_clash s c es)
    (clash_found s c u es x h.1 (λ none. some (not_in x f.number (numbers es) other none)) new e))
    (cases_eq x f.number)

clash_first : (s c : InstMap) (u : ℕ → Bool) (f : Shared) → f.unlike ≡ u f.number → (is_newly_bound (known_at s f.number) (known_at c f.number) && f.unlike) ≡ true → Clashing s c u
clash_first s c u f h e =
    let parts : (is_newly_bound (known_at s f.number) (known_at c f.number) ≡ true) × (f.unlike ≡ true) = and_parts (is_newly_bound (known_at s f.number) (known_at c f.number)) f.unlike e in
    (f.number, parts.0, sym h ∙ parts.1)

clash_witness : (s c : InstMap) (u : ℕ → Bool) (es : List Shared) → AllRight u es → some_clash s c es ≡ true → Clashing s c u
clash_witness s c u [] h e = absurd (true≢false (sym e))
clash_witness s c u (f ∷ es) h e = ⊎_elim
    (λ (first : (is_newly_bound (known_at s f.number) (known_at c f.number) && f.unlike) ≡ true). clash_first s c u f h.0 first)
    (λ (rest : some_clash s c es ≡ true). clash_witness s c u es h.1 rest)
    (or_cases (is_newly_bound (known_at s f.number) (known_at c f.number) && f.unlike) (some_clash s c es) e)

pub clash_by : (s r : InstMap) (qs : List InstMap) (es : List Shared) → Shares s (all_have r qs) (λ x. some_unlike (known_at r x) x qs) es
    → clash s (all_have r qs) r qs ≡ some_clash s (all_have r qs) es
clash_by s r qs es h = same_tests (clash s c r qs) (some_clash s c es)
    (λ e. down (some_below-witness (length c) test e))
    (λ e. up (clash_witness s c u es h.right e))
  where
    c : InstMap
    c = all_have r qs

    u : ℕ → Bool
    u x = some_unlike (known_at r x) x qs

    test : ℕ → Bool
    test x = is_newly_bound (known_at s x) (known_at c x) && u x

    down : Witness (length c) test → some_clash s c es ≡ true
    down w =
        let x : ℕ = w.0 in
        let parts : (is_newly_bound (known_at s x) (known_at c x) ≡ true) × (u x ≡ true) = and_parts (is_newly_bound (known_at s x) (known_at c x)) (u x) w.2 in
        clash_found s c u es x h.right (λ none. h.all x (new_unsettled (known_at s x) (known_at c x) parts.0) none) parts.0 parts.1

    up : Clashing s c u → clash s c r qs ≡ true
    up w =
        some_below-found (length c) w.0 test (within c w.0 (newly_now (known_at s w.0) (known_at c w.0) w.1))
        (and_from (is_newly_bound (known_at s w.0) (known_at c w.0)) (u w.0) w.1 w.2)
