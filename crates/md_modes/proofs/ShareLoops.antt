-- The variables that arms share, one after the other.
use Rattle.std.proofs.Common.{◌≡◌, ◌≢◌, refl, sym, ap, ◌∙◌, subst, arith, append_assoc, append-nil, add-one, ℕ, zero, suc, ◌+◌, ◌<◌, ◌≤◌, Bool, true, false, cond, ◌||◌, ◌&&◌, List, [], ◌∷◌, ◌++◌, length, take, drop, get_or, slice_index, inl, inr, ◌⊎◌}
use Rattle.std.proofs.lemmas.Bool.{cases_eq, cases_lt}
use Rattle.md_modes.specs.declared.joined.Shared.{Shared}
use Rattle.md_inst.specs.Instantiation.{Instantiation, free, has, InstMap, known_at, put, is_bound, is_newly_bound, times}
use Rattle.md_modes.specs.Branches.{some_of}
use Rattle.md_modes.specs.Shares.{unsettled, numbers, common_at, commons, compared, kept, begun, gained, some_clash}
use Rattle.md_modes.specs.Views.{seen}
use Rattle.md_modes.proofs.Counts.{times-append}
use Rattle.md_inst.specs.Common.{common}
use Rattle.md_modes.specs.declared.end.End.{End}
use Rattle.md_modes.specs.Joins.{IsSettled, end_of}
use Rattle.md_modes.proofs.InstantiationLemmas.{known_at-outside, known_at-put, known_at-put_other}
use Rattle.md_modes.proofs.Locals.{take-more, times_self, times_other}
use Rattle.md_modes.proofs.Views.{length-seen}

none_left : {A : Type 0} (xs : List A) (i : ℕ) → length xs ≤ i → drop i xs ≡ []
none_left [] zero le = refl
none_left [] (suc i) le = refl
none_left (x ∷ xs) zero le = absurd (omega (arith, le))
none_left (x ∷ xs) (suc i) le = none_left xs i (omega (arith, le))

next : (es : List Shared) (i : ℕ) (e : Shared) → i < length es → e ≡ get_or es i e → drop i es ≡ e ∷ drop (suc i) es
next [] i e lt is = absurd (omega (arith, lt))
next (f ∷ es) zero e lt is = rw is refl
next (f ∷ es) (suc i) e lt is = next es i e (omega (arith, lt)) is

-- ---- those that the first arm binds

begun-here : (b : Bool) (e : Shared) (es : List Shared) → cond b (e ∷ es) es ≡ cond b (e ∷ []) [] ++ es
begun-here true e es = refl
begun-here false e es = refl

unsettled_past : (b : Instantiation) → unsettled b free ≡ false
unsettled_past free = refl
unsettled_past (has t used) = refl

begun-unbound : (n i : ℕ) (r : InstMap) → i < length r
    → begun n [] (drop i r) ≡ cond (unsettled free (known_at r i)) (record { number = n; unlike = false } ∷ []) [] ++ begun (suc n) [] (drop (suc i) r)
begun-unbound n i [] lt = absurd (omega (arith, lt))
begun-unbound n zero (k ∷ r) lt = begun-here (unsettled free k) (record { number = n; unlike = false }) (begun (suc n) [] r)
begun-unbound n (suc i) (k ∷ r) lt = begun-unbound n i r (omega (arith, lt))

begun-more : (n i : ℕ) (s r : InstMap) → i < length r
    → begun n (drop i s) (drop i r) ≡ cond (unsettled (known_at s i) (known_at r i)) (record { number = n; unlike = false } ∷ []) [] ++ begun (suc n) (drop (suc i) s) (drop (suc i) r)
begun-more n i s [] lt = absurd (omega (arith, lt))
begun-more n zero [] (k ∷ r) lt = begun-here (unsettled free k) (record { number = n; unlike = false }) (begun (suc n) [] r)
begun-more n zero (b ∷ s) (k ∷ r) lt = begun-here (unsettled b k) (record { number = n; unlike = false }) (begun (suc n) s r)
begun-more n (suc i) [] (k ∷ r) lt = begun-unbound n i r (omega (arith, lt))
begun-more n (suc i) (b ∷ s) (k ∷ r) lt = begun-more n i s r (omega (arith, lt))

pub begun-loop : (now more whole : List Shared) (s r : InstMap) (i : ℕ) → i < length r
    → more ≡ now ++ cond (unsettled (known_at s i) (known_at r i)) (record { number = i; unlike = false } ∷ []) []
    → now ++ begun i (drop i s) (drop i r) ≡ whole → more ++ begun (i + 1) (drop (i + 1) s) (drop (i + 1) r) ≡ whole
begun-loop now more whole s r i lt is so_far =
    rw (is, add-one)
    (append_assoc now (cond (unsettled (known_at s i) (known_at r i)) (record { number = i; unlike = false } ∷ []) []) (begun (suc i) (drop (suc i) s) (drop (suc i) r))
    ∙ (ap (λ es. now ++ es) (sym (begun-more i i s r lt)) ∙ so_far))

begun-none : (n : ℕ) (s : InstMap) → begun n s [] ≡ []
begun-none n s = refl

pub begun-end : (now whole : List Shared) (s r : InstMap) (i : ℕ) → length r ≤ i → now ++ begun i (drop i s) (drop i r) ≡ whole → now ≡ whole
begun-end now whole s r i le so_far = sym (append-nil now) ∙ (sym (ap (λ ks. now ++ begun i (drop i s) ks) (none_left r i le)) ∙ so_far)

-- ---- those that one arm more binds too

pub commons-loop : (c d q whole : InstMap) (es : List Shared) (i : ℕ) (e : Shared) → i < length es → e ≡ get_or es i e → d ≡ put c e.number (common_at c q e.number)
    → commons c q (drop i es) ≡ whole → commons d q (drop (i + 1) es) ≡ whole
commons-loop c d q whole es i e lt is is_d so_far = rw (is_d, add-one) (sym (ap (commons c q) (next es i e lt is)) ∙ so_far)

pub commons-end : (c q whole : InstMap) (es : List Shared) (i : ℕ) → length es ≤ i → commons c q (drop i es) ≡ whole → c ≡ whole
commons-end c q whole es i le so_far = sym (ap (commons c q) (none_left es i le)) ∙ so_far

pub kept-loop : (r c d q : InstMap) (now more whole es : List Shared) (i : ℕ) (e : Shared) → i < length es → e ≡ get_or es i e → d ≡ put c e.number (common_at c q e.number)
    → more ≡ now ++ cond (is_bound (common_at c q e.number)) (compared r q e ∷ []) []
    → now ++ kept r c q (drop i es) ≡ whole → more ++ kept r d q (drop (i + 1) es) ≡ whole
kept-loop r c d q now more whole es i e lt is is_d is_more so_far =
    let rest = kept r (put c e.number (common_at c q e.number)) q (drop (suc i) es) in
    rw (is_more, is_d, add-one)
    (append_assoc now (cond (is_bound (common_at c q e.number)) (compared r q e ∷ []) []) rest
    ∙ (ap (λ fs. now ++ fs) (sym (begun-here (is_bound (common_at c q e.number)) (compared r q e) rest) ∙ sym (ap (kept r c q) (next es i e lt is))) ∙ so_far))

pub kept-end : (r c q : InstMap) (now whole es : List Shared) (i : ℕ) → length es ≤ i → now ++ kept r c q (drop i es) ≡ whole → now ≡ whole
kept-end r c q now whole es i le so_far = sym (append-nil now) ∙ (sym (ap (λ fs. now ++ kept r c q fs) (none_left es i le)) ∙ so_far)

-- ---- those that one arm more doesn't bind

pub lost-found : (f : ℕ → Bool) (es : List Shared) (i : ℕ) (e : Shared) → i < length es → e ≡ get_or es i e → f e.number ≡ true
    → some_of f (numbers es) ≡ some_of f (numbers (drop i es)) → true ≡ some_of f (numbers es)
lost-found f es i e lt is hit so_far =
    sym (so_far ∙ (ap (λ fs. some_of f (numbers fs)) (next es i e lt is) ∙ ap (λ b. b || some_of f (numbers (drop (suc i) es))) hit))

pub lost-missed : (f : ℕ → Bool) (es : List Shared) (i : ℕ) (e : Shared) → i < length es → e ≡ get_or es i e → f e.number ≡ false
    → some_of f (numbers es) ≡ some_of f (numbers (drop i es)) → some_of f (numbers es) ≡ some_of f (numbers (drop (i + 1) es))
lost-missed f es i e lt is miss so_far =
    so_far ∙ (ap (λ fs. some_of f (numbers fs)) (next es i e lt is) ∙ (ap (λ b. b || some_of f (numbers (drop (suc i) es))) miss ∙ rw add-one refl))

pub lost-end : (f : ℕ → Bool) (es : List Shared) (i : ℕ) → length es ≤ i → some_of f (numbers es) ≡ some_of f (numbers (drop i es)) → false ≡ some_of f (numbers es)
lost-end f es i le so_far = sym (so_far ∙ ap (λ fs. some_of f (numbers fs)) (none_left es i le))

-- ---- those that arms bind with different types

pub clash-found : (s c : InstMap) (es : List Shared) (i : ℕ) (e : Shared) → i < length es → e ≡ get_or es i e
    → (is_newly_bound (known_at s e.number) (known_at c e.number) && e.unlike) ≡ true
    → some_clash s c es ≡ some_clash s c (drop i es) → true ≡ some_clash s c es
clash-found s c es i e lt is hit so_far =
    sym (so_far ∙ (ap (some_clash s c) (next es i e lt is) ∙ ap (λ b. b || some_clash s c (drop (suc i) es)) hit))

pub clash-missed : (s c : InstMap) (es : List Shared) (i : ℕ) (e : Shared) → i < length es → e ≡ get_or es i e
    → (is_newly_bound (known_at s e.number) (known_at c e.number) && e.unlike) ≡ false
    → some_clash s c es ≡ some_clash s c (drop i es) → some_clash s c es ≡ some_clash s c (drop (i + 1) es)
clash-missed s c es i e lt is miss so_far =
    so_far ∙ (ap (some_clash s c) (next es i e lt is) ∙ (ap (λ b. b || some_clash s c (drop (suc i) es)) miss ∙ rw add-one refl))

pub clash-end : (s c : InstMap) (es : List Shared) (i : ℕ) → length es ≤ i → some_clash s c es ≡ some_clash s c (drop i es) → false ≡ some_clash s c es
clash-end s c es i le so_far = sym (so_far ∙ ap (some_clash s c) (none_left es i le))

-- ---- those that one arm more binds and the first doesn't

and_last : (a b c d : Bool) → (a && (b && (c && d))) ≡ true → d ≡ true
and_last true true true true e = refl
and_last true true true false e = absurd (cc)
and_last true true false d e = absurd (cc)
and_last true false c d e = absurd (cc)
and_last false b c d e = absurd (cc)

unbound_past : (xs : List ℕ) (m : InstMap) (x : ℕ) → length xs ≤ x → is_bound (known_at (seen xs m) x) ≡ false
unbound_past xs m x le = rw (known_at-outside (seen xs m) x (omega (arith, le, length-seen xs m))) refl

pub gained-inside : (p : ℕ → Bool) (s r m : InstMap) (xs : List ℕ) (x : ℕ) → gained p s r (seen xs m) x ≡ true → x < length xs
gained-inside p s r m xs x e = elim (cases_lt x (length xs)) [
  | inl lt ↦ lt
  | inr le ↦
      let bound = and_last (p x) _ _ (is_bound (known_at (seen xs m) x)) e in
      let unbound = unbound_past xs m x le in
      absurd (cc)
]

in_more : (x y : ℕ) (own : List ℕ) (i : ℕ) → i < length own → y ≡ slice_index own i → x ≢ y → times x (take (i + 1) own) ≢ 0 → times x (take i own) ≢ 0
in_more x y own i lt is other some none =
    some (rw (add-one, take-more own i lt, ← is) (times-append x (take i own) (y ∷ []) ∙ (let last = times_other x y other in omega (arith, none, last))))

pub gained-missed : (g : ℕ → Bool) (xs own : List ℕ) (i y n : ℕ) → i < length own → y ≡ slice_index own i → ((x : ℕ) → x < length xs → slice_index xs x ≡ y → n ≡ x) → g n ≡ false
    → ((x : ℕ) → x < length xs → times (slice_index xs x) (take i own) ≢ 0 → g x ≡ false)
    → (x : ℕ) → x < length xs → times (slice_index xs x) (take (i + 1) own) ≢ 0 → g x ≡ false
gained-missed g xs own i y n lt is number miss so_far x inside some = elim (cases_eq (slice_index xs x) y) [
  | inl same ↦ ap g (sym (number x inside same)) ∙ miss
  | inr other ↦ so_far x inside (in_more (slice_index xs x) y own i lt is other some)
]

take_all : (xs : List ℕ) (i : ℕ) → length xs ≤ i → take i xs ≡ xs
take_all [] zero le = refl
take_all [] (suc i) le = refl
take_all (x ∷ xs) zero le = absurd (omega (arith, le))
take_all (x ∷ xs) (suc i) le = ap (λ ys. x ∷ ys) (take_all xs i (omega (arith, le)))

pub gained-end : (g : ℕ → Bool) (xs own : List ℕ) (i : ℕ) → length own ≤ i → ((x : ℕ) → x < length xs → times (slice_index xs x) (take i own) ≢ 0 → g x ≡ false)
    → (x : ℕ) → x < length xs → times (slice_index xs x) own ≢ 0 → g x ≡ true → false ≡ true
gained-end g xs own i le none x inside some e =
    sym (none x inside (subst (λ ys. times (slice_index xs x) ys ≢ 0) (sym (take_all own i le)) some)) ∙ e

-- ---- the variables of one arm more

twice : (a b : Bool) → ((a || b) || b) ≡ (a || b)
twice true b = refl
twice false true = refl
twice false false = refl

settled_again : (k j : Instantiation) → common (common k j) j ≡ common k j
settled_again free j = refl
settled_again (has t used) free = refl
settled_again (has t used) (has u spent) = ap (has t) (twice used spent)

pub settled-none : (e : End) (c : InstMap) (x : ℕ) → IsSettled e c c [] x
settled-none e c x = record { here = λ some. absurd (some refl); elsewhere = λ none. refl }

-- what is known after one variable more was compared
compared_here : (c now q : InstMap) (x : ℕ) → x < length now → (known_at now x ≡ common_at c q x) ⊎ (known_at now x ≡ known_at c x)
    → known_at (put now x (common_at now q x)) x ≡ common_at c q x
compared_here c now q x lt h = known_at-put now x (common_at now q x) lt ∙ elim h [
  | inl is ↦ ap (λ k. common k (known_at q x)) is ∙ settled_again (known_at c x) (known_at q x)
  | inr is ↦ ap (λ k. common k (known_at q x)) is
]

either_way : (e : End) (c now : InstMap) (own : List ℕ) (x : ℕ) → IsSettled e c now own x → (known_at now x ≡ common_at c (end_of e) x) ⊎ (known_at now x ≡ known_at c x)
either_way e c now own x h = elim (cases_eq (times (slice_index e.view.outside.local.now.places.items x) own) 0) [
  | inl none ↦ inr (h.elsewhere none)
  | inr some ↦ inl (h.here some)
]

pub settled-more : (e : End) (c now d : InstMap) (own : List ℕ) (i y n x : ℕ) → i < length own → y ≡ slice_index own i
    → length now ≡ length e.view.outside.local.now.places.items → x < length e.view.outside.local.now.places.items
    → (slice_index e.view.outside.local.now.places.items x ≡ y → n ≡ x)
    → (n < length e.view.outside.local.now.places.items → slice_index e.view.outside.local.now.places.items n ≡ y)
    → d ≡ put now n (common_at now (end_of e) n)
    → IsSettled e c now (take i own) x → IsSettled e c d (take (i + 1) own) x
settled-more e c now d own i y n x lt is size inside found there is_d h =
    let xs = e.view.outside.local.now.places.items in
    let v = slice_index xs x in
    let more : times v (take (i + 1) own) ≡ times v (take i own) + times v (y ∷ []) = rw (add-one, take-more own i lt, ← is) (times-append v (take i own) (y ∷ [])) in
    elim (cases_eq v y) [
      | inl same ↦
          let now_here : known_at d x ≡ common_at c (end_of e) x = rw (is_d, found same) (compared_here c now (end_of e) x (omega (arith, inside, size)) (either_way e c now (take i own) x h)) in
          let one : times v (y ∷ []) ≡ 1 = rw same (times_self y) in
          record { here = λ some. now_here; elsewhere = λ none. absurd (omega (arith, none, more, one)) }
      | inr other ↦
          let apart : x ≡ n → ⊥ = λ (e' : x ≡ n). other (ap (slice_index xs) e' ∙ there (subst (λ m. m < length xs) e' inside)) in
          let same : known_at d x ≡ known_at now x = rw is_d (known_at-put_other now n x (common_at now (end_of e) n) apart) in
          let none_here = times_other v y other in
          record {
            here = λ some. same ∙ h.here (λ none. some (omega (arith, none, more, none_here)));
            elsewhere = λ none. same ∙ h.elsewhere (omega (arith, none, more, none_here));
          }
    ]

pub settled-end : (e : End) (c d : InstMap) (own : List ℕ) (i x : ℕ) → length own ≤ i → IsSettled e c d (take i own) x → IsSettled e c d own x
settled-end e c d own i x le h = subst (λ ys. IsSettled e c d ys x) (take_all own i le) h
