-- What is known of the variables of a branch decides what is known after it.
use Rattle.std.proofs.Common.{◌≡◌, refl, sym, ap, ap₂, ◌∙◌, subst, arith, ℕ, zero, suc, ◌+◌, ◌-◌, ◌<◌, ◌≤◌, Bool, true, false, not, ◌&&◌, ◌||◌, ⊎_elim, cond, List, [], ◌∷◌, length, slice_index, Ok, Err}
use Rattle.std.specs.Prelude.{⊤}
use Rattle.std.proofs.lemmas.Bool.{cases_eq, cases_lt, true≢false, or_cases, or_left, or_right, and_left, and_right}
use Rattle.md_inst.specs.declared.fault.ModeFault.{ModeFault}
use Rattle.md_inst.specs.declared.fault.ModeFault.TheVariants.{TypeClash, BranchBinds}
use Rattle.md_inst.specs.Verdict.{Verdict}
use Rattle.md_inst.specs.Instantiation.{Instantiation, free, has, InstMap, known_at, put, is_bound, is_newly_bound, some_below, times}
use Rattle.md_inst.specs.Common.{disagree, is_alike}
use Rattle.md_modes.specs.Branches.{After, after, binds_some, some_of, reachable, differ, some_differ, in_common, all_have, some_unlike, clash, joined_ends, joined}
use Rattle.md_modes.specs.Notes.{newly_bound, is_state}
use Rattle.md_modes.specs.Views.{Rising, seen, put_all, seen_ends, Leaves, AllLeave, put_verdict, picked, some_state}
use Rattle.md_modes.proofs.Below.{some_below-found}
use Rattle.md_modes.proofs.InstantiationLemmas.{length-put, known_at-put, known_at-put_other, known_at-outside, same_knowledge, known_at-in_common, not_first, not_in, not_in_rest, place}
use Rattle.md_modes.proofs.Leaving.{leaves_self, leaves_back}
use Rattle.md_modes.proofs.Frames.{EachLeaves, reachable_leave, all_have_leaves}

-- ---- what was put back

-- what is known of a variable after it was put back
put_back : (s r : InstMap) (x : ℕ) → length r ≡ length s → known_at (put r x (known_at s x)) x ≡ known_at s x
put_back s r x size = ⊎_elim
    (λ (lt : suc x ≤ length r). known_at-put r x (known_at s x) lt)
    (λ (le : length r ≤ x). known_at-outside (put r x (known_at s x)) x (omega (arith, le, length-put r x (known_at s x))) ∙ sym (known_at-outside s x (omega (arith, le, size))))
    (cases_lt x (length r))

back_same : (x : ℕ) (xs : List ℕ) (s r : InstMap) → Leaves (x ∷ xs) s r → (y : ℕ) → times y xs ≡ 0 → known_at (put r x (known_at s x)) y ≡ known_at s y
back_same x xs s r h y none = ⊎_elim
    (λ (same : y ≡ x). rw same (put_back s r x h.size))
    (λ (other : y ≡ x → ⊥). known_at-put_other r x y (known_at s x) other ∙ h.same y (not_in y x xs other none))
    (cases_eq y x)

pub restored : (xs : List ℕ) (s r : InstMap) → Leaves xs s r → put_all xs (seen xs s) r ≡ s
restored [] s r h = same_knowledge r s h.size (λ x. h.same x refl)
restored (x ∷ xs) s r h = restored xs s (put r x (known_at s x)) (record { size = length-put r x (known_at s x) ∙ h.size; same = back_same x xs s r h })

-- ---- some place has a property

pub same_tests : (a b : Bool) → (a ≡ true → b ≡ true) → (b ≡ true → a ≡ true) → a ≡ b
same_tests true b f g = sym (f refl)
same_tests false true f g = g refl
same_tests false false f g = refl

abbrev pub Witness : ℕ → (ℕ → Bool) → Type 0
Witness n p = (i : ℕ) × (i < n) × (p i ≡ true)

later_witness : (n : ℕ) (p : ℕ → Bool) → Witness n p → Witness (suc n) p
later_witness n p w = (w.0, omega (arith, w.1), w.2)

pub some_below-witness : (n : ℕ) (p : ℕ → Bool) → some_below n p ≡ true → Witness n p
some_below-witness zero p e = absurd (cc)
some_below-witness (suc n) p e = ⊎_elim
    (λ (below : some_below n p ≡ true). later_witness n p (some_below-witness n p below))
    (λ (last : p n ≡ true). (n, omega arith, last))
    (or_cases (some_below n p) (p n) e)

-- a property of the variables of a list alone, by their places in the list
some_seen : (n : ℕ) (xs : List ℕ) (f g : ℕ → Bool) → ((i : ℕ) → i < length xs → g i ≡ f (slice_index xs i)) → ((x : ℕ) → n ≤ x → f x ≡ false) → ((x : ℕ) → times x xs ≡ 0 → f x ≡ false)
    → some_below n f ≡ some_below (length xs) g
some_seen n xs f g same past others = same_tests (some_below n f) (some_below (length xs) g)
    (λ e. down (some_below-witness n f e))
    (λ e. up (some_below-witness (length xs) g e))
  where
    at : (x : ℕ) → f x ≡ true → (i : ℕ) × (i < length xs) × (slice_index xs i ≡ x)
    at x e = place xs x (λ none. true≢false (sym e ∙ others x none))

    found : (x : ℕ) → f x ≡ true → ((i : ℕ) × (i < length xs) × (slice_index xs i ≡ x)) → some_below (length xs) g ≡ true
    found x e w = some_below-found (length xs) w.0 g w.1 (same w.0 w.1 ∙ ap f w.2 ∙ e)

    down : Witness n f → some_below (length xs) g ≡ true
    down w = found w.0 w.2 (at w.0 w.2)

    within : (x : ℕ) → f x ≡ true → x < n
    within x e = ⊎_elim (λ (lt : suc x ≤ n). lt) (λ (le : n ≤ x). absurd (true≢false (sym e ∙ past x le))) (cases_lt x n)

    holds : (i : ℕ) → i < length xs → g i ≡ true → f (slice_index xs i) ≡ true
    holds i lt e = sym (same i lt) ∙ e

    up : Witness (length xs) g → some_below n f ≡ true
    up w = some_below-found n (slice_index xs w.0) f (within (slice_index xs w.0) (holds w.0 w.1 w.2)) (holds w.0 w.1 w.2)

-- ---- what is known of a variable, by its place in the list

pub length-seen : (xs : List ℕ) (s : InstMap) → length (seen xs s) ≡ length xs
length-seen [] s = refl
length-seen (x ∷ xs) s = ap suc (length-seen xs s)

pub known_at-seen : (xs : List ℕ) (s : InstMap) (i : ℕ) → i < length xs → known_at (seen xs s) i ≡ known_at s (slice_index xs i)
known_at-seen [] s i lt = absurd (omega (arith, lt))
known_at-seen (x ∷ xs) s zero lt = refl
known_at-seen (x ∷ xs) s (suc i) lt = known_at-seen xs s i (omega (arith, lt))

never_newly : (k : Instantiation) → is_newly_bound k k ≡ false
never_newly free = refl
never_newly (has t used) = refl

never_disagree : (k : Instantiation) → disagree k k ≡ false
never_disagree free = refl
never_disagree (has t used) = refl

pub binds_seen : (xs : List ℕ) (s r : InstMap) (p q : ℕ → Bool) → ((i : ℕ) → i < length xs → q i ≡ p (slice_index xs i)) → Leaves xs s r
    → binds_some p s r ≡ binds_some q (seen xs s) (seen xs r)
binds_seen xs s r p q same h =
    some_seen (length s) xs (λ x. p x && is_newly_bound (known_at s x) (known_at r x)) (λ i. q i && is_newly_bound (known_at (seen xs s) i) (known_at (seen xs r) i))
    (λ i lt. rw (same i lt, known_at-seen xs s i lt, known_at-seen xs r i lt) refl)
    (λ x le. and_right (p x) (is_newly_bound (known_at s x) (known_at r x)) (rw (known_at-outside s x le, known_at-outside r x (omega (arith, le, h.size))) refl))
    (λ x none. and_right (p x) (is_newly_bound (known_at s x) (known_at r x)) (rw (h.same x none) (never_newly (known_at s x))))
    ∙ rw (← length-seen xs s) refl

-- ---- arms

abbrev seen_each : List ℕ → List InstMap → List InstMap
seen_each xs [] = []
seen_each xs (r ∷ rs) = seen xs r ∷ seen_each xs rs

seen_kept : (xs : List ℕ) (r : InstMap) (rs qs : List InstMap) (b : Bool) → qs ≡ seen_each xs rs → cond b (seen xs r ∷ qs) qs ≡ seen_each xs (cond b (r ∷ rs) rs)
seen_kept xs r rs qs true e = ap (λ (ks : List InstMap). seen xs r ∷ ks) e
seen_kept xs r rs qs false e = e

reachable-seen : (xs : List ℕ) (ends : List After) → reachable (seen_ends xs ends) ≡ seen_each xs (reachable ends)
reachable-seen xs [] = refl
reachable-seen xs (a ∷ ends) = seen_kept xs a.known (reachable ends) (reachable (seen_ends xs ends)) a.reach (reachable-seen xs ends)

in_common-seen : (xs : List ℕ) (r q : InstMap) → in_common (seen xs r) (seen xs q) ≡ seen xs (in_common r q)
in_common-seen [] r q = refl
in_common-seen (x ∷ xs) r q = ap₂ (λ (k : Instantiation) (s : InstMap). k ∷ s) (sym (known_at-in_common r q x)) (in_common-seen xs r q)

all_have-seen : (xs : List ℕ) (r : InstMap) (qs : List InstMap) → all_have (seen xs r) (seen_each xs qs) ≡ seen xs (all_have r qs)
all_have-seen xs r [] = refl
all_have-seen xs r (q ∷ qs) = ap (λ (k : InstMap). all_have k (seen_each xs qs)) (in_common-seen xs r q) ∙ all_have-seen xs (in_common r q) qs

differ_seen : (xs : List ℕ) (s r k : InstMap) (p q : ℕ → Bool) → ((i : ℕ) → i < length xs → q i ≡ p (slice_index xs i)) → Leaves xs s r → Leaves xs s k
    → differ p s r k ≡ differ q (seen xs s) (seen xs r) (seen xs k)
differ_seen xs s r k p q same h g =
    some_seen (length s) xs (λ x. p x && (not (is_bound (known_at s x)) && disagree (known_at r x) (known_at k x)))
    (λ i. q i && (not (is_bound (known_at (seen xs s) i)) && disagree (known_at (seen xs r) i) (known_at (seen xs k) i)))
    (λ i lt. rw (same i lt, known_at-seen xs s i lt, known_at-seen xs r i lt, known_at-seen xs k i lt) refl)
    (λ x le. unequal x (rw (known_at-outside r x (omega (arith, le, h.size)), known_at-outside k x (omega (arith, le, g.size))) refl))
    (λ x none. unequal x (rw (h.same x none, g.same x none) (never_disagree (known_at s x))))
    ∙ rw (← length-seen xs s) refl
  where
    unequal : (x : ℕ) → disagree (known_at r x) (known_at k x) ≡ false → (p x && (not (is_bound (known_at s x)) && disagree (known_at r x) (known_at k x))) ≡ false
    unequal x e =
        and_right (p x) (not (is_bound (known_at s x)) && disagree (known_at r x) (known_at k x)) (and_right (not (is_bound (known_at s x))) (disagree (known_at r x) (known_at k x)) e)

some_differ-seen : (xs : List ℕ) (s r : InstMap) (qs : List InstMap) (p q : ℕ → Bool) → ((i : ℕ) → i < length xs → q i ≡ p (slice_index xs i)) → Leaves xs s r → EachLeaves xs s qs
    → some_differ p s r qs ≡ some_differ q (seen xs s) (seen xs r) (seen_each xs qs)
some_differ-seen xs s r [] p q same h hs = refl
some_differ-seen xs s r (k ∷ qs) p q same h hs = ap₂ (λ (a b : Bool). a || b) (differ_seen xs s r k p q same h hs.0) (some_differ-seen xs s r qs p q same h hs.1)

some_unlike-seen : (xs : List ℕ) (k : Instantiation) (i : ℕ) (qs : List InstMap) → i < length xs → some_unlike k i (seen_each xs qs) ≡ some_unlike k (slice_index xs i) qs
some_unlike-seen xs k i [] lt = refl
some_unlike-seen xs k i (q ∷ qs) lt =
    ap₂ (λ (a b : Bool). a || b) (ap (λ (j : Instantiation). not (is_alike k j)) (known_at-seen xs q i lt)) (some_unlike-seen xs k i qs lt)

-- the types of the first arm, `r`, against those of the others; all arms have `all` in common
clash_seen : (xs : List ℕ) (s all r : InstMap) (qs : List InstMap) → Leaves xs s all → clash s all r qs ≡ clash (seen xs s) (seen xs all) (seen xs r) (seen_each xs qs)
clash_seen xs s all r qs h =
    some_seen (length all) xs (λ x. is_newly_bound (known_at s x) (known_at all x) && some_unlike (known_at r x) x qs)
    (λ i. is_newly_bound (known_at (seen xs s) i) (known_at (seen xs all) i) && some_unlike (known_at (seen xs r) i) i (seen_each xs qs))
    (λ i lt. rw (known_at-seen xs s i lt, known_at-seen xs all i lt, known_at-seen xs r i lt, some_unlike-seen xs (known_at r (slice_index xs i)) i qs lt) refl)
    (λ x le. and_left (is_newly_bound (known_at s x) (known_at all x)) (some_unlike (known_at r x) x qs) (rw (known_at-outside s x (omega (arith, le, h.size)), known_at-outside all x le) refl))
    (λ x none. and_left (is_newly_bound (known_at s x) (known_at all x)) (some_unlike (known_at r x) x qs) (rw (h.same x none) (never_newly (known_at s x))))
    ∙ rw (← length-seen xs all) refl

put_checked : (xs : List ℕ) (s : InstMap) (a b : Bool) (e f : ModeFault) (v w : Verdict After) → w ≡ put_verdict xs s v
    → cond a (Err e) (cond b (Err f) w) ≡ put_verdict xs s (cond a (Err e) (cond b (Err f) v))
put_checked xs s true b e f v w h = refl
put_checked xs s false true e f v w h = refl
put_checked xs s false false e f v w h = h

joined_ends-seen : (l : ℕ) (xs : List ℕ) (s : InstMap) (rs : List InstMap) (p q : ℕ → Bool) → ((i : ℕ) → i < length xs → q i ≡ p (slice_index xs i)) → EachLeaves xs s rs
    → joined_ends l p s rs ≡ put_verdict xs s (joined_ends l q (seen xs s) (seen_each xs rs))
joined_ends-seen l xs s [] p q same hs = ap (λ (k : InstMap). Ok (after k false)) (sym (restored xs s s (leaves_self xs s)))
joined_ends-seen l xs s (r ∷ qs) p q same hs =
    let all : InstMap = all_have r qs in
    let leaves : Leaves xs s all = all_have_leaves xs s r qs hs.0 hs.1 in
    let back : put_all xs (seen xs all) s ≡ all = restored xs all s (leaves_back xs s all leaves) in
    rw (all_have-seen xs r qs, ← some_differ-seen xs s r qs p q same hs.0 hs.1, ← clash_seen xs s all r qs leaves)
    (put_checked xs s (some_differ p s r qs) (clash s all r qs) (BranchBinds l) (TypeClash l) (Ok (after (seen xs all) true)) (Ok (after all true))
    (ap (λ (k : InstMap). Ok (after k true)) (sym back)))

pub joined_seen : (l : ℕ) (xs : List ℕ) (s : InstMap) (ends : List After) (p q : ℕ → Bool) → Rising 0 xs → ((i : ℕ) → i < length xs → q i ≡ p (slice_index xs i)) → AllLeave xs s ends
    → joined l p s ends ≡ put_verdict xs s (joined l q (seen xs s) (seen_ends xs ends))
joined_seen l xs s ends p q rising same h =
    joined_ends-seen l xs s (reachable ends) p q same (reachable_leave xs s ends h)
    ∙ ap (λ (rs : List InstMap). put_verdict xs s (joined_ends l q (seen xs s) rs)) (sym (reachable-seen xs ends))

-- ---- what a goal binds

abbrev AllFrom : ℕ → List ℕ → Type 0
AllFrom n [] = ⊤
AllFrom n (x ∷ xs) = (n ≤ x) × AllFrom n xs

from_less : (n m : ℕ) (xs : List ℕ) → n ≤ m → AllFrom m xs → AllFrom n xs
from_less n m [] le h = tt
from_less n m (x ∷ xs) le h = (omega (arith, le, h.0), from_less n m xs le h.1)

rising_from : (n : ℕ) (xs : List ℕ) → Rising n xs → AllFrom n xs
rising_from n [] h = tt
rising_from n (x ∷ xs) h = (h.0, from_less n (suc x) xs (omega (arith, h.0)) (rising_from (suc x) xs h.1))

-- variables before n are none of those from n on
none_before : (n : ℕ) (xs : List ℕ) → AllFrom (suc n) xs → times n xs ≡ 0
none_before n [] h = refl
none_before n (x ∷ xs) h = not_in n x xs (λ same. omega (arith, h.0, same)) (none_before n xs h.1)

pick_not : (b : Bool) (x : ℕ) (ys : List ℕ) → b ≡ false → cond b (x ∷ ys) ys ≡ ys
pick_not true x ys e = absurd (cc)
pick_not false x ys e = refl

-- what is known from the place n on
record Rest (n : ℕ) (s whole : InstMap) : Type 0 where
  at : (i : ℕ) → known_at s i ≡ known_at whole (n + i)

rest_tail : (n : ℕ) (k : Instantiation) (s whole : InstMap) → Rest n (k ∷ s) whole → Rest (suc n) s whole
rest_tail n k s whole h = record { at = λ i. h.at (suc i) ∙ ap (known_at whole) (omega arith) }

rest_first : (n : ℕ) (k : Instantiation) (s whole : InstMap) → Rest n (k ∷ s) whole → k ≡ known_at whole n
rest_first n k s whole h = h.at 0 ∙ ap (known_at whole) (omega arith)

rest_none : (n x : ℕ) (whole : InstMap) → Rest n [] whole → n ≤ x → known_at whole x ≡ free
rest_none n x whole h le = ap (known_at whole) (omega (arith, le)) ∙ sym (h.at (x - n))

none_picked : (n : ℕ) (xs : List ℕ) (s r : InstMap) → Rest n [] s → Rest n [] r → AllFrom n xs → picked xs (seen xs s) (seen xs r) ≡ []
none_picked n [] s r h g from = refl
none_picked n (x ∷ xs) s r h g from =
    rw (none_picked n xs s r h g from.1)
    (pick_not (is_newly_bound (known_at s x) (known_at r x)) x [] (rw (rest_none n x s h from.0, rest_none n x r g from.0) refl))

-- the same of the variables from n on alone
abbrev SameFrom : ℕ → List ℕ → InstMap → InstMap → Type 0
SameFrom n xs s r = (x : ℕ) → n ≤ x → times x xs ≡ 0 → known_at r x ≡ known_at s x

not_newly : (k j : Instantiation) → j ≡ k → is_newly_bound k j ≡ false
not_newly k j same = rw same (never_newly k)

pick_same : (n x : ℕ) (k j h i : Instantiation) (ns xs : List ℕ) → x ≡ n → k ≡ h → j ≡ i → ns ≡ xs
    → cond (is_newly_bound k j) (n ∷ ns) ns ≡ cond (is_newly_bound h i) (x ∷ xs) xs
pick_same n x k j h i ns xs e f g d = rw (e, f, g, d) refl

newly_step : (n : ℕ) (xs : List ℕ) (k j : Instantiation) (ns : List ℕ) (s r : InstMap) → k ≡ known_at s n → j ≡ known_at r n → Rising n xs → SameFrom n xs s r
    → ((ys : List ℕ) → Rising (suc n) ys → SameFrom (suc n) ys s r → ns ≡ picked ys (seen ys s) (seen ys r))
    → cond (is_newly_bound k j) (n ∷ ns) ns ≡ picked xs (seen xs s) (seen xs r)
newly_step n [] k j ns s r f g rising same later =
    pick_not (is_newly_bound k j) n ns (not_newly k j (g ∙ same n (omega arith) refl ∙ sym f)) ∙ later [] tt (λ x le none. same x (omega (arith, le)) none)
newly_step n (x ∷ xs) k j ns s r f g rising same later = ⊎_elim
    (λ (here : x ≡ n).
    let rest : Rising (suc n) xs = subst (λ (m : ℕ). Rising (suc m) xs) here rising.1 in
    pick_same n x k j (known_at s x) (known_at r x) ns (picked xs (seen xs s) (seen xs r)) here (f ∙ ap (known_at s) (sym here)) (g ∙ ap (known_at r) (sym here))
    (later xs rest (λ y le none. same y (omega (arith, le)) (not_in y x xs (λ e. omega (arith, le, e, here)) none))))
    (λ (other : x ≡ n → ⊥).
    let rest : Rising (suc n) (x ∷ xs) = (omega (arith, rising.0, other), rising.1) in
    pick_not (is_newly_bound k j) n ns (not_newly k j (g ∙ same n (omega arith) (none_before n (x ∷ xs) (rising_from (suc n) (x ∷ xs) rest)) ∙ sym f))
    ∙ later (x ∷ xs) rest (λ y le none. same y (omega (arith, le)) none))
    (cases_eq x n)

newly_rest : (n : ℕ) (xs : List ℕ) (s r : InstMap) (begin end : InstMap) → length r ≡ length s → Rest n s begin → Rest n r end → Rising n xs → SameFrom n xs begin end
    → newly_bound n s r ≡ picked xs (seen xs begin) (seen xs end)
newly_rest n xs [] [] begin end size h g rising same = sym (none_picked n xs begin end h g (rising_from n xs rising))
newly_rest n xs [] (j ∷ r) begin end size h g rising same = absurd (omega (arith, size))
newly_rest n xs (k ∷ s) [] begin end size h g rising same = absurd (omega (arith, size))
newly_rest n xs (k ∷ s) (j ∷ r) begin end size h g rising same =
    newly_step n xs k j (newly_bound (suc n) s r) begin end (rest_first n k s begin h) (rest_first n j r end g) rising same
    (λ ys up others. newly_rest (suc n) ys s r begin end (omega (arith, size)) (rest_tail n k s begin h) (rest_tail n j r end g) up others)

rest_whole : (s : InstMap) → Rest 0 s s
rest_whole s = record { at = λ i. ap (known_at s) (omega arith) }

pub newly_seen : (xs : List ℕ) (s r : InstMap) → Rising 0 xs → Leaves xs s r → newly_bound 0 s r ≡ picked xs (seen xs s) (seen xs r)
newly_seen xs s r rising h = newly_rest 0 xs s r s r h.size (rest_whole s) (rest_whole r) rising (λ x le none. h.same x none)

-- ---- some variable of a list has a property

pub some_of-found : (f : ℕ → Bool) (xs : List ℕ) (x : ℕ) → (times x xs ≡ 0 → ⊥) → f x ≡ true → some_of f xs ≡ true
some_of-found f [] x some e = absurd (some refl)
some_of-found f (y ∷ ys) x some e = ⊎_elim
    (λ (same : x ≡ y). or_left (f y) (some_of f ys) (ap f (sym same) ∙ e))
    (λ (other : x ≡ y → ⊥). or_right (f y) (some_of f ys) (some_of-found f ys x (λ none. some (not_in x y ys other none)) e))
    (cases_eq x y)

-- a variable of a list has the property
abbrev pub Member : (ℕ → Bool) → List ℕ → Type 0
Member f xs = (x : ℕ) × (times x xs ≡ 0 → ⊥) × (f x ≡ true)

member_first : (f : ℕ → Bool) (y : ℕ) (ys : List ℕ) → f y ≡ true → Member f (y ∷ ys)
member_first f y ys e = (y, (λ none. not_first y y ys none refl), e)

member_rest : (f : ℕ → Bool) (y : ℕ) (ys : List ℕ) → Member f ys → Member f (y ∷ ys)
member_rest f y ys m = (m.0, (λ none. m.1 (not_in_rest m.0 y ys none)), m.2)

pub some_of-member : (f : ℕ → Bool) (xs : List ℕ) → some_of f xs ≡ true → Member f xs
some_of-member f [] e = absurd (cc)
some_of-member f (y ∷ ys) e = ⊎_elim
    (λ (first : f y ≡ true). member_first f y ys first)
    (λ (rest : some_of f ys ≡ true). member_rest f y ys (some_of-member f ys rest))
    (or_cases (f y) (some_of f ys) e)

moved : (f : ℕ → Bool) (xs ys : List ℕ) → ((x : ℕ) → times x ys ≡ 0 → times x xs ≡ 0) → Member f xs → some_of f ys ≡ true
moved f xs ys among m = some_of-found f ys m.0 (λ none. m.1 (among m.0 none)) m.2

pub some_of_members : (f : ℕ → Bool) (xs ys : List ℕ) → ((x : ℕ) → times x ys ≡ 0 → times x xs ≡ 0) → ((x : ℕ) → times x xs ≡ 0 → times x ys ≡ 0) → some_of f xs ≡ some_of f ys
some_of_members f xs ys down up = same_tests (some_of f xs) (some_of f ys) (λ e. moved f xs ys down (some_of-member f xs e)) (λ e. moved f ys xs up (some_of-member f ys e))

pub states_seen : (xs : List ℕ) (s r : InstMap) → some_of (λ x. is_state (known_at s x) || is_state (known_at r x)) xs ≡ some_state (seen xs s) (seen xs r)
states_seen [] s r = refl
states_seen (x ∷ xs) s r = ap (λ (b : Bool). (is_state (known_at s x) || is_state (known_at r x)) || b) (states_seen xs s r)
