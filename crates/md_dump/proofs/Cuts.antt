-- A list is cut at the first of its members that passes.
use Rattle.std.proofs.Common.{◌≡◌, ℕ, ◌+◌, ◌-◌, ◌<◌, Bool, true, false, cond, ltb, List, [], ◌∷◌, length, take, drop, None, Some, refl, sym, ap, ◌∙◌, arith}
use Rattle.std.specs.List.{slice_split, position, position_or_len}
use Rattle.std.proofs.lemmas.List.Splits.{slice_split_none, slice_split_first, length-slice_split}
use Rattle.std.proofs.lemmas.List.Sums.{fails_before_first}
use Rattle.std.proofs.lemmas.Grind.{common_steps}
use Rattle.std.proofs.lemmas.Bool.{ltb-true, ltb-false}

placed : (b : Bool) (n i : ℕ) → cond b (Some n) None ≡ Some i → (b ≡ true) × (n ≡ i)
placed true n i e = (refl, cc e)
placed false n i e = absurd (cc e)

nowhere : (b : Bool) (n : ℕ) → cond b (Some n) None ≡ None → b ≡ false
nowhere true n e = absurd (cc e)
nowhere false n e = refl

pub cut_nowhere : {X : Type 0} (p : X → Bool) (xs : List X) → position p xs ≡ None → slice_split p xs ≡ xs ∷ []
cut_nowhere {X} p xs none =
    let past : ltb (position_or_len p xs) (length xs) ≡ false = nowhere (ltb (position_or_len p xs) (length xs)) (position_or_len p xs) none in
    slice_split_none p xs (λ k d below. fails_before_first p xs k d (omega (arith, ltb-false (position_or_len p xs) (length xs) past)))

pub cut_there : {X : Type 0} (p : X → Bool) (xs : List X) (i : ℕ) (d : X) → position p xs ≡ Some i → (i < length xs) × (slice_split p xs ≡ take i xs ∷ slice_split p (take (length xs - (i + 1)) (drop (i + 1) xs)))
cut_there {X} p xs i d there =
    let at = placed (ltb (position_or_len p xs) (length xs)) (position_or_len p xs) i there in
    let below = ltb-true (position_or_len p xs) (length xs) at.0 in
    let whole : take (length xs - (i + 1)) (drop (i + 1) xs) ≡ drop (i + 1) xs = grind (arith, common_steps) in (
      omega (arith, below, at.1),
      slice_split_first p xs d below
          ∙ ap (λ (k : ℕ). take k xs ∷ slice_split p (drop (k + 1) xs)) at.1
          ∙ ap (λ (ys : List X). take i xs ∷ slice_split p ys) (sym whole),
    )

-- there is always a part
pub some_part : {X : Type 0} (p : X → Bool) (xs : List X) → slice_split p xs ≡ [] → ⊥
some_part {X} p xs none = absurd (let size = length-slice_split p xs in omega (arith, size, ap length none))
