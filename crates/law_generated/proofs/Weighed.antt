-- What the run of a generated program weighs, and that a budget of that weight allows all of it, and no smaller one.
use Rattle.std.proofs.Common.{◌≡◌, refl, ap, ◌∙◌, arith, ℕ, zero, suc, ◌+◌, ◌*◌, ◌-◌, ◌^◌, ◌≤◌, Bool, true, false, [], ◌∷◌, ◌++◌, Option, Some, nat_le}
use Rattle.std.proofs.Math.Nat.{pow-succ'}
use Rattle.std.proofs.lemmas.Bool.{leb-true}
use Rattle.md_hlds.specs.Hlds.{Hlds, body_number}
use Rattle.md_hlds.specs.Trace.{Turn, Call, Exit, Redo, Fail, Excp, Alloc, Out, Throw, Answer, Stuck, Deep, Items}
use Rattle.md_hlds.specs.Run.{cut, cut_turn, is_finished, error}
use Rattle.md_hlds.proofs.TraceLemmas.{cut_allowed}
use Rattle.law_generated.proofs.Items.{calls_of, call_items, first_half, second_half, Plain, nothing, turn, call, exit, plain-append, plain-call}
use Rattle.law_generated.proofs.Traced.{whole_items}

-- what the turns of these items weigh
abbrev pub weight : Items → ℕ
weight [] = 0
weight (Turn a g w ∷ xs) = w + weight xs
weight (x ∷ xs) = weight xs

-- weights add up
pub weight-append : (xs ys : Items) → Plain xs → weight (xs ++ ys) ≡ weight xs + weight ys
weight-append _ ys nothing = omega arith
weight-append _ ys (turn a g w xs h) = omega (arith, weight-append xs ys h)
weight-append _ ys (call a p s q xs h) = weight-append xs ys h
weight-append _ ys (exit a xs h) = weight-append xs ys h

-- a call with one level more below it weighs twice as much as one without, and four more
pub weight-call : (s : Hlds) (r j k p site g : ℕ) → weight (call_items s r j k p site g) + 4 ≡ 6 * 2 ^ r
weight-call s zero j k p site g = refl
weight-call s (suc r) j k p site g =
    let left = first_half s r j k in
    let right = second_half s r j k in
    omega (
      arith,
      weight-append (left ++ right) (Exit k ∷ []) (plain-append left right (plain-call s r _ _ _ _ _) (plain-call s r _ _ _ _ _)),
      weight-append left right (plain-call s r _ _ _ _ _),
      weight-call s r (suc j) (suc k) k (1 + (j + j)) (suc (body_number s (suc j))),
      weight-call s r (suc j) (suc k + calls_of r) k (2 + (j + j)) (suc (body_number s (suc j)) + 1),
      pow-succ' 2 r,
    )

-- what all of the run weighs
pub weight-whole : (s : Hlds) (n r : ℕ) → n ≡ suc r → weight (whole_items s r) ≡ 3 * 2 ^ n + 2
weight-whole s n r is =
    let items = call_items s r 0 1 0 0 (suc (body_number s 0)) in
    rw is
    (omega (arith, weight-append items (Turn 0 (Some (suc (body_number s 0) + 1)) 1 ∷ []) (plain-call s r _ _ _ _ _), weight-call s r 0 1 0 0 (suc (body_number s 0)), pow-succ' 2 r))

-- ---- a budget of that weight

-- a budget allows plain items that weigh no more, and items behind them that weigh nothing
pub cut-plain : (left : ℕ) (xs ys : Items) → Plain xs → weight xs ≤ left → ((l : ℕ) → cut l ys ≡ ys) → cut left (xs ++ ys) ≡ xs ++ ys
cut-plain left _ ys nothing fits light = light left
cut-plain left _ ys (turn a g w xs h) fits light =
    cut_allowed left a g w (xs ++ ys) (omega arith) ∙ ap (λ us. Turn a g w ∷ us) (cut-plain (left - w) xs ys h (omega arith) light)
cut-plain left _ ys (call a p s q xs h) fits light = ap (λ us. Call a p s q ∷ us) (cut-plain left xs ys h fits light)
cut-plain left _ ys (exit a xs h) fits light = ap (λ us. Exit a ∷ us) (cut-plain left xs ys h fits light)

-- an answer or a Throw among items behind plain ones is that of all of them
pub finished-plain : (xs ys : Items) → Plain xs → is_finished (xs ++ ys) ≡ is_finished ys
finished-plain _ ys nothing = refl
finished-plain _ ys (turn a g w xs h) = finished-plain xs ys h
finished-plain _ ys (call a p s q xs h) = finished-plain xs ys h
finished-plain _ ys (exit a xs h) = finished-plain xs ys h

pub error-plain : (xs ys : Items) → Plain xs → error (xs ++ ys) ≡ error ys
error-plain _ ys nothing = refl
error-plain _ ys (turn a g w xs h) = error-plain xs ys h
error-plain _ ys (call a p s q xs h) = error-plain xs ys h
error-plain _ ys (exit a xs h) = error-plain xs ys h

-- ---- no smaller budget

-- a turn, by whether it is allowed
light_turn : (left a : ℕ) (g : Option ℕ) (w : ℕ) (xs : Items) (fits : Bool) → nat_le w left ≡ fits → (w ≤ left → weight xs ≤ left - w)
    → weight (cut_turn a g w xs fits) ≤ left
light_turn left a g w xs false is h = omega arith
light_turn left a g w xs true is h = let below : w ≤ left = leb-true w left is in omega (arith, h below)

-- what a budget allows weighs no more
pub weight-cut : (left : ℕ) (xs : Items) → weight (cut left xs) ≤ left
weight-cut left [] = omega arith
weight-cut left (Turn a g w ∷ xs) = light_turn left a g w (cut (left - w) xs) (nat_le w left) refl (λ fits. weight-cut (left - w) xs)
weight-cut left (Call a p s q ∷ xs) = weight-cut left xs
weight-cut left (Exit a ∷ xs) = weight-cut left xs
weight-cut left (Redo a ∷ xs) = weight-cut left xs
weight-cut left (Fail a ∷ xs) = weight-cut left xs
weight-cut left (Excp a ∷ xs) = weight-cut left xs
weight-cut left (Alloc a words ∷ xs) = weight-cut left xs
weight-cut left (Out bytes ∷ xs) = weight-cut left xs
weight-cut left (Throw bytes ∷ xs) = weight-cut left xs
weight-cut left (Answer e ∷ xs) = weight-cut left xs
weight-cut left (Stuck ∷ xs) = weight-cut left xs
weight-cut left (Deep ∷ xs) = weight-cut left xs
