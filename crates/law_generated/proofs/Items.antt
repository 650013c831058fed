-- The items of a call in a generated program, written as a recursion over the levels below it.
use Rattle.std.proofs.Common.{◌≡◌, refl, ap, ◌∙◌, arith, ℕ, zero, suc, ◌+◌, [], ◌∷◌, ◌++◌, Option, Some}
use Rattle.md_hlds.specs.Hlds.{Hlds, body_number}
use Rattle.md_hlds.specs.Value.{Env}
use Rattle.md_hlds.specs.Trace.{Turn, Call, Exit, Items, first}

-- how many calls come of a call with r levels below it: itself, and those of two calls on the next level
abbrev pub calls_of : ℕ → ℕ
calls_of zero = 1
calls_of (suc r) = suc (calls_of r + calls_of r)

-- The items of a call of procedure suc j, with r levels below it, as activation k, by the activation p at this site, whose goal
-- has the number g. The second call on the next level has the number that is next after the first one.
abbrev pub call_items : (s : Hlds) (r j k p site g : ℕ) → Items
call_items s zero j k p site g = Turn p (Some g) 1 ∷ Call k (Some p) (Some site) (suc j) ∷ Turn k (Some (body_number s (suc j))) 1 ∷ Exit k ∷ []
call_items s (suc r) j k p site g =
    Turn p (Some g) 3 ∷ Call k (Some p) (Some site) (suc j) ∷ Turn k (Some (body_number s (suc j))) 1
    ∷ ((call_items s r (suc j) (suc k) k (1 + (j + j)) (suc (body_number s (suc j)))
    ++ call_items s r (suc j) (suc k + calls_of r) k (2 + (j + j)) (suc (body_number s (suc j)) + 1))
    ++ Exit k ∷ [])

-- the items of the two calls in the body of procedure suc j, as activation k
abbrev pub first_half : (s : Hlds) (r j k : ℕ) → Items
first_half s r j k = call_items s r (suc j) (suc k) k (1 + (j + j)) (suc (body_number s (suc j)))

abbrev pub second_half : (s : Hlds) (r j k : ℕ) → Items
second_half s r j k = call_items s r (suc j) (suc k + calls_of r) k (2 + (j + j)) (suc (body_number s (suc j)) + 1)

-- ---- only turns, calls and exits

pub data Plain : Items → Type 0 where
  nothing : Plain []
  turn : (a : ℕ) (g : Option ℕ) (w : ℕ) (xs : Items) → Plain xs → Plain (Turn a g w ∷ xs)
  call : (a : ℕ) (p s : Option ℕ) (q : ℕ) (xs : Items) → Plain xs → Plain (Call a p s q ∷ xs)
  exit : (a : ℕ) (xs : Items) → Plain xs → Plain (Exit a ∷ xs)

-- two such lists, one behind the other
pub plain-append : (xs ys : Items) → Plain xs → Plain ys → Plain (xs ++ ys)
plain-append _ ys nothing m = m
plain-append _ ys (turn a g w xs h) m = turn a g w _ (plain-append xs ys h m)
plain-append _ ys (call a p s q xs h) m = call a p s q _ (plain-append xs ys h m)
plain-append _ ys (exit a xs h) m = exit a _ (plain-append xs ys h m)

-- a call has no others
pub plain-call : (s : Hlds) (r j k p site g : ℕ) → Plain (call_items s r j k p site g)
plain-call s zero j k p site g = turn _ _ _ _ (call _ _ _ _ _ (turn _ _ _ _ (exit _ _ nothing)))
plain-call s (suc r) j k p site g =
    turn _ _ _ _ (call _ _ _ _ _ (turn _ _ _ _ (plain-append _ (Exit k ∷ [])
    (plain-append _ _
    (plain-call s r (suc j) (suc k) k (1 + (j + j)) (suc (body_number s (suc j))))
    (plain-call s r (suc j) (suc k + calls_of r) k (2 + (j + j)) (suc (body_number s (suc j)) + 1)))
    (exit _ _ nothing))))

-- ---- how many calls there are

-- the number that is next after these items, where k was next before them
abbrev pub next_after : Items → ℕ → ℕ
next_after [] k = k
next_after (Call a p s q ∷ xs) k = next_after xs (suc k)
next_after (x ∷ xs) k = next_after xs k

-- behind two lists the number is that behind the second
pub next-append : (xs ys : Items) (k : ℕ) → Plain xs → next_after (xs ++ ys) k ≡ next_after ys (next_after xs k)
next-append _ ys k nothing = refl
next-append _ ys k (turn a g w xs h) = next-append xs ys k h
next-append _ ys k (call a p s q xs h) = next-append xs ys (suc k) h
next-append _ ys k (exit a xs h) = next-append xs ys k h

-- a call with r levels below it takes that many numbers
pub next-call : (s : Hlds) (r j k p site g m : ℕ) → next_after (call_items s r j k p site g) m ≡ m + calls_of r
next-call s zero j k p site g m = omega arith
next-call s (suc r) j k p site g m =
    let left = first_half s r j k in
    let right = second_half s r j k in
    let both : Plain (left ++ right) = plain-append left right (plain-call s r _ _ _ _ _) (plain-call s r _ _ _ _ _) in
    next-append (left ++ right) (Exit k ∷ []) (suc m) both
    ∙ next-append left right (suc m) (plain-call s r _ _ _ _ _)
    ∙ next-call s r (suc j) (suc k + calls_of r) k (2 + (j + j)) (suc (body_number s (suc j)) + 1) (next_after left (suc m))
    ∙ omega (arith, next-call s r (suc j) (suc k) k (1 + (j + j)) (suc (body_number s (suc j))) (suc m))

-- the first answer behind plain items
pub first-plain : (xs ys : Items) (k : ℕ) (found : Env → ℕ → Items) (missed : ℕ → Items) (thrown : Items) → Plain xs
    → first (xs ++ ys) k found missed thrown ≡ xs ++ first ys (next_after xs k) found missed thrown
first-plain _ ys k found missed thrown nothing = refl
first-plain _ ys k found missed thrown (turn a g w xs h) = ap (λ us. Turn a g w ∷ us) (first-plain xs ys k found missed thrown h)
first-plain _ ys k found missed thrown (call a p s q xs h) = ap (λ us. Call a p s q ∷ us) (first-plain xs ys (suc k) found missed thrown h)
first-plain _ ys k found missed thrown (exit a xs h) = ap (λ us. Exit a ∷ us) (first-plain xs ys k found missed thrown h)
