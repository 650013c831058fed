-- Which quantities follow from the counts of ports.
use Rattle.std.specs.Prelude.{◌≡◌, ℕ, List, [], ◌∷◌, ◌++◌, Some, slice_get}
use Rattle.law_turns.specs.Equations.{Quantity, Equation}

-- The derived quantities are the least set such that a quantity is in it where one of these equations has it as its only
-- quantity that isn't in the set.
mutual
  pub data IsDerived (es : List Equation) : Quantity → Type 0 where
    only_one : (k : ℕ) (e : Equation) (before : List Quantity) (q : Quantity) (after : List Quantity) → slice_get es k ≡ Some e → e.whole ∷ e.parts ≡ before ++ (q ∷ after) → AreDerived es before → AreDerived es after → IsDerived es q

  pub data AreDerived (es : List Equation) : List Quantity → Type 0 where
    none : AreDerived es []
    both : (q : Quantity) (qs : List Quantity) → IsDerived es q → AreDerived es qs → AreDerived es (q ∷ qs)
