-- The order of rows of tables of ports, and sums of totals, worked out by hand.
use Rattle.std.proofs.Common.{◌≡◌, ℕ, List, [], ◌∷◌, Option, Some, None, map, refl}
use Rattle.md_people.specs.Callers.{in_order, sum_some}
use Rattle.md_people.specs.Ports.{PortsRow}

totals-that-are-there-add-up : sum_some (None ∷ Some 2 ∷ None ∷ Some 3 ∷ []) ≡ Some 5
totals-that-are-there-add-up = refl

-- a total of 0 is a total
nothing-is-a-total-too : sum_some (Some 0 ∷ None ∷ []) ≡ Some 0
nothing-is-a-total-too = refl

no-total-is-there : sum_some (None ∷ None ∷ []) ≡ None
no-total-is-there = refl

abbrev row : (name : ℕ) (total : Option ℕ) (calls : ℕ) → PortsRow
row name total calls = record { total = total; own = record { calls = calls; exits = 0; fails = 0; redos = 0; allocs = 0; words = 0; excps = 0 }; last = name ∷ [] }

abbrev names : List PortsRow → List (List ℕ)
names rows = map (λ (r : PortsRow). r.last) rows

-- 1 and 4 have as much of both, and keep their order; 2 and 6 have no total, though they have the most calls
by-total-then-by-calls :
    names (in_order (row 1 (Some 2) 1 ∷ row 2 None 8 ∷ row 3 (Some 2) 3 ∷ row 4 (Some 2) 1 ∷ row 5 (Some 5) 1 ∷ row 6 None 9 ∷ row 7 (Some 0) 1 ∷ []))
    ≡ (5 ∷ []) ∷ (3 ∷ []) ∷ (1 ∷ []) ∷ (4 ∷ []) ∷ (7 ∷ []) ∷ (6 ∷ []) ∷ (2 ∷ []) ∷ []
by-total-then-by-calls = refl
