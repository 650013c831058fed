-- Lists whose members differ.
use Rattle.std.specs.Prelude.{◌≢◌, List, AllPairs}
use Rattle.std.specs.declared.cmp.Ordering.{Ordering}
use Rattle.std.specs.declared.cmp.Ordering.TheVariants.{Equal}

-- no two members compare equal
abbrev pub AllDiffer : {K : Type 0} → (K → K → Ordering) → List K → Type 0
AllDiffer cmp keys = AllPairs (λ x y. cmp x y ≢ Equal) keys
