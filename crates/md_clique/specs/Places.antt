-- The places of a list's elements that pass a test.
use Rattle.std.specs.Prelude.{ℕ, ◌+◌, Bool, List, [], ◌∷◌, if◌then◌else◌}

-- in rising order, where the first element stands at place k
abbrev pub places_from : {X : Type 0} → (X → Bool) → ℕ → List X → List ℕ
places_from p k [] = []
places_from p k (x ∷ xs) = if p x then k ∷ places_from p (k + 1) xs else places_from p (k + 1) xs

abbrev pub places : {X : Type 0} → (X → Bool) → List X → List ℕ
places p xs = places_from p 0 xs
