-- The modules of a program and their numbers.
use Rattle.std.specs.Prelude.{ℕ, not, List, [], ◌∷◌, ◌++◌, map, filter, position, unwrap_or, if◌then◌else◌}
use Rattle.std.specs.Borrow.{Bor}
use Rattle.std.specs.List.{list_any}
use Rattle.std.specs.Str.{bytes_eq}
use Rattle.md_hlds.specs.Hlds.{Procedure, Hlds}

-- these names but for this one
abbrev pub without : List ℕ → List (List ℕ) → List (List ℕ)
without m ms = filter (λ n. not (bytes_eq m n)) ms

-- each of these names once, in the order in which they come first
abbrev pub each_once : List (List ℕ) → List (List ℕ)
each_once [] = []
each_once (m ∷ ms) = m ∷ without m (each_once ms)

-- the module of a procedure: its qualifier, or the file's module where it has none
abbrev pub module_of : Hlds → Procedure → List ℕ
module_of s p = unwrap_or p.qualifier s.module_name

-- the file's module, and then the others in the order in which a predicate of theirs is first declared
abbrev pub modules_of : Hlds → List (List ℕ)
modules_of s = each_once (s.module_name ∷ map (module_of s) s.procedures)

-- the number of a module among these: its place
abbrev pub number_of : List (List ℕ) → List ℕ → ℕ
number_of ms m = unwrap_or (position (bytes_eq m) ms) 0

-- these names with one more at the end, if it is none of them
abbrev pub with_module : List ℕ → List (List ℕ) → List (List ℕ)
with_module m ms = if list_any (bytes_eq m) ms then ms else ms ++ m ∷ []

-- names behind references
abbrev pub told : List (Bor (List ℕ)) → List (List ℕ)
told keys = map (λ key. key.now) keys
