-- The procedure with which a run begins.
use Rattle.std.specs.Prelude.{ℕ, suc, List, [], ◌∷◌, Option, Some, None, cond}
use Rattle.md_hlds.specs.Hlds.{Procedure, Hlds}
use Rattle.md_modes.specs.Modes.{is_main}

-- the number of the first `main(io::di, io::uo) is det` of these predicates, counted on from n
abbrev pub main_from : ℕ → List Procedure → Option ℕ
main_from n [] = None
main_from n (p ∷ ps) = cond (is_main p) (Some n) (main_from (suc n) ps)

abbrev pub main_of : Hlds → Option ℕ
main_of s = main_from 0 s.procedures
