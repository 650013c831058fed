-- Clauses, and the whole program: its first fault, if it has one.
use Rattle.std.specs.Prelude.{ℕ, Bool, true, false, ◌&&◌, ◌||◌, List, [], ◌∷◌, length, Option, Some, None, Ok, Err, cond, codes, is_none}
use Rattle.std.specs.Str.{bytes_eq}
use Rattle.md_hlds.specs.declared.types.Mode.{Mode}
use Rattle.md_hlds.specs.declared.types.Mode.TheVariants.{In, Out, Di, Uo}
use Rattle.md_hlds.specs.declared.types.Det.TheVariants as det
use Rattle.md_hlds.specs.Hlds.{HldsType, Procedure, Hlds}
use Rattle.md_inst.specs.declared.fault.ModeFault.{ModeFault}
use Rattle.md_inst.specs.declared.fault.ModeFault.TheVariants.{TypeClash, Unbound, IoUsed, NoMain}
use Rattle.md_inst.specs.Verdict.{Verdict, ◌>>=◌, ◌>>◌, fine, fault_unless}
use Rattle.md_inst.specs.HldsTypes.{same_sort, is_world, same_det}
use Rattle.md_inst.specs.Instantiation.{Instantiation, free, has, InstMap, known_at, put, nothing_known}
use Rattle.md_modes.specs.Declarations as declarations
use Rattle.md_modes.specs.Branches.{After}
use Rattle.md_modes.specs.Goals.{Scope, clause_variables, goal}

-- ---- a clause

-- a variable of the head that has a value before the body
abbrev pub enter : Mode → HldsType → ℕ → InstMap → InstMap
enter In t x s = put s x (has t false)
enter Di t x s = put s x (has t false)
enter Out t x s = s
enter Uo t x s = s

-- the inputs of the head
abbrev pub entry_from : List (HldsType × Mode) → List ℕ → InstMap → InstMap
entry_from (a ∷ args) (x ∷ xs) s = entry_from args xs (enter a.1 a.0 x s)
entry_from args xs s = s

-- what is known before the body of a clause
abbrev pub entry : Procedure → InstMap
entry p = entry_from p.args p.head (nothing_known (length p.vars))

-- an output at the end of the clause: it is bound, has its type, and is no used io state
abbrev pub exit_known : ℕ → HldsType → Instantiation → Verdict (Unit {0})
exit_known l t free = Err (Unbound l)
exit_known l t (has u used) = cond (same_sort u t) (cond (is_world u && used) (Err (IoUsed l)) fine) (Err (TypeClash l))

abbrev pub exit : ℕ → Mode → HldsType → Instantiation → Verdict (Unit {0})
exit l In t k = fine
exit l Di t k = fine
exit l Out t k = exit_known l t k
exit l Uo t k = exit_known l t k

abbrev pub exits : ℕ → List (HldsType × Mode) → List ℕ → InstMap → Verdict (Unit {0})
exits l (a ∷ args) (x ∷ xs) s = exit l a.1 a.0 (known_at s x) >> exits l args xs s
exits l args xs s = fine

-- the end of a clause, where it is reachable
abbrev pub end : Procedure → After → Verdict (Unit {0})
end p a = cond a.reach (exits p.clause_line p.args p.head a.known) fine

abbrev pub scope_of : Hlds → Procedure → Scope
scope_of s p = record { program = s; all = clause_variables p; strict = false }

abbrev pub clause : Hlds → Procedure → Verdict (Unit {0})
clause s p = goal (scope_of s p) p.body (entry p) >>= (λ a. end p a)

abbrev pub clauses : Hlds → List Procedure → Verdict (Unit {0})
clauses s [] = fine
clauses s (p ∷ ps) = clause s p >> clauses s ps

-- ---- main

abbrev pub is_uo : Mode → Bool
is_uo Uo = true
is_uo m = false

abbrev pub is_di : Mode → Bool
is_di Di = true
is_di m = false

-- `io::di, io::uo`
abbrev pub are_main_args : List (HldsType × Mode) → Bool
are_main_args (a ∷ b ∷ []) = (is_world a.0 && is_di a.1) && (is_world b.0 && is_uo b.1)
are_main_args args = false

-- `:- pred main(io::di, io::uo) is det.`
abbrev pub is_main : Procedure → Bool
is_main p = (is_none p.qualifier && bytes_eq p.name (codes "main")) && (are_main_args p.args && same_det p.det det.Det)

abbrev pub has_main : List Procedure → Bool
has_main [] = false
has_main (p ∷ ps) = is_main p || has_main ps

-- ---- the program

-- the declarations of types, those of predicates, the clauses, and main
abbrev pub checked : Hlds → Verdict (Unit {0})
checked s =
    declarations.families s.types s.types
    >> declarations.procedures s.types s.procedures
    >> clauses s s.procedures
    >> fault_unless (has_main s.procedures) (NoMain s.module_line)

abbrev pub fault_of : Verdict (Unit {0}) → Option ModeFault
fault_of (Ok u) = None
fault_of (Err e) = Some e

-- the first fault of the mode checks
unfoldable pub mode_fault : Hlds → Option ModeFault
mode_fault s = fault_of (checked s)
