-- A small program whose code is in range, computed; and that with a bound that is one less it isn't.
use Rattle.std.proofs.Common.{◌≡◌, refl, ℕ, Bool, true, false, ◌&&◌, List, [], ◌∷◌, None}
use Rattle.std.specs.Prelude.{codes}
use Rattle.md_hlds.specs.declared.types.Det.{Det}
use Rattle.md_hlds.specs.declared.types.Det.TheVariants as det
use Rattle.md_hlds.specs.HldsGoal.{HldsGoal, At, GoalExpr, Succeeds, SimpleGoal, CallGoal, ConjGoal, DisjGoal, IfGoal, gathered}
use Rattle.md_hlds.specs.Hlds.{Hlds, Procedure}
use Rattle.md_modes.specs.Notes.{program_notes}
use Rattle.md_det.specs.Findings.{program_findings}
use Rattle.md_flat.specs.declared.instruction.Instruction.{Instruction}
use Rattle.md_flat.specs.Placed.{Bounds, bounds, is_placed}
use Rattle.md_code.specs.Blocks.{program_code}
use Rattle.md_code.specs.Details.{Detail, clauses_details}
use Rattle.law_placed.proofs.SimpleGoals.{is_told_placed}

abbrev goal : GoalExpr → HldsGoal
goal t = At 0 t

abbrev call : List ℕ → ℕ → HldsGoal
call name site = goal (CallGoal site (record { qualifier = None; name = name }) [])

abbrev procedure : List ℕ → Det → HldsGoal → Procedure
procedure name d body = record { qualifier = None; name = name; line = 0; clause_line = 0; args = []; det = d; vars = []; head = []; body = body }

-- both :- ( often -> true ; true ), often.  The conjunction is goal 0, the if-then-else goal 1, its condition 2 and its parts 3
-- and 4, and the call goal 5.
abbrev both : Procedure
both = procedure (codes "both") det.Multi (goal (ConjGoal (gathered (goal (IfGoal (call (codes "often") 0) (goal (SimpleGoal Succeeds)) (goal (SimpleGoal Succeeds))) ∷ call (codes "often") 1 ∷ []))))

-- often :- ( true ; both ).  The disjunction is goal 6, and its arms are goals 7 and 8.
abbrev often : Procedure
often = procedure (codes "often") det.Multi (goal (DisjGoal (gathered (goal (SimpleGoal Succeeds) ∷ call (codes "both") 2 ∷ []))))

abbrev program : Hlds
program = record { module_name = codes "m"; module_line = 0; types = []; procedures = both ∷ often ∷ [] }

abbrev all_placed : Bounds → List Instruction → Bool
all_placed b [] = true
all_placed b (i ∷ is) = is_placed b i && all_placed b is

abbrev all_told : Bounds → List Detail → Bool
all_told b [] = true
all_told b (d ∷ ds) = is_told_placed b d && all_told b ds

-- Nine goals have sixty instructions. The condition runs above a height, which is the frame's one slot.
instructions_in_range : all_placed (bounds 1 60 9) (program_code program) ≡ true
unfolding program_notes program_findings
instructions_in_range = refl

details_in_range : all_told (bounds 1 60 9) (clauses_details program 0 program.procedures) ≡ true
unfolding program_notes program_findings
details_in_range = refl

-- where the last arm is tried stands at 59
no_fewer_instructions : all_placed (bounds 1 59 9) (program_code program) ≡ false
unfolding program_notes program_findings
no_fewer_instructions = refl

-- the height needs its slot, and the call of goal 8 its detail
no_fewer_slots : all_placed (bounds 0 60 9) (program_code program) ≡ false
unfolding program_notes program_findings
no_fewer_slots = refl

no_fewer_details : all_placed (bounds 1 60 8) (program_code program) ≡ false
unfolding program_notes program_findings
no_fewer_details = refl
