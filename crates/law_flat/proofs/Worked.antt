-- The code of a small program, and where it leads, computed. Each address was worked out by hand: with another one the code
-- would not lead along the ways of its bodies.
use Rattle.std.proofs.Common.{◌≡◌, refl, ap, subst, arith, ℕ, ◌+◌, List, [], ◌∷◌, Option, Some, None}
use Rattle.std.specs.Prelude.{codes}
use Rattle.md_hlds.specs.declared.types.Det.{Det}
use Rattle.md_hlds.specs.declared.types.Det.TheVariants as det
use Rattle.md_hlds.specs.HldsGoal.{HldsGoal, At, GoalExpr, Succeeds, SimpleGoal, CallGoal, ConjGoal, DisjGoal, IfGoal, gathered, numbered_goal}
use Rattle.md_hlds.specs.Hlds.{Hlds, Procedure}
use Rattle.md_modes.specs.Notes.{program_notes}
use Rattle.md_det.specs.Findings.{program_findings}
use Rattle.md_flat.specs.declared.instruction.Instruction.{Instruction}
use Rattle.md_flat.specs.declared.instruction.Operation.TheVariants as act
use Rattle.md_code.specs.Leaves.{leaves_table}
use Rattle.md_code.specs.Tables.{entry_at}
use Rattle.md_code.specs.Blocks.{instruction, unused, program_code, Along, NoArm, Place}
use Rattle.law_frames.specs.Ways.{pop, port, Way, on, yields, cut_body, whole_body}
use Rattle.law_flat.specs.Flat.{Flat, StandsFrom, flat_of}
use Rattle.law_flat.specs.Shapes.{Shape, KeepsIn, InRange, shape_of}
use Rattle.md_hlds.specs.Trace.{call_weight}
use Rattle.law_flat.specs.Leads.{IsCall, Enters, keeps_first, exiting_cut, Leads, passes, charges, simple, calls, conjunction, disjunction, condition_above, joins_on, holding_cut, exiting, yielding, pops, ports, last_arm, arm_before}

abbrev goal : GoalExpr → HldsGoal
goal t = At 0 t

abbrev call : List ℕ → ℕ → HldsGoal
call name site = goal (CallGoal site (record { qualifier = None; name = name }) [])

abbrev procedure : List ℕ → Det → HldsGoal → Procedure
procedure name d body = record { qualifier = None; name = name; line = 0; clause_line = 0; args = []; det = d; vars = []; head = []; body = body }

-- once :- true.  Goal 0.
abbrev once : Procedure
once = procedure (codes "once") det.Det (goal (SimpleGoal Succeeds))

-- often :- ( true ; true ).  The disjunction is goal 1, and its arms are goals 2 and 3.
abbrev often : Procedure
often = procedure (codes "often") det.Multi (goal (DisjGoal (gathered (goal (SimpleGoal Succeeds) ∷ goal (SimpleGoal Succeeds) ∷ []))))

-- both :- ( often -> once ; once ), often.  The conjunction is goal 4, the if-then-else goal 5, its condition 6 and its parts 7 and
-- 8, and the last call goal 9.
abbrev both : Procedure
both = procedure (codes "both") det.Multi (goal (ConjGoal (gathered (goal (IfGoal (call (codes "often") 0) (call (codes "once") 1) (call (codes "once") 2)) ∷ call (codes "often") 3 ∷ []))))

abbrev program : Hlds
program = record { module_name = codes "m"; module_line = 0; types = []; procedures = once ∷ often ∷ both ∷ [] }

-- ---- its instructions

abbrev block_of : (a b c d e f : Instruction) → List Instruction → List Instruction
block_of a b c d e f rest = a ∷ b ∷ c ∷ d ∷ e ∷ f ∷ rest

-- The head of goal n stands at 6 n + 6. Both arms of `often` go on at 15, where it is left; the second, behind which no choice
-- may be open, leaves one that fails to 1 there. The condition, 42, runs above a choice of the else part, 54, and at its end, 45,
-- the stack is cut to the height that was kept at 36; both parts go on at 60.
codes_of_program :
    program_code program
    ≡ block_of (instruction 0 0 act.Pop) (instruction 0 0 act.Fail) (instruction 0 0 act.Unwind) (instruction 0 0 act.Halt) (instruction 0 0 act.Over) unused
    (block_of (instruction 0 9 act.Pass) unused unused (instruction 0 10 act.Pass) (instruction 1 0 (act.Exit 0)) unused
    (block_of (instruction 0 23 act.Pass) unused unused (instruction 0 0 (act.Leave 1 16 0)) (instruction 0 0 act.Redo) unused
    (block_of (instruction 0 21 act.Pass) unused unused (instruction 2 22 act.Charge) (instruction 0 15 act.Pass) (instruction 0 18 (act.Try 29 0))
    (block_of (instruction 0 27 act.Pass) unused unused (instruction 1 28 act.Charge) (instruction 0 15 (act.Try 1 0)) (instruction 0 24 act.Pass)
    (block_of (instruction 0 36 act.Pass) unused unused (instruction 0 0 (act.Leave 2 34 1)) (instruction 0 0 act.Redo) unused
    (block_of (instruction 0 37 (act.Height 0)) (instruction 0 42 (act.Try 54 1)) unused unused unused unused
    (block_of (instruction 3 45 (act.Call 6)) unused unused (instruction 0 48 (act.Cut 0)) unused unused
    (block_of (instruction 1 51 (act.Call 7)) unused unused (instruction 0 52 act.Charge) (instruction 0 60 act.Pass) unused
    (block_of (instruction 1 57 (act.Call 8)) unused unused (instruction 0 58 act.Charge) (instruction 0 60 act.Pass) unused
    (block_of (instruction 1 33 (act.Call 9)) unused unused unused unused unused []))))))))))
unfolding program_notes program_findings
codes_of_program = refl

-- ---- where they lead

abbrev code : Flat
code = flat_of program 1

-- a procedure that is called is this one
called_as : (P : ℕ × Procedure → Type 0) (u q : ℕ × Procedure) → Some u ≡ Some q → P u → P q
called_as P u q e h = subst P (ap (or_first u) e) h
  where
    or_first : (ℕ × Procedure) → Option (ℕ × Procedure) → ℕ × Procedure
    or_first d None = d
    or_first d (Some v) = v

abbrev at_place : (next other pending : ℕ) → Place
at_place next other pending = record { next = next; other = other; pending = pending; height = 0; size = 0; end = Along; trial = NoArm }

-- no goal here has a variable
none : (f : Shape) → InRange f []
none f y lt = absurd (omega (arith, lt))

once_leads : Leads program code (shape_of program 0 once) 6 0 (cut_body (leaves_table program) (numbered_goal 0 once.body))
unfolding program_notes program_findings
once_leads = simple (at_place 9 1 0) refl refl (refl, (refl, (refl, tt))) refl (none (shape_of program 0 once)) tt (passes {next = 10} refl (exiting {after = 0} refl)) (ports {after = 0} refl)

-- a body that is left, and comes back to its newest choice
abbrev often_left : Way
often_left = yields pop

often_end : Leads program code (shape_of program 1 often) 15 0 often_left
unfolding program_notes program_findings
often_end = yielding {again = 16} {other = 0} {after = 0} refl refl (pops {after = 0} refl)

often_leads : Leads program code (shape_of program 1 often) 12 0 (whole_body (leaves_table program) (numbered_goal 1 often.body))
unfolding program_notes program_findings
often_leads =
    disjunction {next = 23} refl refl (arm_before {next = 18} {other = 29} refl
    (simple (at_place 21 0 1) refl refl (refl, (refl, (refl, tt))) refl (none (shape_of program 1 often)) tt (charges {next = 22} refl (passes {next = 15} refl often_end)) (pops {after = 0} refl))
    (last_arm {next = 24} refl
    (simple (at_place 27 1 0) refl refl (refl, (refl, (refl, tt))) refl (none (shape_of program 1 often)) tt (charges {next = 28} refl (joins_on {next = 15} {other = 1} refl (ports {after = 0} refl) often_end)) (ports {after = 0} refl))))

abbrev shape : Shape
shape = shape_of program 2 both

last_way : Way
unfolding program_notes program_findings
last_way = on port (numbered_goal 9 (call (codes "often") 3)) (yields pop)

last_leads : Leads program code shape 60 0 last_way
unfolding program_notes program_findings last_way
last_leads =
    calls {next = 33} {other = 1} 1 33 refl (λ q e. called_as (λ u. (1 ≡ 0 + call_weight u.1) × IsCall program code 9 3 shape.size u [] 33 1) (1, often) q e (refl, refl)) (none shape)
    (yielding {again = 34} {other = 0} {after = 0} refl refl (pops {after = 0} refl)) (ports {after = 0} refl)

-- the height of the stack is kept in the only slot
keeps_five : KeepsIn shape 0 6
unfolding program_notes program_findings
keeps_five = record { place = 0; is = refl; at = refl }

both_leads : Leads program code shape 30 0 (whole_body (leaves_table program) (numbered_goal 4 both.body))
unfolding program_notes program_findings last_way
both_leads =
    conjunction {next = 36} refl
    (condition_above {second = 37} {next = 42} {other = 54} {height = 0} refl refl keeps_five refl
    (calls {next = 57} {other = 1} 1 57 refl (λ q e. called_as (λ u. (1 ≡ 0 + call_weight u.1) × IsCall program code 8 2 shape.size u [] 57 1) (0, once) q e (refl, refl)) (none shape)
    (charges {next = 58} refl (passes {next = 60} refl last_leads)) (ports {after = 0} refl))
    (calls {next = 45} {other = 0} 3 45 refl (λ q e. called_as (λ u. (3 ≡ 2 + call_weight u.1) × IsCall program code 6 0 shape.size u [] 45 0) (1, often) q e (refl, refl)) (none shape)
    (holding_cut {next = 48} {height = 0} refl keeps_five
    (calls {next = 51} {other = 1} 1 51 refl (λ q e. called_as (λ u. (1 ≡ 0 + call_weight u.1) × IsCall program code 7 1 shape.size u [] 51 1) (0, once) q e (refl, refl)) (none shape)
    (charges {next = 52} refl (passes {next = 60} refl last_leads)) (ports {after = 0} refl)))
    (pops {after = 0} refl)))

-- ---- a body that is cut

-- first :- often.  It has one answer: the call is goal 4. The height of the stack is kept at 35, where a call begins, and to it the
-- stack is cut at 33.
abbrev first : Procedure
first = procedure (codes "first") det.Det (call (codes "often") 0)

abbrev cut_program : Hlds
cut_program = record { module_name = codes "m"; module_line = 0; types = []; procedures = once ∷ often ∷ first ∷ [] }

first_leads : Enters cut_program (flat_of cut_program 1) (shape_of cut_program 2 first) 35 (cut_body (leaves_table cut_program) (numbered_goal 4 first.body))
unfolding program_notes program_findings
first_leads =
    keeps_first {next = 30} {height = 0} refl (record { place = 0; is = refl; at = refl })
    (calls {next = 33} {other = 1} 1 33 refl (λ q e. called_as (λ u. (1 ≡ 0 + call_weight u.1) × IsCall cut_program (flat_of cut_program 1) 4 0 1 u [] 33 1) (1, often) q e (refl, refl)) (none (shape_of cut_program 2 first))
    (exiting_cut {next = 34} {after = 0} {height = 0} refl (record { place = 0; is = refl; at = refl }) refl) (ports {after = 0} refl))

first_entry : entry_at cut_program 2 first ≡ 35
unfolding program_notes program_findings
first_entry = refl

-- ---- lists that stand in lists

-- a list that stands in another from its place 1 on, up to its end
from_one : StandsFrom {A = ℕ} (5 ∷ 6 ∷ 7 ∷ []) 1 (6 ∷ 7 ∷ [])
from_one = (refl, (refl, tt))

-- refuses a rule by which it stands from some place on
from_none : StandsFrom {A = ℕ} (5 ∷ 6 ∷ 7 ∷ []) 0 (6 ∷ 7 ∷ []) → ⊥
from_none stands = let first : ◌≡◌ {A = Option ℕ} (Some 5) (Some 6) = stands.0 in absurd (cc)

-- refuses a rule that looks at the first alone, and one that ends where the longer list does
past_the_end : StandsFrom {A = ℕ} (5 ∷ 6 ∷ 7 ∷ []) 1 (6 ∷ 7 ∷ 8 ∷ []) → ⊥
past_the_end stands = let last : ◌≡◌ {A = Option ℕ} None (Some 8) = stands.1.1.0 in absurd (cc)

-- refuses a rule that looks at the first and the last alone
apart : StandsFrom {A = ℕ} (5 ∷ 6 ∷ 0 ∷ 7 ∷ []) 1 (6 ∷ 7 ∷ []) → ⊥
apart stands = let second : ◌≡◌ {A = Option ℕ} (Some 0) (Some 7) = stands.1.0 in absurd (cc)
