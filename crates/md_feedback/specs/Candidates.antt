-- Which pairs of calls of a program could run side by side with profit: two calls of one conjunction that each take long,
-- where the second doesn't depend on the first.
use Rattle.std.specs.Prelude.{ℕ, suc, ◌≡◌, ◌+◌, ◌*◌, ◌<◌, ◌≤◌, List, Some, slice_get, All, Contains}
use Rattle.md_base.specs.declared.measure.Measure.TheVariants.{Calls}
use Rattle.md_hlds.specs.declared.goal.PredName.{PredName}
use Rattle.md_hlds.specs.declared.types.Det.TheVariants.{Det}
use Rattle.md_hlds.specs.HldsGoal.{HldsGoal, At, CallGoal, ConjGoal, HldsGoals, Numbered, numbered_from}
use Rattle.md_hlds.specs.Hlds.{Hlds, Procedure, body_number, goal_at, procedure_called}
use Rattle.md_modes.specs.Classes.{binds_at}
use Rattle.md_modes.specs.Goals.{variables}
use Rattle.md_modes.specs.Notes.{program_notes}
use Rattle.md_cost.specs.View.{View, OfSite}
use Rattle.md_feedback.specs.declared.pairs.Pair.{Pair}
use Rattle.md_feedback.specs.Text.{Rise}

-- a variable that one goal binds occurs in another
pub record Takes (s : Hlds) (from to : Numbered) : Type 0 where
  pub variable : ℕ
  pub bound : Contains (binds_at (program_notes s) from.number) variable
  pub occurs : Contains (variables to.goal) variable

-- Among the direct parts of one conjunction, a part depends on an earlier one where a variable that this binds occurs in
-- it, or where a part between them depends on the earlier one and the later one on that.
pub data Depends (s : Hlds) (parts : List Numbered) : (i j : ℕ) → Type 0 where
  Directly : {i j : ℕ} (g h : Numbered) → i < j → slice_get parts i ≡ Some g → slice_get parts j ≡ Some h → Takes s g h → Depends s parts i j
  Through : {i l j : ℕ} → Depends s parts i l → Depends s parts l j → Depends s parts i j

-- A costly call: a plain call of a procedure that is declared `det`, at a site with at least one own call and with at
-- least `least` times as many total calls.
pub record IsCostly (s : Hlds) (v : View) (least : ℕ) (g : HldsGoal) (site total : ℕ) : Type 0 where
  pub line : ℕ
  pub callee : PredName
  pub arguments : List ℕ
  pub is : g ≡ At line (CallGoal site callee arguments)
  pub called : ℕ × Procedure
  pub is_called : procedure_called s callee ≡ Some called
  pub is_det : called.1.det ≡ Det
  pub own : ℕ
  pub is_own : v.own (OfSite site) Calls ≡ Some own
  pub is_total : v.total (OfSite site) Calls ≡ Some total
  pub some : 1 ≤ own
  pub many : least * own ≤ total

-- the goal of this number stands in the clause of this procedure
abbrev pub StandsIn : Hlds → (proc number : ℕ) → Type 0
StandsIn s proc number = (body_number s proc ≤ number) × (number < body_number s (suc proc))

-- the direct parts of a conjunction of this number, with their numbers
abbrev pub parts_of : (number : ℕ) → HldsGoals → List Numbered
parts_of number parts = numbered_from (number + 1) parts

-- a pair of costly calls that are direct parts of one conjunction, the second behind the first and not depending on it
pub record IsCandidate (s : Hlds) (v : View) (least : ℕ) (pair : Pair) : Type 0 where
  pub number : ℕ
  pub line : ℕ
  pub parts : HldsGoals
  pub conjunction : goal_at s number ≡ Some (At line (ConjGoal parts))
  pub clause : StandsIn s pair.proc number
  pub i : ℕ
  pub j : ℕ
  pub order : i < j
  pub g : Numbered
  pub h : Numbered
  pub is_first : slice_get (parts_of number parts) i ≡ Some g
  pub is_second : slice_get (parts_of number parts) j ≡ Some h
  pub first_costs : IsCostly s v least g.goal pair.first pair.a
  pub second_costs : IsCostly s v least h.goal pair.second pair.b
  pub apart : Depends s (parts_of number parts) i j → ⊥

-- exactly the candidates, in rising order of their first sites and then of their second ones
pub record AreCandidates (s : Hlds) (v : View) (least : ℕ) (pairs : List Pair) : Type 0 where
  pub each : All (IsCandidate s v least) pairs
  pub all : (pair : Pair) → IsCandidate s v least pair → Contains pairs pair
  pub rise : Rise pairs
