-- Which text is due of the pairs of calls of a run that could run side by side with profit.
use Rattle.std.specs.Prelude.{ℕ, ◌≡◌, List}
use Rattle.md_cost.specs.View.{View}
use Rattle.md_feedback.specs.declared.pairs.Feedback.{Feedback}
use Rattle.md_feedback.specs.Candidates.{AreCandidates}
use Rattle.md_feedback.specs.Text.{Spells}
use Rattle.md_hlds.specs.Hlds.{Hlds}
use Rattle.md_machine.specs.Ran.{IsRunOf}
use Rattle.md_profiled.specs.OfRun.{IsViewOfRun}
use Rattle.md_tool.specs.declared.pairs.Paired.{Paired}
use Rattle.md_tool.specs.Accepted.{Accepted}

-- The text spells the program's module, the least share, and exactly the candidates by the counts of the run's view, in
-- rising order: so it is read back as them.
pub record IsFeedbackOfRun (least steps : ℕ) (program : Hlds) (text : List ℕ) : Type 0 where
  pub view : View
  pub is_view : IsViewOfRun program steps view
  pub feedback : Feedback
  pub module_is : feedback.module ≡ program.module_name
  pub least_is : feedback.least ≡ least
  pub pairs : AreCandidates program view least feedback.pairs
  pub spelled : Spells text feedback

-- an accepted text whose program was run within so many steps, and the text of its pairs
pub record IsPaired (text : List ℕ) (steps least : ℕ) (paired : Paired) : Type 0 where
  pub accepted : Accepted text
  pub is_run : IsRunOf accepted.program steps paired.ran
  pub is_due : IsFeedbackOfRun least steps accepted.program paired.text.items
