-- The profile and the view of the run of a program within a budget: those of the history of its events, over the
-- tables of the program. The run knows neither.
use Rattle.std.specs.Prelude.{ℕ, ◌≡◌, Bool, true, false}
use Rattle.md_hlds.specs.Hlds.{Hlds}
use Rattle.md_hlds.specs.Run.{run, is_finished}
use Rattle.law_events.specs.History.{history}
use Rattle.law_events.specs.Laws.{IsWithinBounds}
use Rattle.law_events.specs.Table.{site_table}
use Rattle.md_ports.specs.Ports.{statics_of}
use Rattle.md_dynamic.specs.OfHistory.{IsProfileOf}
use Rattle.md_dynamic.specs.Profile.{ProfileRows}
use Rattle.md_dynamic.specs.Valid.{IsValid}
use Rattle.md_machine.specs.Ran.{IsRunOf}
use Rattle.md_machine.specs.declared.ran.End.{End}
use Rattle.md_machine.specs.declared.ran.End.TheVariants.{Finished, Thrown, OutOfSteps}
use Rattle.md_cost.specs.View.{View}
use Rattle.law_views.specs.RunView.{IsRunView}
use Rattle.md_profiled.specs.declared.profiled.Profiled.{Profiled}

-- a profile has the program's tables, and the contexts and links with own counts of the run's history
abbrev pub IsProfileOfRun : Hlds → ℕ → ProfileRows → Type 0
IsProfileOfRun program budget f = IsProfileOf (statics_of program) (site_table program).main (history (run program budget)) (is_finished (run program budget)) f

-- the view of a run, in which own counts ask the activations themselves, and totals their chains or stations
abbrev pub IsViewOfRun : Hlds → ℕ → View → Type 0
IsViewOfRun program budget v = IsRunView (statics_of program) (site_table program).main (history (run program budget)) (is_finished (run program budget)) v

-- whether an end is that of a finished run
abbrev pub finishes : End → Bool
finishes Finished = true
finishes Thrown = false
finishes OutOfSteps = false

-- a run of the program within the budget, and its profile, which is valid
pub record IsProfiled (program : Hlds) (budget : ℕ) (profiled : Profiled) : Type 0 where
  pub bounds : IsWithinBounds program budget
  pub is_run : IsRunOf program budget profiled.ran
  pub is_profile : IsProfileOfRun program budget profiled.profile
  pub valid : IsValid profiled.profile

-- a profile is that of the run of a program
pub record IsOfRun (f : ProfileRows) : Type 0 where
  pub program : Hlds
  pub budget : ℕ
  pub bounds : IsWithinBounds program budget
  pub is_profile : IsProfileOfRun program budget f
