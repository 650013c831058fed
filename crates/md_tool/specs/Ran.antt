-- A run of the program that a text spells, and its profile.
use Rattle.std.specs.Prelude.{ℕ, List}
use Rattle.law_events.specs.Laws.{IsWithinBounds}
use Rattle.md_machine.specs.Ran.{IsRunOf}
use Rattle.md_machine.specs.declared.ran.Ran.{Ran}
use Rattle.md_profiled.specs.OfRun.{IsProfiled}
use Rattle.md_profiled.specs.declared.profiled.Profiled.{Profiled}
use Rattle.md_tool.specs.Accepted.{Accepted}

-- an accepted text whose program was run within so many steps
pub record TextRuns (text : List ℕ) (steps : ℕ) (ran : Ran) : Type 0 where
  pub accepted : Accepted text
  pub is_run : IsRunOf accepted.program steps ran

-- an accepted text whose program was run so, with its profile
pub record IsProfiledText (text : List ℕ) (steps : ℕ) (profiled : Profiled) : Type 0 where
  pub accepted : Accepted text
  pub bounds : IsWithinBounds accepted.program steps
  pub is_profiled : IsProfiled accepted.program steps profiled
