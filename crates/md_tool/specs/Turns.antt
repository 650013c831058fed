-- What `cover` shows of a run: the turns of a procedure's goals.
use Rattle.std.specs.Prelude.{ℕ, ◌≡◌, List, Option, Some, None, slice_get}
use Rattle.std.specs.declared.alloc.Global.{Global}
use Rattle.std.specs.Prelude.{Vec}
use Rattle.md_cover.specs.Coverage.{IsCoverageOf}
use Rattle.md_cover.specs.Covered.{Covered}
use Rattle.md_cover.specs.Text.{cover_text}
use Rattle.md_dynamic.specs.Profile.{ProfileRows}
use Rattle.md_hlds.specs.Hlds.{Hlds, Procedure}
use Rattle.md_people.specs.Words.{proc_named}
use Rattle.md_ports.specs.Ports.{statics_of}
use Rattle.md_machine.specs.Ran.{IsRunOf}
use Rattle.md_profiled.specs.OfRun.{IsProfileOfRun}
use Rattle.md_static.specs.Tables.{Static}
use Rattle.md_commands.specs.Form.{Meant, Number, Name}
use Rattle.md_tool.specs.Accepted.{Accepted}
use Rattle.md_tool.specs.declared.turns.Counted.{Counted}

-- the number that is meant, if one is: that of a full name is the first procedure's that has it
abbrev pub number_in : Static → Meant → Option ℕ
number_in s (Number n) = Some n
number_in s (Name name) = proc_named s name

-- the text of the goals of the procedure that is meant, each with its turns in the run as far as they follow from the run's profile
pub record IsCoverageOfRun (procedure : Meant) (steps : ℕ) (program : Hlds) (text : List ℕ) : Type 0 where
  pub number : ℕ
  pub is_meant : number_in (statics_of program) procedure ≡ Some number
  pub profile : ProfileRows
  pub is_profile : IsProfileOfRun program steps profile
  pub covers : Procedure
  pub there : slice_get program.procedures number ≡ Some covers
  pub coverage : Covered
  pub is_coverage : IsCoverageOf program steps profile (number, covers) coverage
  pub is : text ≡ cover_text (statics_of program) coverage

-- the program has no procedure of this number, or of this full name
abbrev pub HasNoProcedure : Meant → Hlds → Type 0
HasNoProcedure (Number n) program = slice_get program.procedures n ≡ None
HasNoProcedure (Name name) program = proc_named (statics_of program) name ≡ None

-- the text that was found, or none where the program has no such procedure
abbrev pub IsTextOfTurns : Hlds → (procedure : Meant) → (steps : ℕ) → Option (Vec ℕ Global) → Type 0
IsTextOfTurns program procedure steps (Some text) = IsCoverageOfRun procedure steps program text.items
IsTextOfTurns program procedure steps None = HasNoProcedure procedure program

-- an accepted text whose program was run within so many steps, and the text of the turns
pub record IsCounted (text : List ℕ) (procedure : Meant) (steps : ℕ) (counted : Counted) : Type 0 where
  pub accepted : Accepted text
  pub is_run : IsRunOf accepted.program steps counted.ran
  pub is_text : IsTextOfTurns accepted.program procedure steps counted.text
