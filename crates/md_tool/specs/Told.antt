-- What a command came to, and what is told of it.
use Rattle.std.specs.Prelude.{ℕ, ◌≡◌, ◌⊎◌, List, [], Option, None, Some, Result, Ok, Err, codes}
use Rattle.md_base.specs.Outside.{added, PartAdded}
use Rattle.md_base.specs.Files.{Files}
use Rattle.md_commands.specs.Form.{Form, Check, Run, Report, Page, Serve, Gen, Migrate, Feedback, Dump, Undump, Cover, Sum, Compare}
use Rattle.md_tool.specs.declared.fault.Fault.{Fault}
use Rattle.md_tool.specs.declared.fault.Fault.TheVariants.{Usage, NoMemory}
use Rattle.md_tool.specs.Fault.{status_of, fault_line}
use Rattle.md_tool.specs.Compared.{CompareEnds}
use Rattle.md_tool.specs.Due.{CheckEnds}
use Rattle.md_tool.specs.Generated.{GenEnds}
use Rattle.md_tool.specs.Candidates.{IsFeedbackOfRun}
use Rattle.md_tool.specs.Kept.{IsRunFile, RunEnds}
use Rattle.md_tool.specs.Reported.{ReportEnds, IsPageOfRun, HasNoPageOfRun}
use Rattle.md_tool.specs.Served.{NetSide, ServeEnds}
use Rattle.md_tool.specs.Stored.{StoredEnds, MigrateEnds}
use Rattle.md_tool.specs.Summed.{SumEnds}
use Rattle.md_tool.specs.Texts.{DumpEnds, UndumpEnds}
use Rattle.md_tool.specs.Turns.{IsCoverageOfRun, HasNoProcedure}

-- A fault was told: its line was written, or a front of it where the stream's count of faults rose or memory was
-- refused. The status is the fault's, or that of a want of memory.
pub record Tells (fault : Fault) (file : List ℕ) (before now : Option (List ℕ)) (faults_rose : Type 0) (status : ℕ) : Type 0 where
  pub told : (status ≡ status_of fault) ⊎ (status ≡ 8)
  pub part : PartAdded (fault_line fault file) before now
  pub whole : (now ≡ added (fault_line fault file) before) ⊎ (faults_rose ⊎ (status ≡ 8))

-- neither the store nor a stream changed
pub record NothingChanged (held held' : Option Files) (out out' err err' : Option (List ℕ)) : Type 0 where
  pub held_is : held' ≡ held
  pub out_is : out' ≡ out
  pub err_is : err' ≡ err

-- What the words ask for: nothing, or a command. The five facts say that the store's count of faults in a read rose, that
-- in a write, and those of `out`, of `err` and of the net. What a command doesn't write it leaves as it was. Of several
-- profiles that are added up or compared `at` names the one that is at fault, where there is one.
abbrev pub CommandEnds : Option Form → (at : List ℕ) → (held held' : Option Files) → (net net' : NetSide) → (out out' err err' : Option (List ℕ)) → (reads writes outs errs nets : Type 0) → Result (Unit {0}) Fault → Type 0
CommandEnds None at held held' net net' out out' err err' reads writes outs errs nets r = ((r ≡ Err Usage) ⊎ (r ≡ Err NoMemory)) × NothingChanged held held' out out' err err'
CommandEnds (Some (Check file print)) at held held' net net' out out' err err' reads writes outs errs nets r = CheckEnds held file print out out' reads outs r × (held' ≡ held) × (err' ≡ err)
CommandEnds (Some (Run file steps name)) at held held' net net' out out' err err' reads writes outs errs nets r = RunEnds (IsRunFile steps) held held' file steps name out out' reads writes outs r × (err' ≡ err)
CommandEnds (Some (Report file query steps)) at held held' net net' out out' err err' reads writes outs errs nets r = ReportEnds (IsPageOfRun query steps) (HasNoPageOfRun query steps) held file steps out out' err err' reads outs errs r × (held' ≡ held)
CommandEnds (Some (Page name query)) at held held' net net' out out' err err' reads writes outs errs nets r = StoredEnds held name query out out' reads outs r × (held' ≡ held) × (err' ≡ err)
CommandEnds (Some (Serve name port requests)) at held held' net net' out out' err err' reads writes outs errs nets r = ServeEnds held name port requests net net' out out' reads outs nets r × (held' ≡ held) × (err' ≡ err)
CommandEnds (Some (Gen n summary)) at held held' net net' out out' err err' reads writes outs errs nets r = GenEnds n summary out out' outs r × (held' ≡ held) × (err' ≡ err)
CommandEnds (Some (Migrate name new)) at held held' net net' out out' err err' reads writes outs errs nets r = MigrateEnds held held' name new out out' reads writes outs r × (err' ≡ err)
CommandEnds (Some (Feedback file new steps least)) at held held' net net' out out' err err' reads writes outs errs nets r = RunEnds (IsFeedbackOfRun least steps) held held' file steps new out out' reads writes outs r × (err' ≡ err)
CommandEnds (Some (Dump name)) at held held' net net' out out' err err' reads writes outs errs nets r = DumpEnds held name out out' reads outs r × (held' ≡ held) × (err' ≡ err)
CommandEnds (Some (Undump text new)) at held held' net net' out out' err err' reads writes outs errs nets r = UndumpEnds held held' text new out out' reads writes outs r × (err' ≡ err)
CommandEnds (Some (Cover file procedure steps)) at held held' net net' out out' err err' reads writes outs errs nets r = ReportEnds (IsCoverageOfRun procedure steps) (HasNoProcedure procedure) held file steps out out' err err' reads outs errs r × (held' ≡ held)
CommandEnds (Some (Sum names)) at held held' net net' out out' err err' reads writes outs errs nets r = SumEnds held names at out out' reads outs r × (held' ≡ held) × (err' ≡ err)
CommandEnds (Some (Compare old new by least)) at held held' net net' out out' err err' reads writes outs errs nets r = CompareEnds held old new by least at out out' reads outs r × (held' ≡ held) × (err' ≡ err)

-- the name in a line that tells of a fault: that of the command's file; a generated program is called `gen`, and of several
-- profiles the one at fault is named
abbrev pub file_of : Form → (at : List ℕ) → List ℕ
file_of (Check file print) at = file
file_of (Run file steps name) at = file
file_of (Report file query steps) at = file
file_of (Page name query) at = name
file_of (Serve name port requests) at = name
file_of (Gen n summary) at = codes "gen"
file_of (Migrate name new) at = name
file_of (Feedback file new steps least) at = file
file_of (Dump name) at = name
file_of (Undump text new) at = text
file_of (Cover file procedure steps) at = file
file_of (Sum names) at = at
file_of (Compare old new by least) at = at

abbrev pub named : Option Form → (at : List ℕ) → List ℕ
named None at = []
named (Some form) at = file_of form at

-- what is told of the end of a command on this file
abbrev pub EndIsTold : Result (Unit {0}) Fault → (file : List ℕ) → Option (List ℕ) → Option (List ℕ) → Type 0 → ℕ → Type 0
EndIsTold (Ok done) file before now faults_rose status = (status ≡ 0) × (now ≡ before)
EndIsTold (Err fault) file before now faults_rose status = Tells fault file before now faults_rose status

-- A whole call: what the command came to, what `err` held then, and what was told of it. The five facts say that the
-- store's count of faults in a read rose in the call, that in a write, and those of `out`, of `err` and of the net.
pub record TopEnds (form : Option Form) (held held' : Option Files) (net net' : NetSide) (out out' err err' : Option (List ℕ)) (reads writes outs errs nets : Type 0) (status : ℕ) : Type 0 where
  pub end : Result (Unit {0}) Fault
  pub at : List ℕ
  pub between : Option (List ℕ)
  pub command : CommandEnds form at held held' net net' out out' err between reads writes outs errs nets end
  pub told : EndIsTold end (named form at) between err' errs status
