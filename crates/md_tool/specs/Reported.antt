-- What a command owes that runs a file and shows something of the run, and what there is of it after the call. `report` shows a
-- page, and `cover` the turns of a procedure's goals; which text is due, and where there is none, is a parameter.
use Rattle.std.specs.Prelude.{ℕ, ◌≡◌, ◌⊎◌, List, ◌++◌, Option, Some, None, Result, Ok, Err, codes}
use Rattle.md_base.specs.Outside.{added, PartAdded}
use Rattle.md_base.specs.Files.{Files, FileIsLonger}
use Rattle.md_cost.specs.View.{View}
use Rattle.md_hlds.specs.Hlds.{Hlds}
use Rattle.md_hlds.specs.Run.{run, output}
use Rattle.md_profiled.specs.OfRun.{IsViewOfRun}
use Rattle.md_query.specs.Asked.{Asked}
use Rattle.md_query.specs.Page.{PageRows}
use Rattle.md_query.specs.PageOf.{page_of}
use Rattle.md_render.specs.Text.{text_of}
use Rattle.md_tool.specs.declared.fault.Fault.{Fault}
use Rattle.md_tool.specs.declared.fault.Fault.TheVariants.{Read, TooLong, Refused, OutOfSteps, Thrown, NoSuchPage, Write, NoMemory}
use Rattle.md_tool.specs.Accepted.{Accepted}
use Rattle.md_tool.specs.Due.{IsText, IsRefused, IsWritten, IsWrittenInPart, longest}
use Rattle.md_tool.specs.Ends.{RunEnd, Finished, Threw, RanOut, end_of}

-- what the error stream gets of a run: its output, and a line that ends it
abbrev pub reported_output : Hlds → ℕ → List ℕ
reported_output program steps = output (run program steps) ++ codes "-- end of output\n"

-- ---- what `report` shows

-- the page that the query asks for, of the view of the run, as text
pub record IsPageOfRun (query : Asked) (steps : ℕ) (program : Hlds) (text : List ℕ) : Type 0 where
  pub view : View
  pub is_view : IsViewOfRun program steps view
  pub page : PageRows
  pub is_page : page_of view query ≡ Some page
  pub is : text ≡ text_of view page

-- the view of the run has no such page
pub record HasNoPageOfRun (query : Asked) (steps : ℕ) (program : Hlds) : Type 0 where
  pub view : View
  pub is_view : IsViewOfRun program steps view
  pub none : page_of view query ≡ None

-- ---- of the run of a program

-- `err` got the run's output, and `out` the text that is due
pub record IsReported (IsDue : List ℕ → Type 0) (program : Hlds) (steps : ℕ) (out out' err err' : Option (List ℕ)) : Type 0 where
  pub output_is : err' ≡ added (reported_output program steps) err
  pub shown : IsWritten IsDue out out'

-- `err` got the run's output, of which there is nothing to show
pub record IsPageless (HasNone : Type 0) (program : Hlds) (steps : ℕ) (out out' err err' : Option (List ℕ)) : Type 0 where
  pub output_is : err' ≡ added (reported_output program steps) err
  pub none : HasNone
  pub untouched : out' ≡ out

-- a front of the output was written to `err`
pub record IsOutputPart (output : List ℕ) (out out' err err' : Option (List ℕ)) : Type 0 where
  pub output_is : PartAdded output err err'
  pub no_page : out' ≡ out

-- the output was written to `err`, and a front of the text to `out`
pub record IsPagePart (IsDue : List ℕ → Type 0) (program : Hlds) (steps : ℕ) (out out' err err' : Option (List ℕ)) : Type 0 where
  pub output_is : err' ≡ added (reported_output program steps) err
  pub shown : IsWrittenInPart IsDue out out'

-- what a report on the run of a program came to
abbrev pub ShowEnds : (IsDue : List ℕ → Type 0) → (HasNone : Type 0) → Hlds → (steps : ℕ) → (out out' err err' : Option (List ℕ)) → (outs errs : Type 0) → Result (Unit {0}) Fault → Type 0
ShowEnds IsDue HasNone program steps out out' err err' outs errs (Ok done) = IsReported IsDue program steps out out' err err' × (end_of (run program steps) ≡ Finished)
ShowEnds IsDue HasNone program steps out out' err err' outs errs (Err OutOfSteps) = IsReported IsDue program steps out out' err err' × (end_of (run program steps) ≡ RanOut)
ShowEnds IsDue HasNone program steps out out' err err' outs errs (Err (Thrown bytes)) = IsReported IsDue program steps out out' err err' × (end_of (run program steps) ≡ Threw bytes.items)
ShowEnds IsDue HasNone program steps out out' err err' outs errs (Err NoSuchPage) = IsPageless HasNone program steps out out' err err'
ShowEnds IsDue HasNone program steps out out' err err' outs errs (Err Write) =
    (errs × IsOutputPart (reported_output program steps) out out' err err') ⊎ (outs × IsPagePart IsDue program steps out out' err err')
ShowEnds IsDue HasNone program steps out out' err err' outs errs (Err NoMemory) = IsOutputPart (reported_output program steps) out out' err err' ⊎ IsPagePart IsDue program steps out out' err err'
ShowEnds IsDue HasNone program steps out out' err err' outs errs (Err fault) = ⊥

-- ---- of a file

-- neither stream got anything
pub record IsUntouched (out out' err err' : Option (List ℕ)) : Type 0 where
  pub out_is : out' ≡ out
  pub err_is : err' ≡ err

-- the file's program was run; `err` got all that its run writes within so many steps, and `out` the text that is due
pub record HasReported (IsDue : Hlds → List ℕ → Type 0) (held : Option Files) (file : List ℕ) (steps : ℕ) (out out' err err' : Option (List ℕ)) (end : RunEnd) : Type 0 where
  pub text : List ℕ
  pub is_text : IsText held file text
  pub accepted : Accepted text
  pub reported : IsReported (IsDue accepted.program) accepted.program steps out out' err err'
  pub ended : end_of (run accepted.program steps) ≡ end

-- the file's program was run; `err` got all that its run writes, and there is nothing to show
pub record HasNoPage (HasNone : Hlds → Type 0) (held : Option Files) (file : List ℕ) (steps : ℕ) (out out' err err' : Option (List ℕ)) : Type 0 where
  pub text : List ℕ
  pub is_text : IsText held file text
  pub accepted : Accepted text
  pub pageless : IsPageless (HasNone accepted.program) accepted.program steps out out' err err'

-- the file's program was run, and `err` got a front of what its run writes
pub record HasOutputInPart (held : Option Files) (file : List ℕ) (steps : ℕ) (out out' err err' : Option (List ℕ)) : Type 0 where
  pub text : List ℕ
  pub is_text : IsText held file text
  pub accepted : Accepted text
  pub written : IsOutputPart (reported_output accepted.program steps) out out' err err'

-- the file's program was run; `err` got all that its run writes, and `out` a front of the text
pub record HasPageInPart (IsDue : Hlds → List ℕ → Type 0) (held : Option Files) (file : List ℕ) (steps : ℕ) (out out' err err' : Option (List ℕ)) : Type 0 where
  pub text : List ℕ
  pub is_text : IsText held file text
  pub accepted : Accepted text
  pub written : IsPagePart (IsDue accepted.program) accepted.program steps out out' err err'

-- what a report on a file came to
abbrev pub ReportEnds : (IsDue : Hlds → List ℕ → Type 0) → (HasNone : Hlds → Type 0) → Option Files → List ℕ → (steps : ℕ) → (out out' err err' : Option (List ℕ)) → (reads outs errs : Type 0) → Result (Unit {0}) Fault → Type 0
ReportEnds IsDue HasNone held file steps out out' err err' reads outs errs (Ok done) = HasReported IsDue held file steps out out' err err' Finished
ReportEnds IsDue HasNone held file steps out out' err err' reads outs errs (Err OutOfSteps) = HasReported IsDue held file steps out out' err err' RanOut
ReportEnds IsDue HasNone held file steps out out' err err' reads outs errs (Err (Thrown bytes)) = HasReported IsDue held file steps out out' err err' (Threw bytes.items)
ReportEnds IsDue HasNone held file steps out out' err err' reads outs errs (Err Read) = reads × IsUntouched out out' err err'
ReportEnds IsDue HasNone held file steps out out' err err' reads outs errs (Err TooLong) = FileIsLonger held file longest × IsUntouched out out' err err'
ReportEnds IsDue HasNone held file steps out out' err err' reads outs errs (Err (Refused line why)) = IsRefused held file out out' (Refused line why) × (err' ≡ err)
ReportEnds IsDue HasNone held file steps out out' err err' reads outs errs (Err NoSuchPage) = HasNoPage HasNone held file steps out out' err err'
ReportEnds IsDue HasNone held file steps out out' err err' reads outs errs (Err Write) =
    (errs × HasOutputInPart held file steps out out' err err') ⊎ (outs × HasPageInPart IsDue held file steps out out' err err')
ReportEnds IsDue HasNone held file steps out out' err err' reads outs errs (Err NoMemory) =
    IsUntouched out out' err err' ⊎ (HasOutputInPart held file steps out out' err err' ⊎ HasPageInPart IsDue held file steps out out' err err')
ReportEnds IsDue HasNone held file steps out out' err err' reads outs errs (Err fault) = ⊥
