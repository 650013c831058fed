-- What a command owes that runs a program and keeps a file of the run, and what there is of it after the call. Which bytes
-- are due in the file is the command's: those of the run's profile for `run`.
use Rattle.std.specs.Prelude.{ℕ, ◌≡◌, ◌⊎◌, List, Option, Result, Ok, Err}
use Rattle.md_base.specs.Outside.{added, PartAdded}
use Rattle.md_base.specs.Files.{Files, FileIsLonger, HoldsPart, holding}
use Rattle.md_deepfile.specs.Bytes.{file_bytes}
use Rattle.md_dynamic.specs.Profile.{ProfileRows}
use Rattle.md_dynamic.specs.Valid.{IsValid}
use Rattle.md_hlds.specs.Hlds.{Hlds}
use Rattle.md_hlds.specs.Run.{run, output}
use Rattle.md_profiled.specs.OfRun.{IsProfileOfRun}
use Rattle.md_tool.specs.declared.fault.Fault.{Fault}
use Rattle.md_tool.specs.declared.fault.Fault.TheVariants.{Read, TooLong, Refused, OutOfSteps, Thrown, Write, NoMemory}
use Rattle.md_tool.specs.Accepted.{Accepted}
use Rattle.md_tool.specs.Due.{IsText, IsRefused, longest}
use Rattle.md_tool.specs.Ends.{RunEnd, Finished, Threw, RanOut, end_of}

-- ---- which bytes are due

-- those of the profile of a run within so many steps
pub record IsRunFile (steps : ℕ) (program : Hlds) (bytes : List ℕ) : Type 0 where
  pub profile : ProfileRows
  pub is_profile : IsProfileOfRun program steps profile
  pub valid : IsValid profile
  pub is : bytes ≡ file_bytes profile

-- ---- of the run of a program

-- `out` got the run's output, and the named file has the bytes that are due
pub record IsKept (IsDue : List ℕ → Type 0) (program : Hlds) (steps : ℕ) (name : List ℕ) (held held' : Option Files) (out out' : Option (List ℕ)) : Type 0 where
  pub output_is : out' ≡ added (output (run program steps)) out
  pub bytes : List ℕ
  pub is_due : IsDue bytes
  pub stored : held' ≡ holding name bytes held

-- `out` got a front of the run's output, and nothing was stored
pub record IsOutputPart (program : Hlds) (steps : ℕ) (held held' : Option Files) (out out' : Option (List ℕ)) : Type 0 where
  pub output_is : PartAdded (output (run program steps)) out out'
  pub kept : held' ≡ held

-- `out` got the run's output, and the named file is as it was or a front of what is due
pub record IsKeptInPart (IsDue : List ℕ → Type 0) (program : Hlds) (steps : ℕ) (name : List ℕ) (held held' : Option Files) (out out' : Option (List ℕ)) : Type 0 where
  pub output_is : out' ≡ added (output (run program steps)) out
  pub bytes : List ℕ
  pub is_due : IsDue bytes
  pub stored : HoldsPart name bytes held held'

-- what the writing of a run came to
abbrev pub KeepEnds : (IsDue : List ℕ → Type 0) → Hlds → (steps : ℕ) → (name : List ℕ) → (held held' : Option Files) → (out out' : Option (List ℕ)) → (writes outs : Type 0) → Result (Unit {0}) Fault → Type 0
KeepEnds IsDue program steps name held held' out out' writes outs (Ok done) = IsKept IsDue program steps name held held' out out' × (end_of (run program steps) ≡ Finished)
KeepEnds IsDue program steps name held held' out out' writes outs (Err OutOfSteps) = IsKept IsDue program steps name held held' out out' × (end_of (run program steps) ≡ RanOut)
KeepEnds IsDue program steps name held held' out out' writes outs (Err (Thrown bytes)) = IsKept IsDue program steps name held held' out out' × (end_of (run program steps) ≡ Threw bytes.items)
KeepEnds IsDue program steps name held held' out out' writes outs (Err Write) = (outs × IsOutputPart program steps held held' out out') ⊎ (writes × IsKeptInPart IsDue program steps name held held' out out')
KeepEnds IsDue program steps name held held' out out' writes outs (Err NoMemory) = IsOutputPart program steps held held' out out' ⊎ IsKeptInPart IsDue program steps name held held' out out'
KeepEnds IsDue program steps name held held' out out' writes outs (Err fault) = ⊥

-- ---- of a file

-- neither the store nor the stream changed
pub record AreUntouched (held held' : Option Files) (out out' : Option (List ℕ)) : Type 0 where
  pub held_is : held' ≡ held
  pub out_is : out' ≡ out

-- the file's program was run; all that its run writes within so many steps was written, and what is due was stored
pub record HasRun (IsDue : Hlds → List ℕ → Type 0) (held held' : Option Files) (file : List ℕ) (steps : ℕ) (name : List ℕ) (out out' : Option (List ℕ)) (end : RunEnd) : Type 0 where
  pub text : List ℕ
  pub is_text : IsText held file text
  pub accepted : Accepted text
  pub kept : IsKept (IsDue accepted.program) accepted.program steps name held held' out out'
  pub ended : end_of (run accepted.program steps) ≡ end

-- the file's program was run, and a front of what its run writes was written
pub record HasRunInPart (held held' : Option Files) (file : List ℕ) (steps : ℕ) (out out' : Option (List ℕ)) : Type 0 where
  pub text : List ℕ
  pub is_text : IsText held file text
  pub accepted : Accepted text
  pub written : IsOutputPart accepted.program steps held held' out out'

-- the file's program was run; all that its run writes was written, and a front of what is due stored, or nothing
pub record HasKeptInPart (IsDue : Hlds → List ℕ → Type 0) (held held' : Option Files) (file : List ℕ) (steps : ℕ) (name : List ℕ) (out out' : Option (List ℕ)) : Type 0 where
  pub text : List ℕ
  pub is_text : IsText held file text
  pub accepted : Accepted text
  pub kept : IsKeptInPart (IsDue accepted.program) accepted.program steps name held held' out out'

-- what a run of a file, of which something is kept, came to
abbrev pub RunEnds : (IsDue : Hlds → List ℕ → Type 0) → (held held' : Option Files) → (file : List ℕ) → (steps : ℕ) → (name : List ℕ) → (out out' : Option (List ℕ)) → (reads writes outs : Type 0) → Result (Unit {0}) Fault → Type 0
RunEnds IsDue held held' file steps name out out' reads writes outs (Ok done) = HasRun IsDue held held' file steps name out out' Finished
RunEnds IsDue held held' file steps name out out' reads writes outs (Err OutOfSteps) = HasRun IsDue held held' file steps name out out' RanOut
RunEnds IsDue held held' file steps name out out' reads writes outs (Err (Thrown bytes)) = HasRun IsDue held held' file steps name out out' (Threw bytes.items)
RunEnds IsDue held held' file steps name out out' reads writes outs (Err Read) = reads × AreUntouched held held' out out'
RunEnds IsDue held held' file steps name out out' reads writes outs (Err TooLong) = FileIsLonger held file longest × AreUntouched held held' out out'
RunEnds IsDue held held' file steps name out out' reads writes outs (Err (Refused line why)) = IsRefused held file out out' (Refused line why) × (held' ≡ held)
RunEnds IsDue held held' file steps name out out' reads writes outs (Err Write) =
    (outs × HasRunInPart held held' file steps out out') ⊎ (writes × HasKeptInPart IsDue held held' file steps name out out')
RunEnds IsDue held held' file steps name out out' reads writes outs (Err NoMemory) =
    AreUntouched held held' out out' ⊎ (HasRunInPart held held' file steps out out' ⊎ HasKeptInPart IsDue held held' file steps name out out')
RunEnds IsDue held held' file steps name out out' reads writes outs (Err fault) = ⊥
