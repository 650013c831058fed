-- What a command owes, and what there is of it after the call.
use Rattle.std.specs.Prelude.{ℕ, ◌≡◌, ◌⊎◌, ◌≤◌, Bool, true, false, List, length, Option, Result, Ok, Err, codes}
use Rattle.md_base.specs.Outside.{added, PartAdded}
use Rattle.md_base.specs.Files.{Files, FileIs, FileIsLonger, HoldsPart, holding}
use Rattle.md_hlds.specs.Hlds.{Hlds}
use Rattle.md_printer.specs.Printed.{printed}
use Rattle.md_tool.specs.declared.fault.Fault.{Fault}
use Rattle.md_tool.specs.declared.fault.Fault.TheVariants.{Read, TooLong, Refused, NoSuchPage, Write, NoMemory}
use Rattle.md_tool.specs.Accepted.{Accepted, NotAccepted}

-- the longest text of a program, in bytes
abbrev pub longest : ℕ
longest = 1048576

-- ---- the file

-- the text of a file, which is short enough for a program
pub record IsText (held : Option Files) (file text : List ℕ) : Type 0 where
  pub is_file : FileIs held file text
  pub short : length text ≤ longest

-- why a file's text isn't read: `read_faults_rose` is what the store's count says
abbrev pub ReadFails : Option Files → List ℕ → Type 0 → Fault → Type 0
ReadFails held file read_faults_rose Read = read_faults_rose
ReadFails held file read_faults_rose TooLong = FileIsLonger held file longest
ReadFails held file read_faults_rose NoMemory = Unit {0}
ReadFails held file read_faults_rose fault = ⊥

-- the file's text isn't accepted, for this reason, and nothing was written
pub record IsRefused (held : Option Files) (file : List ℕ) (before now : Option (List ℕ)) (fault : Fault) : Type 0 where
  pub text : List ℕ
  pub is_text : IsText held file text
  pub cause : NotAccepted text fault
  pub untouched : now ≡ before

-- ---- writing

-- the bytes were written, or a front of them: `writes` says that the sink's count of faults rose
abbrev pub WriteEnds : List ℕ → Option (List ℕ) → Option (List ℕ) → Type 0 → Result (Unit {0}) Fault → Type 0
WriteEnds bytes before now writes (Ok done) = now ≡ added bytes before
WriteEnds bytes before now writes (Err Write) = writes × PartAdded bytes before now
WriteEnds bytes before now writes (Err NoMemory) = PartAdded bytes before now
WriteEnds bytes before now writes (Err fault) = ⊥

-- ---- a text that is due

-- such a text was written
pub record IsWritten (IsDue : List ℕ → Type 0) (before now : Option (List ℕ)) : Type 0 where
  pub text : List ℕ
  pub is_due : IsDue text
  pub written : now ≡ added text before

-- a front of it was written
pub record IsWrittenInPart (IsDue : List ℕ → Type 0) (before now : Option (List ℕ)) : Type 0 where
  pub text : List ℕ
  pub is_due : IsDue text
  pub written : PartAdded text before now

-- what the writing of it came to, where there may be none: `writes` says that the stream's count of faults rose
abbrev pub TextEnds : (IsDue : List ℕ → Type 0) → (HasNone : Type 0) → (before now : Option (List ℕ)) → (writes : Type 0) → Result (Unit {0}) Fault → Type 0
TextEnds IsDue HasNone before now writes (Ok done) = IsWritten IsDue before now
TextEnds IsDue HasNone before now writes (Err NoSuchPage) = HasNone × (now ≡ before)
TextEnds IsDue HasNone before now writes (Err Write) = writes × IsWrittenInPart IsDue before now
TextEnds IsDue HasNone before now writes (Err NoMemory) = (now ≡ before) ⊎ IsWrittenInPart IsDue before now
TextEnds IsDue HasNone before now writes (Err fault) = ⊥

-- ---- `check`

-- what `check` writes of an accepted program: that it is, or its printed text
abbrev pub check_output : Bool → Hlds → List ℕ
check_output true program = printed program
check_output false program = codes "accepted\n"

-- the file's text is accepted, and that was written
pub record HasChecked (held : Option Files) (file : List ℕ) (print : Bool) (before now : Option (List ℕ)) : Type 0 where
  pub text : List ℕ
  pub is_text : IsText held file text
  pub accepted : Accepted text
  pub written : now ≡ added (check_output print accepted.program) before

-- the file's text is accepted, and a front of what says so was written
pub record HasCheckedInPart (held : Option Files) (file : List ℕ) (print : Bool) (before now : Option (List ℕ)) : Type 0 where
  pub text : List ℕ
  pub is_text : IsText held file text
  pub accepted : Accepted text
  pub written : PartAdded (check_output print accepted.program) before now

-- what a check of a file came to
abbrev pub CheckEnds : Option Files → List ℕ → Bool → Option (List ℕ) → Option (List ℕ) → Type 0 → Type 0 → Result (Unit {0}) Fault → Type 0
CheckEnds held file print before now reads writes (Ok done) = HasChecked held file print before now
CheckEnds held file print before now reads writes (Err Read) = reads × (now ≡ before)
CheckEnds held file print before now reads writes (Err TooLong) = FileIsLonger held file longest × (now ≡ before)
CheckEnds held file print before now reads writes (Err (Refused line why)) = IsRefused held file before now (Refused line why)
CheckEnds held file print before now reads writes (Err Write) = writes × HasCheckedInPart held file print before now
CheckEnds held file print before now reads writes (Err NoMemory) = (now ≡ before) ⊎ HasCheckedInPart held file print before now
CheckEnds held file print before now reads writes (Err fault) = ⊥

-- ---- a file that is written

-- the bytes were stored under the name, or the file is as it was or has a front of them: `writes` says that the store's
-- count of faults in a write rose
abbrev pub StoreEnds : (name bytes : List ℕ) → (held held' : Option Files) → (writes : Type 0) → Result (Unit {0}) Fault → Type 0
StoreEnds name bytes held held' writes (Ok done) = held' ≡ holding name bytes held
StoreEnds name bytes held held' writes (Err Write) = writes × HoldsPart name bytes held held'
StoreEnds name bytes held held' writes (Err NoMemory) = HoldsPart name bytes held held'
StoreEnds name bytes held held' writes (Err fault) = ⊥
