-- What `sum` owes of stored profiles, and what there is of it after the call.
use Rattle.std.specs.Prelude.{ℕ, ◌≡◌, ◌⊎◌, List, [], ◌∷◌, ◌++◌, length, Option, Some, Result, Ok, Err, codes, slice_get}
use Rattle.std.specs.Fmt.{decimal}
use Rattle.std.specs.List.{flat_map}
use Rattle.md_base.specs.Outside.{added, PartAdded}
use Rattle.md_base.specs.Files.{Files}
use Rattle.md_cost.specs.Loading.{LoadedRows}
use Rattle.md_dump.specs.Sums.{IsFirstOther, AreOfOne, HaveViews, AreProcSums, SumRows, IsSumOver, statics_at}
use Rattle.md_dump.specs.declared.summing.ProcSum.{ProcSum}
use Rattle.md_render.specs.Lines.{proc_line}
use Rattle.md_static.specs.Tables.{Static}
use Rattle.md_tool.specs.declared.fault.Fault.{Fault}
use Rattle.md_tool.specs.declared.fault.Fault.TheVariants.{Read, TooLarge, Damaged, TwoEntries, AnotherProgram, Write, NoMemory}
use Rattle.md_tool.specs.declared.fault.Stopped.{Stopped}
use Rattle.md_tool.specs.Stored.{IsLoadedFrom, ViewFails}

-- the files of these names spell these profiles, each of which has a view, in their order
abbrev pub AreLoaded : Option Files → (names : List (List ℕ)) → List LoadedRows → Type 0
AreLoaded held [] [] = Unit {0}
AreLoaded held [] (f ∷ fs) = ⊥
AreLoaded held (name ∷ names) [] = ⊥
AreLoaded held (name ∷ names) (f ∷ fs) = IsLoadedFrom held name f × AreLoaded held names fs

-- the files of these names spell such profiles, and this is kept of them, added up one after the other
pub record AreSummed (held : Option Files) (names : List (List ℕ)) (sums : SumRows) : Type 0 where
  pub files : List LoadedRows
  pub loaded : AreLoaded held names files
  pub over : IsSumOver files sums

-- ---- what is due

abbrev pub sum_title : ℕ → List ℕ
sum_title n = codes "mdprof sum " ++ (decimal n ++ 10 ∷ [])

-- a line for each procedure
abbrev pub sum_lines : Static → List ProcSum → List ℕ
sum_lines s rows = flat_map (λ r. proc_line s r.id r.own r.total) rows

-- a title that says how many profiles were added up, and the lines
abbrev pub sum_text : Static → ℕ → List ProcSum → List ℕ
sum_text s n rows = sum_title n ++ sum_lines s rows

-- the text of the sums of profiles of one program
pub record IsSumOf (held : Option Files) (names : List (List ℕ)) (text : List ℕ) : Type 0 where
  pub files : List LoadedRows
  pub loaded : AreLoaded held names files
  pub views : HaveViews files
  pub one : AreOfOne files
  pub statics : Static
  pub statics_are : statics_at files 0 ≡ Some statics
  pub rows : List ProcSum
  pub sums : AreProcSums files rows
  pub is : text ≡ sum_text statics (length names) rows

-- ---- why there is none

-- those before this file are profiles, and it isn't, for this reason
pub record StopsAt (held : Option Files) (names : List (List ℕ)) (at : List ℕ) (reads : Type 0) (fault : Fault) : Type 0 where
  pub before : List (List ℕ)
  pub after : List (List ℕ)
  pub names_are : names ≡ before ++ (at ∷ after)
  pub files : List LoadedRows
  pub loaded : AreLoaded held before files
  pub fails : ViewFails held at reads fault

-- all are profiles, and this file is the first that is of another program than the first one
pub record IsOfAnother (held : Option Files) (names : List (List ℕ)) (at : List ℕ) : Type 0 where
  pub files : List LoadedRows
  pub loaded : AreLoaded held names files
  pub place : ℕ
  pub first : IsFirstOther files place
  pub named : slice_get names place ≡ Some at

-- ---- how it ended

-- the sums were written
pub record HasAddedUp (held : Option Files) (names : List (List ℕ)) (out out' : Option (List ℕ)) : Type 0 where
  pub text : List ℕ
  pub is_due : IsSumOf held names text
  pub written : out' ≡ added text out

-- a front of them was written
pub record HasAddedUpInPart (held : Option Files) (names : List (List ℕ)) (out out' : Option (List ℕ)) : Type 0 where
  pub text : List ℕ
  pub is_due : IsSumOf held names text
  pub written : PartAdded text out out'

-- what the sums of stored profiles came to, where this file is the one at fault
abbrev pub SumEnds : Option Files → (names : List (List ℕ)) → (at : List ℕ) → (out out' : Option (List ℕ)) → (reads outs : Type 0) → Result (Unit {0}) Fault → Type 0
SumEnds held names at out out' reads outs (Ok done) = HasAddedUp held names out out'
SumEnds held names at out out' reads outs (Err Read) = StopsAt held names at reads Read × (out' ≡ out)
SumEnds held names at out out' reads outs (Err (TooLarge most)) = StopsAt held names at reads (TooLarge most) × (out' ≡ out)
SumEnds held names at out out' reads outs (Err (Damaged place kind)) = StopsAt held names at reads (Damaged place kind) × (out' ≡ out)
SumEnds held names at out out' reads outs (Err (TwoEntries clique a b)) = StopsAt held names at reads (TwoEntries clique a b) × (out' ≡ out)
SumEnds held names at out out' reads outs (Err AnotherProgram) = IsOfAnother held names at × (out' ≡ out)
SumEnds held names at out out' reads outs (Err Write) = outs × HasAddedUpInPart held names out out'
SumEnds held names at out out' reads outs (Err NoMemory) = (out' ≡ out) ⊎ HasAddedUpInPart held names out out'
SumEnds held names at out out' reads outs (Err fault) = ⊥

-- the same where the answer names the file
abbrev pub SumStops : Option Files → (names : List (List ℕ)) → (out out' : Option (List ℕ)) → (reads outs : Type 0) → Result (Unit {0}) Stopped → Type 0
SumStops held names out out' reads outs (Ok done) = HasAddedUp held names out out'
SumStops held names out out' reads outs (Err stopped) = SumEnds held names stopped.file.now out out' reads outs (Err stopped.fault)

-- why profiles that were loaded weren't added up
abbrev pub AddUpFails : Option Files → (names : List (List ℕ)) → (at : List ℕ) → Fault → Type 0
AddUpFails held names at AnotherProgram = IsOfAnother held names at
AddUpFails held names at NoMemory = Unit {0}
AddUpFails held names at fault = ⊥

-- whichever file it is
abbrev pub SomeSumEnds : Option Files → (names : List (List ℕ)) → (out out' : Option (List ℕ)) → (reads outs : Type 0) → Result (Unit {0}) Fault → Type 0
SomeSumEnds held names out out' reads outs r = (at : List ℕ) × SumEnds held names at out out' reads outs r
