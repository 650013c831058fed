-- What `dump` and `undump` owe of a stored profile and of the text of one, and what there is of it after the call.
use Rattle.std.specs.Prelude.{ℕ, ◌≡◌, ◌⊎◌, ◌≤◌, List, length, Option, Result, Ok, Err, codes}
use Rattle.md_base.specs.Outside.{added, PartAdded}
use Rattle.md_base.specs.Files.{Files, FileIs, FileIsLonger, HoldsPart, holding}
use Rattle.md_deepfile.specs.Bytes.{file_bytes}
use Rattle.md_deepfile.specs.Loads.{FileSpells, FileIsDamaged}
use Rattle.md_dump.specs.Spells.{Spells, IsFirstFault}
use Rattle.md_dump.specs.Text.{dump_text}
use Rattle.md_dynamic.specs.Profile.{ProfileRows}
use Rattle.md_tool.specs.declared.fault.Fault.{Fault}
use Rattle.md_tool.specs.declared.fault.Fault.TheVariants.{Read, TooLarge, Damaged, DamagedLine, Write, NoMemory}
use Rattle.md_tool.specs.Kept.{AreUntouched}
use Rattle.md_tool.specs.Stored.{longest_profile, longest_migrated}

-- ---- `dump`

-- the file spells a profile, and its text was written
pub record HasDumped (held : Option Files) (name : List ℕ) (out out' : Option (List ℕ)) : Type 0 where
  pub profile : ProfileRows
  pub spelled : FileSpells held name longest_profile profile
  pub written : out' ≡ added (dump_text profile) out

-- the file spells a profile, and a front of its text was written
pub record HasDumpedInPart (held : Option Files) (name : List ℕ) (out out' : Option (List ℕ)) : Type 0 where
  pub profile : ProfileRows
  pub spelled : FileSpells held name longest_profile profile
  pub written : PartAdded (dump_text profile) out out'

-- what the dump of a stored profile came to
abbrev pub DumpEnds : Option Files → (name : List ℕ) → (out out' : Option (List ℕ)) → (reads outs : Type 0) → Result (Unit {0}) Fault → Type 0
DumpEnds held name out out' reads outs (Ok done) = HasDumped held name out out'
DumpEnds held name out out' reads outs (Err Read) = reads × (out' ≡ out)
DumpEnds held name out out' reads outs (Err (TooLarge n)) = (n ≡ longest_profile) × FileIsLonger held name longest_profile × (out' ≡ out)
DumpEnds held name out out' reads outs (Err (Damaged at kind)) = FileIsDamaged held name longest_profile (record { at = at; kind = kind }) × (out' ≡ out)
DumpEnds held name out out' reads outs (Err Write) = outs × HasDumpedInPart held name out out'
DumpEnds held name out out' reads outs (Err NoMemory) = (out' ≡ out) ⊎ HasDumpedInPart held name out out'
DumpEnds held name out out' reads outs (Err fault) = ⊥

-- ---- `undump`

abbrev pub undumped : List ℕ
undumped = codes "undumped\n"

-- the text of a file, which is short enough to be read as a profile
pub record IsDumped (held : Option Files) (name text : List ℕ) : Type 0 where
  pub is_file : FileIs held name text
  pub short : length text ≤ longest_migrated

-- why it isn't read: `reads` is what the store's count says
abbrev pub TextFails : Option Files → (name : List ℕ) → (reads : Type 0) → Fault → Type 0
TextFails held name reads Read = reads
TextFails held name reads (TooLarge n) = (n ≡ longest_migrated) × FileIsLonger held name longest_migrated
TextFails held name reads NoMemory = Unit {0}
TextFails held name reads fault = ⊥

-- the file's text spells this profile
pub record TextSpells (held : Option Files) (name : List ℕ) (f : ProfileRows) : Type 0 where
  pub text : List ℕ
  pub is : IsDumped held name text
  pub spelled : Spells text f

-- the file's text spells none, and this is its first line at fault
pub record TextIsDamaged (held : Option Files) (name : List ℕ) (line : ℕ) : Type 0 where
  pub text : List ℕ
  pub is : IsDumped held name text
  pub fault : IsFirstFault text line

-- why a text isn't read as a profile
abbrev pub UndumpFails : Option Files → (name : List ℕ) → (reads : Type 0) → Fault → Type 0
UndumpFails held name reads Read = reads
UndumpFails held name reads (TooLarge n) = (n ≡ longest_migrated) × FileIsLonger held name longest_migrated
UndumpFails held name reads (DamagedLine line) = TextIsDamaged held name line
UndumpFails held name reads NoMemory = Unit {0}
UndumpFails held name reads fault = ⊥

-- the text spells a profile, the new file has it, and that was told
pub record HasUndumped (held held' : Option Files) (name new : List ℕ) (out out' : Option (List ℕ)) : Type 0 where
  pub profile : ProfileRows
  pub spelled : TextSpells held name profile
  pub stored : held' ≡ holding new (file_bytes profile) held
  pub told : out' ≡ added undumped out

-- the text spells a profile, and the new file is as it was or has a front of it
pub record HasUndumpedInPart (held held' : Option Files) (name new : List ℕ) (out out' : Option (List ℕ)) : Type 0 where
  pub profile : ProfileRows
  pub spelled : TextSpells held name profile
  pub stored : HoldsPart new (file_bytes profile) held held'
  pub untold : out' ≡ out

-- the text spells a profile, and the new file has it; a front of what tells so was written
pub record HasUndumpedUntold (held held' : Option Files) (name new : List ℕ) (out out' : Option (List ℕ)) : Type 0 where
  pub profile : ProfileRows
  pub spelled : TextSpells held name profile
  pub stored : held' ≡ holding new (file_bytes profile) held
  pub told : PartAdded undumped out out'

-- what the bringing back of a profile came to
abbrev pub UndumpEnds : (held held' : Option Files) → (name new : List ℕ) → (out out' : Option (List ℕ)) → (reads writes outs : Type 0) → Result (Unit {0}) Fault → Type 0
UndumpEnds held held' name new out out' reads writes outs (Ok done) = HasUndumped held held' name new out out'
UndumpEnds held held' name new out out' reads writes outs (Err Read) = reads × AreUntouched held held' out out'
UndumpEnds held held' name new out out' reads writes outs (Err (TooLarge n)) = (n ≡ longest_migrated) × FileIsLonger held name longest_migrated × AreUntouched held held' out out'
UndumpEnds held held' name new out out' reads writes outs (Err (DamagedLine line)) = TextIsDamaged held name line × AreUntouched held held' out out'
UndumpEnds held held' name new out out' reads writes outs (Err Write) = (writes × HasUndumpedInPart held held' name new out out') ⊎ (outs × HasUndumpedUntold held held' name new out out')
UndumpEnds held held' name new out out' reads writes outs (Err NoMemory) =
    AreUntouched held held' out out' ⊎ (HasUndumpedInPart held held' name new out out' ⊎ HasUndumpedUntold held held' name new out out')
UndumpEnds held held' name new out out' reads writes outs (Err fault) = ⊥
