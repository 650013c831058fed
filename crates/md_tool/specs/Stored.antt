-- What `page` and `migrate` owe of a stored profile, and what there is of it after the call.
use Rattle.std.specs.Prelude.{ℕ, ◌≡◌, ◌⊎◌, List, Option, Result, Ok, Err, length, codes}
use Rattle.md_base.specs.Outside.{added, PartAdded}
use Rattle.md_base.specs.Files.{Files, FileIsLonger, HoldsPart, holding}
use Rattle.md_cost.specs.FileView.{IsFileView}
use Rattle.md_cost.specs.Tree.{IsTree, HasNoTree}
use Rattle.md_deepfile.specs.Bytes.{file_bytes}
use Rattle.md_deepfile.specs.Loads.{FileSpells, FileIsDamaged}
use Rattle.md_cost.specs.Loading.{LoadedRows}
use Rattle.md_dynamic.specs.Profile.{ProfileRows}
use Rattle.md_dynamic.specs.Valid.{IsValid}
use Rattle.md_query.specs.Asked.{Asked}
use Rattle.md_tool.specs.declared.fault.Fault.{Fault}
use Rattle.md_tool.specs.declared.fault.Fault.TheVariants.{Read, TooLarge, Damaged, TwoEntries, NoSuchPage, Write, NoMemory}
use Rattle.md_tool.specs.Paged.{PageEnds}
use Rattle.md_tool.specs.Kept.{AreUntouched}

-- the longest profile file that is asked, and that is brought into the newer form, in bytes
abbrev pub longest_profile : ℕ
longest_profile = 1073741824

abbrev pub longest_migrated : ℕ
longest_migrated = 268435456

-- why a stored profile isn't read: `reads` is what the store's count says
abbrev pub LoadFails : Option Files → (name : List ℕ) → (most : ℕ) → (reads : Type 0) → Fault → Type 0
LoadFails held name most reads Read = reads
LoadFails held name most reads (TooLarge n) = (n ≡ most) × FileIsLonger held name most
LoadFails held name most reads (Damaged at kind) = FileIsDamaged held name most (record { at = at; kind = kind })
LoadFails held name most reads NoMemory = Unit {0}
LoadFails held name most reads fault = ⊥

-- the file spells a profile one of whose cliques is entered by two links, the lowest such clique and its first two links
pub record IsTwiceEntered (held : Option Files) (name : List ℕ) (clique a b : ℕ) : Type 0 where
  pub profile : ProfileRows
  pub spelled : FileSpells held name longest_profile profile
  pub twice : HasNoTree (length profile.nodes) profile.links clique a b

-- the file spells a profile whose page was asked for, and the writing of the page came to this
pub record HasAnswered (held : Option Files) (name : List ℕ) (query : Asked) (out out' : Option (List ℕ)) (outs : Type 0) (r : Result (Unit {0}) Fault) : Type 0 where
  pub profile : ProfileRows
  pub spelled : FileSpells held name longest_profile profile
  pub ends : PageEnds (IsFileView profile) query out out' outs r

-- what the page of a stored profile came to
abbrev pub StoredEnds : Option Files → (name : List ℕ) → Asked → (out out' : Option (List ℕ)) → (reads outs : Type 0) → Result (Unit {0}) Fault → Type 0
StoredEnds held name query out out' reads outs (Ok done) = HasAnswered held name query out out' outs (Ok done)
StoredEnds held name query out out' reads outs (Err Read) = reads × (out' ≡ out)
StoredEnds held name query out out' reads outs (Err (TooLarge n)) = (n ≡ longest_profile) × FileIsLonger held name longest_profile × (out' ≡ out)
StoredEnds held name query out out' reads outs (Err (Damaged at kind)) = FileIsDamaged held name longest_profile (record { at = at; kind = kind }) × (out' ≡ out)
StoredEnds held name query out out' reads outs (Err (TwoEntries clique a b)) = IsTwiceEntered held name clique a b × (out' ≡ out)
StoredEnds held name query out out' reads outs (Err NoSuchPage) = HasAnswered held name query out out' outs (Err NoSuchPage)
StoredEnds held name query out out' reads outs (Err Write) = HasAnswered held name query out out' outs (Err Write)
StoredEnds held name query out out' reads outs (Err NoMemory) = (out' ≡ out) ⊎ HasAnswered held name query out out' outs (Err NoMemory)
StoredEnds held name query out out' reads outs (Err fault) = ⊥

-- ---- `migrate`

abbrev pub migrated : List ℕ
migrated = codes "migrated\n"

-- the file spells a profile, and the new one has it in the newer form; that was told
pub record HasMigrated (held held' : Option Files) (name new : List ℕ) (out out' : Option (List ℕ)) : Type 0 where
  pub profile : ProfileRows
  pub spelled : FileSpells held name longest_migrated profile
  pub stored : held' ≡ holding new (file_bytes profile) held
  pub told : out' ≡ added migrated out

-- the file spells a profile, and the new one is as it was or has a front of it
pub record HasMigratedInPart (held held' : Option Files) (name new : List ℕ) (out out' : Option (List ℕ)) : Type 0 where
  pub profile : ProfileRows
  pub spelled : FileSpells held name longest_migrated profile
  pub stored : HoldsPart new (file_bytes profile) held held'
  pub untold : out' ≡ out

-- the file spells a profile, and the new one has it; a front of what tells so was written
pub record HasMigratedUntold (held held' : Option Files) (name new : List ℕ) (out out' : Option (List ℕ)) : Type 0 where
  pub profile : ProfileRows
  pub spelled : FileSpells held name longest_migrated profile
  pub stored : held' ≡ holding new (file_bytes profile) held
  pub told : PartAdded migrated out out'

-- what the migration of a stored profile came to
abbrev pub MigrateEnds : (held held' : Option Files) → (name new : List ℕ) → (out out' : Option (List ℕ)) → (reads writes outs : Type 0) → Result (Unit {0}) Fault → Type 0
MigrateEnds held held' name new out out' reads writes outs (Ok done) = HasMigrated held held' name new out out'
MigrateEnds held held' name new out out' reads writes outs (Err Read) = reads × AreUntouched held held' out out'
MigrateEnds held held' name new out out' reads writes outs (Err (TooLarge n)) = (n ≡ longest_migrated) × FileIsLonger held name longest_migrated × AreUntouched held held' out out'
MigrateEnds held held' name new out out' reads writes outs (Err (Damaged at kind)) = FileIsDamaged held name longest_migrated (record { at = at; kind = kind }) × AreUntouched held held' out out'
MigrateEnds held held' name new out out' reads writes outs (Err Write) = (writes × HasMigratedInPart held held' name new out out') ⊎ (outs × HasMigratedUntold held held' name new out out')
MigrateEnds held held' name new out out' reads writes outs (Err NoMemory) =
    AreUntouched held held' out out' ⊎ (HasMigratedInPart held held' name new out out' ⊎ HasMigratedUntold held held' name new out out')
MigrateEnds held held' name new out out' reads writes outs (Err fault) = ⊥

-- ---- what was read

-- the profile that the file spells, which is valid
pub record IsStored (held : Option Files) (name : List ℕ) (most : ℕ) (f : ProfileRows) : Type 0 where
  pub spelled : FileSpells held name most f
  pub valid : IsValid f

-- it was loaded: but for the root's each of its cliques is entered by exactly one link
pub record IsLoadedFrom (held : Option Files) (name : List ℕ) (loaded : LoadedRows) : Type 0 where
  pub spelled : FileSpells held name longest_profile loaded.profile
  pub tree : IsTree (length loaded.profile.nodes) loaded.profile.links loaded.cliques loaded.entries

-- why it wasn't
abbrev pub ViewFails : Option Files → (name : List ℕ) → (reads : Type 0) → Fault → Type 0
ViewFails held name reads (TwoEntries clique a b) = IsTwiceEntered held name clique a b
ViewFails held name reads fault = LoadFails held name longest_profile reads fault
