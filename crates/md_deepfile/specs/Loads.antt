-- What a load tells of a file.
use Rattle.std.specs.Prelude.{ℕ, ◌≤◌, List, length, Option}
use Rattle.md_base.specs.Files.{Files, FileIs, FileIsLonger}
use Rattle.md_dynamic.specs.Profile.{ProfileRows}
use Rattle.md_deepfile.specs.Decoding.{Decoding, HasTaken}
use Rattle.md_deepfile.specs.Format.{Damage}
use Rattle.md_deepfile.specs.Spells.{Spells, IsDamaged}
use Rattle.md_deepfile.specs.declared.loading.LoadFault.{LoadFault}
use Rattle.md_deepfile.specs.declared.loading.LoadFault.TheVariants as loads

-- the file has these bytes, at most so many, and they spell the profile
abbrev pub FileSpells : Option Files → List ℕ → ℕ → ProfileRows → Type 0
FileSpells told name max f = (bytes : List ℕ) × FileIs told name bytes × (length bytes ≤ max) × Spells bytes f

-- or they have this damage
abbrev pub FileIsDamaged : Option Files → List ℕ → ℕ → Damage → Type 0
FileIsDamaged told name max d = (bytes : List ℕ) × FileIs told name bytes × (length bytes ≤ max) × IsDamaged bytes d

-- when each fault of a load may come
abbrev pub IsLoadFault : Option Files → List ℕ → ℕ → LoadFault → Type 0
IsLoadFault told name max (loads.Damage at kind) = FileIsDamaged told name max (record { at = at; kind = kind })
IsLoadFault told name max loads.TooLarge = FileIsLonger told name max
IsLoadFault told name max loads.Read = Unit {0}
IsLoadFault told name max loads.NoMemory = Unit {0}

-- the decoder has taken the whole file
abbrev pub FileTaken : Option Files → List ℕ → ℕ → Decoding → Type 0
FileTaken told name max d = (bytes : List ℕ) × FileIs told name bytes × (length bytes ≤ max) × HasTaken d bytes

-- the damage of these bytes, or want of memory
abbrev pub IsFinished : List ℕ → LoadFault → Type 0
IsFinished bytes (loads.Damage at kind) = IsDamaged bytes (record { at = at; kind = kind })
IsFinished bytes loads.TooLarge = ⊥
IsFinished bytes loads.Read = ⊥
IsFinished bytes loads.NoMemory = Unit {0}

-- a fault of the store alone
abbrev pub IsStoreFault : LoadFault → Type 0
IsStoreFault (loads.Damage at kind) = ⊥
IsStoreFault loads.TooLarge = ⊥
IsStoreFault loads.Read = Unit {0}
IsStoreFault loads.NoMemory = Unit {0}
