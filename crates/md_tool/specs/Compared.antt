-- What `compare` owes of two stored profiles, and what there is of it after the call.
use Rattle.std.specs.Prelude.{ℕ, ◌≡◌, ◌⊎◌, List, [], ◌∷◌, Option, Result, Ok, Err}
use Rattle.md_base.specs.declared.measure.Measure.{Measure}
use Rattle.md_base.specs.Files.{Files}
use Rattle.md_compare.specs.Text.{compare_text}
use Rattle.md_cost.specs.FileView.{IsFileView}
use Rattle.md_cost.specs.View.{View}
use Rattle.md_deepfile.specs.Loads.{FileSpells}
use Rattle.md_dynamic.specs.Profile.{ProfileRows}
use Rattle.md_tool.specs.declared.fault.Fault.{Fault}
use Rattle.md_tool.specs.declared.fault.Fault.TheVariants.{Read, TooLarge, Damaged, TwoEntries, Write, NoMemory}
use Rattle.md_tool.specs.declared.fault.Stopped.{Stopped}
use Rattle.md_tool.specs.Due.{IsWritten, IsWrittenInPart}
use Rattle.md_tool.specs.Stored.{longest_profile}
use Rattle.md_tool.specs.Summed.{StopsAt}

-- ---- what is due

-- the text that compares the views of two profiles
pub record IsComparison (old new : ProfileRows) (by : Measure) (least : ℕ) (text : List ℕ) : Type 0 where
  pub old_view : View
  pub is_old_view : IsFileView old old_view
  pub new_view : View
  pub is_new_view : IsFileView new new_view
  pub is : text ≡ compare_text old_view new_view by least

-- the text that compares the profiles that two files spell
pub record IsComparisonOf (held : Option Files) (old new : List ℕ) (by : Measure) (least : ℕ) (text : List ℕ) : Type 0 where
  pub old_profile : ProfileRows
  pub is_old : FileSpells held old longest_profile old_profile
  pub new_profile : ProfileRows
  pub is_new : FileSpells held new longest_profile new_profile
  pub compared : IsComparison old_profile new_profile by least text

-- ---- how it ended

-- What the comparison of two stored profiles came to, where this file is the one at fault: the new one only where the old one is a
-- profile, as in a sum over the two.
abbrev pub CompareEnds : Option Files → (old new : List ℕ) → Measure → (least : ℕ) → (at : List ℕ) → (out out' : Option (List ℕ)) → (reads outs : Type 0) → Result (Unit {0}) Fault → Type 0
CompareEnds held old new by least at out out' reads outs (Ok done) = IsWritten (IsComparisonOf held old new by least) out out'
CompareEnds held old new by least at out out' reads outs (Err Read) = StopsAt held (old ∷ new ∷ []) at reads Read × (out' ≡ out)
CompareEnds held old new by least at out out' reads outs (Err (TooLarge most)) = StopsAt held (old ∷ new ∷ []) at reads (TooLarge most) × (out' ≡ out)
CompareEnds held old new by least at out out' reads outs (Err (Damaged place kind)) = StopsAt held (old ∷ new ∷ []) at reads (Damaged place kind) × (out' ≡ out)
CompareEnds held old new by least at out out' reads outs (Err (TwoEntries clique a b)) = StopsAt held (old ∷ new ∷ []) at reads (TwoEntries clique a b) × (out' ≡ out)
CompareEnds held old new by least at out out' reads outs (Err Write) = outs × IsWrittenInPart (IsComparisonOf held old new by least) out out'
CompareEnds held old new by least at out out' reads outs (Err NoMemory) = (out' ≡ out) ⊎ IsWrittenInPart (IsComparisonOf held old new by least) out out'
CompareEnds held old new by least at out out' reads outs (Err fault) = ⊥

-- the same where the answer names the file
abbrev pub CompareStops : Option Files → (old new : List ℕ) → Measure → (least : ℕ) → (out out' : Option (List ℕ)) → (reads outs : Type 0) → Result (Unit {0}) Stopped → Type 0
CompareStops held old new by least out out' reads outs (Ok done) = IsWritten (IsComparisonOf held old new by least) out out'
CompareStops held old new by least out out' reads outs (Err stopped) = CompareEnds held old new by least stopped.file.now out out' reads outs (Err stopped.fault)

-- whichever file it is
abbrev pub SomeCompareEnds : Option Files → (old new : List ℕ) → Measure → (least : ℕ) → (out out' : Option (List ℕ)) → (reads outs : Type 0) → Result (Unit {0}) Fault → Type 0
SomeCompareEnds held old new by least out out' reads outs r = (at : List ℕ) × CompareEnds held old new by least at out out' reads outs r
