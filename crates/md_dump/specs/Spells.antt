-- Which text spells a profile, and the fault of those that spell none.
use Rattle.std.specs.Prelude.{ℕ, ◌≡◌, List, Result, Ok, Err}
use Rattle.md_dynamic.specs.Profile.{ProfileRows}
use Rattle.md_dynamic.specs.Valid.{IsValid}
use Rattle.md_deepfile.specs.Spells.{HasRoom}
use Rattle.md_dump.specs.Due.{parts_of, read}
use Rattle.md_dump.specs.Lines.{profile_text}
use Rattle.md_dump.specs.Text.{dump_text}
use Rattle.md_dump.specs.declared.fault.DumpFault.{DumpFault}
use Rattle.md_dump.specs.declared.fault.DumpFault.TheVariants.{Line, NoMemory}

-- The profile is valid, its numbers aren't too great, and this is its text.
pub record Spells (text : List ℕ) (f : ProfileRows) : Type 0 where
  pub valid : IsValid f
  pub room : HasRoom f
  pub is : text ≡ dump_text f

-- this is the first line of the text at fault
abbrev pub IsFirstFault : List ℕ → ℕ → Type 0
IsFirstFault text n = read profile_text 0 (parts_of text) ≡ Err n

-- the fault is that of the text, or want of memory
abbrev pub IsFaultOf : List ℕ → DumpFault → Type 0
IsFaultOf text (Line n) = IsFirstFault text n
IsFaultOf text NoMemory = Unit {0}

-- what was read is this profile, or memory was refused
abbrev pub Reads : ProfileRows → Result ProfileRows DumpFault → Type 0
Reads f (Ok g) = g ≡ f
Reads f (Err (Line n)) = ⊥
Reads f (Err NoMemory) = Unit {0}
