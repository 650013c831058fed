-- Which bytes spell a profile, and the damage of those that don't.
use Rattle.std.specs.Prelude.{ℕ, ◌≡◌, ◌⊎◌, ◌<◌, ◌^◌, List, All, Result, Ok, Err}
use Rattle.md_base.specs.declared.measure.Counts.{Counts}
use Rattle.md_dynamic.specs.Profile.{ProfileRows}
use Rattle.md_dynamic.specs.Valid.{IsValid}
use Rattle.md_deepfile.specs.Bytes.{file_bytes, file_bytes1}
use Rattle.md_deepfile.specs.Fields.{profile_file}
use Rattle.md_deepfile.specs.Format.{Damage, read}
use Rattle.md_deepfile.specs.declared.damage.DecodeFault.{DecodeFault}
use Rattle.md_deepfile.specs.declared.damage.DecodeFault.TheVariants.{Damage as Damaged, NoMemory}

pub record AreSmall (own : Counts) : Type 0 where
  pub calls : own.calls < 2 ^ 32
  pub exits : own.exits < 2 ^ 32
  pub fails : own.fails < 2 ^ 32
  pub redos : own.redos < 2 ^ 32
  pub allocs : own.allocs < 2 ^ 32
  pub words : own.words < 2 ^ 32
  pub excps : own.excps < 2 ^ 32

-- the numbers that no rule bounds have room in their fields
pub record HasRoom (f : ProfileRows) : Type 0 where
  pub arities : All (λ p. p.arity < 256) f.statics.procs
  pub lines : All (λ x. x.line < 2 ^ 32) f.statics.sites
  pub counts : All (λ l. AreSmall l.own) f.links

-- The profile is valid, and these bytes are its file of version 2, or that of version 1 where no link has an exception.
pub record Spells (bs : List ℕ) (f : ProfileRows) : Type 0 where
  pub valid : IsValid f
  pub room : HasRoom f
  pub are : (bs ≡ file_bytes f) ⊎ ((bs ≡ file_bytes1 f) × All (λ l. l.own.excps ≡ 0) f.links)

-- these bytes break this rule first, at this place
abbrev pub IsDamaged : List ℕ → Damage → Type 0
IsDamaged bs d = read profile_file 0 bs ≡ Err d

-- the fault is the damage of these bytes, or want of memory
abbrev pub IsFaultOf : List ℕ → DecodeFault → Type 0
IsFaultOf bs (Damaged at kind) = IsDamaged bs (record { at = at; kind = kind })
IsFaultOf bs NoMemory = Unit {0}

-- what was read is this profile, or memory was refused
abbrev pub Reads : ProfileRows → Result ProfileRows DecodeFault → Type 0
Reads f (Ok g) = g ≡ f
Reads f (Err (Damaged at kind)) = ⊥
Reads f (Err NoMemory) = Unit {0}
