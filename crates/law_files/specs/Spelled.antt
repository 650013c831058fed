-- What a file and a text may spell: one profile, or none with one first fault.
use Rattle.std.specs.Prelude.{ℕ, ◌≡◌, List}
use Rattle.md_dynamic.specs.Profile.{ProfileRows}
use Rattle.md_deepfile.specs.Format.{Damage}
use Rattle.md_deepfile.specs.Spells.{Spells, IsDamaged}
use Rattle.md_dump.specs.Spells as text

-- ---- files

-- the bytes spell this profile and no other, and nothing is wrong with them
pub record AreWhole (bytes : List ℕ) (f : ProfileRows) : Type 0 where
  pub spelled : Spells bytes f
  pub alone : (g : ProfileRows) → Spells bytes g → g ≡ f
  pub undamaged : (d : Damage) → IsDamaged bytes d → ⊥

-- they spell no profile, and have this damage first and no other
pub record AreDamaged (bytes : List ℕ) (d : Damage) : Type 0 where
  pub damaged : IsDamaged bytes d
  pub alone : (e : Damage) → IsDamaged bytes e → e ≡ d
  pub unspelled : (f : ProfileRows) → Spells bytes f → ⊥

-- ---- texts

-- the text spells this profile and no other, and no line of it is at fault
pub record IsWhole (words : List ℕ) (f : ProfileRows) : Type 0 where
  pub spelled : text.Spells words f
  pub alone : (g : ProfileRows) → text.Spells words g → g ≡ f
  pub faultless : (line : ℕ) → text.IsFirstFault words line → ⊥

-- it spells no profile, and this line of it is the first at fault and the only one that is
pub record IsFaulty (words : List ℕ) (line : ℕ) : Type 0 where
  pub faulty : text.IsFirstFault words line
  pub alone : (n : ℕ) → text.IsFirstFault words n → n ≡ line
  pub unspelled : (f : ProfileRows) → text.Spells words f → ⊥
