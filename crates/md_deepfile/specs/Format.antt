-- A format as a reader's text: what comes next at each byte, and which rules are tested where.
use Rattle.std.specs.Prelude.{ℕ, zero, suc, ◌+◌, ◌-◌, ◌==◌, Bool, true, false, List, [], ◌∷◌, ◌++◌, Option, None, Some, Result, Ok, Err, if◌then◌else◌}
use Rattle.std.specs.Int.{w32, from_le_bytes}
use Rattle.md_deepfile.specs.declared.damage.Kind.{Kind}
use Rattle.md_deepfile.specs.declared.damage.Kind.TheVariants as kinds

-- a broken rule and its place
pub record Damage : Type 0 where
  pub at : ℕ
  pub kind : Kind

-- The end, with what was read, and how many bytes before the end an orphan stands, if there is one; a byte, and what
-- follows it; or a rule that is tested, with its kind and how many bytes back its place is.
pub data Format (F : Type 0) : Type 0 where
  done : Option ℕ → F → Format F
  byte : (ℕ → Format F) → Format F
  must : Kind → ℕ → Bool → Format F → Format F

module _ {F : Type 0} where
  abbrev pub damage : ℕ → Kind → Result F Damage
  damage at kind = Err (record { at = at; kind = kind })

  abbrev pub ended : Option ℕ → F → ℕ → Result F Damage
  ended None f at = Ok f
  ended (Some back) f at = damage (at - back) kinds.Orphan

  -- reads bytes from this place on by a format: what they spell, or the first broken rule
  abbrev pub read : Format F → ℕ → List ℕ → Result F Damage
  read (done orphan f) at [] = ended orphan f at
  read (done orphan f) at (b ∷ bs) = damage at kinds.Trailing
  read (byte next) at [] = damage at kinds.Short
  read (byte next) at (b ∷ bs) = read (next b) (at + 1) bs
  read (must kind back fine next) at bs = if fine then read next at bs else damage (at - back) kind

  -- so many bytes more behind those that came
  abbrev pub bytes : ℕ → List ℕ → (List ℕ → Format F) → Format F
  bytes zero front next = next front
  bytes (suc n) front next = byte (λ b. bytes n (front ++ b ∷ []) next)

  -- a number of four bytes, the least one first
  abbrev pub number : (ℕ → Format F) → Format F
  number next = bytes 4 [] (λ bs. next (from_le_bytes w32 bs))

  -- so many numbers more behind those that came
  abbrev pub numbers : ℕ → List ℕ → (List ℕ → Format F) → Format F
  numbers zero front next = next front
  numbers (suc n) front next = number (λ m. numbers n (front ++ m ∷ []) next)

  -- a name with its length before it
  abbrev pub text : (List ℕ → Format F) → Format F
  text next = byte (λ n. bytes n [] next)

  -- these very bytes
  abbrev pub exactly : List ℕ → Format F → Format F
  exactly [] next = next
  exactly (m ∷ ms) next = byte (λ b. must kinds.Magic 1 (b == m) (exactly ms next))

  -- so many things, each behind what was read before it
  abbrev pub several : (F → (F → Format F) → Format F) → ℕ → F → (F → Format F) → Format F
  several thing zero f next = next f
  several thing (suc n) f next = thing f (λ g. several thing n g next)

-- a damage that stays however the bytes go on
abbrev pub is_decided : Kind → Bool
is_decided kinds.Short = false
is_decided kinds.Orphan = false
is_decided kinds.Magic = true
is_decided kinds.Trailing = true
is_decided kinds.Range = true
is_decided kinds.Text = true
is_decided kinds.SiteMismatch = true
is_decided kinds.DoubleLink = true
is_decided kinds.Flag = true
