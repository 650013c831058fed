-- What a decoder knows of the bytes that it was fed.
use Rattle.std.specs.Prelude.{ℕ, ◌≡◌, ◌<◌, ◌≤◌, true, false, List, ◌++◌, length, drop, Option, None, Some, Result, Ok, Err, All}
use Rattle.md_deepfile.specs.Fields.{Text, profile_file}
use Rattle.md_deepfile.specs.Format.{Damage, read, is_decided}
use Rattle.md_deepfile.specs.State.{State, form_of, IsReady}
use Rattle.md_deepfile.specs.declared.damage.DecodeFault.{DecodeFault}
use Rattle.md_deepfile.specs.declared.damage.DecodeFault.TheVariants.{Damage as Damaged, NoMemory}

-- where it stands, or why it stopped
pub record Decoding : Type 0 where
  pub stopped : Option DecodeFault
  pub state : State

-- whatever follows these bytes, it is taken from here, or their damage stays
abbrev pub StandsAt : Option DecodeFault → State → List ℕ → Type 0
StandsAt None s bs = (rest : List ℕ) → read profile_file 0 (bs ++ rest) ≡ read (form_of s) s.at rest
StandsAt (Some (Damaged at kind)) s bs = (is_decided kind ≡ true) × ((rest : List ℕ) → read profile_file 0 (bs ++ rest) ≡ Err (record { at = at; kind = kind }))
StandsAt (Some NoMemory) s bs = Unit {0}

-- the decoder was fed these bytes
pub record HasTaken (d : Decoding) (bs : List ℕ) : Type 0 where
  pub bytes : All (λ b. b < 256) bs
  pub stands : StandsAt d.stopped d.state bs

-- a decoder that hasn't stopped can take a byte
abbrev pub IsOpen : Option DecodeFault → State → Type 0
IsOpen None s = IsReady s
IsOpen (Some fault) s = Unit {0}

-- After bytes that were fed: no damage of them is decided yet, or this is their damage, and it stays however they go on.
abbrev pub Tells : Result (Unit {0}) DecodeFault → List ℕ → Type 0
Tells (Ok u) bs = (d : Damage) → read profile_file 0 bs ≡ Err d → is_decided d.kind ≡ false
Tells (Err (Damaged at kind)) bs = (is_decided kind ≡ true) × (read profile_file 0 bs ≡ Err (record { at = at; kind = kind }))
Tells (Err NoMemory) bs = Unit {0}

-- what was to be taken of these bytes and those behind them is taken from where the reader stands now, or that is their damage
abbrev pub FollowsBytes : Text → List ℕ → ℕ → State → Result (Unit {0}) DecodeFault → Type 0
FollowsBytes form piece at now (Ok u) = (rest : List ℕ) → read form at (piece ++ rest) ≡ read (form_of now) now.at rest
FollowsBytes form piece at now (Err (Damaged place kind)) = (is_decided kind ≡ true) × ((rest : List ℕ) → read form at (piece ++ rest) ≡ Err (record { at = place; kind = kind }))
FollowsBytes form piece at now (Err NoMemory) = Unit {0}

-- all these bytes are taken, and it goes on where the reader stands now
abbrev pub TakesAll : Text → List ℕ → ℕ → State → Type 0
TakesAll form piece at now = (rest : List ℕ) → read form at (piece ++ rest) ≡ read (form_of now) now.at rest

-- so many of these bytes are taken, at least one, and it goes on with the others where the reader stands now, or this is their damage
abbrev pub FollowsSome : Text → List ℕ → ℕ → State → Result ℕ DecodeFault → Type 0
FollowsSome form piece at now (Ok n) = (1 ≤ n) × (n ≤ length piece) × ((rest : List ℕ) → read form at (piece ++ rest) ≡ read (form_of now) now.at (drop n piece ++ rest))
FollowsSome form piece at now (Err (Damaged place kind)) = (is_decided kind ≡ true) × ((rest : List ℕ) → read form at (piece ++ rest) ≡ Err (record { at = place; kind = kind }))
FollowsSome form piece at now (Err NoMemory) = Unit {0}
