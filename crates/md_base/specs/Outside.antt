-- Faults of the outside, and what a stream and a sink hold.
use Rattle.std.specs.Prelude.{ℕ, ◌≡◌, ◌⊎◌, ◌+◌, ◌<◌, ◌≤◌, min, List, ◌++◌, length, take, Option, Result, IsErrOf, option_map}

-- the last value of a counter of 64 bits
abbrev pub last_count : ℕ
last_count = 18446744073709551615

-- a counter after one step more: it stands at its last value
abbrev pub one_more : ℕ → ℕ
one_more count = min (count + 1) last_count

-- a count of faults rose: it is greater than before, or it stands at the last value of a counter
abbrev pub Rose : ℕ → ℕ → Type 0
Rose before now = (before < now) ⊎ (now ≡ last_count)

-- What a call does to a count of faults, which never falls: where it answers this fault the count is one more, and
-- else it is as it was. So no fault of a device is told as anything else.
pub record HasCause {T F : Type 0} (fault : F) (before now : ℕ) (result : Result T F) : Type 0 where
  pub later : before ≤ now
  pub raised : IsErrOf result fault → now ≡ one_more before
  pub kept : (IsErrOf result fault → ⊥) → now ≡ before

-- n bytes of this piece are taken, at least one of a piece that isn't empty
pub record Takes (n : ℕ) (piece : List ℕ) : Type 0 where
  pub within : n ≤ length piece
  pub some : 0 < length piece → 0 < n

-- n bytes of what is left are given at the front of a buffer: at least one while there are any and the buffer
-- isn't empty, so that 0 in such a buffer is the end
pub record Gives (left : List ℕ) (n : ℕ) (buf : List ℕ) : Type 0 where
  pub within : n ≤ length buf
  pub enough : n ≤ length left
  pub given : take n buf ≡ take n left
  pub some : 0 < length buf → 0 < length left → 0 < n

-- what a sink that tells its content holds, with this piece added at its end
abbrev pub added : List ℕ → Option (List ℕ) → Option (List ℕ)
added piece told = option_map (λ bytes. bytes ++ piece) told

-- some front of the piece was added
pub record PartAdded (piece : List ℕ) (before now : Option (List ℕ)) : Type 0 where
  pub count : ℕ
  pub within : count ≤ length piece
  pub is_added : now ≡ added (take count piece) before
