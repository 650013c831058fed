-- What was read of a connection.
use Rattle.std.specs.Prelude.{ℕ, ◌≡◌, ◌<◌, ◌≤◌, ◌||◌, Bool, false, IsTrue, List, ◌++◌, length, Option, None, Some}
use Rattle.md_base.specs.Streams.{Stream}
use Rattle.md_http.specs.Heard.{IsOpen, IsDecided, most_bytes}

-- these bytes were read of a stream, and its end was met behind them
pub record ReadsOf (before : Stream) (now : Option Stream) (bytes : List ℕ) (ended : Bool) : Type 0 where
  pub rest : List ℕ
  pub left : before.left ≡ bytes ++ rest
  pub is : now ≡ Some (record { taken = before.taken ++ bytes; left = rest; ended = before.ended || ended })

-- the same where the stream is told
abbrev pub HasRead : (before now : Option Stream) (bytes : List ℕ) (ended : Bool) → Type 0
HasRead None now bytes ended = now ≡ None
HasRead (Some before) now bytes ended = ReadsOf before now bytes ended

-- more is to be read: the bytes don't decide
pub record IsWaiting (bytes : List ℕ) : Type 0 where
  pub still : IsOpen bytes
  pub few : length bytes < most_bytes

-- a connection was read until its bytes decided, and no further: they are at most 8,192, and its end was met only where
-- they didn't decide without it
pub record HasHeard (before now : Option Stream) (bytes : List ℕ) : Type 0 where
  pub ended : Bool
  pub read : HasRead before now bytes ended
  pub within : length bytes ≤ most_bytes
  pub decided : IsDecided bytes ended
  pub waited : IsTrue ended → IsWaiting bytes

-- a connection was read, and its bytes don't decide
pub record StillWaits (before now : Option Stream) : Type 0 where
  pub bytes : List ℕ
  pub read : HasRead before now bytes false
  pub waiting : IsWaiting bytes

-- a connection was read until its bytes decided, whichever they are
pub record WasHeard (before now : Option Stream) : Type 0 where
  pub bytes : List ℕ
  pub heard : HasHeard before now bytes

-- A connection was read no further than it may be: not at all; up to bytes that don't decide, which hold no head and are
-- fewer than 8,192; or until its bytes decided, of which there are at most 8,192.
pub data ReadNoFurther (before now : Option Stream) : Type 0 where
  unread : now ≡ before → ReadNoFurther before now
  undecided : StillWaits before now → ReadNoFurther before now
  decided : WasHeard before now → ReadNoFurther before now
