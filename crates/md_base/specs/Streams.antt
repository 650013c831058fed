-- Streams, sinks and connections: what they hold, and what a call on one leaves of the other.
use Rattle.std.specs.Prelude.{ℕ, Bool, false, ◌||◌, ◌&&◌, ◌==◌, nat_lt, List, [], ◌++◌, take, drop, Option, None, Some, option_map}
use Rattle.md_base.specs.Outside.{Gives}

-- a stream: the bytes that were read from it, those to come, and whether a read has met its end
pub record Stream : Type 0 where
  pub taken : List ℕ
  pub left : List ℕ
  pub ended : Bool

-- a stream of which nothing was read
abbrev pub fresh : List ℕ → Stream
fresh bytes = record { taken = []; left = bytes; ended = false }

-- after a read of n bytes into a buffer of this size; a 0 for a buffer that isn't empty is the end
abbrev pub after_read : ℕ → ℕ → Option Stream → Option Stream
after_read n size told =
    option_map (λ s. record { taken = s.taken ++ take n s.left; left = drop n s.left; ended = s.ended || ((n == 0) && nat_lt 0 size) }) told

-- n bytes of the stream are given in a buffer
abbrev pub GivesNext : Option Stream → ℕ → List ℕ → Type 0
GivesNext None n buf = Unit {0}
GivesNext (Some s) n buf = Gives s.left n buf

-- what a sink holds, with its count of faults: what a read of the same link leaves
pub record SinkSide : Type 0 where
  pub held : Option (List ℕ)
  pub faults : ℕ

-- what a stream holds, with its count of faults: what a write to the same link leaves
pub record SourceSide : Type 0 where
  pub stream : Option Stream
  pub faults : ℕ

abbrev pub sink_side : Option (List ℕ) → ℕ → SinkSide
sink_side held faults = record { held = held; faults = faults }

abbrev pub source_side : Option Stream → ℕ → SourceSide
source_side stream faults = record { stream = stream; faults = faults }

-- nothing beside it
abbrev pub no_sink : SinkSide
no_sink = sink_side None 0

abbrev pub no_source : SourceSide
no_source = source_side None 0
