-- Nets: connections to come, and connections that were served.
use Rattle.std.specs.Prelude.{ℕ, ◌≡◌, List, [], ◌∷◌, ◌++◌, Option, None, Some}
use Rattle.md_base.specs.Streams.{Stream, fresh}

-- a connection as it stood when it was served: its stream, what was written to it, and its counts of faults,
-- which were 0 when the net gave it
pub record Connection : Type 0 where
  pub stream : Stream
  pub written : List ℕ
  pub read_faults : ℕ
  pub write_faults : ℕ

-- the connections to come, each by the bytes that it will send, and those that were served, in order
pub record Connections : Type 0 where
  pub coming : List (List ℕ)
  pub served : List Connection

-- what a connection tells when it is served, where it tells anything
abbrev pub connection_of : Option Stream → Option (List ℕ) → ℕ → ℕ → Option Connection
connection_of (Some stream) (Some written) read_faults write_faults =
    Some (record { stream = stream; written = written; read_faults = read_faults; write_faults = write_faults })
connection_of (Some stream) None read_faults write_faults = None
connection_of None written read_faults write_faults = None

-- what a net holds when a connection was served
abbrev pub with_served : Option Connection → Option Connections → Option Connections
with_served (Some connection) (Some net) =
    Some (record { coming = net.coming; served = net.served ++ connection ∷ [] })
with_served (Some connection) None = None
with_served None net = None

-- there is no connection to come
abbrev pub NoneComing : Option Connections → Type 0
NoneComing None = Unit {0}
NoneComing (Some net) = net.coming ≡ []

-- the first connection to come was given: nothing was read from it and nothing written to it
pub record GivesFirst (net : Connections) (now : Option Connections) (stream : Option Stream) (written : Option (List ℕ)) : Type 0 where
  pub input : List ℕ
  pub rest : List (List ℕ)
  pub first : net.coming ≡ input ∷ rest
  pub others : now ≡ Some (record { coming = rest; served = net.served })
  pub unread : stream ≡ Some (fresh input)
  pub unwritten : written ≡ Some []

abbrev pub TakesFirst : Option Connections → Option Connections → Option Stream → Option (List ℕ) → Type 0
TakesFirst None now stream written = now ≡ None
TakesFirst (Some net) now stream written = GivesFirst net now stream written
