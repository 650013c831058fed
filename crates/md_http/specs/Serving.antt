-- How connections are served one after the other.
use Rattle.std.specs.Prelude.{ℕ, ◌≡◌, ◌<◌, ◌≤◌, ◌⊎◌, ◌+◌, min, List, [], ◌∷◌, ◌++◌, length, Option, None, Some, Result, Ok, Err}
use Rattle.md_base.specs.Nets.{Connection, Connections}
use Rattle.md_base.specs.Streams.{fresh}
use Rattle.md_cost.specs.View.{View}
use Rattle.md_http.specs.Served.{Ends, ends, IsAnswered, HasReadFault, HasWriteFault, WantsMemory, IsServed}
use Rattle.md_http.specs.declared.link.Served.{Served}
use Rattle.md_http.specs.declared.link.Served.TheVariants as served
use Rattle.md_http.specs.declared.serving.Tally.{Tally}
use Rattle.md_http.specs.declared.serving.ServeFault.{ServeFault}
use Rattle.md_http.specs.declared.serving.ServeFault.TheVariants as fault

-- a connection as it comes, with the bytes that it will send
abbrev pub fresh_ends : (input : List ℕ) → Ends
fresh_ends input = ends (Some (fresh input)) (Some []) 0 0

-- a connection as it stood when it was served
abbrev pub ends_of : Connection → Ends
ends_of connection = ends (Some connection.stream) (Some connection.written) connection.read_faults connection.write_faults

-- Connections that came with these bytes, each as it stood when it was served, and how many were answered. Each answered
-- one got the whole response to the bytes read from it, which decide. Each other one had a fault of its own, and got a
-- front of its response, or nothing where its bytes don't decide.
pub data AreServed (v : View) : (inputs : List (List ℕ)) (connections : List Connection) (answered : ℕ) → Type 0 where
  none : AreServed v [] [] 0
  answered : (inputs : List (List ℕ)) (connections : List Connection) (count : ℕ) (input : List ℕ) (connection : Connection) → AreServed v inputs connections count
      → IsAnswered v (fresh_ends input) (ends_of connection) → AreServed v (inputs ++ (input ∷ [])) (connections ++ (connection ∷ [])) (count + 1)
  not_read : (inputs : List (List ℕ)) (connections : List Connection) (count : ℕ) (input : List ℕ) (connection : Connection) → AreServed v inputs connections count
      → HasReadFault (fresh_ends input) (ends_of connection) → AreServed v (inputs ++ (input ∷ [])) (connections ++ (connection ∷ [])) count
  not_written : (inputs : List (List ℕ)) (connections : List Connection) (count : ℕ) (input : List ℕ) (connection : Connection) → AreServed v inputs connections count
      → HasWriteFault v (fresh_ends input) (ends_of connection) → AreServed v (inputs ++ (input ∷ [])) (connections ++ (connection ∷ [])) count

-- the first connections to come were served, in order, and each was given back
pub record HasServed (v : View) (before : Connections) (now : Option Connections) (tally : Tally) : Type 0 where
  pub inputs : List (List ℕ)
  pub connections : List Connection
  pub rest : List (List ℕ)
  pub first : before.coming ≡ inputs ++ rest
  pub given_back : now ≡ Some (record { coming = rest; served = before.served ++ connections })
  pub each : AreServed v inputs connections tally.answered
  pub counted : tally.connections ≡ length inputs

-- the next connection was taken and given back, as it stood then
pub record GaveBack (before : Connections) (now : Option Connections) (input : List ℕ) (connection : Connection) : Type 0 where
  pub rest : List (List ℕ)
  pub first : before.coming ≡ input ∷ rest
  pub given_back : now ≡ Some (record { coming = rest; served = before.served ++ (connection ∷ []) })

-- where memory was refused: before a connection was taken; for a connection, which was given back; or when it was given
-- back, which closes it
pub data WantsMemoryNext (v : View) (before : Connections) (now : Option Connections) : Type 0 where
  at_next : now ≡ Some before → WantsMemoryNext v before now
  at_link : (input : List ℕ) (connection : Connection) → GaveBack before now input connection → WantsMemory v (fresh_ends input) (ends_of connection) → WantsMemoryNext v before now
  at_done : (input : List ℕ) (rest : List (List ℕ)) → before.coming ≡ input ∷ rest → now ≡ Some (record { coming = rest; served = before.served }) → WantsMemoryNext v before now

-- a connection that came with these bytes was served and given back
pub record IsGivenBack (v : View) (before : Connections) (input : List ℕ) (now : Option Connections) (how : Served) : Type 0 where
  pub connection : Connection
  pub given_back : now ≡ Some (record { coming = before.coming; served = before.served ++ (connection ∷ []) })
  pub served : IsServed v (fresh_ends input) (ends_of connection) how

-- memory was refused for it, or when it was given back
abbrev pub IsEnd : View → Connections → (input : List ℕ) → Option Connections → Result Served ServeFault → Type 0
IsEnd v before input now (Ok how) = IsGivenBack v before input now how
IsEnd v before input now (Err fault.Net) = ⊥
IsEnd v before input now (Err fault.NoMemory) = IsGivenBack v before input now served.NoMemory ⊎ (now ≡ Some before)

-- one more connection was served, if one came
abbrev pub IsStep : View → Connections → Option Connections → Result (Option Served) ServeFault → Type 0
IsStep v before now (Ok (Some how)) = (input : List ℕ) × (connection : Connection) × GaveBack before now input connection × IsServed v (fresh_ends input) (ends_of connection) how
IsStep v before now (Ok None) = (before.coming ≡ []) × (now ≡ Some before)
IsStep v before now (Err fault.Net) = now ≡ Some before
IsStep v before now (Err fault.NoMemory) = WantsMemoryNext v before now

-- as many connections were served as were asked for, or all that were to come where these are fewer
pub record ServesAll (v : View) (requests : ℕ) (before : Connections) (now : Option Connections) (tally : Tally) : Type 0 where
  pub served : HasServed v before now tally
  pub number : tally.connections ≡ min requests (length before.coming)

-- some were served, fewer than were asked for, and then the net gave none
pub record ServesUntilNone (v : View) (requests : ℕ) (before : Connections) (now : Option Connections) : Type 0 where
  pub tally : Tally
  pub served : HasServed v before now tally
  pub fewer : tally.connections < requests

-- some were served, fewer than were asked for, and then the next one was refused for want of memory
pub record ServesUntilRefused (v : View) (requests : ℕ) (before : Connections) (now : Option Connections) : Type 0 where
  pub tally : Tally
  pub fewer : tally.connections < requests
  pub middle : Connections
  pub served : HasServed v before (Some middle) tally
  pub refused : WantsMemoryNext v middle now

abbrev pub Serves : View → (requests : ℕ) (before : Connections) (now : Option Connections) → Result Tally ServeFault → Type 0
Serves v requests before now (Ok tally) = ServesAll v requests before now tally
Serves v requests before now (Err fault.Net) = ServesUntilNone v requests before now
Serves v requests before now (Err fault.NoMemory) = ServesUntilRefused v requests before now

-- what is counted, whatever the net tells: no more connections than were asked for, and of these those that were answered
abbrev pub IsTally : (requests : ℕ) → Tally → Type 0
IsTally requests tally = (tally.connections ≤ requests) × (tally.answered ≤ tally.connections)
