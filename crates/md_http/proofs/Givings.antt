-- What a net tells of a connection that was served and given back.
use Rattle.std.proofs.Common.{◌≡◌, ℕ, List, [], ◌∷◌, Option, Some, Ok, Err, ◌∙◌, ap, subst, inl, inr}
use Rattle.md_base.specs.Nets.{Connection, Connections, connection_of, with_served, TakesFirst, GivesFirst}
use Rattle.md_base.specs.Streams.{Stream, fresh}
use Rattle.md_cost.specs.View.{View}
use Rattle.md_http.specs.Served.{Ends, ends, IsServed, early, late}
use Rattle.md_http.proofs.Readings.{read_at_most}
use Rattle.md_http.specs.Serving.{fresh_ends, ends_of, GaveBack, at_link, at_done, IsGivenBack, IsEnd, IsStep}
use Rattle.md_http.specs.declared.link.Served.{Served}
use Rattle.md_http.specs.declared.link.Served.TheVariants.{Answered, ReadFault, WriteFault, NoMemory}
use Rattle.md_http.specs.declared.serving.ServeFault.{ServeFault}
use Rattle.md_http.specs.declared.serving.ServeFault.TheVariants as fault

-- a connection whose stream and sink are told
record IsTold (now : Ends) : Type 0 where
  stream : Stream
  written : List ℕ
  streams : now.stream ≡ Some stream
  holds : now.held ≡ Some written

-- one that told both when it came tells them when it was served
told_served : (v : View) (input : List ℕ) (now : Ends) (how : Served) → IsServed v (fresh_ends input) now how → IsTold now
told_served v input now Answered served = record { stream = _; written = _; streams = served.due.heard.read.is; holds = served.written }
told_served v input now ReadFault served = record { stream = _; written = _; streams = served.waits.read.is; holds = served.unwritten }
told_served v input now WriteFault served = record { stream = _; written = _; streams = served.part.due.heard.read.is; holds = served.part.written.is_added }
told_served v input now NoMemory (early none quiet) = record { stream = _; written = _; streams = (read_at_most (fresh input) now.stream none.some).read.is; holds = none.unwritten }
told_served v input now NoMemory (late part quiet) = record { stream = _; written = _; streams = part.due.heard.read.is; holds = part.written.is_added }

-- the connection that the net then tells
told_connection : (now : Ends) → IsTold now → (connection : Connection) × (connection_of now.stream now.held now.read_faults now.write_faults ≡ Some connection) × (now ≡ ends_of connection)
told_connection now told = (
  record { stream = told.stream; written = told.written; read_faults = now.read_faults; write_faults = now.write_faults },
  ap (λ (s : Option Stream). connection_of s now.held now.read_faults now.write_faults) told.streams
      ∙ ap (λ (h : Option (List ℕ)). connection_of (Some told.stream) h now.read_faults now.write_faults) told.holds,
  ap (λ (s : Option Stream). ends s now.held now.read_faults now.write_faults) told.streams
      ∙ ap (λ (h : Option (List ℕ)). ends (Some told.stream) h now.read_faults now.write_faults) told.holds,
)

given_back_fresh : (v : View) (before : Connections) (input : List ℕ) (how : Served) (told : Option Connections) (now : Ends) → IsServed v (fresh_ends input) now how
    → told ≡ with_served (connection_of now.stream now.held now.read_faults now.write_faults) (Some before) → IsGivenBack v before input told how
given_back_fresh v before input how told now served is =
    let known = told_connection now (told_served v input now how served) in
    record {
      connection = known.0;
      given_back = is ∙ ap (λ (o : Option Connection). with_served o (Some before)) known.1;
      served = subst (λ (e : Ends). IsServed v (fresh_ends input) e how) known.2 served;
    }

pub given_back : (v : View) (before : Connections) (input : List ℕ) (how : Served) (first told : Option Connections) (stream : Option Stream) (held : Option (List ℕ)) (reads writes : ℕ) (now : Ends)
    → first ≡ Some before → stream ≡ Some (fresh input) → held ≡ Some [] → reads ≡ 0 → writes ≡ 0 → IsServed v (ends stream held reads writes) now how
    → told ≡ with_served (connection_of now.stream now.held now.read_faults now.write_faults) first → IsGivenBack v before input told how
given_back v before input how first told stream held reads writes now f s h r w served is =
    let e : ends stream held reads writes ≡ fresh_ends input =
    ap (λ (x : Option Stream). ends x held reads writes) s
    ∙ ap (λ (x : Option (List ℕ)). ends (Some (fresh input)) x reads writes) h
    ∙ ap (λ (x : ℕ). ends (Some (fresh input)) (Some []) x writes) r
    ∙ ap (λ (x : ℕ). ends (Some (fresh input)) (Some []) 0 x) w in
    given_back_fresh v before input how told now (subst (λ (x : Ends). IsServed v x now how) e served)
    (is ∙ ap (λ (t : Option Connections). with_served (connection_of now.stream now.held now.read_faults now.write_faults) t) f)

-- the connection was the first to come
gave_back : (v : View) (before : Connections) (input : List ℕ) (rest : List (List ℕ)) (now : Option Connections) (how : Served) → before.coming ≡ input ∷ rest
    → (back : IsGivenBack v (record { coming = rest; served = before.served }) input now how) → GaveBack before now input back.connection
gave_back v before input rest now how first back = record { rest = rest; first = first; given_back = back.given_back }

-- the next connection came with these bytes, and what became of it is told of it as it came
comes_first : (before : Connections) (net middle : Option Connections) (stream : Option Stream) (held : Option (List ℕ)) → net ≡ Some before → TakesFirst net middle stream held → GivesFirst before middle stream held
comes_first before net middle stream held told first = subst (λ (n : Option Connections). TakesFirst n middle stream held) told first

pub step_served : (v : View) (before : Connections) (net middle now : Option Connections) (stream : Option Stream) (held : Option (List ℕ)) (how : Served) → net ≡ Some before
    → TakesFirst net middle stream held
    → ((b : Connections) (input : List ℕ) → middle ≡ Some b → stream ≡ Some (fresh input) → held ≡ Some [] → IsEnd v b input now (Ok how))
    → IsStep v before now (Ok (Some how))
step_served v before net middle now stream held how told came ends_so =
    let first = comes_first before net middle stream held told came in
    let back = ends_so _ first.input first.others first.unread first.unwritten in
    (first.input, back.connection, gave_back v before first.input first.rest now how first.first back, back.served)

pub step_refused : (v : View) (before : Connections) (net middle now : Option Connections) (stream : Option Stream) (held : Option (List ℕ)) (why : ServeFault) → net ≡ Some before
    → TakesFirst net middle stream held
    → ((b : Connections) (input : List ℕ) → middle ≡ Some b → stream ≡ Some (fresh input) → held ≡ Some [] → IsEnd v b input now (Err why))
    → IsStep v before now (Err why)
step_refused v before net middle now stream held fault.Net told came ends_so =
    let first = comes_first before net middle stream held told came in absurd (ends_so _ first.input first.others first.unread first.unwritten)
step_refused v before net middle now stream held fault.NoMemory told came ends_so =
    let first = comes_first before net middle stream held told came in
    elim (ends_so _ first.input first.others first.unread first.unwritten) [
      | inl back ↦ at_link first.input back.connection (gave_back v before first.input first.rest now NoMemory first.first back) back.served
      | inr closed ↦ at_done first.input first.rest first.first closed
    ]
