-- What a sink of port events stands for: port histories over a site table. A sink is asked for the next event by what
-- the event is after a history, since who calls and who allocates follows from the events so far.
use Rattle.std.specs.Prelude.{ℕ, List, ◌∷◌, length, Option, unwrap_or}
use Rattle.md_trace.specs.declared.event.Event.{Event}
use Rattle.md_trace.specs.declared.event.Event.TheVariants.{Call, Alloc}
use Rattle.md_trace.specs.Activation.{activations}
use Rattle.md_trace.specs.PortHistory.{SiteTable, current, MayFollow}

-- the current activation calls this procedure at this site
abbrev pub next_call : Option ℕ → ℕ → List Event → Event
next_call site callee h = Call (length (activations h)) (current h) site callee

-- the current activation builds a term of this many words
abbrev pub next_alloc : ℕ → List Event → Event
next_alloc words h = Alloc (unwrap_or (current h) 0) words

-- there is a history for which the sink stands, and which the event may follow
pub record CanTake (stands : SiteTable → List Event → Type 0) (event : List Event → Event) : Type 0 where
  pub table : SiteTable
  pub history : List Event
  pub stood : stands table history
  pub follows : MayFollow table history (event history)

-- the same, where the event is that of an activation to which the mark belongs
pub record CanTakeMarked (stands : SiteTable → List Event → Type 0) (belongs : SiteTable → List Event → ℕ → Type 0) (event : ℕ → Event) : Type 0 where
  pub table : SiteTable
  pub history : List Event
  pub activation : ℕ
  pub stood : stands table history
  pub owned : belongs table history activation
  pub follows : MayFollow table history (event activation)

-- for whatever history the old sink stands, the new one stands for it with the event, where that may follow
abbrev pub Takes : (old new : SiteTable → List Event → Type 0) → (List Event → Event) → Type 0
Takes old new event =
    (t : SiteTable) (h : List Event) → old t h → MayFollow t h (event h) → new t (event h ∷ h)

-- the same, for each activation to which the mark belongs
abbrev pub TakesMarked : (old new : SiteTable → List Event → Type 0) (belongs : SiteTable → List Event → ℕ → Type 0) → (ℕ → Event) → Type 0
TakesMarked old new belongs event =
    (t : SiteTable) (h : List Event) (a : ℕ) → old t h → belongs t h a → MayFollow t h (event a) → new t (event a ∷ h)

-- the mark that a call gives belongs to the new activation
abbrev pub MarksNewest : (old : SiteTable → List Event → Type 0) (belongs : SiteTable → List Event → ℕ → Type 0) → (List Event → Event) → Type 0
MarksNewest old belongs event =
    (t : SiteTable) (h : List Event) → old t h → MayFollow t h (event h) → belongs t (event h ∷ h) (length (activations h))

-- the new sink stands for the same histories
abbrev pub StandsAsBefore : (old new : SiteTable → List Event → Type 0) → Type 0
StandsAsBefore old new = (t : SiteTable) (h : List Event) → old t h → new t h
