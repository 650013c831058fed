-- Events handed to a sink one after the other. A history has the latest event first, so it is the list of the events
-- turned round.
use Rattle.std.specs.Prelude.{ℕ, ◌≡◌, List, [], ◌∷◌, length, reverse, take, Some, slice_get}
use Rattle.md_trace.specs.declared.event.Event.{Event}
use Rattle.md_trace.specs.Activation.{activations}
use Rattle.md_trace.specs.PortHistory.{SiteTable, MayFollow, IsPortHistory}

-- each activation of h has its mark, by number
pub record AreMarks {M : Type 0} (belongs : M → SiteTable → List Event → ℕ → Type 0) (marks : List M) (t : SiteTable) (h : List Event) : Type 0 where
  pub each : length marks ≡ length (activations h)
  pub right : (a : ℕ) (mark : M) → slice_get marks a ≡ Some mark → belongs mark t h a

-- a sink that stands for h, and the marks of its activations
pub record StandsWith {M : Type 0} (stands : SiteTable → List Event → Type 0) (belongs : M → SiteTable → List Event → ℕ → Type 0) (marks : List M) (t : SiteTable) (h : List Event) : Type 0 where
  pub sink : stands t h
  pub marked : AreMarks belongs marks t h

-- there is a history for which the sink stands with these marks, and which the event may follow
pub record CanFollow (stands : SiteTable → List Event → Type 0) (event : Event) : Type 0 where
  pub table : SiteTable
  pub history : List Event
  pub stood : stands table history
  pub follows : MayFollow table history event

-- for whatever history the old sink stands, the new one stands for it with the event, where that may follow
abbrev pub Follows : (old new : SiteTable → List Event → Type 0) → Event → Type 0
Follows old new event = (t : SiteTable) (h : List Event) → old t h → MayFollow t h event → new t (event ∷ h)

-- the sink stands for the empty history over a table over which the events are a port history
pub record CanReplay (stands : SiteTable → List Event → Type 0) (events : List Event) : Type 0 where
  pub table : SiteTable
  pub stood : stands table []
  pub history : IsPortHistory table (reverse events)

-- the new sink stands for the history of the first n events, over each such table
abbrev pub Replays : (old new : SiteTable → List Event → Type 0) → List Event → ℕ → Type 0
Replays old new events n = (t : SiteTable) → old t [] → IsPortHistory t (reverse events) → new t (reverse (take n events))
