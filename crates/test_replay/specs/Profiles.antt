-- What recorded events give: a profile or own counts where they are a port history, and nothing else.
use Rattle.std.specs.Prelude.{ℕ, Bool, List, reverse, Option, Some, None}
use Rattle.md_static.specs.Tables.{Static, site_table}
use Rattle.md_trace.specs.declared.event.Event.{Event}
use Rattle.md_trace.specs.Counted.{Counted, CountsFor}
use Rattle.md_trace.specs.PortHistory.{IsPortHistory}
use Rattle.md_dynamic.specs.Profile.{ProfileRows}
use Rattle.md_dynamic.specs.Valid.{IsValid}
use Rattle.md_dynamic.specs.OfHistory.{IsProfileOf}

-- the events are a port history over these tables with this main procedure
abbrev pub AreHistory : Static → ℕ → List Event → Type 0
AreHistory statics main events = IsPortHistory (site_table statics main) (reverse events)

-- the valid profile of the events, or none where they are no port history
abbrev pub ProfileOf : Static → ℕ → List Event → Bool → Option ProfileRows → Type 0
ProfileOf statics main events finished None = AreHistory statics main events → ⊥
ProfileOf statics main events finished (Some profile) = AreHistory statics main events × IsProfileOf statics main (reverse events) finished profile × IsValid profile

-- a counter that has counted the events, or none where they are no port history
abbrev pub CountsOf : Static → ℕ → List Event → Option Counted → Type 0
CountsOf statics main events None = AreHistory statics main events → ⊥
CountsOf statics main events (Some counter) = CountsFor counter (site_table statics main) (reverse events)
