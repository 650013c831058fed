-- Which mark belongs to an activation.
use Rattle.std.specs.Prelude.{ℕ, List}
use Rattle.md_trace.specs.declared.event.Event.{Event}
use Rattle.md_trace.specs.PortHistory.{SiteTable}
use Rattle.md_record.specs.declared.saved.Saved.{Saved}
use Rattle.md_record.specs.Marks.{BelongsTo}

-- a mark belongs to an activation of h
abbrev pub Belongs : Saved → SiteTable → List Event → ℕ → Type 0
Belongs saved t h a = BelongsTo saved.top saved.middle saved.old t h a
