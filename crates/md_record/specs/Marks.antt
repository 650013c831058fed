-- Marks of activations.
use Rattle.std.specs.Prelude.{ℕ, ◌≡◌, List, Option, Some, slice_get}
use Rattle.md_trace.specs.declared.event.Event.{Event}
use Rattle.md_trace.specs.Activation.{numbered}
use Rattle.md_trace.specs.PortHistory.{SiteTable}
use Rattle.md_trace.specs.Context.{Placed, chain, placed_of}
use Rattle.md_trace.specs.Links.{links}
use Rattle.md_record.specs.Parts.{nearest}

-- the context of an activation, its link, and the pointer that is due when it is left: the context of its nearest
-- proper ancestor of its procedure, if there is one
pub record BelongsTo (top middle : ℕ) (old : Option ℕ) (t : SiteTable) (h : List Event) (a : ℕ) : Type 0 where
  pub activation : Placed
  pub there : numbered (placed_of t.main h) a ≡ Some activation
  pub top_is : top ≡ activation.context
  pub middle_is : slice_get (links t.main (placed_of t.main h)) middle ≡ Some (record { link = activation.link; to = activation.context })
  pub old_is : old ≡ nearest activation.link.procedure (chain (placed_of t.main h) activation.parent)
