-- What a recorder keeps, and the port histories for which it stands.
use Rattle.std.specs.Prelude.{ℕ, ◌≡◌, ◌≤◌, List, length, reverse}
use Rattle.md_static.specs.Sound.{IsSound}
use Rattle.md_static.specs.Tables.{site_table}
use Rattle.md_trace.specs.declared.event.Event.{Event}
use Rattle.md_trace.specs.PortHistory.{SiteTable, IsPortHistory}
use Rattle.md_trace.specs.Context.{placed_of, contexts, current_chain}
use Rattle.md_trace.specs.Links.{links}
use Rattle.md_trace.specs.Counted.{longest}
use Rattle.md_dynamic.specs.Rows.{Rows}
use Rattle.md_record.specs.Parts.{RowsAre, ActiveIs, AreSteps}

-- the tables; the links of the current chain by number, each with the context to which it leads, the latest last; and
-- for how many the chain has room
pub record Kept : Type 0 where
  pub rows : Rows
  pub chain : List (ℕ × ℕ)
  pub room : ℕ

-- the tables and the chain are as before; there may be more room
pub record IsAsBefore (old new : Kept) : Type 0 where
  pub rows : new.rows ≡ old.rows
  pub chain : new.chain ≡ old.chain
  pub room : old.room ≤ new.room

-- A recorder that keeps this stands for h over the site table of its statics and main: its contexts and links are those
-- of h, with own counts; its pointers are the contexts of the nearest activations in the current chain; and the links of
-- that chain are kept, with room for the longest chain of h. That each slot and the map of callees have the links of their
-- sites, and no others, holds of all tables (`AreTables` of md_dynamic).
pub record Stands (k : Kept) (t : SiteTable) (h : List Event) : Type 0 where
  pub history : IsPortHistory t h
  pub sound : IsSound k.rows.statics
  pub table : t ≡ site_table k.rows.statics t.main
  pub contexts_are : k.rows.nodes ≡ contexts t.main (placed_of t.main h)
  pub rows_are : RowsAre t.main h (links t.main (placed_of t.main h)) k.rows.links
  pub active_is : ActiveIs (length k.rows.statics.procs) (current_chain t.main h) k.rows.active
  pub chain_is : AreSteps (links t.main (placed_of t.main h)) (current_chain t.main h) (reverse k.chain)
  pub room_is : longest t.main h ≤ k.room
