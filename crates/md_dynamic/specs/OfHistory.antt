-- The profile of a history: what a recorder of a run gives in the end.
use Rattle.std.specs.Prelude.{ℕ, ◌≡◌, Bool, List, map}
use Rattle.md_static.specs.Tables.{Static}
use Rattle.md_trace.specs.declared.event.Event.{Event}
use Rattle.md_trace.specs.Context.{placed_of, contexts, has_link}
use Rattle.md_trace.specs.Count.{set_counts}
use Rattle.md_trace.specs.Links.{Leading, links}
use Rattle.md_dynamic.specs.declared.link.LinkRow.{LinkRow}
use Rattle.md_dynamic.specs.Profile.{ProfileRows}

-- the row of a link: its caller, its site, the context to which it leads, and its own counts
abbrev pub row_of : ℕ → List Event → Leading → LinkRow
row_of main h x = record { caller = x.link.caller; site = x.link.site; callee = x.to; own = set_counts main h (has_link x.link) }

-- it has these tables, the contexts of h with their procedures, and its links with their own counts
pub record IsProfileOf (statics : Static) (main : ℕ) (h : List Event) (finished : Bool) (profile : ProfileRows) : Type 0 where
  pub tables : profile.statics ≡ statics
  pub contexts_are : profile.nodes ≡ contexts main (placed_of main h)
  pub links_are : profile.links ≡ map (row_of main h) (links main (placed_of main h))
  pub finished_is : profile.finished ≡ finished
