use Rattle.std.proofs.Common.{◌≡◌, ◌==◌, length, take}
use Rattle.std.specs.List.{flat_map, range_with_len}
use Rattle.md_static.specs.declared.entry.Site.{Site}
use Rattle.md_clique.specs.Places.{places}
use Rattle.md_cost.specs.FileView.{IsFileView}
use Rattle.md_cost.specs.View.{View}
use Rattle.md_people.specs.Callers.{callee_rows_at}
use Rattle.md_people.proofs.called.callee_rows.Given as goal

-- the rows of the sites so far
abbrev pub invariant-loop-site : goal.invariant-loop-site
invariant-loop-site l = (v : View) → IsFileView l.loaded.profile v → l.rows.items ≡ flat_map (λ s. flat_map (callee_rows_at v l.fn.by s) (range_with_len 0 (length v.statics.procs))) (places (λ (x : Site). x.owner == l.fn.id) (take l.site l.sites))
