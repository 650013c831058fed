use Rattle.std.proofs.Common.{◌≡◌, ◌<◌, ◌^◌, All, IfSome, length}
use Rattle.md_cost.specs.FileView.{IsFileView}
use Rattle.md_cost.specs.View.{View}
use Rattle.md_feedback.specs.Search.{AreHeavy}
use Rattle.md_feedback.proofs.heavy.heavy_sites.Given as goal

-- what is told of the sites so far
abbrev pub invariant-loop-site : goal.invariant-loop-site
invariant-loop-site l =
    ((v : View) → IsFileView l.loaded.profile v → AreHeavy v l.least l.site l.heavy.items)
    × All (λ total. IfSome total (λ t. t < 2 ^ 64)) l.heavy.items
    × (length l.heavy.items ≡ l.site)
