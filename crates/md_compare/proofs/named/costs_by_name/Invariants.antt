use Rattle.std.proofs.Common.{◌≡◌, ℕ, List}
use Rattle.md_cost.specs.FileView.{IsFileView}
use Rattle.md_cost.specs.View.{View}
use Rattle.md_compare.specs.Named.{cost_at}
use Rattle.md_compare.proofs.NamedSteps.{cost_from}
use Rattle.md_compare.proofs.named.costs_by_name.Given as goal

-- what the procedures from this number on cost
abbrev pub invariant-loop-id : goal.invariant-loop-id
invariant-loop-id l = (v : View) → IsFileView l.loaded.profile v → (name : List ℕ) → cost_at l.costs name ≡ cost_from v l.by l.id name
