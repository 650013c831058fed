use Rattle.std.proofs.Common.{◌∙◌, ◌+◌, ap}
use Rattle.md_hlds.specs.Hlds.{hlds_of}
use Rattle.md_code.specs.declared.fact.Fact.{Fact}
use Rattle.md_code.specs.Facts.{fact_if, pending_behind}
use Rattle.md_code.specs.Blocks.{other_after}
use Rattle.md_code.proofs.BlockLemmas.{goal-behind}
use Rattle.md_code.proofs.LayoutLemmas.{entry}
use Rattle.md_code.proofs.layout.entry_behind.Goals as goal

pub returns : goal.returns
returns c g there =
    let s = hlds_of c.args.tables.now.source.checked.now in
    let fact = c.fact-fact.ensures ∙ ap (fact_if s c.args.number) there in
    let other = c.other_after.ensures ∙ ap (other_after c.args.entry.other) c.leaves.ensures in
    let pending = c.in_ok-pending.ensures ∙ (ap (λ (f : Fact). pending_behind f.change c.args.entry.pending) fact ∙ goal-behind s c.args.number c.args.entry.pending g) in
    let height = c.in_ok-height.ensures ∙ ap (λ (f : Fact). c.args.entry.height + f.heights) fact in
    λ i. entry (other i) (pending i) (height i)
