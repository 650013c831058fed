use Rattle.std.proofs.Common.{ap, ◌∙◌}
use Rattle.md_heap.specs.Cells.{IsThere, cell_at, cell_tree}
use Rattle.md_heap.specs.Tree.{part_of}
use Rattle.std.proofs.Common.{length}
use Rattle.md_heap.proofs.Meaning.{unfolds, tree-at, parts-there, there-at}
use Rattle.md_heap.proofs.heap.Heap.part.Goals as goal

pub returns-clause-means : goal.returns-clause-means
returns-clause-means c =
    let h = c.args.self.now in
    ap (λ t. part_of t c.args.place) (unfolds h c.args.cell c.part_at.ensures.older c.requires.cell_there)
    ∙ tree-at (λ k. cell_tree h k) (cell_at h c.args.cell).parts c.args.place c.part_at.result c.part_at.ensures.value

pub returns-clause-there : goal.returns-clause-there
returns-clause-there c =
    let h = c.args.self.now in
    there-at (IsThere (length h)) (cell_at h c.args.cell).parts c.args.place c.part_at.result (parts-there h c.args.cell c.part_at.ensures.older c.requires.cell_there) c.part_at.ensures.value
