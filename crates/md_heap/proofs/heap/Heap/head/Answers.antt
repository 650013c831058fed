use Rattle.std.proofs.Common.{ap, sym, ◌∙◌, subst, arith}
use Rattle.md_heap.specs.Cells.{Cells, AreOlder, cell_at, trees_of}
use Rattle.md_heap.specs.Tree.{Built}
use Rattle.md_heap.proofs.Laid.{cell-read, head-read}
use Rattle.md_heap.proofs.Meaning.{unfolds}
use Rattle.md_heap.proofs.heap.Heap.head.Goals as goal

pub index-requires : goal.index-requires
index-requires c =
    let t = c.self.inside in
    let cell = cell-read t.rows.items t.parts.items c.args.self.now c.args.cell c.self.view_is c.requires in
    omega (arith, cell.there)

pub returns-clause-value : goal.returns-clause-value
returns-clause-value c =
    let t = c.self.inside in
    head-read t.rows.items t.parts.items c.args.self.now c.args.cell c.index.result.now c.self.view_is c.requires c.index.ensures

pub returns-clause-means : goal.returns-clause-means
returns-clause-means c =
    let t = c.self.inside in
    let older = let P : Cells → Type 0 = AreOlder in subst P c.self.view_is c.self.invariant.older in
    let is = head-read t.rows.items t.parts.items c.args.self.now c.args.cell c.index.result.now c.self.view_is c.requires c.index.ensures in
    let h = c.args.self.now in
    unfolds h c.args.cell older c.requires ∙ ap (λ f. Built f (trees_of h (cell_at h c.args.cell).parts)) (sym is)
