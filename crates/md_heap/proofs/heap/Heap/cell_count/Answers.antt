use Rattle.std.proofs.Common.{arith}
use Rattle.md_heap.proofs.Building.{row-count}
use Rattle.md_heap.proofs.heap.Heap.cell_count.Goals as goal

pub returns : goal.returns
returns c =
    let t = c.self.inside in
    omega (arith, row-count t.rows.items t.parts.items c.args.self.now c.self.view_is)
