use Rattle.std.proofs.Common.{arith}
use Rattle.md_heap.proofs.Laid.{cell-read, part-read}
use Rattle.md_heap.proofs.heap.Heap.part_at.Goals as goal

pub index-requires : goal.index-requires
index-requires c =
    let t = c.self.inside in
    let cell = cell-read t.rows.items t.parts.items c.args.self.now c.args.cell c.self.view_is c.requires.cell_there in
    omega (arith, cell.there)

pub overflow_add-index : goal.overflow_add-index
overflow_add-index c =
    let t = c.self.inside in
    let at = part-read t.rows.items t.parts.items c.args.self.now c.args.cell c.args.place c.index.result.now c.self.invariant c.self.view_is c.requires.cell_there c.requires.place_there c.index.ensures in
    omega (arith, at.within)

pub index-requires-2 : goal.index-requires-2
index-requires-2 c =
    let t = c.self.inside in
    let at = part-read t.rows.items t.parts.items c.args.self.now c.args.cell c.args.place c.index.result.now c.self.invariant c.self.view_is c.requires.cell_there c.requires.place_there c.index.ensures in
    omega (arith, at.within)

pub returns-clause-value : goal.returns-clause-value
returns-clause-value c =
    let t = c.self.inside in
    let at = part-read t.rows.items t.parts.items c.args.self.now c.args.cell c.args.place c.index.result.now c.self.invariant c.self.view_is c.requires.cell_there c.requires.place_there c.index.ensures in
    at.is c.index-2.result.now c.index-2.ensures
