use Rattle.md_heap.proofs.Frames.{heads-differ, counts-differ, nodes-equal, constants-equal}
use Rattle.md_heap.proofs.heap.Heap.look_at_cells.Goals as goal
use Rattle.md_heap.proofs.heap.Heap.look_at_cells.Goals.{then-head-via-then-head, then-head-via-else-head+then-count-part_count}

pub returns-then-head-clause-sum : goal.returns-then-head-clause-sum
returns-then-head-clause-sum c =
    let h = c.args.self.now in
    let older = c.part_count-count.ensures.older in
    elim c.then-head.branch [
      | then-head-via-then-head w ↦ heads-differ h c.args.m c.args.n c.head.result c.head-2.result older c.requires.m_there c.requires.n_there c.head.ensures.value c.head-2.ensures.value w.if-head.true
      | then-head-via-else-head+then-count-part_count w ↦ counts-differ h c.args.m c.args.n c.part_count-count.result w.part_count.result older c.requires.m_there c.requires.n_there c.part_count-count.ensures.value w.part_count.ensures.value w.if-count-part_count.true
    ]

pub returns-then-count-eq0-clause-sum : goal.returns-then-count-eq0-clause-sum
returns-then-count-eq0-clause-sum c =
    constants-equal c.args.self.now c.args.m c.args.n c.head.result c.head-2.result c.part_count-count.result c.part_count.result c.part_count-count.ensures.older c.requires.m_there c.requires.n_there
    c.head.ensures.value c.head-2.ensures.value c.part_count-count.ensures.value c.part_count.ensures.value c.if-head.false c.if-count-part_count.false c.if-count-eq0.true

pub returns-clause-sum : goal.returns-clause-sum
returns-clause-sum c =
    nodes-equal c.args.self.now c.args.m c.args.n c.head.result c.head-2.result c.part_count-count.result c.part_count.result c.part_count-count.ensures.older c.requires.m_there c.requires.n_there
    c.head.ensures.value c.head-2.ensures.value c.part_count-count.ensures.value c.part_count.ensures.value c.if-head.false c.if-count-part_count.false
