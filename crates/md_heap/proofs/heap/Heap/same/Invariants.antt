use Rattle.md_heap.proofs.Frames.{Stands}
use Rattle.md_heap.proofs.heap.Heap.same.Given as goal

abbrev pub invariant-loop-pairs : goal.invariant-loop-pairs
invariant-loop-pairs l = Stands l.self l.fn.a l.fn.b l.v l.w l.todo.items l.pairs
