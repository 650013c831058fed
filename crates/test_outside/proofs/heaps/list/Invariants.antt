use Rattle.std.proofs.Common.{◌≡◌, ◌+◌, length}
use Rattle.md_heap.specs.Cells.{IsThere}
use Rattle.test_outside.proofs.heaps.list.Given as goal

abbrev pub invariant-loop-i : goal.invariant-loop-i
invariant-loop-i l = record { longer : length l.heap ≡ length l.fn.heap + 1 + l.i; there : IsThere (length l.heap) l.list }
