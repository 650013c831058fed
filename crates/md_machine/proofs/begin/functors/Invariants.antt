use Rattle.std.proofs.Common.{◌≡◌}
use Rattle.law_flat.specs.Begins.{functor_cells}
use Rattle.md_machine.proofs.begin.functors.Given as goal

abbrev pub invariant-loop-number : goal.invariant-loop-number
invariant-loop-number l = l.heap ≡ functor_cells l.number
