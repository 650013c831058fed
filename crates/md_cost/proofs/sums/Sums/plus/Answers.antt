use Rattle.std.proofs.Common.{arith}
use Rattle.md_base.specs.declared.measure.Measure.TheVariants.{Calls, Exits, Fails, Redos, Allocs, Words, Excps}
use Rattle.md_cost.proofs.sums.Sums.plus.Goals as goal

pub overflow_add-result : goal.overflow_add-result
overflow_add-result c = omega (arith, c.requires Calls)

pub overflow_add-result-2 : goal.overflow_add-result-2
overflow_add-result-2 c = omega (arith, c.requires Exits)

pub overflow_add-result-3 : goal.overflow_add-result-3
overflow_add-result-3 c = omega (arith, c.requires Fails)

pub overflow_add-result-4 : goal.overflow_add-result-4
overflow_add-result-4 c = omega (arith, c.requires Redos)

pub overflow_add-result-5 : goal.overflow_add-result-5
overflow_add-result-5 c = omega (arith, c.requires Allocs)

pub overflow_add-result-6 : goal.overflow_add-result-6
overflow_add-result-6 c = omega (arith, c.requires Words)

pub overflow_add-result-7 : goal.overflow_add-result-7
overflow_add-result-7 c = omega (arith, c.requires Excps)
