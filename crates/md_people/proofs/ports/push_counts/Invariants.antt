use Rattle.std.proofs.Common.{◌≡◌, decimal, map, take}
use Rattle.md_cost.specs.SumOf.{sum_of}
use Rattle.md_table.specs.Table.{with_cells}
use Rattle.md_people.proofs.ports.push_counts.Given as goal

abbrev pub invariant-loop-measure : goal.invariant-loop-measure
invariant-loop-measure l = l.lines ≡ with_cells l.fn.lines (map (λ m. decimal (sum_of l.row.own m)) (take l.measure-index l.shown))
