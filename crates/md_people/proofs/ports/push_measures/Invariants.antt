use Rattle.std.proofs.Common.{◌≡◌, map, take}
use Rattle.md_people.specs.Words.{measure_word}
use Rattle.md_table.specs.Table.{with_cells}
use Rattle.md_people.proofs.ports.push_measures.Given as goal

abbrev pub invariant-loop-measure : goal.invariant-loop-measure
invariant-loop-measure l = l.lines ≡ with_cells l.fn.lines (map measure_word (take l.measure-index l.shown))
