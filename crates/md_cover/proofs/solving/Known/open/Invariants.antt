use Rattle.std.proofs.Common.{◌≡◌, drop}
use Rattle.md_cover.specs.Known.{table_of, know, open_from, open_of}
use Rattle.md_cover.proofs.solving.Known.open.Given as goal

abbrev pub invariant-loop-part : goal.invariant-loop-part
invariant-loop-part l = open_from (know (table_of l.self)) l.sum l.unknown (drop l.part-index l.equation.parts.items) ≡ open_of (know (table_of l.self)) l.equation.number l.equation.parts.items
