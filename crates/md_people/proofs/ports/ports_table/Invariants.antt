use Rattle.std.proofs.Common.{◌≡◌, ◌∷◌, map, take}
use Rattle.md_people.specs.Ports.{ports_heading, ports_line, shown_measures}
use Rattle.md_people.proofs.ports.ports_table.Given as goal

abbrev pub invariant-loop-row : goal.invariant-loop-row
invariant-loop-row l = l.lines.ended ≡ ports_heading (shown_measures l.rows) l.last ∷ map (ports_line l.whole (shown_measures l.rows)) (take l.row-index l.rows)
