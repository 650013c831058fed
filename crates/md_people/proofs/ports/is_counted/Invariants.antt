use Rattle.std.proofs.Common.{◌≡◌, false, take}
use Rattle.md_people.specs.Ports.{is_counted}
use Rattle.md_people.proofs.ports.is_counted.Given as goal

abbrev pub invariant-loop-row : goal.invariant-loop-row
invariant-loop-row l = is_counted (take l.row-index l.rows) l.measure ≡ false
