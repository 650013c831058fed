use Rattle.std.proofs.Common.{◌≡◌, map, take}
use Rattle.std.specs.List.{slice_index_or}
use Rattle.md_people.specs.Ports.{PortsRow}
use Rattle.md_people.proofs.order.in_order.Given as goal

-- the rows of the keys so far
abbrev pub invariant-loop-key : goal.invariant-loop-key
invariant-loop-key l = (d : PortsRow) → l.sorted.items ≡ map (λ x. slice_index_or l.rows x.2 d) (take l.key-index l.key-items)
