use Rattle.std.proofs.Common.{◌≤◌, ◌*◌, take}
use Rattle.std.specs.List.{sum_by}
use Rattle.md_base.specs.declared.measure.Measure.{Measure}
use Rattle.md_base.specs.Counts.{count_of}
use Rattle.md_dynamic.specs.declared.link.LinkRow.{LinkRow}
use Rattle.md_dump.proofs.summing.are_small.Given as goal

-- the links so far
abbrev pub invariant-loop-link : goal.invariant-loop-link
invariant-loop-link l = (m : Measure) → sum_by (λ (r : LinkRow). count_of r.own m) (take l.link-index l.links) ≤ l.link-index * 4294967295
