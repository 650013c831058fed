use Rattle.std.proofs.Common.{◌≡◌, ◌≤◌, ◌-◌, take, false}
use Rattle.md_http.specs.Heard.{most_bytes}
use Rattle.md_http.specs.Reading.{HasRead}
use Rattle.md_http.proofs.reading.listen.Given as goal

-- what stands in the room so far was read
abbrev pub invariant-loop-link : goal.invariant-loop-link
invariant-loop-link g l = record {
  within : l.count ≤ most_bytes;
  read : HasRead (g.C.Source.stream l.fn.link) (g.C.Source.stream l.link) (take l.count l.bytes) false;
  faults : g.C.Source.read_faults l.link ≡ g.C.Source.read_faults l.fn.link;
  beside : g.C.Source.sink_beside l.link ≡ g.C.Source.sink_beside l.fn.link;
}

abbrev pub decreases-loop-link : goal.decreases-loop-link
decreases-loop-link g l = most_bytes - l.count
