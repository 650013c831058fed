use Rattle.std.proofs.Common.{[], reverse, take}
use Rattle.md_trace.specs.PortHistory.{SiteTable, IsPortHistory}
use Rattle.test_replay.specs.Replays.{StandsWith}
use Rattle.test_replay.proofs.recorded.replay.Given as goal

abbrev pub invariant-loop-event : goal.invariant-loop-event
invariant-loop-event g l = record {
  stands : (t : SiteTable) → g.S.PortSink.stands_for l.fn.sink t [] → IsPortHistory t (reverse l.events) → StandsWith (g.S.PortSink.stands_for l.sink) g.S.PortSink.belongs l.marks.items t (reverse (take l.event-index l.events));
  alike : g.S.PortSink.alike l.fn.sink l.sink;
}
