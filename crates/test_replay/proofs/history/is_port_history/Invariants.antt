use Rattle.std.proofs.Common.{reverse, take}
use Rattle.md_static.specs.Tables.{site_table}
use Rattle.md_trace.specs.PortHistory.{IsPortHistory}
use Rattle.test_replay.specs.Past.{IsPast}
use Rattle.test_replay.proofs.history.is_port_history.Given as goal

abbrev pub invariant-loop-event : goal.invariant-loop-event
invariant-loop-event l = record {
  history : IsPortHistory (site_table l.statics l.main) (reverse (take l.event-index l.events));
  so_far : IsPast l.past.rows.items l.past.current (reverse (take l.event-index l.events));
}
