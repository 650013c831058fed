use Rattle.std.proofs.Common.{◌≡◌, ◌≤◌, ◌-◌, length, take}
use Rattle.md_base.specs.Outside.{added}
use Rattle.md_base.proofs.files.write_whole.Given as goal

abbrev pub invariant-loop-done : goal.invariant-loop-done
invariant-loop-done g l = record {
  within : l.done ≤ length l.bytes;
  so_far : g.K.Sink.held l.sink ≡ added (take l.done l.bytes) (g.K.Sink.held l.fn.sink);
  faults : g.K.Sink.write_faults l.sink ≡ g.K.Sink.write_faults l.fn.sink;
  beside : g.K.Sink.source_beside l.sink ≡ g.K.Sink.source_beside l.fn.sink;
}

abbrev pub decreases-loop-done : goal.decreases-loop-done
decreases-loop-done g l = length l.bytes - l.done
