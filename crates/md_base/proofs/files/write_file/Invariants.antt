use Rattle.std.proofs.Common.{◌≡◌, ◌≤◌, ◌-◌, length, take}
use Rattle.md_base.specs.Files.{holding}
use Rattle.md_base.proofs.files.write_file.Given as goal

abbrev pub invariant-loop-done : goal.invariant-loop-done
invariant-loop-done g l = record {
  within : l.done ≤ length l.bytes;
  so_far : g.S.Store.held l.store ≡ holding l.name (take l.done l.bytes) (g.S.Store.held l.fn.store);
  faults : g.S.Store.write_faults l.store ≡ g.S.Store.write_faults l.fn.store;
  reads : g.S.Store.read_faults l.store ≡ g.S.Store.read_faults l.fn.store;
}

abbrev pub decreases-loop-done : goal.decreases-loop-done
decreases-loop-done g l = length l.bytes - l.done
