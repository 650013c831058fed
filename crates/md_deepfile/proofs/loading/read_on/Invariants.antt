use Rattle.std.proofs.Common.{◌≡◌, ◌≤◌, ◌-◌}
use Rattle.md_deepfile.proofs.Loaded.{Fed}
use Rattle.md_deepfile.proofs.loading.read_on.Given as goal

abbrev pub invariant-pieces : goal.invariant-pieces
invariant-pieces g l = record {
  within : l.at ≤ l.max;
  fed : Fed (g.S.Store.held l.fn.store) l.name l.at l.decoder;
  kept : g.S.Store.held l.store ≡ g.S.Store.held l.fn.store;
  faults : g.S.Store.read_faults l.store ≡ g.S.Store.read_faults l.fn.store;
  writes : g.S.Store.write_faults l.store ≡ g.S.Store.write_faults l.fn.store;
}

abbrev pub decreases-pieces : goal.decreases-pieces
decreases-pieces g l = l.max - l.at
