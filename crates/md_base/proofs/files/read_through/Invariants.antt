use Rattle.std.proofs.Common.{◌≡◌, ◌-◌, ◌+◌, vec_len}
use Rattle.md_base.proofs.Told.{HasFront}
use Rattle.md_base.proofs.files.read_through.Given as goal

abbrev pub invariant-loop-store : goal.invariant-loop-store
invariant-loop-store g l = record {
  so_far : HasFront (g.S.Store.held l.fn.store) l.name l.bytes.items;
  kept : g.S.Store.held l.store ≡ g.S.Store.held l.fn.store;
  faults : g.S.Store.read_faults l.store ≡ g.S.Store.read_faults l.fn.store;
  writes : g.S.Store.write_faults l.store ≡ g.S.Store.write_faults l.fn.store;
}

abbrev pub decreases-loop-store : goal.decreases-loop-store
decreases-loop-store g l = l.max + 1 - vec_len l.bytes
