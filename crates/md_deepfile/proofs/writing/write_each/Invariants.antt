use Rattle.std.proofs.Common.{◌≡◌}
use Rattle.md_deepfile.specs.Pieces.{WritesOn}
use Rattle.md_deepfile.proofs.Writes.{each_so_far}
use Rattle.md_deepfile.proofs.writing.write_each.Given as goal

abbrev pub invariant-loop-thing : goal.invariant-loop-thing
invariant-loop-thing g l = record {
  so_far : WritesOn l.name (each_so_far g.T.Spelled.bytes l.thing-index l.things) (g.S.Store.held l.fn.store) l.fn.buffer.items (g.S.Store.held l.store) l.buffer.items;
  faults : g.S.Store.write_faults l.store ≡ g.S.Store.write_faults l.fn.store;
  reads : g.S.Store.read_faults l.store ≡ g.S.Store.read_faults l.fn.store;
}
