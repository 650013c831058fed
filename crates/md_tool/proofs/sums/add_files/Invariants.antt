use Rattle.std.proofs.Common.{◌≡◌, ◌≤◌, take}
use Rattle.md_commands.specs.Told.{texts}
use Rattle.md_tool.specs.Summed.{AreSummed}
use Rattle.md_tool.proofs.sums.add_files.Given as goal

-- the files so far are added up
abbrev pub invariant-loop-name : goal.invariant-loop-name
invariant-loop-name g l = record {
  summed : AreSummed (g.S.Store.held l.fn.store) (texts (take l.name-index l.names)) l.sums;
  kept : g.S.Store.held l.store ≡ g.S.Store.held l.fn.store;
  later : g.S.Store.read_faults l.fn.store ≤ g.S.Store.read_faults l.store;
  reads : g.S.Store.read_faults l.store ≡ g.S.Store.read_faults l.fn.store;
  writes : g.S.Store.write_faults l.store ≡ g.S.Store.write_faults l.fn.store;
}
