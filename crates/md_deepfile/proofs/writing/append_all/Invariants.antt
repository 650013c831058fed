use Rattle.std.proofs.Common.{◌≡◌, ◌≤◌, ◌-◌, ◌++◌, ℕ, List, Option, length, take}
use Rattle.md_base.specs.Files.{Files, holding}
use Rattle.md_deepfile.proofs.writing.append_all.Given as goal

abbrev pub invariant-loop-done : goal.invariant-loop-done
invariant-loop-done g l = record {
  within : l.done ≤ length l.bytes;
  so_far : (before : Option Files) (out : List ℕ) → g.S.Store.held l.fn.store ≡ holding l.name out before → g.S.Store.held l.store ≡ holding l.name (out ++ take l.done l.bytes) before;
  faults : g.S.Store.write_faults l.store ≡ g.S.Store.write_faults l.fn.store;
  reads : g.S.Store.read_faults l.store ≡ g.S.Store.read_faults l.fn.store;
}

abbrev pub decreases-loop-done : goal.decreases-loop-done
decreases-loop-done g l = length l.bytes - l.done
