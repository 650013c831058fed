use Rattle.std.proofs.Common.{◌≡◌, drop, map}
use Rattle.md_hlds.specs.Hlds.{hlds_of, procedures_of}
use Rattle.md_ports.specs.Modules.{told, module_of, modules_of}
use Rattle.md_ports.proofs.Once.{with_modules}
use Rattle.md_ports.proofs.modules.Modules.of.Given as goal

-- the modules so far, with those of the other predicates, are all
abbrev pub invariant-loop-pred : goal.invariant-loop-pred
invariant-loop-pred l = record {
  names : with_modules l.names.items (map (module_of (hlds_of l.program)) (procedures_of (drop l.pred-index l.program.preds.items))) ≡ modules_of (hlds_of l.program);
  numbers : told l.numbers.keys ≡ l.names.items;
}
