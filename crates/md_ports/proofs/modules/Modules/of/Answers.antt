use Rattle.std.proofs.Common.{map, drop, arith}
use Rattle.std.proofs.lemmas.Grind.{common_steps}
use Rattle.md_hlds.specs.Hlds.{hlds_of, procedures_of}
use Rattle.md_ports.specs.Modules.{module_of}
use Rattle.md_ports.proofs.Once.{once_first, few_modules}
use Rattle.md_ports.proofs.modules.Modules.of.Goals as goal

pub loop-pred-init : goal.loop-pred-init
loop-pred-init c = record {
  names = once_first c.args.program.now.module (map (module_of (hlds_of c.args.program.now)) (procedures_of c.args.program.now.preds.items))
      _ _ c.new-names.ensures.items c.in_ok-add_module.ensures.names;
  numbers = c.in_ok-add_module.ensures.numbers;
}

pub invariant_of-result : goal.invariant_of-result
invariant_of-result c = (
  c.loop-pred.invariant.numbers,
  few_modules c.args.program.now.module (module_of (hlds_of c.args.program.now)) c.args.program.now.preds.items c.loop-pred.names.items
      (map (module_of (hlds_of c.args.program.now)) (procedures_of (drop c.loop-pred.pred-index c.args.program.now.preds.items)))
      c.loop-pred.invariant.names c.args.program.now.numbered,
)

pub add_module-requires-in-loop-pred : goal.add_module-requires-in-loop-pred
add_module-requires-in-loop-pred c = grind (arith, common_steps)

pub loop-pred-preserved : goal.loop-pred-preserved
loop-pred-preserved c = grind (arith, common_steps)

pub returns : goal.returns
returns c = grind (arith, common_steps)
