use Rattle.md_hlds.specs.Hlds.{hlds_of}
use Rattle.md_det.proofs.Whole.{main_missed}
use Rattle.md_det.proofs.main_predicate.main_of.Goals as goal
use Rattle.std.proofs.Common.{arith}
use Rattle.std.proofs.lemmas.Grind.{common_steps}

pub unreachable-requires : goal.unreachable-requires
unreachable-requires c =
    main_missed (hlds_of c.args.program.now) c.args.program.now.preds.items c.loop-number.number c.loop-number.number
    c.requires c.loop-number.invariant (rw c.deref-pred-items.ensures.value at c.loop-number-test.false)

pub loop-number-preserved : goal.loop-number-preserved
loop-number-preserved c = grind (arith, common_steps)

pub returns-then-is_main : goal.returns-then-is_main
returns-then-is_main c = grind (arith, common_steps)
