use Rattle.md_inst.proofs.Insts.{known_at-inst, known_at-past}
use Rattle.md_inst.proofs.inst.inst_in.Goals as goal

pub returns-then-place-insts : goal.returns-then-place-insts
returns-then-place-insts c = known_at-inst c.args.insts.now c.args.place c.index-insts-place.result c.if-place-insts.true c.index-insts-place.is

pub returns-else-place-insts : goal.returns-else-place-insts
returns-else-place-insts c = known_at-past c.args.insts.now c.args.place c.if-place-insts.false
