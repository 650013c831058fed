use Rattle.std.proofs.Common.{arith}
use Rattle.md_inst.specs.Kinds.{instantiation_of}
use Rattle.md_inst.proofs.Insts.{inst_map_of-put, put-past}
use Rattle.md_inst.proofs.inst.set_inst.Goals as goal

pub returns-then-place-len : goal.returns-then-place-len
returns-then-place-len c = inst_map_of-put c.args.insts.now.items c.args.place c.args.inst (omega arith)

pub returns-else-place-len : goal.returns-else-place-len
returns-else-place-len c = put-past c.args.insts.now.items c.args.place (instantiation_of c.args.inst) (omega arith)
