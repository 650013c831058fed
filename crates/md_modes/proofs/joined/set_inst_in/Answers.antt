use Rattle.std.proofs.Common.{arith}
use Rattle.md_inst.specs.Kinds.{instantiation_of}
use Rattle.md_inst.proofs.Insts.{inst_map_of-put, put-past}
use Rattle.md_modes.proofs.joined.set_inst_in.Goals as goal

pub returns-then-number-len : goal.returns-then-number-len
returns-then-number-len c = inst_map_of-put c.args.insts.now.items c.args.number c.args.inst (omega arith)

pub returns-else-number-len : goal.returns-else-number-len
returns-else-number-len c = put-past c.args.insts.now.items c.args.number (instantiation_of c.args.inst) (omega arith)
