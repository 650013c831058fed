use Rattle.std.proofs.Common.{arith}
use Rattle.std.proofs.lemmas.Grind.{common_steps}
use Rattle.md_inst.specs.Kinds.{inst_map_of}
use Rattle.md_modes.specs.Joins.{end_of}
use Rattle.md_modes.proofs.ShareLoops.{commons-end, kept-end}
use Rattle.md_modes.proofs.joined.keep.Goals as goal

pub returns-clause-common : goal.returns-clause-common
returns-clause-common c =
    commons-end (inst_map_of c.loop-variable.common.items) (end_of c.args.end) _ c.args.shared.now c.loop-variable.variable-index (omega arith) c.loop-variable.invariant.0

pub returns-clause-kept : goal.returns-clause-kept
returns-clause-kept c =
    kept-end (inst_map_of c.args.first.now) (inst_map_of c.loop-variable.common.items) (end_of c.args.end) c.loop-variable.kept.items _ c.args.shared.now
    c.loop-variable.variable-index (omega arith) c.loop-variable.invariant.1

pub loop-variable-preserved : goal.loop-variable-preserved
loop-variable-preserved c = grind (arith, common_steps)
