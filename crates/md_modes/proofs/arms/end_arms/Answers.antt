use Rattle.std.proofs.Common.{◌∙◌, sym}
use Rattle.md_inst.specs.Kinds.{inst_map_of}
use Rattle.md_modes.proofs.ArmLemmas.{no_end}
use Rattle.md_modes.proofs.arms.end_arms.Goals as goal

pub returns-in-None : goal.returns-in-None
returns-in-None c p ends h is =
    no_end c.args.line p c.args.view.now.outside.local.now.places.items (inst_map_of c.args.insts.now.items) (inst_map_of c.args.view.now.before.now) c.args.joined.now ends (sym c.take.ensures.value ∙ c.in-None.is) h is
