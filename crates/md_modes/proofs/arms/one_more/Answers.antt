use Rattle.std.proofs.Common.{◌∙◌, refl}
use Rattle.md_inst.specs.Kinds.{inst_map_of}
use Rattle.md_modes.specs.Joins.{occurs}
use Rattle.md_modes.proofs.ArmLemmas.{begun_ok}
use Rattle.md_modes.proofs.arms.one_more.Goals as goal

pub returns-in_ok-insts-in-None : goal.returns-in_ok-insts-in-None
returns-in_ok-insts-in-None c =
    rw c.in-None.is
    (begun_ok (occurs c.args.end.view.outside) c.args.end (inst_map_of c.in_ok-insts-in-None.insts.items) c.new.result
    (c.in_ok-insts-in-None.ensures.known ∙ rw c.deref.ensures.value refl) c.new.ensures)
