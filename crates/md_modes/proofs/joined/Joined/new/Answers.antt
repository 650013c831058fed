use Rattle.std.proofs.Common.{◌∙◌, refl, ap}
use Rattle.md_inst.specs.Kinds.{inst_map_of}
use Rattle.md_modes.specs.Shares.{begun}
use Rattle.md_modes.proofs.ArmLemmas.{joins_begun}
use Rattle.md_modes.proofs.joined.Joined.new.Goals as goal

pub returns : goal.returns
returns c p size =
    joins_begun p (inst_map_of c.args.before.now) (inst_map_of c.args.insts.items) _ refl size
    (ap inst_map_of (c.in_ok-from_slice.ensures.items ∙ c.deref.ensures.value))
    (c.in_ok-begun.ensures ∙ ap (λ ms. begun 0 (inst_map_of c.args.before.now) (inst_map_of ms)) c.deref-2.ensures.value) refl
