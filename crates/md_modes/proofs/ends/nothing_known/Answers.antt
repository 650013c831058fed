use Rattle.std.proofs.Common.{◌∙◌, ap, [], ◌∷◌, ◌++◌, add-one, arith}
use Rattle.std.proofs.lemmas.Grind.{common_steps}
use Rattle.md_inst.specs.declared.inst.Inst.TheVariants.{Free}
use Rattle.md_inst.specs.Instantiation.{free}
use Rattle.md_inst.specs.Kinds.{inst_map_of}
use Rattle.md_inst.proofs.Insts.{inst_map_of-append, nothing_known-more}
use Rattle.md_modes.proofs.ends.nothing_known.Goals as goal

pub loop-turn-preserved : goal.loop-turn-preserved
loop-turn-preserved c =
    rw add-one
    (ap inst_map_of c.in_ok-push.ensures.items
    ∙ (inst_map_of-append c.loop-turn.insts.items (Free ∷ [])
    ∙ (ap (λ s. s ++ free ∷ []) c.loop-turn.invariant
    ∙ nothing_known-more c.loop-turn._turn)))

pub returns : goal.returns
returns c = grind (arith, common_steps)
