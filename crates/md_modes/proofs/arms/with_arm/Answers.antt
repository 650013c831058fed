use Rattle.std.proofs.Common.{◌≡◌, sym, ap, subst, [], ◌∷◌, ◌++◌, Some}
use Rattle.md_inst.specs.Instantiation.{InstMap}
use Rattle.md_inst.specs.Kinds.{inst_map_of}
use Rattle.md_modes.specs.Branches.{after, reachable}
use Rattle.md_modes.specs.Joins.{IsArm, Ends, occurs}
use Rattle.md_modes.specs.Views.{seen}
use Rattle.md_modes.proofs.ArmLemmas.{ends_skip, ends_more}
use Rattle.md_modes.proofs.arms.with_arm.Goals as goal

pub returns-then-not-reach-clause-ends : goal.returns-then-not-reach-clause-ends
returns-then-not-reach-clause-ends c s ends arm h =
    ends_skip (occurs c.args.view.outside) (inst_map_of c.args.view.before.now) c.args.joined ends _ c.args.reach c.if-not-reach.true h

pub returns-clause-ends : goal.returns-clause-ends
returns-clause-ends c s ends arm h =
    let view = c.args.view in
    let b = inst_map_of view.before.now in
    let places = view.outside.local.now.places.items in
    let known : inst_map_of c.deref.result.now ≡ inst_map_of c.args.insts.now.items = ap inst_map_of c.deref.ensures.value in
    subst (λ (m : InstMap). Ends (occurs view.outside) b (Some c.in_ok-more.more) (ends ++ after (seen places m) c.args.reach ∷ [])) known
    (ends_more (occurs view.outside) b c.in_ok-more.more ends (seen places (inst_map_of c.deref.result.now)) c.args.reach c.if-not-reach.false
    (c.in_ok-more.ensures s (reachable ends) (subst (λ (m : InstMap). IsArm view c.args.own.places.now s m) (sym known) arm) h.joined))
