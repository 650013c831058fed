use Rattle.std.proofs.Common.{refl, sym, ◌∙◌, arith}
use Rattle.std.proofs.lemmas.Grind.{common_steps}
use Rattle.md_inst.specs.Kinds.{inst_map_of}
use Rattle.md_modes.specs.Joins.{end_of, occurs}
use Rattle.md_modes.specs.Shares.{gained}
use Rattle.md_modes.proofs.ShareLoops.{gained-inside, gained-missed}
use Rattle.md_modes.proofs.end.End.gains.Goals as goal

pub returns-then-is_gained-clause-sound : goal.returns-then-is_gained-clause-sound
returns-then-is_gained-clause-sound c e =
    let self = c.args.self in
    let hit = sym c.is_gained.ensures ∙ c.if-is_gained.true in (
      c.number_of-number.result,
      gained-inside (occurs self.view.outside) (inst_map_of self.view.before.now) (inst_map_of c.args.first.now) (inst_map_of self.insts.now)
          self.view.outside.local.now.places.items c.number_of-number.result hit,
      hit,
    )

pub loop-place-preserved : goal.loop-place-preserved
loop-place-preserved c rising =
    let self = c.args.self in
    gained-missed (gained (occurs self.view.outside) (inst_map_of self.view.before.now) (inst_map_of c.args.first.now) (end_of self))
    self.view.outside.local.now.places.items self.own.now c.loop-place.place-index _ c.number_of-number.result c.loop-place-test.true refl
    (c.number_of-number.ensures.found rising) (sym c.is_gained.ensures ∙ c.if-is_gained.false) (c.loop-place.invariant rising)

pub returns-then-is_gained-clause-complete : goal.returns-then-is_gained-clause-complete
returns-then-is_gained-clause-complete c = grind (arith, common_steps)

pub returns-clause-sound : goal.returns-clause-sound
returns-clause-sound c = grind (arith, common_steps)

pub returns-clause-complete : goal.returns-clause-complete
returns-clause-complete c = grind (arith, common_steps)
