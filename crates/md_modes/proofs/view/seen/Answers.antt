use Rattle.std.proofs.Common.{refl, arith, length-append, [], ◌∷◌}
use Rattle.std.proofs.lemmas.Grind.{common_steps}
use Rattle.md_inst.specs.Kinds.{inst_map_of}
use Rattle.md_modes.proofs.ViewLoops.{seen-loop}
use Rattle.md_modes.proofs.view.seen.Goals as goal

pub loop-place-preserved : goal.loop-place-preserved
loop-place-preserved c = (
  seen-loop c.loop-place.view.items c.push.new.self.items c.inst_at.result c.args.places.now c.loop-place.place-index _ (inst_map_of c.args.insts.now) _
      c.loop-place-test.true refl c.inst_at.ensures c.in_ok-push.ensures.items c.loop-place.invariant.0,
  rw c.in_ok-push.ensures.items (omega (arith, c.loop-place.invariant.1, length-append c.loop-place.view.items (c.inst_at.result ∷ []))),
)

pub returns-clause-all : goal.returns-clause-all
returns-clause-all c = grind (arith, common_steps)

pub returns-clause-known : goal.returns-clause-known
returns-clause-known c = grind (arith, common_steps)
