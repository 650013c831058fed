use Rattle.std.proofs.Common.{◌≡◌, ◌∙◌, sym, arith, true, ◌&&◌, length}
use Rattle.md_inst.specs.Instantiation.{known_at, is_newly_bound}
use Rattle.md_modes.specs.Joins.{occurs}
use Rattle.md_inst.specs.Kinds.{inst_map_of}
use Rattle.md_inst.proofs.Insts.{length-inst_map_of}
use Rattle.md_modes.proofs.Below.{some_below-found, both}
use Rattle.md_modes.proofs.nonlocals.binds_some.Goals as goal

pub returns-then-is_newly_bound : goal.returns-then-is_newly_bound
returns-then-is_newly_bound c =
    let s = inst_map_of c.args.before.now in
    let r = inst_map_of c.args.after.now in
    let i = c.loop-number.number in
    let outside : occurs c.args.outside i ≡ true = sym c.has.ensures ∙ c.if-has.true in
    let bound : is_newly_bound (known_at s i) (known_at r i) ≡ true =
    rw (← c.inst_in.ensures, ← c.inst_in-then-has.ensures) (sym c.is_newly_bound.ensures ∙ c.if-is_newly_bound.true) in
    sym (some_below-found (length s) i
    (λ x. occurs c.args.outside x && is_newly_bound (known_at s x) (known_at r x))
    (omega (arith, length-inst_map_of c.args.before.now)) (both _ _ outside bound))

pub returns : goal.returns
returns c =
    let e : length (inst_map_of c.args.before.now) ≡ c.loop-number.number = omega (arith, length-inst_map_of c.args.before.now) in
    rw e (sym c.loop-number.invariant)
