use Rattle.std.proofs.Common.{◌∙◌, ◌<◌, ◌-◌, pos, slice_set, sym, ap, arith, length, drop, length-drop}
use Rattle.md_hlds.specs.Hlds.{hlds_of}
use Rattle.md_switch.specs.declared.key.Key.TheVariants.{Int}
use Rattle.md_code.proofs.DetailLemmas.{targets-next, targets-end}
use Rattle.md_code.proofs.cases.add_targets.Goals as goal

pub loop-place-preserved : goal.loop-place-preserved
loop-place-preserved c = λ stand.
    let both = c.loop-place.invariant stand in
    let i = c.loop-place.place in
    let lt : i < length c.args.keys.now = omega (arith, c.min-place-end.ensures) in
    let lt' : i < length c.args.arms.now = omega (arith, c.min-place-end.ensures) in
    let next = targets-next (hlds_of c.args.tables.now.source.checked.now) c.args.low c.loop-place.targets.items c.set_target.new.targets.items c.args.keys.now c.args.arms.now i c.loop-place.part c.in_ok-part-2.part (Int (pos 0))
    lt lt' both.1 c.in_ok-part-2.ensures
    (c.set_target.ensures ∙ (λ j. slice_set c.loop-place.targets.items ((c.saturating_sub-functor.ensures ∙ ap (λ k. k - c.args.low) c.key_functor.ensures) j) (c.in_ok-head_at.ensures j))) in
    (next.0 ∙ both.0, next.1)

pub returns : goal.returns
returns c = λ stand.
    let both = c.loop-place.invariant stand in
    sym (targets-end (hlds_of c.args.tables.now.source.checked.now) c.args.low c.loop-place.targets.items (drop c.loop-place.place c.args.keys.now) (drop c.loop-place.place c.args.arms.now) c.loop-place.part
    (λ a b. omega (arith, a, b, length-drop c.loop-place.place c.args.keys.now, length-drop c.loop-place.place c.args.arms.now, c.min-place-end.ensures)))
    ∙ both.0
