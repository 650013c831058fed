use Rattle.std.proofs.Common.{◌≡◌, ℕ, ◌<◌, length, get_or, Some, refl, ap, ◌∙◌, arith}
use Rattle.std.proofs.lemmas.Grind.{common_steps}
use Rattle.std.specs.List.{slice_get}
use Rattle.std.proofs.lemmas.List.{get_or_read}
use Rattle.std.proofs.lemmas.Option.{slice_get_read}
use Rattle.md_cost.proofs.IncomingSteps.{threaded_more, threaded_all}
use Rattle.md_cost.proofs.incoming.thread_incoming.Goals as goal

pub loop-place-preserved : goal.loop-place-preserved
loop-place-preserved c =
    let is = c.loop-place.invariant in
    let lt = c.loop-place-test.true in
    let at : slice_get c.args.links.now c.loop-place.place ≡ Some c.index-links-place.result = slice_get_read c.args.links.now (length c.args.links.now) c.loop-place.place c.index-links-place.result refl lt c.index-links-place.is in
    let ends = c.requires.ends c.loop-place.place c.index-links-place.result lt in
    let there : c.index-links-place.result.callee < c.args.nodes = rw (← c.index-links-place.is) at ends in
    let callee = c.number-callee.ensures in
    let size = is.each_last in
    let read : c.index.result.now ≡ get_or c.loop-place.last.items c.index-links-place.result.callee 0 = get_or_read c.loop-place.last.items c.number-callee.result c.index.result.now (omega arith) c.index.ensures 0 ∙ ap (λ (k : ℕ). get_or c.loop-place.last.items k 0) callee in
    rw (c.in_ok-push.ensures.items, read, callee) (threaded_more c.args.links.now c.args.nodes c.loop-place.place c.loop-place.last.items c.loop-place.before.items is c.index-links-place.result at there)

pub returns : goal.returns
returns c =
    let end = c.loop-place.auto.place-end in
    let done : c.loop-place.place ≡ length c.args.links.now = omega arith in
    threaded_all c.args.links.now c.args.nodes c.loop-place.last.items c.loop-place.before.items (rw done at c.loop-place.invariant)

pub loop-place-init : goal.loop-place-init
loop-place-init c = grind (arith, common_steps)

pub loop-place-smaller : goal.loop-place-smaller
loop-place-smaller c = grind (arith, common_steps)

pub returns-in_err-before : goal.returns-in_err-before
returns-in_err-before c = grind (arith, common_steps)

pub returns-in_err-last : goal.returns-in_err-last
returns-in_err-last c = grind (arith, common_steps)

pub returns-in_err-push : goal.returns-in_err-push
returns-in_err-push c = grind (arith, common_steps)
