use Rattle.std.proofs.Common.{false, true, ap, ◌∙◌, subst, length, arith}
use Rattle.std.proofs.lemmas.Grind.{common_steps}
use Rattle.md_heap.specs.declared.same.Step.{Step}
use Rattle.md_heap.specs.Pending.{IsStep, more, step_due}
use Rattle.md_heap.proofs.Frames.{stands-next, ends, over}
use Rattle.md_heap.proofs.heap.Heap.same.Goals as goal

pub returns : goal.returns
returns c = over c.args.self.now c.args.a c.args.b c.loop-pairs.v c.loop-pairs.w c.loop-pairs.todo.items c.loop-pairs.pairs c.args.limit c.loop-pairs.invariant c.loop-pairs-test.false

pub returns-in-Found : goal.returns-in-Found
returns-in-Found c =
    let h = c.args.self.now in
    let gs = c.compare_pair.new.todo.items in
    ends h c.args.a c.args.b c.loop-pairs.v c.loop-pairs.w c.loop-pairs.todo.items c.loop-pairs.pairs c.args.limit false c.loop-pairs.invariant
    (c.in_ok-compare_pair.ensures.sum ∙ ap (λ s. more 1 (step_due h s gs)) c.in-Found.is)
    c.loop-pairs-test.true

pub returns-in-Done : goal.returns-in-Done
returns-in-Done c =
    let h = c.args.self.now in
    let gs = c.compare_pair.new.todo.items in
    ends h c.args.a c.args.b c.loop-pairs.v c.loop-pairs.w c.loop-pairs.todo.items c.loop-pairs.pairs c.args.limit true c.loop-pairs.invariant
    (c.in_ok-compare_pair.ensures.sum ∙ ap (λ s. more 1 (step_due h s gs)) c.in-Done.is)
    c.loop-pairs-test.true

pub loop-pairs-preserved : goal.loop-pairs-preserved
loop-pairs-preserved c =
    let h = c.args.self.now in
    let gs = c.compare_pair.new.todo.items in
    let P : Step → Type 0 = λ s. IsStep (length h) s in
    let there = subst P c.in-Next.is c.in_ok-compare_pair.ensures.step in
    stands-next h c.args.a c.args.b c.loop-pairs.v c.loop-pairs.w c.in-Next.x c.in-Next.y c.loop-pairs.todo.items gs c.loop-pairs.pairs c.loop-pairs.invariant
    (c.in_ok-compare_pair.ensures.sum ∙ ap (λ s. more 1 (step_due h s gs)) c.in-Next.is)
    there.0 there.1 c.in_ok-compare_pair.ensures.frames

pub compare_pair-requires-clause-frames : goal.compare_pair-requires-clause-frames
compare_pair-requires-clause-frames c = grind (arith, common_steps)

pub compare_pair-requires-clause-v_there : goal.compare_pair-requires-clause-v_there
compare_pair-requires-clause-v_there c = grind (arith, common_steps)

pub compare_pair-requires-clause-w_there : goal.compare_pair-requires-clause-w_there
compare_pair-requires-clause-w_there c = grind (arith, common_steps)

pub loop-pairs-init : goal.loop-pairs-init
loop-pairs-init c = grind (arith, common_steps)

pub loop-pairs-smaller : goal.loop-pairs-smaller
loop-pairs-smaller c = grind (arith, common_steps)

pub returns-in_err-compare_pair : goal.returns-in_err-compare_pair
returns-in_err-compare_pair c = grind (arith, common_steps)
