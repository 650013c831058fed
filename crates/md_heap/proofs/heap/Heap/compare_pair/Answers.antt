use Rattle.md_heap.specs.Cells.{tree_of}
use Rattle.md_heap.specs.Tree.{compared}
use Rattle.md_heap.specs.Pending.{step_due}
use Rattle.md_heap.proofs.Frames.{below-then}
use Rattle.md_heap.proofs.heap.Heap.compare_pair.Goals as goal
use Rattle.std.proofs.Common.{arith}
use Rattle.std.proofs.lemmas.Grind.{common_steps}

pub returns-in_ok-push-in-Below-clause-sum : goal.returns-in_ok-push-in-Below-clause-sum
returns-in_ok-push-in-Below-clause-sum c =
    let h = c.args.self.now in
    below-then h c.args.todo.now.items c.push.new.self.items c.in-Below.frame (compared (tree_of h c.args.v) (tree_of h c.args.w)) (step_due h c.next_pair-in-Below.result c.next_pair-in-Below.new.todo.items)
    c.in-Below.ensures.sum c.in_ok-push-in-Below.ensures.items c.next_pair-in-Below.ensures.sum

pub returns-in-Differing-clause-frames : goal.returns-in-Differing-clause-frames
returns-in-Differing-clause-frames c = grind (arith, common_steps)

pub returns-in-Differing-clause-step : goal.returns-in-Differing-clause-step
returns-in-Differing-clause-step c = grind (arith, common_steps)

pub returns-in-Differing-clause-sum : goal.returns-in-Differing-clause-sum
returns-in-Differing-clause-sum c = grind (arith, common_steps)

pub returns-in-Alike-clause-frames : goal.returns-in-Alike-clause-frames
returns-in-Alike-clause-frames c = grind (arith, common_steps)

pub returns-in-Alike-clause-step : goal.returns-in-Alike-clause-step
returns-in-Alike-clause-step c = grind (arith, common_steps)

pub returns-in-Alike-clause-sum : goal.returns-in-Alike-clause-sum
returns-in-Alike-clause-sum c = grind (arith, common_steps)

pub returns-in_ok-push-in-Below-clause-frames : goal.returns-in_ok-push-in-Below-clause-frames
returns-in_ok-push-in-Below-clause-frames c = grind (arith, common_steps)

pub returns-in_ok-push-in-Below-clause-step : goal.returns-in_ok-push-in-Below-clause-step
returns-in_ok-push-in-Below-clause-step c = grind (arith, common_steps)
