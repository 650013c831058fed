use Rattle.std.proofs.Common.{Some, arith}
use Rattle.std.proofs.lemmas.Grind.{common_steps}
use Rattle.std.proofs.lemmas.List.Elements.{All-pop}
use Rattle.md_heap.specs.Pending.{IsFrame}
use Rattle.md_heap.proofs.Frames.{next-more, next-last, part-there}
use Rattle.md_heap.proofs.heap.Heap.next_pair.Goals as goal

pub returns-then-frame-clause-sum : goal.returns-then-frame-clause-sum
returns-then-frame-clause-sum c =
    next-more c.args.self.now c.args.todo.now.items c.pop.new.self.items c.push_reserved.new.self.items c.in-Some.frame c.part_at-v.result c.part_at-w.result
    c.part_at-v.ensures.value c.part_at-w.ensures.value c.in-Some.ensures.items c.push_reserved.ensures.items

pub returns-then-frame-clause-step : goal.returns-then-frame-clause-step
returns-then-frame-clause-step c =
    let h = c.args.self.now in
    let f = c.in-Some.frame in
    let is = All-pop (IsFrame h) c.args.todo.now.items c.pop.new.self.items (Some f) c.in-Some.ensures.items c.requires in (
      part-there h f.first f.place c.part_at-v.result c.part_at-v.ensures.older is.1.first_there c.part_at-v.ensures.value,
      part-there h f.second f.place c.part_at-w.result c.part_at-w.ensures.older is.1.second_there c.part_at-w.ensures.value,
    )

pub returns-else-frame-clause-sum : goal.returns-else-frame-clause-sum
returns-else-frame-clause-sum c =
    let h = c.args.self.now in
    let is = All-pop (IsFrame h) c.args.todo.now.items c.pop.new.self.items (Some c.in-Some.frame) c.in-Some.ensures.items c.requires in
    next-last h c.args.todo.now.items c.pop.new.self.items c.in-Some.frame c.part_at-v.result c.part_at-w.result is.1
    c.part_at-v.ensures.value c.part_at-w.ensures.value c.in-Some.ensures.items c.if-frame.false

pub returns-else-frame-clause-step : goal.returns-else-frame-clause-step
returns-else-frame-clause-step c =
    let h = c.args.self.now in
    let f = c.in-Some.frame in
    let is = All-pop (IsFrame h) c.args.todo.now.items c.pop.new.self.items (Some f) c.in-Some.ensures.items c.requires in (
      part-there h f.first f.place c.part_at-v.result c.part_at-v.ensures.older is.1.first_there c.part_at-v.ensures.value,
      part-there h f.second f.place c.part_at-w.result c.part_at-w.ensures.older is.1.second_there c.part_at-w.ensures.value,
    )

pub returns-else-frame-clause-frames : goal.returns-else-frame-clause-frames
returns-else-frame-clause-frames c = grind (arith, common_steps)

pub returns-in_default-clause-frames : goal.returns-in_default-clause-frames
returns-in_default-clause-frames c = grind (arith, common_steps)

pub returns-in_default-clause-step : goal.returns-in_default-clause-step
returns-in_default-clause-step c = grind (arith, common_steps)

pub returns-in_default-clause-sum : goal.returns-in_default-clause-sum
returns-in_default-clause-sum c = grind (arith, common_steps)
