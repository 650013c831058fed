use Rattle.std.proofs.Common.{◌+◌, ◌<◌, ◌≤◌, length, arith}
use Rattle.std.proofs.lemmas.Grind.{common_steps}
use Rattle.md_heap.proofs.Laid.{cell-read, count-next, count-last}
use Rattle.md_heap.proofs.Building.{row-count}
use Rattle.md_heap.proofs.heap.Heap.part_count.Goals as goal

pub index-requires : goal.index-requires
index-requires c =
    let t = c.self.inside in
    let cell = cell-read t.rows.items t.parts.items c.args.self.now c.args.cell c.self.view_is c.requires in
    omega (arith, cell.there)

pub overflow_sub-result : goal.overflow_sub-result
overflow_sub-result c =
    let t = c.self.inside in
    let next = c.index-then-place-len.result.now in
    let more : c.args.cell + 1 < length t.rows.items = omega arith in
    let counted = count-next t.rows.items t.parts.items c.args.self.now c.args.cell c.index.result.now next c.self.invariant c.self.view_is c.requires c.index.ensures more c.index-then-place-len.ensures in
    counted.0

pub returns-then-place-len-clause-value : goal.returns-then-place-len-clause-value
returns-then-place-len-clause-value c =
    let t = c.self.inside in
    let next = c.index-then-place-len.result.now in
    let more : c.args.cell + 1 < length t.rows.items = omega arith in
    let counted = count-next t.rows.items t.parts.items c.args.self.now c.args.cell c.index.result.now next c.self.invariant c.self.view_is c.requires c.index.ensures more c.index-then-place-len.ensures in
    counted.1

pub overflow_sub-result-else-place-len : goal.overflow_sub-result-else-place-len
overflow_sub-result-else-place-len c =
    let t = c.self.inside in
    let last : length t.rows.items ≤ c.args.cell + 1 = omega arith in
    let counted = count-last t.rows.items t.parts.items c.args.self.now c.args.cell c.index.result.now c.self.invariant c.self.view_is c.requires c.index.ensures last in
    omega (arith, counted.0)

pub returns-else-place-len-clause-value : goal.returns-else-place-len-clause-value
returns-else-place-len-clause-value c =
    let t = c.self.inside in
    let last : length t.rows.items ≤ c.args.cell + 1 = omega arith in
    let counted = count-last t.rows.items t.parts.items c.args.self.now c.args.cell c.index.result.now c.self.invariant c.self.view_is c.requires c.index.ensures last in
    omega (arith, counted.0, counted.1)

pub returns-then-place-len-clause-older : goal.returns-then-place-len-clause-older
returns-then-place-len-clause-older c = grind (arith, common_steps)

pub returns-else-place-len-clause-older : goal.returns-else-place-len-clause-older
returns-else-place-len-clause-older c = grind (arith, common_steps)

pub overflow_add-place : goal.overflow_add-place
overflow_add-place c =
    let t = c.self.inside in
    grind (arith, common_steps, row-count t.rows.items t.parts.items c.args.self.now c.self.view_is, c.requires, t.rows.small, t.rows.ok)
