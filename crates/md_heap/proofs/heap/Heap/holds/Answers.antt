use Rattle.std.proofs.Common.{ap, nat_lt, length, sym, ◌∙◌, ◌≡◌, arith}
use Rattle.md_heap.specs.Cells.{is_there}
use Rattle.md_heap.proofs.Building.{row-count}
use Rattle.md_heap.proofs.heap.Heap.holds.Goals as goal

pub returns-in-Cell : goal.returns-in-Cell
returns-in-Cell c =
    let t = c.self.inside in
    let count : c.len.result ≡ length c.args.self.now = omega (arith, row-count t.rows.items t.parts.items c.args.self.now c.self.view_is) in
    ap (λ n. nat_lt c.in-Cell.cell n) count ∙ ap (λ v. is_there (length c.args.self.now) v) (sym c.in-Cell.is)
