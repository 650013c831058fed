use Rattle.std.proofs.Common.{◌≡◌, length, ap, arith}
use Rattle.std.proofs.lemmas.Grind.{common_steps}
use Rattle.md_heap.specs.declared.row.Row.{Row}
use Rattle.md_heap.specs.declared.value.Value.TheVariants.{Cell}
use Rattle.md_heap.specs.Layout.{cells_of}
use Rattle.md_heap.proofs.Building.{built, row-count, new-means, old-stays}
use Rattle.md_heap.proofs.heap.Heap.build.Goals as goal

pub invariant_of-self-2 : goal.invariant_of-self-2
invariant_of-self-2 c =
    let t = c.self.inside in
    let row : Row = record { head = c.args.head; first = c.len-first.result } in
    let first : row.first ≡ length t.parts.items = omega arith in
    let is = built t.rows.items c.reserve.new.self.items c.push_reserved.new.self.items t.parts.items c.add_all.new.values.items c.args.parts.now c.args.self.now row
    c.self.invariant c.self.view_is c.in_ok-reserve.ensures.items c.push_reserved.ensures.items c.in_ok-add_all.ensures.items first c.requires.there in
    is.laid

pub returns-clause-cell : goal.returns-clause-cell
returns-clause-cell c =
    let t = c.self.inside in
    let at : c.len-cell.result ≡ length c.args.self.now = omega (arith, row-count t.rows.items t.parts.items c.args.self.now c.self.view_is) in
    ap Cell at

pub returns-clause-added : goal.returns-clause-added
returns-clause-added c =
    let t = c.self.inside in
    let row : Row = record { head = c.args.head; first = c.len-first.result } in
    let first : row.first ≡ length t.parts.items = omega arith in
    let is = built t.rows.items c.reserve.new.self.items c.push_reserved.new.self.items t.parts.items c.add_all.new.values.items c.args.parts.now c.args.self.now row
    c.self.invariant c.self.view_is c.in_ok-reserve.ensures.items c.push_reserved.ensures.items c.in_ok-add_all.ensures.items first c.requires.there in
    is.cells

pub returns-clause-means : goal.returns-clause-means
returns-clause-means c =
    let t = c.self.inside in
    let row : Row = record { head = c.args.head; first = c.len-first.result } in
    let first : row.first ≡ length t.parts.items = omega arith in
    let is = built t.rows.items c.reserve.new.self.items c.push_reserved.new.self.items t.parts.items c.add_all.new.values.items c.args.parts.now c.args.self.now row
    c.self.invariant c.self.view_is c.in_ok-reserve.ensures.items c.push_reserved.ensures.items c.in_ok-add_all.ensures.items first c.requires.there in
    let at : c.len-cell.result ≡ length c.args.self.now = omega (arith, row-count t.rows.items t.parts.items c.args.self.now c.self.view_is) in
    new-means (cells_of c.push_reserved.new.self.items c.add_all.new.values.items) c.args.self.now c.args.head c.len-cell.result c.args.parts.now is.cells at

pub returns-clause-stays : goal.returns-clause-stays
returns-clause-stays c =
    let t = c.self.inside in
    let row : Row = record { head = c.args.head; first = c.len-first.result } in
    let first : row.first ≡ length t.parts.items = omega arith in
    let is = built t.rows.items c.reserve.new.self.items c.push_reserved.new.self.items t.parts.items c.add_all.new.values.items c.args.parts.now c.args.self.now row
    c.self.invariant c.self.view_is c.in_ok-reserve.ensures.items c.push_reserved.ensures.items c.in_ok-add_all.ensures.items first c.requires.there in
    old-stays (cells_of c.push_reserved.new.self.items c.add_all.new.values.items) c.args.self.now (record { head = c.args.head; parts = c.args.parts.now }) is.cells

pub returns-clause-err : goal.returns-clause-err
returns-clause-err c = grind (arith, common_steps)
