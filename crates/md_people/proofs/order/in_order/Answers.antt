use Rattle.std.proofs.Common.{List, [], ◌∷◌, ◌++◌, get_or, map, take, None, refl, sym, ap, ◌∙◌}
use Rattle.std.specs.Prelude.{All}
use Rattle.std.proofs.lemmas.List.{map_more, take_all}
use Rattle.std.proofs.lemmas.List.Elements.{All-same}
use Rattle.std.proofs.lemmas.List.Sorted.{All-permutation}
use Rattle.md_cost.specs.SumOf.{zero_sums}
use Rattle.md_people.specs.Order.{IsKeyOf, Key}
use Rattle.md_people.specs.Ports.{PortsRow}
use Rattle.md_people.proofs.RowOrder.{small_calls, sorted_rows}
use Rattle.md_people.proofs.order.in_order.Goals as goal

pub row_again-requires : goal.row_again-requires
row_again-requires c =
    let rows = c.args.rows.now in
    let sorted = c.sort_unstable.new.self.items in
    let all : All (IsKeyOf rows) sorted = All-permutation (IsKeyOf rows) c.in_ok-keys.keys.items sorted c.sort_unstable.ensures.permutation c.in_ok-keys.ensures.keys in
    let those : All (IsKeyOf rows) c.deref-key-items.result.now = All-same (IsKeyOf rows) c.deref-key-items.result.now sorted c.deref-key-items.ensures.value all in
    (those c.loop-key.key-index (record { 0 = None }, record { 0 = 0 }, 0) c.loop-key-test.true).there

pub loop-key-preserved : goal.loop-key-preserved
loop-key-preserved c d =
    let f : Key → PortsRow = λ x. get_or c.args.rows.now x.2 d in
    let keys = c.deref-key-items.result.now in
    let i = c.loop-key.key-index in
    c.in_ok-push.ensures.items ∙ ap (λ (rs : List PortsRow). rs ++ c.in_ok-row.row ∷ []) (c.loop-key.invariant d)
    ∙ ap (λ (r : PortsRow). map f (take i keys) ++ r ∷ []) (c.in_ok-row.ensures d)
    ∙ sym (map_more f keys i (record { 0 = None }, record { 0 = 0 }, 0) c.loop-key-test.true)

pub returns : goal.returns
returns c =
    let rows = c.args.rows.now in
    let before = c.in_ok-keys.keys.items in
    let sorted = c.sort_unstable.new.self.items in
    let none : PortsRow = record { total = None; own = zero_sums; last = [] } in
    let places = c.in_ok-keys.ensures.places in
    let keys = c.in_ok-keys.ensures.keys in
    let all = All-permutation (IsKeyOf rows) before sorted c.sort_unstable.ensures.permutation keys in
    c.loop-key.invariant none
    ∙ ap (λ (xs : List Key). map (λ (x : Key). get_or rows x.2 none) xs) (take_all c.loop-key.key-index c.deref-key-items.result.now c.loop-key-test.false ∙ c.deref-key-items.ensures.value)
    ∙ sorted_rows rows none (small_calls rows none before places keys refl) before sorted places keys all c.sort_unstable.ensures.permutation c.sort_unstable.ensures.sorted
