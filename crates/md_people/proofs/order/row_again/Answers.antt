use Rattle.std.proofs.Common.{◌≡◌, sym, ◌∙◌}
use Rattle.std.proofs.lemmas.List.{get_or_default}
use Rattle.md_people.proofs.order.row_again.Goals as goal

pub returns : goal.returns
returns c d =
    let row = c.index-rows-place.result in
    let last : c.in_ok-last.last.items ≡ row.last = c.in_ok-last.ensures.items ∙ c.last.ensures in
    c.from_parts.ensures
    ∙ (λ i. record { total = c.total.ensures.total i; own = c.sums.ensures i; last = last i })
    ∙ c.index-rows-place.is ∙ sym (get_or_default c.args.rows.now c.args.place d row c.requires)
