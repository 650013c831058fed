use Rattle.std.proofs.Common.{ℕ, ◌+◌, List, length, drop, nat_eq, sym, ap, ◌∙◌}
use Rattle.std.specs.List.{starts_with}
use Rattle.std.proofs.lemmas.List.{take_rest}
use Rattle.md_people.proofs.Ranges.{any_at, none_more}
use Rattle.md_people.proofs.text.has_text.Goals as goal

pub returns-then-starts_with : goal.returns-then-starts_with
returns-then-starts_with c =
    let name = c.args.name.now in
    let text = c.args.text.now in
    sym (any_at (λ (place : ℕ). starts_with nat_eq (drop place name) text) (length name + 1) c.loop-place.place c.loop-place-test.true
    (ap (λ (xs : List ℕ). starts_with nat_eq xs text) (sym (take_rest name c.loop-place.place)) ∙ sym c.starts_with.ensures.value ∙ c.if-starts_with.true))

pub loop-place-preserved : goal.loop-place-preserved
loop-place-preserved c =
    let name = c.args.name.now in
    let text = c.args.text.now in
    none_more (λ (place : ℕ). starts_with nat_eq (drop place name) text) c.loop-place.place c.loop-place.invariant
    (ap (λ (xs : List ℕ). starts_with nat_eq xs text) (sym (take_rest name c.loop-place.place)) ∙ sym c.starts_with.ensures.value ∙ c.if-starts_with.false)
