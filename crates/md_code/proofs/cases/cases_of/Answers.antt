use Rattle.std.proofs.Common.{◌∙◌, ◌<◌, ◌++◌, pos, get_or, sym, ap, arith, length, drop, length-drop, append-nil}
use Rattle.md_hlds.specs.Hlds.{hlds_of}
use Rattle.md_switch.specs.declared.key.Key.TheVariants.{Int}
use Rattle.md_switch.specs.Keys.{key_of_code}
use Rattle.md_code.specs.Details.{key_cases}
use Rattle.md_code.proofs.DetailLemmas.{cases-next, cases-end}
use Rattle.md_code.proofs.cases.cases_of.Goals as goal

pub loop-place-preserved : goal.loop-place-preserved
loop-place-preserved c = λ stand.
    let s = hlds_of c.args.tables.now.source.checked.now in
    let both = c.loop-place.invariant stand in
    let i = c.loop-place.place in
    let lt : i < length c.args.keys.now = omega (arith, c.min-place-end.ensures) in
    let lt' : i < length c.args.arms.now = omega (arith, c.min-place-end.ensures) in
    let next = cases-next s c.loop-place.cases.items c.add_case.new.cases.items c.args.keys.now c.args.arms.now i c.loop-place.part c.in_ok-part-2.part (Int (pos 0))
    lt lt' both.1 c.in_ok-part-2.ensures
    (c.in_ok-add_case.ensures ∙ ap (λ target. c.loop-place.cases.items ++ key_cases s (key_of_code (get_or c.args.keys.now i (Int (pos 0)))) target) c.in_ok-head_at.ensures) in
    (next.0 ∙ both.0, next.1)

pub returns : goal.returns
returns c = λ stand.
    let both = c.loop-place.invariant stand in
    sym (ap (λ cs. c.loop-place.cases.items ++ cs) (cases-end (hlds_of c.args.tables.now.source.checked.now) (drop c.loop-place.place c.args.keys.now) (drop c.loop-place.place c.args.arms.now) c.loop-place.part
    (λ a b. omega (arith, a, b, length-drop c.loop-place.place c.args.keys.now, length-drop c.loop-place.place c.args.arms.now, c.min-place-end.ensures)))
    ∙ append-nil c.loop-place.cases.items)
    ∙ both.0
