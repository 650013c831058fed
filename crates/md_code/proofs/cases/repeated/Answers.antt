use Rattle.std.proofs.Common.{◌≡◌, ◌∙◌, ◌++◌, ◌∷◌, ◌-◌, [], ◌+◌, ap, arith, suc}
use Rattle.md_code.specs.Details.{repeated}
use Rattle.md_code.proofs.DetailLemmas.{repeated-push}
use Rattle.md_code.proofs.cases.repeated.Goals as goal

pub loop-place-preserved : goal.loop-place-preserved
loop-place-preserved c =
    let more : suc c.loop-place._place ≡ c.loop-place._place + 1 = omega arith in
    c.in_ok-push.ensures.items ∙ (ap (λ ts. ts ++ c.args.target ∷ []) c.loop-place.invariant ∙ (repeated-push c.loop-place._place c.args.target ∙ ap (λ n. repeated n c.args.target) more))

pub returns : goal.returns
returns c =
    let all : c.loop-place._place ≡ c.args.high - c.args.low = omega (arith, c.saturating_sub-place-end.ensures) in
    c.in_ok-push-2.ensures.items ∙ (ap (λ ts. ts ++ c.args.target ∷ []) c.loop-place.invariant ∙ (repeated-push c.loop-place._place c.args.target ∙ ap (λ n. repeated (suc n) c.args.target) all))
