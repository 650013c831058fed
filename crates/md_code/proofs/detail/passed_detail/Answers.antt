use Rattle.std.proofs.Common.{◌∙◌, ◌++◌, sym, ap, arith, drop, length-drop, append-nil, []}
use Rattle.md_code.specs.Details.{detail, no_value}
use Rattle.md_code.proofs.DetailLemmas.{no-inputs, no-outputs}
use Rattle.md_code.proofs.detail.passed_detail.Goals as goal

pub returns : goal.returns
returns c =
    let i = c.loop-number.number in
    let inputs = no-inputs (drop i c.args.args.now) (drop i c.args.heads.now) (drop i c.args.places.now)
    (λ a b d. omega (arith, a, b, d, length-drop i c.args.args.now, length-drop i c.args.heads.now, length-drop i c.args.places.now, c.min.ensures, c.min-count.ensures)) in
    let outputs = no-outputs (drop i c.args.args.now) (drop i c.args.heads.now) (drop i c.args.places.now)
    (λ a b d. omega (arith, a, b, d, length-drop i c.args.args.now, length-drop i c.args.heads.now, length-drop i c.args.places.now, c.min.ensures, c.min-count.ensures)) in
    let ins = c.loop-number.invariant.inputs ∙ (ap (λ ms. c.loop-number.inputs.items ++ ms) inputs ∙ append-nil c.loop-number.inputs.items) in
    let outs = c.loop-number.invariant.outputs ∙ (ap (λ ms. c.loop-number.outputs.items ++ ms) outputs ∙ append-nil c.loop-number.outputs.items) in
    c.moves_detail.ensures ∙ (λ j. detail no_value (sym ins j) (sym outs j) [] [] c.args.call)
