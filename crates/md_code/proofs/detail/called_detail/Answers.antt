use Rattle.std.proofs.Common.{◌∙◌, [], false}
use Rattle.md_hlds.specs.Hlds.{args_of}
use Rattle.md_code.specs.Details.{detail, no_value, call_inputs, call_outputs}
use Rattle.md_code.proofs.SurveyLemmas.{if-ok-map}
use Rattle.md_code.proofs.detail.called_detail.Goals as goal

pub returns : goal.returns
returns c =
    if-ok-map c.passed_detail.result
    (λ d is there. is
    ∙ (λ j. detail no_value (call_inputs (args_of (c.as_slice.ensures.value j)) (c.as_slice-2.ensures j) c.args.places.now) (call_outputs (args_of (c.as_slice.ensures.value j)) (c.as_slice-2.ensures j) c.args.places.now) [] []
    (record { site = c.number.ensures j; procedure = c.args.procedure; entry = c.in_ok-entry.ensures there j; size = c.args.at.size; next = c.args.at.next; other = c.args.at.other; is_closure = false })))
    c.passed_detail.ensures
