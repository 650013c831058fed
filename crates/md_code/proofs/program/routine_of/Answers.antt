use Rattle.std.proofs.Common.{◌∙◌, ap}
use Rattle.md_hlds.specs.Hlds.{procedure_of, args_of}
use Rattle.md_code.specs.declared.callee.Callee.{Callee}
use Rattle.md_code.specs.Details.{inputs_of}
use Rattle.md_code.proofs.program.routine_of.Goals as goal

pub returns : goal.returns
returns c = λ there.
    let known = c.callee-callee.ensures (procedure_of c.args.pred.now) there in
    let entry = c.in_ok-entry.ensures there in
    let weight = ap (λ (e : Callee). e.weight) known in
    let head = c.in_ok-head.ensures.items ∙ c.as_slice.ensures in
    let inputs = c.in_ok-inputs.ensures ∙ ap (λ as'. inputs_of (args_of as')) c.as_slice-2.ensures.value in
    λ j. record { entry = entry j; weight = weight j; head = head j; inputs = inputs j }
