use Rattle.std.proofs.Common.{arith, lit<, ap, ◌∙◌, ◌≡◌, length, replicate}
use Rattle.md_flat.specs.declared.state.Choice.{Choice}
use Rattle.md_machine.proofs.Firsts.{first_stacks, first_callers}
use Rattle.md_machine.proofs.begin.begin.Goals as goal

pub returns-clause-first : goal.returns-clause-first
returns-clause-first g c =
    let number : c.len-call.result ≡ length c.args.code.now.details.items = omega (arith, c.len-call.ensures, c.args.code.now.details.ok.0) in
    first_stacks c.args.code.now c.args.mark _ c.len-call.result 4096 1024 1024 c.in_ok-slots.ensures c.in_ok-frames.ensures (lit< tt) number (c.in_ok-choices.ensures ∙ ap (λ (m : Choice). replicate 1024 m) c.no_choice.ensures) (lit< tt) c.in_ok-heap.ensures c.new-output.ensures.items

pub returns-clause-callers : goal.returns-clause-callers
returns-clause-callers g c = first_callers _ 1024 c.len-call.result c.args.mark c.in_ok-frames.ensures
