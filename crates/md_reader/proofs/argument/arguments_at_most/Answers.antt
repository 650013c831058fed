use Rattle.std.proofs.Common.{arith}
use Rattle.std.proofs.lemmas.Grind.{common_steps}
use Rattle.md_reader.specs.Input.{input_of}
use Rattle.md_reader.specs.Rules.{arguments_from}
use Rattle.md_hlds.specs.Hlds.{args_of}
use Rattle.md_reader.proofs.Lists.{args_of-append}
use Rattle.md_reader.proofs.Turns.{one_more, no_more}
use Rattle.md_reader.proofs.argument.arguments_at_most.Goals as goal

pub returns-in_err-argument : goal.returns-in_err-argument
unfolding arguments_from
returns-in_err-argument c =
    let e = one_more (λ n. arguments_from n (args_of c.loop-turn.found.items) (input_of c.loop-turn.input)) _ c.loop-turn._turn c.loop-turn-test.true c.loop-turn.invariant in
    grind (arith, common_steps)

pub returns-in_err-expect : goal.returns-in_err-expect
unfolding arguments_from
returns-in_err-expect c =
    let e = one_more (λ n. arguments_from n (args_of c.loop-turn.found.items) (input_of c.loop-turn.input)) _ c.loop-turn._turn c.loop-turn-test.true c.loop-turn.invariant in
    grind (arith, common_steps)

pub returns-then-not-eat : goal.returns-then-not-eat
unfolding arguments_from
returns-then-not-eat c =
    let e = one_more (λ n. arguments_from n (args_of c.loop-turn.found.items) (input_of c.loop-turn.input)) _ c.loop-turn._turn c.loop-turn-test.true c.loop-turn.invariant in
    grind (arith, common_steps, args_of-append)

pub loop-turn-preserved : goal.loop-turn-preserved
unfolding arguments_from
loop-turn-preserved c =
    let e = one_more (λ n. arguments_from n (args_of c.loop-turn.found.items) (input_of c.loop-turn.input)) _ c.loop-turn._turn c.loop-turn-test.true c.loop-turn.invariant in
    grind (arith, common_steps, args_of-append)

pub returns : goal.returns
unfolding arguments_from
returns c =
    let e = no_more (λ n. arguments_from n (args_of c.loop-turn.found.items) (input_of c.loop-turn.input)) _ c.loop-turn._turn c.loop-turn-test.false c.loop-turn.invariant in
    grind (arith, common_steps)

pub loop-turn-init : goal.loop-turn-init
loop-turn-init c = grind (arith, common_steps)

pub returns-in_err-push : goal.returns-in_err-push
returns-in_err-push c = grind (arith, common_steps)

pub loop-turn-smaller : goal.loop-turn-smaller
loop-turn-smaller c = grind (arith, common_steps)
