use Rattle.std.proofs.Common.{arith}
use Rattle.std.proofs.lemmas.Grind.{common_steps}
use Rattle.md_reader.specs.Input.{input_of}
use Rattle.md_reader.specs.Rules.{modes_from}
use Rattle.md_reader.proofs.Turns.{one_more, no_more}
use Rattle.md_reader.proofs.argument.modes_at_most.Goals as goal

pub returns-in_err-mode : goal.returns-in_err-mode
unfolding modes_from
returns-in_err-mode c =
    let e = one_more (λ n. modes_from n c.loop-turn.found.items (input_of c.loop-turn.input)) _ c.loop-turn._turn c.loop-turn-test.true c.loop-turn.invariant in
    grind (arith, common_steps)

pub returns-in_err-expect : goal.returns-in_err-expect
unfolding modes_from
returns-in_err-expect c =
    let e = one_more (λ n. modes_from n c.loop-turn.found.items (input_of c.loop-turn.input)) _ c.loop-turn._turn c.loop-turn-test.true c.loop-turn.invariant in
    grind (arith, common_steps)

pub returns-then-not-eat : goal.returns-then-not-eat
unfolding modes_from
returns-then-not-eat c =
    let e = one_more (λ n. modes_from n c.loop-turn.found.items (input_of c.loop-turn.input)) _ c.loop-turn._turn c.loop-turn-test.true c.loop-turn.invariant in
    grind (arith, common_steps)

pub loop-turn-preserved : goal.loop-turn-preserved
unfolding modes_from
loop-turn-preserved c =
    let e = one_more (λ n. modes_from n c.loop-turn.found.items (input_of c.loop-turn.input)) _ c.loop-turn._turn c.loop-turn-test.true c.loop-turn.invariant in
    grind (arith, common_steps)

pub returns-in_err-mode-2 : goal.returns-in_err-mode-2
unfolding modes_from
returns-in_err-mode-2 c =
    let e = no_more (λ n. modes_from n c.loop-turn.found.items (input_of c.loop-turn.input)) _ c.loop-turn._turn c.loop-turn-test.false c.loop-turn.invariant in
    grind (arith, common_steps)

pub returns : goal.returns
unfolding modes_from
returns c =
    let e = no_more (λ n. modes_from n c.loop-turn.found.items (input_of c.loop-turn.input)) _ c.loop-turn._turn c.loop-turn-test.false c.loop-turn.invariant in
    grind (arith, common_steps)

pub loop-turn-init : goal.loop-turn-init
loop-turn-init c = grind (arith, common_steps)

pub returns-in_err-push : goal.returns-in_err-push
returns-in_err-push c = grind (arith, common_steps)

pub loop-turn-smaller : goal.loop-turn-smaller
loop-turn-smaller c = grind (arith, common_steps)
