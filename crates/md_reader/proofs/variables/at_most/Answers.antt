use Rattle.std.proofs.Common.{arith}
use Rattle.std.proofs.lemmas.Grind.{common_steps}
use Rattle.md_reader.specs.Input.{input_of}
use Rattle.md_reader.specs.Rules.{variables_from}
use Rattle.md_reader.proofs.Turns.{one_more, no_more}
use Rattle.md_reader.proofs.variables.at_most.Goals as goal

pub returns-in_err-variable : goal.returns-in_err-variable
unfolding variables_from
returns-in_err-variable c =
    let e = one_more (λ n. variables_from c.args.closing n c.loop-turn.seen.items c.loop-turn.found (input_of c.loop-turn.input)) _ c.loop-turn._turn c.loop-turn-test.true c.loop-turn.invariant in
    grind (arith, common_steps)

pub returns-in_err-expect : goal.returns-in_err-expect
unfolding variables_from
returns-in_err-expect c =
    let e = one_more (λ n. variables_from c.args.closing n c.loop-turn.seen.items c.loop-turn.found (input_of c.loop-turn.input)) _ c.loop-turn._turn c.loop-turn-test.true c.loop-turn.invariant in
    grind (arith, common_steps)

pub returns-then-not-eat : goal.returns-then-not-eat
unfolding variables_from
returns-then-not-eat c =
    let e = one_more (λ n. variables_from c.args.closing n c.loop-turn.seen.items c.loop-turn.found (input_of c.loop-turn.input)) _ c.loop-turn._turn c.loop-turn-test.true c.loop-turn.invariant in
    grind (arith, common_steps)

pub loop-turn-preserved : goal.loop-turn-preserved
unfolding variables_from
loop-turn-preserved c =
    let e = one_more (λ n. variables_from c.args.closing n c.loop-turn.seen.items c.loop-turn.found (input_of c.loop-turn.input)) _ c.loop-turn._turn c.loop-turn-test.true c.loop-turn.invariant in
    grind (arith, common_steps)

pub returns-in_err-variable-2 : goal.returns-in_err-variable-2
unfolding variables_from
returns-in_err-variable-2 c =
    let e = no_more (λ n. variables_from c.args.closing n c.loop-turn.seen.items c.loop-turn.found (input_of c.loop-turn.input)) _ c.loop-turn._turn c.loop-turn-test.false c.loop-turn.invariant in
    grind (arith, common_steps)

pub returns : goal.returns
unfolding variables_from
returns c =
    let e = no_more (λ n. variables_from c.args.closing n c.loop-turn.seen.items c.loop-turn.found (input_of c.loop-turn.input)) _ c.loop-turn._turn c.loop-turn-test.false c.loop-turn.invariant in
    grind (arith, common_steps)
