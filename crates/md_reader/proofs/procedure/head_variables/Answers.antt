use Rattle.std.proofs.Common.{◌+◌, ◌-◌, arith}
use Rattle.std.proofs.lemmas.Grind.{common_steps}
use Rattle.md_reader.specs.Input.{input_of}
use Rattle.md_reader.specs.Rules.{head_from}
use Rattle.md_reader.proofs.Heads.{next_head, last_head}
use Rattle.md_reader.proofs.Turns.{one_more, no_more}
use Rattle.md_reader.proofs.procedure.head_variables.Goals as goal

pub returns-in_err-next_variable : goal.returns-in_err-next_variable
returns-in_err-next_variable c =
    let e = one_more (λ n. head_from n c.loop-turn.seen.items (input_of c.loop-turn.input)) _ c.loop-turn._turn c.loop-turn-test.true c.loop-turn.invariant in
    let step = next_head (c.args.more - (c.loop-turn._turn + 1)) c.loop-turn.seen.items (input_of c.loop-turn.input) in
    grind (arith, common_steps)

pub loop-turn-preserved : goal.loop-turn-preserved
loop-turn-preserved c =
    let e = one_more (λ n. head_from n c.loop-turn.seen.items (input_of c.loop-turn.input)) _ c.loop-turn._turn c.loop-turn-test.true c.loop-turn.invariant in
    let step = next_head (c.args.more - (c.loop-turn._turn + 1)) c.loop-turn.seen.items (input_of c.loop-turn.input) in
    grind (arith, common_steps)

pub returns-in_err-next_variable-2 : goal.returns-in_err-next_variable-2
returns-in_err-next_variable-2 c =
    let e = no_more (λ n. head_from n c.loop-turn.seen.items (input_of c.loop-turn.input)) _ c.loop-turn._turn c.loop-turn-test.false c.loop-turn.invariant in
    let step = last_head c.loop-turn.seen.items (input_of c.loop-turn.input) in
    grind (arith, common_steps)

pub returns : goal.returns
returns c =
    let e = no_more (λ n. head_from n c.loop-turn.seen.items (input_of c.loop-turn.input)) _ c.loop-turn._turn c.loop-turn-test.false c.loop-turn.invariant in
    let step = last_head c.loop-turn.seen.items (input_of c.loop-turn.input) in
    grind (arith, common_steps)

pub loop-turn-init : goal.loop-turn-init
loop-turn-init c = grind (arith, common_steps)

pub loop-turn-smaller : goal.loop-turn-smaller
loop-turn-smaller c = grind (arith, common_steps)
