use Rattle.std.proofs.Common.{arith}
use Rattle.std.proofs.lemmas.Grind.{common_steps}
use Rattle.md_reader.specs.Input.{input_of}
use Rattle.md_reader.specs.Rules.{simple_types_from}
use Rattle.md_hlds.specs.Hlds.{hlds_types_of}
use Rattle.md_reader.proofs.Lists.{hlds_types_of-append}
use Rattle.md_reader.proofs.Turns.{one_more, no_more}
use Rattle.md_reader.proofs.types.simple_types_at_most.Goals as goal

pub returns-in_err-simple_type : goal.returns-in_err-simple_type
unfolding simple_types_from
returns-in_err-simple_type c =
    let e = one_more (λ n. simple_types_from n (hlds_types_of c.loop-turn.found.items) (input_of c.loop-turn.input)) _ c.loop-turn._turn c.loop-turn-test.true c.loop-turn.invariant in
    grind (arith, common_steps)

pub returns-in_err-expect : goal.returns-in_err-expect
unfolding simple_types_from
returns-in_err-expect c =
    let e = one_more (λ n. simple_types_from n (hlds_types_of c.loop-turn.found.items) (input_of c.loop-turn.input)) _ c.loop-turn._turn c.loop-turn-test.true c.loop-turn.invariant in
    grind (arith, common_steps)

pub returns-then-not-eat : goal.returns-then-not-eat
unfolding simple_types_from
returns-then-not-eat c =
    let e = one_more (λ n. simple_types_from n (hlds_types_of c.loop-turn.found.items) (input_of c.loop-turn.input)) _ c.loop-turn._turn c.loop-turn-test.true c.loop-turn.invariant in
    grind (arith, common_steps, hlds_types_of-append)

pub loop-turn-preserved : goal.loop-turn-preserved
unfolding simple_types_from
loop-turn-preserved c =
    let e = one_more (λ n. simple_types_from n (hlds_types_of c.loop-turn.found.items) (input_of c.loop-turn.input)) _ c.loop-turn._turn c.loop-turn-test.true c.loop-turn.invariant in
    grind (arith, common_steps, hlds_types_of-append)

pub returns-in_err-simple_type-2 : goal.returns-in_err-simple_type-2
unfolding simple_types_from
returns-in_err-simple_type-2 c =
    let e = no_more (λ n. simple_types_from n (hlds_types_of c.loop-turn.found.items) (input_of c.loop-turn.input)) _ c.loop-turn._turn c.loop-turn-test.false c.loop-turn.invariant in
    grind (arith, common_steps)

pub returns : goal.returns
unfolding simple_types_from
returns c =
    let e = no_more (λ n. simple_types_from n (hlds_types_of c.loop-turn.found.items) (input_of c.loop-turn.input)) _ c.loop-turn._turn c.loop-turn-test.false c.loop-turn.invariant in
    grind (arith, common_steps)

pub loop-turn-init : goal.loop-turn-init
loop-turn-init c = grind (arith, common_steps)

pub returns-in_err-push : goal.returns-in_err-push
returns-in_err-push c = grind (arith, common_steps)

pub loop-turn-smaller : goal.loop-turn-smaller
loop-turn-smaller c = grind (arith, common_steps)
