use Rattle.std.proofs.Common.{arith}
use Rattle.std.proofs.lemmas.Grind.{common_steps}
use Rattle.md_reader.specs.Input.{input_of}
use Rattle.md_reader.specs.Rules.{functors_from}
use Rattle.md_hlds.specs.Hlds.{hlds_functors_of}
use Rattle.md_reader.proofs.Lists.{hlds_functors_of-append}
use Rattle.md_reader.proofs.Turns.{one_more, no_more}
use Rattle.md_reader.proofs.types.functors.Goals as goal

pub returns-in_err-functor : goal.returns-in_err-functor
unfolding functors_from
returns-in_err-functor c =
    let e = one_more (λ n. functors_from n (hlds_functors_of c.loop-turn.found.items) (input_of c.loop-turn.input)) _ c.loop-turn._turn c.loop-turn-test.true c.loop-turn.invariant in
    grind (arith, common_steps)

pub returns-in_err-expect : goal.returns-in_err-expect
unfolding functors_from
returns-in_err-expect c =
    let e = one_more (λ n. functors_from n (hlds_functors_of c.loop-turn.found.items) (input_of c.loop-turn.input)) _ c.loop-turn._turn c.loop-turn-test.true c.loop-turn.invariant in
    grind (arith, common_steps)

pub returns-then-not-eat : goal.returns-then-not-eat
unfolding functors_from
returns-then-not-eat c =
    let e = one_more (λ n. functors_from n (hlds_functors_of c.loop-turn.found.items) (input_of c.loop-turn.input)) _ c.loop-turn._turn c.loop-turn-test.true c.loop-turn.invariant in
    grind (arith, common_steps, hlds_functors_of-append)

pub loop-turn-preserved : goal.loop-turn-preserved
unfolding functors_from
loop-turn-preserved c =
    let e = one_more (λ n. functors_from n (hlds_functors_of c.loop-turn.found.items) (input_of c.loop-turn.input)) _ c.loop-turn._turn c.loop-turn-test.true c.loop-turn.invariant in
    grind (arith, common_steps, hlds_functors_of-append)

pub returns : goal.returns
unfolding functors_from
returns c =
    let e = no_more (λ n. functors_from n (hlds_functors_of c.loop-turn.found.items) (input_of c.loop-turn.input)) _ c.loop-turn._turn c.loop-turn-test.false c.loop-turn.invariant in
    grind (arith, common_steps)
