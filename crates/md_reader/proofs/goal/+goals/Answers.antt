use Rattle.std.proofs.Common.{rules, arith}
use Rattle.std.proofs.lemmas.Grind.{common_steps}
use Rattle.md_hlds.specs.HldsGoal.{goals_of}
use Rattle.md_hlds.proofs.Bridge.{goals_of-append}
use Rattle.md_reader.specs.Input.{input_of}
use Rattle.md_reader.specs.Rules.{within, units_from, arms_from}
use Rattle.md_reader.proofs.Turns.{one_more, no_more}
use Rattle.md_reader.proofs.Goals.{conjunction_is, within_is}
use Rattle.md_reader.proofs.goal.+goals.Goals as goal

pub units-returns-in_err-unit : goal.units-returns-in_err-unit
unfolding units_from
units-returns-in_err-unit t c =
    let e = one_more (λ n. units_from c.args.room (within c.args.room) n (goals_of c.loop-turn.found.items) (input_of c.loop-turn.input)) _ c.loop-turn._turn c.loop-turn-test.true c.loop-turn.invariant in
    grind (arith, common_steps)

pub units-returns-then-not-eat : goal.units-returns-then-not-eat
unfolding units_from
units-returns-then-not-eat t c =
    let e = one_more (λ n. units_from c.args.room (within c.args.room) n (goals_of c.loop-turn.found.items) (input_of c.loop-turn.input)) _ c.loop-turn._turn c.loop-turn-test.true c.loop-turn.invariant in
    grind (arith, common_steps, goals_of-append)

pub units-loop-turn-preserved : goal.units-loop-turn-preserved
unfolding units_from
units-loop-turn-preserved t c =
    let e = one_more (λ n. units_from c.args.room (within c.args.room) n (goals_of c.loop-turn.found.items) (input_of c.loop-turn.input)) _ c.loop-turn._turn c.loop-turn-test.true c.loop-turn.invariant in
    grind (arith, common_steps, goals_of-append)

pub units-returns : goal.units-returns
unfolding units_from
units-returns t c =
    let e = no_more (λ n. units_from c.args.room (within c.args.room) n (goals_of c.loop-turn.found.items) (input_of c.loop-turn.input)) _ c.loop-turn._turn c.loop-turn-test.false c.loop-turn.invariant in
    grind (arith, common_steps)

pub arms-returns-in_err-part : goal.arms-returns-in_err-part
unfolding arms_from
arms-returns-in_err-part t c =
    let e = one_more (λ n. arms_from (within c.args.room) n (goals_of c.loop-turn.found.items) (input_of c.loop-turn.input)) _ c.loop-turn._turn c.loop-turn-test.true c.loop-turn.invariant in
    grind (arith, common_steps)

pub arms-returns-in_err-expect : goal.arms-returns-in_err-expect
unfolding arms_from
arms-returns-in_err-expect t c =
    let e = one_more (λ n. arms_from (within c.args.room) n (goals_of c.loop-turn.found.items) (input_of c.loop-turn.input)) _ c.loop-turn._turn c.loop-turn-test.true c.loop-turn.invariant in
    grind (arith, common_steps)

pub arms-returns-then-not-eat : goal.arms-returns-then-not-eat
unfolding arms_from
arms-returns-then-not-eat t c =
    let e = one_more (λ n. arms_from (within c.args.room) n (goals_of c.loop-turn.found.items) (input_of c.loop-turn.input)) _ c.loop-turn._turn c.loop-turn-test.true c.loop-turn.invariant in
    grind (arith, common_steps, goals_of-append)

pub arms-loop-turn-preserved : goal.arms-loop-turn-preserved
unfolding arms_from
arms-loop-turn-preserved t c =
    let e = one_more (λ n. arms_from (within c.args.room) n (goals_of c.loop-turn.found.items) (input_of c.loop-turn.input)) _ c.loop-turn._turn c.loop-turn-test.true c.loop-turn.invariant in
    grind (arith, common_steps, goals_of-append)

pub arms-returns : goal.arms-returns
unfolding arms_from
arms-returns t c =
    let e = no_more (λ n. arms_from (within c.args.room) n (goals_of c.loop-turn.found.items) (input_of c.loop-turn.input)) _ c.loop-turn._turn c.loop-turn-test.false c.loop-turn.invariant in
    grind (arith, common_steps)

pub conjunction-returns-in-Ok : goal.conjunction-returns-in-Ok
conjunction-returns-in-Ok t c =
    rw (conjunction_is c.args.room (input_of c.args.input.now)) (first_of (search rules, grind (arith, common_steps)))

pub conjunction-returns-in-Err : goal.conjunction-returns-in-Err
conjunction-returns-in-Err t c =
    rw (conjunction_is c.args.room (input_of c.args.input.now)) (first_of (search rules, grind (arith, common_steps)))

pub part-returns : goal.part-returns
part-returns t c =
    rw (within_is c.args.room (input_of c.args.input.now) c.requires) c.conjunction.ensures
