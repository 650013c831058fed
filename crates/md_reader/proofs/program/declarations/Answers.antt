use Rattle.std.proofs.Common.{arith}
use Rattle.std.proofs.lemmas.Grind.{common_steps}
use Rattle.md_reader.specs.Input.{input_of}
use Rattle.md_reader.specs.Rules.{declarations_from}
use Rattle.md_reader.specs.Views.{draft_of}
use Rattle.md_reader.proofs.Turns.{one_more, no_more}
use Rattle.md_reader.proofs.Room.{declared_room}
use Rattle.md_reader.proofs.program.declarations.Goals as goal

pub returns-then-sees-clause-read : goal.returns-then-sees-clause-read
unfolding declarations_from
returns-then-sees-clause-read c =
    let e = one_more (λ n. declarations_from n (draft_of c.loop-turn.draft) (input_of c.loop-turn.input)) _ c.loop-turn._turn c.loop-turn-test.true c.loop-turn.invariant.whole in
    grind (arith, common_steps)

pub returns-in_err-declared-clause-read : goal.returns-in_err-declared-clause-read
unfolding declarations_from
returns-in_err-declared-clause-read c =
    let e = one_more (λ n. declarations_from n (draft_of c.loop-turn.draft) (input_of c.loop-turn.input)) _ c.loop-turn._turn c.loop-turn-test.true c.loop-turn.invariant.whole in
    grind (arith, common_steps)

pub loop-turn-preserved : goal.loop-turn-preserved
unfolding declarations_from
loop-turn-preserved c =
    let e = one_more (λ n. declarations_from n (draft_of c.loop-turn.draft) (input_of c.loop-turn.input)) _ c.loop-turn._turn c.loop-turn-test.true c.loop-turn.invariant.whole in
    record {
      whole = grind (arith, common_steps);
      few = declared_room c.loop-turn.draft c.declared.new.draft c.loop-turn.input c.declared.new.input c.in_ok-declared.ensures c.loop-turn.invariant.few;
    }

pub returns-clause-read : goal.returns-clause-read
unfolding declarations_from
returns-clause-read c =
    let e = no_more (λ n. declarations_from n (draft_of c.loop-turn.draft) (input_of c.loop-turn.input)) _ c.loop-turn._turn c.loop-turn-test.false c.loop-turn.invariant.whole in
    grind (arith, common_steps)
