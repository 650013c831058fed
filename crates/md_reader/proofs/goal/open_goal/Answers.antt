use Rattle.std.proofs.Common.{rules, arith, ◌≡◌}
use Rattle.std.proofs.lemmas.Grind.{common_steps}
use Rattle.md_reader.specs.Input.{input_of}
use Rattle.md_reader.specs.Rules.{open_goal}
use Rattle.md_reader.proofs.Turns.{deeper}
use Rattle.md_reader.proofs.goal.open_goal.Goals as goal

pub returns-then-room-gt0-clause-read : goal.returns-then-room-gt0-clause-read
unfolding open_goal
returns-then-room-gt0-clause-read c = rw (deeper (λ n. open_goal n (input_of c.args.input.now)) c.args.room (omega arith)) c.expect.ensures

pub returns-then-sees-clause-read : goal.returns-then-sees-clause-read
unfolding open_goal
returns-then-sees-clause-read c = let none : c.args.room ≡ 0 = omega arith in rw none (first_of (search rules, grind (arith, common_steps)))

pub returns-else-sees-clause-read : goal.returns-else-sees-clause-read
unfolding open_goal
returns-else-sees-clause-read c = let none : c.args.room ≡ 0 = omega arith in rw none (first_of (search rules, grind (arith, common_steps)))
