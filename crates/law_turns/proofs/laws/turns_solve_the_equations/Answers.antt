use Rattle.law_turns.proofs.TurnLaws.{turns_of_runs_solve}
use Rattle.law_turns.proofs.laws.turns_solve_the_equations.Goals as goal

pub returns : goal.returns
returns c = turns_of_runs_solve
