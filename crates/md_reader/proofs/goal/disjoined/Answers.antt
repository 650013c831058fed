use Rattle.std.proofs.Common.{subst, Ok}
use Rattle.md_hlds.specs.HldsGoal.{At, GoalExpr, goal_of}
use Rattle.md_hlds.proofs.Bridge.{expr_of-Disj}
use Rattle.md_reader.specs.Input.{Reads}
use Rattle.md_reader.proofs.goal.disjoined.Goals as goal

pub returns : goal.returns
returns c i =
    subst (λ (t : GoalExpr). Reads (λ all. goal_of all.value) (Ok (At c.args.line t, i)) c.boxed.result i) (expr_of-Disj c.args.arms) (c.boxed.ensures i)
