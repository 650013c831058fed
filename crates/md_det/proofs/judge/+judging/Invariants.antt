use Rattle.std.proofs.Common.{◌≡◌, ◌+◌, ◌<◌, length, drop}
use Rattle.md_hlds.specs.HldsGoal.{gathered, goals_of, goals_size}
use Rattle.md_det.specs.Judge.{and_then, or_arm, onto, judge_each, judge_arms}
use Rattle.md_det.specs.Told.{reading_in, judged_told}
use Rattle.md_det.proofs.judge.+judging.Given as goal

abbrev pub invariant-judge_each-loop-goal : goal.invariant-judge_each-loop-goal
invariant-judge_each-loop-goal l = record {
  told : onto l.fn.findings.items (judge_each (reading_in l.context) (length l.fn.findings.items) l.fn.at l.fn.again (gathered (goals_of l.goals)))
      ≡ and_then (judged_told l.all l.findings.items)
      (judge_each (reading_in l.context) (length l.findings.items) l.at l.again (gathered (goals_of (drop l.goal-index l.goals))));
  few : length l.findings.items + goals_size (gathered (goals_of (drop l.goal-index l.goals))) < 4294967295;
}

abbrev pub invariant-judge_arms-loop-arm : goal.invariant-judge_arms-loop-arm
invariant-judge_arms-loop-arm l = record {
  told : onto l.fn.findings.items (judge_arms (reading_in l.context) (length l.fn.findings.items) l.fn.at l.fn.again (gathered (goals_of l.arms)))
      ≡ or_arm l.at (judged_told l.all l.findings.items)
      (judge_arms (reading_in l.context) (length l.findings.items) l.at l.again (gathered (goals_of (drop l.arm-index l.arms))));
  few : length l.findings.items + goals_size (gathered (goals_of (drop l.arm-index l.arms))) < 4294967295;
}
