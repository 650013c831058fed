use Rattle.std.proofs.Common.{◌≡◌, ◌++◌, drop}
use Rattle.md_hlds.specs.HldsGoal.{gathered, goals_of}
use Rattle.md_printer.specs.Layout.{laid}
use Rattle.md_printer.specs.Printed as spec
use Rattle.md_printer.proofs.goal.+goals.Given as goal

-- the text so far and that of the rest are the whole one
abbrev pub invariant-parts-loop-part : goal.invariant-parts-loop-part
invariant-parts-loop-part l = l.text.items ++ laid (spec.further_goals l.names l.inner l.between (gathered (goals_of (drop l.part-index l.rest)))) ≡ l.fn.text.items ++ laid (spec.goals_tokens l.fn.names l.fn.inner l.fn.between (gathered (goals_of l.fn.goals)))
