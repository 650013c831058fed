-- Goals with their numbers.
use Rattle.std.specs.Prelude.{List, [], ◌∷◌, Option, Some, None}
use Rattle.md_hlds.specs.HldsGoal.{goal_of}
use Rattle.md_hlds.specs.HldsGoal.{Numbered as Meant}
use Rattle.md_plain.specs.declared.goal.Numbered.{Numbered}

abbrev pub numbered_of : Numbered → Meant
numbered_of p = record { number = p.number; goal = goal_of p.goal.now }

abbrev pub numbereds_of : List Numbered → List Meant
numbereds_of [] = []
numbereds_of (p ∷ ps) = numbered_of p ∷ numbereds_of ps

abbrev pub option_numbered : Option Numbered → Option Meant
option_numbered None = None
option_numbered (Some p) = Some (numbered_of p)
