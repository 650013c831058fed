-- for speed: the search comes to this last (tools/answers/speed.py)
use Rattle.std.proofs.Common.{arith}
use Rattle.std.proofs.lemmas.Grind.{common_steps}
use Rattle.md_dump.proofs.summing.first_other.Goals as goal

pub returns-clause-one : goal.returns-clause-one
returns-clause-one c = grind (arith, common_steps)

pub returns-clause-other : goal.returns-clause-other
returns-clause-other c = grind (arith, common_steps)

pub returns-then-not-same_statics-clause-one : goal.returns-then-not-same_statics-clause-one
returns-then-not-same_statics-clause-one c = grind (arith, common_steps)

pub profile-requires-in-loop-place : goal.profile-requires-in-loop-place
profile-requires-in-loop-place c = grind (arith, common_steps)
