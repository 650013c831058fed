-- for speed: the search comes to this last (tools/answers/speed.py)
use Rattle.std.proofs.Common.{arith}
use Rattle.std.proofs.lemmas.Grind.{common_steps}
use Rattle.test_memory.proofs.link.MemLinkSink.write.Goals as goal

pub returns-then-is_due-clause-added : goal.returns-then-is_due-clause-added
returns-then-is_due-clause-added c = grind (arith, common_steps)

pub returns-then-is_due-clause-beside : goal.returns-then-is_due-clause-beside
returns-then-is_due-clause-beside c = grind (arith, common_steps)

pub returns-then-is_due-clause-cause : goal.returns-then-is_due-clause-cause
returns-then-is_due-clause-cause c = grind (arith, common_steps)

pub returns-then-is_due-clause-count : goal.returns-then-is_due-clause-count
returns-then-is_due-clause-count c = grind (arith, common_steps)

pub returns-then-is_due-clause-counted : goal.returns-then-is_due-clause-counted
returns-then-is_due-clause-counted c = grind (arith, common_steps)

pub returns-then-is_due-clause-kept : goal.returns-then-is_due-clause-kept
returns-then-is_due-clause-kept c = grind (arith, common_steps)

pub returns-then-is_due-clause-same : goal.returns-then-is_due-clause-same
returns-then-is_due-clause-same c = grind (arith, common_steps)

pub returns-then-is_due-clause-takes : goal.returns-then-is_due-clause-takes
returns-then-is_due-clause-takes c = grind (arith, common_steps)

pub returns-clause-added : goal.returns-clause-added
returns-clause-added c = grind (arith, common_steps)

pub returns-clause-beside : goal.returns-clause-beside
returns-clause-beside c = grind (arith, common_steps)

pub returns-clause-cause : goal.returns-clause-cause
returns-clause-cause c = grind (arith, common_steps)

pub returns-clause-count : goal.returns-clause-count
returns-clause-count c = grind (arith, common_steps)

pub returns-clause-counted : goal.returns-clause-counted
returns-clause-counted c = grind (arith, common_steps)

pub returns-clause-due : goal.returns-clause-due
returns-clause-due c = grind (arith, common_steps)

pub returns-clause-kept : goal.returns-clause-kept
returns-clause-kept c = grind (arith, common_steps)

pub returns-clause-same : goal.returns-clause-same
returns-clause-same c = grind (arith, common_steps)

pub returns-clause-takes : goal.returns-clause-takes
returns-clause-takes c = grind (arith, common_steps)
