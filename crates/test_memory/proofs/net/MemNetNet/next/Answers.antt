-- for speed: the search comes to this last (tools/answers/speed.py)
use Rattle.std.proofs.Common.{arith}
use Rattle.std.proofs.lemmas.Grind.{common_steps}
use Rattle.test_memory.proofs.net.MemNetNet.next.Goals as goal

pub returns-clause-cause : goal.returns-clause-cause
returns-clause-cause c = grind (arith, common_steps)

pub returns-clause-counted : goal.returns-clause-counted
returns-clause-counted c = grind (arith, common_steps)

pub returns-clause-due : goal.returns-clause-due
returns-clause-due c = grind (arith, common_steps)

pub returns-clause-first : goal.returns-clause-first
returns-clause-first c = grind (arith, common_steps)

pub returns-clause-kept : goal.returns-clause-kept
returns-clause-kept c = grind (arith, common_steps)

pub returns-clause-no_faults : goal.returns-clause-no_faults
returns-clause-no_faults c = grind (arith, common_steps)

pub returns-clause-none : goal.returns-clause-none
returns-clause-none c = grind (arith, common_steps)

pub returns-clause-none_taken : goal.returns-clause-none_taken
returns-clause-none_taken c = grind (arith, common_steps)

pub returns-clause-stays : goal.returns-clause-stays
returns-clause-stays c = grind (arith, common_steps)

pub returns-clause-well : goal.returns-clause-well
returns-clause-well c = grind (arith, common_steps)

pub returns-in_default-clause-cause : goal.returns-in_default-clause-cause
returns-in_default-clause-cause c = grind (arith, common_steps)

pub returns-in_default-clause-counted : goal.returns-in_default-clause-counted
returns-in_default-clause-counted c = grind (arith, common_steps)

pub returns-in_default-clause-due : goal.returns-in_default-clause-due
returns-in_default-clause-due c = grind (arith, common_steps)

pub returns-in_default-clause-first : goal.returns-in_default-clause-first
returns-in_default-clause-first c = grind (arith, common_steps)

pub returns-in_default-clause-kept : goal.returns-in_default-clause-kept
returns-in_default-clause-kept c = grind (arith, common_steps)

pub returns-in_default-clause-no_faults : goal.returns-in_default-clause-no_faults
returns-in_default-clause-no_faults c = grind (arith, common_steps)

pub returns-in_default-clause-none : goal.returns-in_default-clause-none
returns-in_default-clause-none c = grind (arith, common_steps)

pub returns-in_default-clause-none_taken : goal.returns-in_default-clause-none_taken
returns-in_default-clause-none_taken c = grind (arith, common_steps)

pub returns-in_default-clause-stays : goal.returns-in_default-clause-stays
returns-in_default-clause-stays c = grind (arith, common_steps)

pub returns-in_default-clause-well : goal.returns-in_default-clause-well
returns-in_default-clause-well c = grind (arith, common_steps)

pub returns-then-is_due-clause-cause : goal.returns-then-is_due-clause-cause
returns-then-is_due-clause-cause c = grind (arith, common_steps)

pub returns-then-is_due-clause-counted : goal.returns-then-is_due-clause-counted
returns-then-is_due-clause-counted c = grind (arith, common_steps)

pub returns-then-is_due-clause-due : goal.returns-then-is_due-clause-due
returns-then-is_due-clause-due c = grind (arith, common_steps)

pub returns-then-is_due-clause-first : goal.returns-then-is_due-clause-first
returns-then-is_due-clause-first c = grind (arith, common_steps)

pub returns-then-is_due-clause-kept : goal.returns-then-is_due-clause-kept
returns-then-is_due-clause-kept c = grind (arith, common_steps)

pub returns-then-is_due-clause-no_faults : goal.returns-then-is_due-clause-no_faults
returns-then-is_due-clause-no_faults c = grind (arith, common_steps)

pub returns-then-is_due-clause-none : goal.returns-then-is_due-clause-none
returns-then-is_due-clause-none c = grind (arith, common_steps)

pub returns-then-is_due-clause-none_taken : goal.returns-then-is_due-clause-none_taken
returns-then-is_due-clause-none_taken c = grind (arith, common_steps)

pub returns-then-is_due-clause-stays : goal.returns-then-is_due-clause-stays
returns-then-is_due-clause-stays c = grind (arith, common_steps)
