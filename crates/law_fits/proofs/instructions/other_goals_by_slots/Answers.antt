use Rattle.law_fits.proofs.InstructionLemmas.{sums, comparisons, writes_of_integers, writes_of_texts, ends_of_lines, throws}
use Rattle.law_fits.proofs.instructions.other_goals_by_slots.Goals as goal

pub returns-clause-computes : goal.returns-clause-computes
returns-clause-computes c = sums

pub returns-clause-compares : goal.returns-clause-compares
returns-clause-compares c = comparisons

pub returns-clause-writes_int : goal.returns-clause-writes_int
returns-clause-writes_int c = writes_of_integers

pub returns-clause-writes_text : goal.returns-clause-writes_text
returns-clause-writes_text c = writes_of_texts

pub returns-clause-ends_line : goal.returns-clause-ends_line
returns-clause-ends_line c = ends_of_lines

pub returns-clause-throws : goal.returns-clause-throws
returns-clause-throws c = throws
