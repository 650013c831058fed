use Rattle.std.proofs.Common.{arith}
use Rattle.std.proofs.lemmas.Grind.{common_steps}
use Rattle.md_modes.specs.Notes.{program_notes}
use Rattle.md_modes.proofs.check.check_named.Goals as goal

pub returns-then-not-has_main-clause-checked : goal.returns-then-not-has_main-clause-checked
unfolding program_notes
returns-then-not-has_main-clause-checked c = grind (arith, common_steps)

pub returns-then-not-has_main-clause-notes : goal.returns-then-not-has_main-clause-notes
unfolding program_notes
returns-then-not-has_main-clause-notes c = grind (arith, common_steps)

pub returns-clause-checked : goal.returns-clause-checked
unfolding program_notes
returns-clause-checked c = grind (arith, common_steps)

pub returns-clause-notes : goal.returns-clause-notes
unfolding program_notes
returns-clause-notes c = grind (arith, common_steps)
