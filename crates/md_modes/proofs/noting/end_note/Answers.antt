use Rattle.std.proofs.Common.{arith}
use Rattle.std.proofs.lemmas.Grind.{common_steps}
use Rattle.md_modes.proofs.noting.end_note.Goals as goal

pub returns-clause-binds : goal.returns-clause-binds
returns-clause-binds c = grind (arith, common_steps)

pub returns-clause-class : goal.returns-clause-class
returns-clause-class c = grind (arith, common_steps)

pub returns-clause-named : goal.returns-clause-named
returns-clause-named c = grind (arith, common_steps)

pub returns-clause-outside : goal.returns-clause-outside
returns-clause-outside c = grind (arith, common_steps)

pub returns-clause-size : goal.returns-clause-size
returns-clause-size c = grind (arith, common_steps)

pub returns-clause-state : goal.returns-clause-state
returns-clause-state c = grind (arith, common_steps)
