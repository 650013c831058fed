use Rattle.law_fits.proofs.InstructionLemmas.{constructions, closings, deconstructions, free_deconstructions}
use Rattle.law_fits.proofs.instructions.terms_by_role.Goals as goal

pub returns-clause-constructs : goal.returns-clause-constructs
returns-clause-constructs c = constructions

pub returns-clause-closes : goal.returns-clause-closes
returns-clause-closes c = closings

pub returns-clause-takes_apart : goal.returns-clause-takes_apart
returns-clause-takes_apart c = deconstructions

pub returns-clause-takes_all : goal.returns-clause-takes_all
returns-clause-takes_all c = free_deconstructions
