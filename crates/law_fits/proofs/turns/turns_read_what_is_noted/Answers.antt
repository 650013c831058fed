use Rattle.law_safety.proofs.Whole.{proper}
use Rattle.law_fits.proofs.TurnReads.{variables_agree, simple_reads_noted, named_reads_noted, open_reads_noted}
use Rattle.law_fits.proofs.turns.turns_read_what_is_noted.Goals as goal

pub returns-clause-known : goal.returns-clause-known
returns-clause-known c = variables_agree

pub returns-clause-simple : goal.returns-clause-simple
returns-clause-simple c = simple_reads_noted

pub returns-clause-named : goal.returns-clause-named
returns-clause-named c text s spells h = named_reads_noted s (proper text s spells h)

pub returns-clause-open_call : goal.returns-clause-open_call
returns-clause-open_call c text s spells h = open_reads_noted s (proper text s spells h)
