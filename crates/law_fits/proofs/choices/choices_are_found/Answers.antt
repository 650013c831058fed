use Rattle.law_fits.proofs.LeaveLemmas.{turn_in_table, named_leaves_as, open_leaves_as}
use Rattle.law_fits.proofs.choices.choices_are_found.Goals as goal

pub returns-clause-in_table : goal.returns-clause-in_table
returns-clause-in_table c = turn_in_table

pub returns-clause-named : goal.returns-clause-named
returns-clause-named c = named_leaves_as

pub returns-clause-open_call : goal.returns-clause-open_call
returns-clause-open_call c = open_leaves_as
