use Rattle.law_fits.proofs.RangeLemmas.{in_range}
use Rattle.law_fits.proofs.Places.{turn_range, turn_size}
use Rattle.law_fits.proofs.ranges.variables_are_in_range.Goals as goal

pub returns-clause-in_a_clause : goal.returns-clause-in_a_clause
returns-clause-in_a_clause c = in_range

pub returns-clause-in_a_goal : goal.returns-clause-in_a_goal
returns-clause-in_a_goal c = turn_range

pub returns-clause-places : goal.returns-clause-places
returns-clause-places c = turn_size
