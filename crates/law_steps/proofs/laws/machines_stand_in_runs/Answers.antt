use Rattle.law_steps.proofs.MakesLemmas.{begins_there, returns_in, retries_in, unwinds_in, unfolds_in, front_of}
use Rattle.law_steps.proofs.laws.machines_stand_in_runs.Goals as goal

pub returns-clause-begins : goal.returns-clause-begins
returns-clause-begins c = begins_there

pub returns-clause-returns : goal.returns-clause-returns
returns-clause-returns c = returns_in

pub returns-clause-retries : goal.returns-clause-retries
returns-clause-retries c = retries_in

pub returns-clause-unwinds : goal.returns-clause-unwinds
returns-clause-unwinds c = unwinds_in

pub returns-clause-turns : goal.returns-clause-turns
returns-clause-turns c = unfolds_in

pub returns-clause-fronts : goal.returns-clause-fronts
returns-clause-fronts c = front_of
