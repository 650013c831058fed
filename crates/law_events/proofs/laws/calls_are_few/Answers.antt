use Rattle.law_events.proofs.Paid.{calls_are_paid, calls_are_few}
use Rattle.law_events.proofs.laws.calls_are_few.Goals as goal

pub returns-clause-paid : goal.returns-clause-paid
returns-clause-paid c = calls_are_paid

pub returns-clause-few : goal.returns-clause-few
returns-clause-few c = calls_are_few
