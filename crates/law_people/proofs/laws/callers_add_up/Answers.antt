use Rattle.law_people.proofs.Callers.{callers_sum}
use Rattle.law_people.proofs.laws.callers_add_up.Goals as goal

pub returns : goal.returns
returns c f v by m q valid viewed = callers_sum f v by m q valid viewed
