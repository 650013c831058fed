use Rattle.law_safety.proofs.Spelled.{spelled, spelled_at}
use Rattle.law_safety.proofs.turns.spelled_programs_are_tidy.Goals as goal

pub returns : goal.returns
returns c bytes s spells n p at = spelled_at s.procedures n p (spelled bytes s spells) at
