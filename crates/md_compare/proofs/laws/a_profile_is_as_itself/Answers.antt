use Rattle.md_compare.proofs.OneRow.{as_itself}
use Rattle.md_compare.proofs.laws.a_profile_is_as_itself.Goals as goal

pub returns : goal.returns
returns c v by least = as_itself v by least
