use Rattle.md_compare.proofs.FullNames.{names_differ}
use Rattle.md_compare.proofs.laws.full_names_differ.Goals as goal

pub returns : goal.returns
returns c v sound = names_differ v.statics sound
