use Rattle.md_reader.proofs.Sizes.{goals_few}
use Rattle.md_reader.proofs.laws.a_text_has_more_bytes_than_goals.Goals as goal

pub returns : goal.returns
returns c = goals_few
