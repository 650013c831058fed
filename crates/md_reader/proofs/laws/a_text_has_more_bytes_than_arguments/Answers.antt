use Rattle.md_reader.proofs.Arguments.{few_arguments}
use Rattle.md_reader.proofs.laws.a_text_has_more_bytes_than_arguments.Goals as goal

pub returns : goal.returns
returns c = few_arguments
