use Rattle.md_reader.proofs.FaultFirst.{one_syntax_fault, one_limit_fault, one_kind_of_fault}
use Rattle.md_reader.proofs.laws.a_text_has_one_first_fault.Goals as goal

pub returns : goal.returns
returns c = record { syntax = one_syntax_fault; limit = one_limit_fault; kind = one_kind_of_fault }
