use Rattle.std.proofs.Common.{arith}
use Rattle.std.proofs.lemmas.Grind.{common_steps}
use Rattle.md_cover.proofs.text.add_coverage.Goals as goal

pub returns-in_err-add_title : goal.returns-in_err-add_title
returns-in_err-add_title c = grind (arith, common_steps)
