use Rattle.std.proofs.Common.{arith}
use Rattle.std.proofs.lemmas.Grind.{common_steps}
use Rattle.md_table.specs.Html.{html_of}
use Rattle.md_table.proofs.html.add_html.Goals as goal

pub returns : goal.returns
unfolding html_of
returns c = grind (arith, common_steps)
