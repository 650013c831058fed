use Rattle.std.proofs.Common.{◌∙◌}
use Rattle.clap.proofs.WalkLemmas.{first_value-rows}
use Rattle.clap.specs.Matches.{found_of}
use Rattle.md_commands.proofs.ReadingLemmas.{told_text}
use Rattle.md_commands.proofs.reading.value_of.Goals as goal

pub returns : goal.returns
returns c usage parts tells takes = told_text c.get_str.result ∙ c.get_str.ensures ∙ first_value-rows (found_of c.args.values.now) c.args.name.now ∙ tells.valued c.args.name.now takes
