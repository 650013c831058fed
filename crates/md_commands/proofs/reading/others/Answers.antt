use Rattle.std.proofs.Common.{◌∙◌, ap, [], List}
use Rattle.std.specs.Prelude.{Option, unwrap_or}
use Rattle.clap.proofs.WalkLemmas.{raw_values-rows}
use Rattle.clap.specs.Matches.{found_of}
use Rattle.md_commands.specs.Lines.{words_id}
use Rattle.md_commands.specs.Parts.{Text}
use Rattle.md_commands.proofs.ReadingLemmas.{told_words}
use Rattle.md_commands.proofs.reading.others.Goals as goal

pub returns : goal.returns
returns c usage parts tells =
    told_words c.get_strs.result
    ∙ ap (λ (o : Option (List Text)). unwrap_or o []) (c.get_strs.ensures ∙ raw_values-rows (found_of c.args.values.now) words_id) ∙ tells.words
