use Rattle.std.proofs.Common.{◌∙◌}
use Rattle.clap.proofs.WalkLemmas.{one_text-rows}
use Rattle.clap.specs.Matches.{found_of, one_text}
use Rattle.md_commands.specs.Parts.{is_given}
use Rattle.md_commands.proofs.ReadingLemmas.{flag_read}
use Rattle.md_commands.proofs.reading.is_given.Goals as goal

pub returns : goal.returns
returns c usage parts tells flag =
    flag_read (is_given c.args.name.now parts) c.get_flag.result (one_text (found_of c.args.values.now) c.args.name.now)
    (one_text-rows (found_of c.args.values.now) c.args.name.now ∙ tells.flags c.args.name.now flag) c.get_flag.ensures.value c.get_flag.ensures.other
