use Rattle.std.proofs.Common.{sym, arith, None}
use Rattle.std.proofs.lemmas.Str.Pattern.{strip_prefix_char}
use Rattle.md_commands.proofs.WordLemmas.{no_slash}
use Rattle.md_commands.proofs.command.without_slash.Goals as goal

pub returns-in-None : goal.returns-in-None
returns-in-None c = sym (no_slash c.args.word.now (strip_prefix_char 47 c.args.word.now None c.in-None.ensures.cases (omega arith)))
