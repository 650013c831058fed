use Rattle.std.proofs.Common.{subst}
use Rattle.std.specs.Prelude.{Option}
use Rattle.clap.specs.declared.parser.matches.ArgMatches.{ArgMatches}
use Rattle.md_commands.specs.Form.{parts_of, words_of}
use Rattle.md_commands.specs.Reading.{IsReading}
use Rattle.md_commands.proofs.Bounds.{bounds_by, form_read}
use Rattle.md_commands.proofs.command.command_of.Goals as goal

pub returns-in-Some-clause-bounds : goal.returns-in-Some-clause-bounds
returns-in-Some-clause-bounds c =
    let words = words_of c.args.words.now in
    bounds_by words c.command_in.result
    (form_read words c.in-Some.matches c.command_in.result
    (subst (λ (o : Option ArgMatches). IsReading (parts_of words) o) c.in-Some.is c.in_ok-matches.ensures) c.command_in.ensures)
