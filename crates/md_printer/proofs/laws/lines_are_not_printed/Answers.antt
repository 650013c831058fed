use Rattle.md_printer.proofs.Unlined.{printed_alike}
use Rattle.md_printer.proofs.laws.lines_are_not_printed.Goals as goal

pub returns : goal.returns
returns c = printed_alike
