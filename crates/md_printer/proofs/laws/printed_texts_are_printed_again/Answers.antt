use Rattle.md_printer.proofs.AgainPrograms.{round_trip}
use Rattle.md_printer.proofs.Unlined.{printed_alike}
use Rattle.md_printer.proofs.laws.printed_texts_are_printed_again.Goals as goal

pub returns : goal.returns
returns c = λ l q. let again = round_trip l q in (again, printed_alike again.listing l again.same)
