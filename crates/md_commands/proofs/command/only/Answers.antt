use Rattle.std.proofs.Common.{rules, arith, ◌≡◌, ◌∙◌, Some, List, ap, sym}
use Rattle.std.specs.Prelude.{Option}
use Rattle.std.specs.Borrow.{Bor}
use Rattle.md_commands.specs.Parts.{Text}
use Rattle.md_commands.specs.Form.{only}
use Rattle.md_commands.specs.Told.{words_told}
use Rattle.md_commands.proofs.WordLemmas.{not_only}
use Rattle.md_commands.proofs.command.only.Goals as goal

pub returns-else-words-eq1 : goal.returns-else-words-eq1
returns-else-words-eq1 c =
    let is : c.args.words ≡ Some c.in_ok-words.words = search rules in
    sym (ap (λ (o : Option (Bor (List (Bor Text)))). only (words_told o)) is ∙ not_only c.in_ok-words.words.now (λ more. absurd (omega (arith, more, c.if-words-eq1.false))))
