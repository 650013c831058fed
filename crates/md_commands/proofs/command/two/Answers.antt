use Rattle.std.proofs.Common.{rules, arith, ◌≡◌, ◌∙◌, Some, List, ap, sym}
use Rattle.std.specs.Prelude.{Option}
use Rattle.std.specs.Borrow.{Bor}
use Rattle.md_commands.specs.Parts.{Text}
use Rattle.md_commands.specs.Form.{two}
use Rattle.md_commands.specs.Told.{words_told}
use Rattle.md_commands.proofs.WordLemmas.{not_two}
use Rattle.md_commands.proofs.command.two.Goals as goal

pub returns-else-words-eq2 : goal.returns-else-words-eq2
returns-else-words-eq2 c =
    let is : c.args.words ≡ Some c.in_ok-words.words = search rules in
    sym (ap (λ (o : Option (Bor (List (Bor Text)))). two (words_told o)) is ∙ not_two c.in_ok-words.words.now (λ more. absurd (omega (arith, more, c.if-words-eq2.false))))
