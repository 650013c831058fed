use Rattle.std.proofs.Common.{rules, arith, ◌≡◌, List, ℕ, sym, subst}
use Rattle.std.proofs.lemmas.Grind.{common_steps}
use Rattle.md_hlds.specs.Hlds.{hlds_of}
use Rattle.md_reader.specs.Grammar.{Spells}
use Rattle.md_printer.specs.Printed.{printed}
use Rattle.md_printer.specs.Lines.{SpellsUpToLines}
use Rattle.md_printer.proofs.AgainPrograms.{round_trip, no_other}
use Rattle.md_printer.proofs.printing.print.Goals as goal

pub returns-clause-spelled : goal.returns-clause-spelled
unfolding printed
returns-clause-spelled c =
    let program = hlds_of c.args.program.now in
    let e : c.predicates.new.text.items ≡ printed program = first_of (search rules, grind (arith, common_steps)) in
    (λ q. subst (λ (t : List ℕ). SpellsUpToLines t program) (sym e) (round_trip program q))

pub returns-clause-no_other : goal.returns-clause-no_other
unfolding printed
returns-clause-no_other c =
    let program = hlds_of c.args.program.now in
    let e : c.predicates.new.text.items ≡ printed program = first_of (search rules, grind (arith, common_steps)) in
    (λ q k h. no_other program q k (subst (λ (t : List ℕ). Spells t k) e h))

pub returns-clause-printed : goal.returns-clause-printed
unfolding printed
returns-clause-printed c = grind (arith, common_steps)
