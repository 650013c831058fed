use Rattle.md_clique.proofs.Naming.{Naming}
use Rattle.md_clique.proofs.numbering.number_classes.Given as goal

abbrev pub invariant-loop-state : goal.invariant-loop-state
invariant-loop-state l = Naming l.states l.classes l.state-index l.names.items l.numbers.items l.count
