use Rattle.std.proofs.Common.{◌≡◌, eqb, take}
use Rattle.md_static.specs.declared.entry.Proc.{Proc}
use Rattle.md_clique.specs.Places.{places}
use Rattle.md_query.proofs.lists.procs_of_module.Given as goal

abbrev pub invariant-loop-number : goal.invariant-loop-number
invariant-loop-number l = l.found.items ≡ places (λ (p : Proc). eqb p.module l.id) (take l.number l.procs)
