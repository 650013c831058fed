use Rattle.std.proofs.Common.{◌≡◌, eqb, take}
use Rattle.md_static.specs.declared.entry.Site.{Site}
use Rattle.md_clique.specs.Places.{places}
use Rattle.md_query.proofs.lists.sites_of.Given as goal

abbrev pub invariant-loop-number : goal.invariant-loop-number
invariant-loop-number l = l.found.items ≡ places (λ (s : Site). eqb s.owner l.id) (take l.number l.sites)
