use Rattle.std.proofs.Common.{◌≡◌, ◌≢◌, ◌<◌, ℕ, length, None}
use Rattle.md_clique.specs.Search.{Stands, state_of}
use Rattle.md_clique.specs.Kept.{kept}
use Rattle.md_clique.specs.declared.search.State.TheVariants.{New}
use Rattle.md_clique.proofs.search.Search.explore_all.Given as goal

abbrev pub ghost-explore : goal.ghost-explore
ghost-explore g a = g.links

abbrev pub invariant-loop-root : goal.invariant-loop-root
invariant-loop-root g l = record {
  nodes : length l.self.states.items ≡ l.nodes;
  stands : Stands g.links l.lists None (kept l.self);
  none_open : length l.self.trail.items ≡ 0;
  seen : (v : ℕ) → v < l.root → state_of l.self.states.items v ≢ New;
}
