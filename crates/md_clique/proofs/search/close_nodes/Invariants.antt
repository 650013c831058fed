use Rattle.std.proofs.Common.{◌≡◌, ◌≢◌, ◌<◌, ℕ, get_or}
use Rattle.md_clique.specs.Search.{state_of}
use Rattle.md_clique.specs.declared.search.State.TheVariants.{Closed}
use Rattle.md_clique.proofs.search.close_nodes.Given as goal

abbrev pub invariant-loop-node : goal.invariant-loop-node
invariant-loop-node l = record {
  closed : (i : ℕ) → i < l.node-index → state_of l.states (get_or l.nodes i 0) ≡ Closed l.class;
  others : (v : ℕ) → ((i : ℕ) → i < l.node-index → get_or l.nodes i 0 ≢ v) → state_of l.states v ≡ state_of l.initial.states v;
}
