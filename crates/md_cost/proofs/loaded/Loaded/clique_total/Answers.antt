use Rattle.std.proofs.Common.{Some, ℕ, sym, ap, ◌∙◌}
use Rattle.md_cost.proofs.GiveSteps.{room_of_clique, total_of_clique}
use Rattle.md_cost.proofs.loaded.Loaded.clique_total.Goals as goal

pub sum_of_members-requires-clause-room : goal.sum_of_members-requires-clause-room
sum_of_members-requires-clause-room c =
    λ m. rw c.deref.ensures.value (room_of_clique c.self.inside.profile c.self.invariant.valid c.self.inside.tree.cliques c.self.inside.tree.entries.items c.self.invariant.tree c.self.inside.costs.contexts.items c.self.invariant.costs.contexts c.self.invariant.costs.small c.args.clique m)

pub returns : goal.returns
returns c =
    λ v m is. total_of_clique c.self.inside.profile c.self.invariant.valid c.self.inside.tree.cliques c.self.inside.tree.entries.items c.self.invariant.tree c.self.inside.costs.contexts.items c.self.invariant.costs.contexts v (rw (← c.self.view_is) at is) c.args.clique m
    ∙ ap (λ (x : ℕ). Some x) (sym (rw c.deref.ensures.value at (c.sum_of_members.ensures m)))
