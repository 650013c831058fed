use Rattle.std.proofs.Common.{◌<◌, ℕ, length, Some, sym, ap, ◌∙◌, arith}
use Rattle.md_cost.proofs.GiveSteps.{own_of_context}
use Rattle.md_cost.proofs.ValidSteps.{valid_sound}
use Rattle.md_cost.proofs.loaded.Loaded.node_own.Goals as goal

pub own_sum-requires-clause-there : goal.own_sum-requires-clause-there
own_sum-requires-clause-there c =
    let there : c.args.node < length c.self.inside.profile.nodes = rw (← c.self.view_is) at c.requires in
    let each = c.self.invariant.costs.incoming.each_last in
    let number = c.number.ensures in
    omega arith

pub own_sum-requires-clause-incoming : goal.own_sum-requires-clause-incoming
own_sum-requires-clause-incoming c = rw (c.links.ensures, c.self.invariant.costs.incoming.each_last) c.self.invariant.costs.incoming

pub own_sum-requires-clause-few : goal.own_sum-requires-clause-few
own_sum-requires-clause-few c = rw c.links.ensures (valid_sound c.self.inside.profile c.self.invariant.valid).links.few_links

pub own_sum-requires-clause-small : goal.own_sum-requires-clause-small
own_sum-requires-clause-small c = rw c.links.ensures c.self.invariant.costs.small

pub returns : goal.returns
returns c =
    λ v m is. own_of_context c.self.inside.profile c.self.invariant.valid c.self.inside.tree.cliques c.self.inside.tree.entries.items c.self.invariant.tree v (rw (← c.self.view_is) at is) c.args.node m
    ∙ ap (λ (x : ℕ). Some x) (sym (rw (c.links.ensures, c.number.ensures) at (c.own_sum.ensures m)))
