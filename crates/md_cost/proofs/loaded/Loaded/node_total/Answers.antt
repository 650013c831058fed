use Rattle.std.proofs.Common.{◌<◌, ℕ, length, get_or, Some, sym, ap, ◌∙◌, arith}
use Rattle.std.proofs.lemmas.List.{get_or_read}
use Rattle.md_cost.specs.declared.sums.Sums.{Sums}
use Rattle.md_cost.specs.SumOf.{sum_of, zero_sums}
use Rattle.md_cost.proofs.GiveSteps.{total_of_context}
use Rattle.md_cost.proofs.loaded.Loaded.node_total.Goals as goal

pub returns : goal.returns
returns c =
    let totals = c.self.invariant.costs.contexts in
    let each = totals.each_node in
    let size = c.self.invariant.tree.cliques_are.each in
    let number = c.number.ensures in
    let there : c.args.node < length c.self.inside.profile.nodes = rw (← c.self.view_is) at c.requires in
    let read = get_or_read c.self.inside.costs.contexts.items c.number.result c.index.result.now (omega arith) c.index.ensures zero_sums in
    λ v m is. total_of_context c.self.inside.profile c.self.invariant.valid c.self.inside.tree.cliques c.self.inside.tree.entries.items c.self.invariant.tree c.self.inside.costs.contexts.items totals v (rw (← c.self.view_is) at is) c.args.node m there
    ∙ ap (λ (s : Sums). Some (sum_of s m)) (sym (read ∙ ap (λ (i : ℕ). get_or c.self.inside.costs.contexts.items i zero_sums) number))
