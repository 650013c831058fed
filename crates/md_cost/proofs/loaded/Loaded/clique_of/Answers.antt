use Rattle.std.proofs.Common.{ℕ, List, get_or, sym, ap, ◌∙◌}
use Rattle.md_cost.proofs.ValidSteps.{valid_sound}
use Rattle.md_cost.proofs.ViewSteps.{view_cliques}
use Rattle.md_cost.proofs.loaded.Loaded.clique_of.Goals as goal

pub returns-clause-view : goal.returns-clause-view
returns-clause-view c = λ v is. c.of.ensures ∙ ap (λ (d : ℕ). get_or c.self.inside.tree.cliques d 0) c.number.ensures ∙ ap (λ (ks : List ℕ). get_or ks c.args.node 0) (sym (view_cliques c.self.inside.profile (valid_sound c.self.inside.profile c.self.invariant.valid).links c.self.inside.tree.cliques c.self.inside.tree.entries.items c.self.invariant.tree v (rw (← c.self.view_is) at is)))
