use Rattle.std.proofs.Common.{sym, ap, ◌∙◌}
use Rattle.md_clique.specs.Cliques.{clique_count}
use Rattle.md_cost.proofs.ValidSteps.{valid_sound}
use Rattle.md_cost.proofs.ViewSteps.{view_cliques}
use Rattle.md_cost.proofs.loaded.Loaded.clique_count.Goals as goal

pub returns-clause-view : goal.returns-clause-view
returns-clause-view c = λ v is. c.count.ensures ∙ ap clique_count (sym (view_cliques c.self.inside.profile (valid_sound c.self.inside.profile c.self.invariant.valid).links c.self.inside.tree.cliques c.self.inside.tree.entries.items c.self.invariant.tree v (rw (← c.self.view_is) at is)))
