use Rattle.std.proofs.Common.{ℕ, List, sym, ap, ◌∙◌}
use Rattle.md_clique.specs.Cliques.{members_of}
use Rattle.md_cost.proofs.ValidSteps.{valid_sound}
use Rattle.md_cost.proofs.ViewSteps.{view_cliques}
use Rattle.md_cost.proofs.loaded.Loaded.members.Goals as goal

pub returns-clause-view : goal.returns-clause-view
returns-clause-view c = λ v is. c.members.ensures ∙ ap (λ (ks : List ℕ). members_of ks c.args.clique) (sym (view_cliques c.self.inside.profile (valid_sound c.self.inside.profile c.self.invariant.valid).links c.self.inside.tree.cliques c.self.inside.tree.entries.items c.self.invariant.tree v (rw (← c.self.view_is) at is)))
