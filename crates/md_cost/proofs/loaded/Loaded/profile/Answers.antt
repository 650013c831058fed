use Rattle.md_cost.proofs.ValidSteps.{valid_sound}
use Rattle.md_cost.proofs.ViewThere.{view_there}
use Rattle.md_cost.proofs.loaded.Loaded.profile.Goals as goal
use Rattle.std.proofs.Common.{arith}
use Rattle.std.proofs.lemmas.Grind.{common_steps}

pub returns-clause-viewed : goal.returns-clause-viewed
returns-clause-viewed c =
    rw (← c.self.view_is) (view_there c.self.inside.profile (valid_sound c.self.inside.profile c.self.invariant.valid).links c.self.inside.tree.cliques c.self.inside.tree.entries.items c.self.invariant.tree)

pub returns-clause-loaded : goal.returns-clause-loaded
returns-clause-loaded c = grind (arith, common_steps)

pub returns-clause-profile : goal.returns-clause-profile
returns-clause-profile c = grind (arith, common_steps)

pub returns-clause-valid : goal.returns-clause-valid
returns-clause-valid c = grind (arith, common_steps)
