use Rattle.md_cost.proofs.ValidSteps.{valid_sound}
use Rattle.md_cost.proofs.ViewSteps.{some_cliques}
use Rattle.md_people.proofs.costs.whole_of.Goals as goal

pub clique_total-requires : goal.clique_total-requires
clique_total-requires c =
    let f = c.args.loaded.now.profile in
    some_cliques f (valid_sound f c.profile-profile.ensures.valid).links c.args.loaded.now.cliques c.args.loaded.now.entries c.profile-profile.ensures.loaded.tree
