use Rattle.std.proofs.Common.{Some, ap}
use Rattle.md_cost.proofs.ValidSteps.{valid_sound}
use Rattle.md_cost.proofs.ViewSteps.{some_cliques}
use Rattle.md_query.specs.Page.{PageRows}
use Rattle.md_query.specs.PageOf.{page_of}
use Rattle.md_query.proofs.answer.root_page.Goals as goal

pub clique_page-requires : goal.clique_page-requires
clique_page-requires c =
    let f = c.args.loaded.now.profile in
    some_cliques f (valid_sound f c.profile-profile.ensures.valid).links c.args.loaded.now.cliques c.args.loaded.now.entries c.profile-profile.ensures.loaded.tree

pub returns : goal.returns
unfolding page_of
returns c = λ v is. ap (λ (p : PageRows). Some p) (c.in_ok-page.ensures v is)
