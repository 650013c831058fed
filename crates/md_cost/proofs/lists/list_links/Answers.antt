use Rattle.std.proofs.Common.{get_or}
use Rattle.std.proofs.lemmas.Option.{slice_get-get_or}
use Rattle.md_cost.proofs.ListSteps.{if_some}
use Rattle.md_cost.proofs.ValidSteps.{caller_there}
use Rattle.md_cost.proofs.lists.list_links.Goals as goal

pub links_by_start-requires-clause-callers : goal.links_by_start-requires-clause-callers
links_by_start-requires-clause-callers c =
    let f = c.args.profile.now in
    rw (c.links.ensures, c.nodes.ensures) (λ k d lt. if_some (get_or f.links k d).caller (λ from called. caller_there f c.requires k from (get_or f.links k d) (slice_get-get_or f.links k d lt) called))
