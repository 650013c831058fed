use Rattle.std.proofs.Common.{get_or, arith}
use Rattle.std.proofs.lemmas.Option.{slice_get_within}
use Rattle.md_cost.specs.Paths.{ends}
use Rattle.md_cost.proofs.EntrySteps.{entry_there}
use Rattle.md_cost.proofs.TreeSteps.{row_at}
use Rattle.md_query.proofs.rows.entered_row.Goals as goal

pub link_own-own-requires : goal.link_own-own-requires
link_own-own-requires c =
    let f = c.args.loaded.now.profile in
    let tree = c.profile-profile.ensures.loaded.tree in
    let entry = entry_there c.args.loaded.now.cliques (ends f.links) c.args.loaded.now.entries tree.entries_are c.args.clique c.requires in
    let place = get_or c.args.loaded.now.entries c.args.clique 0 in
    let found = row_at f.links place entry.link.0 entry.link.1 entry.there in
    let lt = slice_get_within f.links place found.0 found.1 in
    let is = c.entering-link.ensures.link in
    omega arith
