use Rattle.std.proofs.Common.{◌<◌, ◌≤◌, get_or, arith}
use Rattle.md_cost.proofs.ValidSteps.{valid_sound}
use Rattle.md_people.proofs.DepthSteps.{above_top, itself_top}
use Rattle.md_people.proofs.depths.top_of.Goals as goal

pub returns-then-places-clique-lt100 : goal.returns-then-places-clique-lt100
returns-then-places-clique-lt100 c =
    let l = c.args.loaded.now in
    let sound = (valid_sound l.profile c.profile-profile.ensures.valid).links in
    let tree = c.profile-profile.ensures.loaded.tree in
    let long = c.requires.depths.are c.args.node c.requires.there c.requires.known in
    let few : get_or c.args.places.now (get_or l.cliques c.args.node 0) 0 < 100 = rw c.clique_of-clique.ensures.number at c.if-places-clique-lt100.true in
    itself_top l sound tree c.args.node c.requires.there (omega arith)

pub returns-else-places-clique-lt100 : goal.returns-else-places-clique-lt100
returns-else-places-clique-lt100 c =
    let l = c.args.loaded.now in
    let sound = (valid_sound l.profile c.profile-profile.ensures.valid).links in
    let tree = c.profile-profile.ensures.loaded.tree in
    let deep : 100 ≤ get_or c.args.places.now (get_or l.cliques c.args.node 0) 0 = rw c.clique_of-clique.ensures.number at c.if-places-clique-lt100.false in
    rw (c.new.ensures, c.clique_of-clique.ensures.number) (above_top l sound tree c.args.known c.args.places.now c.args.tops.now c.requires.depths c.args.node c.requires.there c.requires.known deep)
