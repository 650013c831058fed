use Rattle.std.proofs.Common.{◌≡◌, length, ◌+◌, get_or, arith, ◌∙◌}
use Rattle.std.proofs.lemmas.List.{get_or_read}
use Rattle.md_clique.specs.Kept.{kept}
use Rattle.md_clique.proofs.Enter.{enter_stands, enter_works}
use Rattle.md_clique.proofs.search.Search.enter.Given.{Over}
use Rattle.md_clique.proofs.search.Search.enter.Goals as goal
use Rattle.md_clique.proofs.search.Search.enter.Goals.{After-index-to}

from_is : (g : Over) (c : After-index-to g) → c.index-from.result.now ≡ get_or c.args.lists.now.starts.items c.args.node 0
from_is g c =
    let listed = c.requires.1.0 in
    let each = listed.each in
    let may = c.requires.1.1.1 in
    let there = may.there in
    get_or_read c.args.lists.now.starts.items c.args.node c.index-from.result.now (omega arith) c.index-from.ensures 0

to_is : (g : Over) (c : After-index-to g) → c.index-to.result.now ≡ get_or c.args.lists.now.starts.items (c.args.node + 1) 0
to_is g c =
    let listed = c.requires.1.0 in
    let each = listed.each in
    let may = c.requires.1.1.1 in
    let there = may.there in
    get_or_read c.args.lists.now.starts.items (c.args.node + 1) c.index-to.result.now (omega arith) c.index-to.ensures 0

pub returns-clause-stands : goal.returns-clause-stands
returns-clause-stands g c =
    let a = (goal.at.returns-clause-stands g c).After-index-to in
    let o = c.args.self.now.trail.ok.0 in
    let e : c.len-place.result ≡ length c.args.self.now.trail.items = c.len-place.ensures ∙ o in
    rw (c.in_ok-push.ensures.items, c.in_ok-push-2.ensures.items, c.in_ok-push-3.ensures.items, e, from_is g a, to_is g a)
    (enter_stands g.links c.args.lists.now (kept c.args.self.now) c.requires.0 c.requires.1.0 c.args.node c.requires.1.1.0 c.requires.1.1.1)

pub returns-clause-works : goal.returns-clause-works
returns-clause-works g c =
    let a = (goal.at.returns-clause-works g c).After-index-to in
    let o = c.args.self.now.trail.ok.0 in
    let e : c.len-place.result ≡ length c.args.self.now.trail.items = c.len-place.ensures ∙ o in
    rw (c.in_ok-push-2.ensures.items, c.in_ok-push-3.ensures.items, e, from_is g a, to_is g a)
    (enter_works g.links c.args.lists.now (kept c.args.self.now) c.requires.0 c.requires.1.0 c.args.node c.requires.1.1.0 c.requires.1.1.1)
