use Rattle.std.proofs.Common.{◌≡◌, length, ◌-◌, take}
use Rattle.md_clique.proofs.Join.{join_stands, join_works}
use Rattle.md_clique.specs.Kept.{kept}
use Rattle.md_clique.proofs.search.Search.join.Goals as goal

pub returns-clause-stands : goal.returns-clause-stands
returns-clause-stands g c =
    let o = c.args.self.now.first.ok.0 in
    let e = c.pop.ensures.rest in
    let f : c.pop.new.self.items ≡ take (length c.args.self.now.first.items - 1) c.args.self.now.first.items = cc in
    rw f (join_stands g.links c.args.lists.now (kept c.args.self.now) c.requires.0 c.requires.1)

pub returns-clause-works : goal.returns-clause-works
returns-clause-works g c =
    let o = c.args.self.now.first.ok.0 in
    let e = c.pop.ensures.rest in
    let f : c.pop.new.self.items ≡ take (length c.args.self.now.first.items - 1) c.args.self.now.first.items = cc in
    rw f (join_works g.links c.args.lists.now (kept c.args.self.now) c.requires.0 c.requires.1)
