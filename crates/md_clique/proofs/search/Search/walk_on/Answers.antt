use Rattle.std.proofs.lemmas.Result.{on_ok_weaker}
use Rattle.std.proofs.Common.{◌<◌, length, Some, sym, subst, arith}
use Rattle.md_clique.specs.Search.{Kept, MayEnter, Stands}
use Rattle.md_clique.specs.Links.{AreListed, AreWithin}
use Rattle.md_clique.specs.Kept.{kept, work}
use Rattle.md_clique.proofs.Pass.{pass_stands, pass_works}
use Rattle.md_clique.proofs.search.Search.walk_on.Goals as goal

pub pass-requires-clause-some : goal.pass-requires-clause-some
pass-requires-clause-some g c = let pass = c.requires.1.1.1.1 in pass.some

pub pass-requires-clause-left : goal.pass-requires-clause-left
pass-requires-clause-left g c = let pass = c.requires.1.1.1.1 in let left = pass.left in omega arith

pub enter-requires : goal.enter-requires
enter-requires g c =
    let may = c.requires.1.1.1 in
    let is = c.pass.ensures in
    subst (λ (k : Kept). AreWithin g.links (length k.states) × (AreListed g.links (length k.states) c.args.lists.now.starts.items c.args.lists.now.ends.items × (Stands g.links c.args.lists.now (Some c.args.node) k × MayEnter g.links k c.args.node)))
    (sym is) (
      c.requires.0,
      (
        c.requires.1.0,
        (
          pass_stands g.links c.args.lists.now (Some c.args.node) (kept c.args.self.now) c.requires.1.1.0 may.1,
          record { there = may.0.there; is_new = may.0.is_new; reached = may.0.reached },
        ),
      ),
    )

pub returns-clause-works : goal.returns-clause-works
returns-clause-works g c =
    let may = c.requires.1.1.1 in
    let less : work c.args.lists.now (kept c.pass.new.self) < work c.args.lists.now (kept c.args.self.now) =
    subst (λ (k : Kept). work c.args.lists.now k < work c.args.lists.now (kept c.args.self.now)) (sym c.pass.ensures) (pass_works g.links c.args.lists.now (Some c.args.node) (kept c.args.self.now) c.requires.1.1.0 may.1) in
    on_ok_weaker c.enter.result (λ (fewer : work c.args.lists.now (kept c.enter.new.self) < work c.args.lists.now (kept c.pass.new.self)). omega arith) c.enter.ensures.works
