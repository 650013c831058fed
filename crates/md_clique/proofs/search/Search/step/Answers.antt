use Rattle.std.proofs.Common.{◌<◌, None, sym, subst}
use Rattle.md_clique.specs.Search.{Kept, Stands}
use Rattle.md_clique.specs.Kept.{kept, work}
use Rattle.md_clique.proofs.Pass.{pass_stands, pass_works}
use Rattle.md_clique.proofs.search.Search.step.Goals as goal

pub returns-in-Pass-clause-stands : goal.returns-in-Pass-clause-stands
returns-in-Pass-clause-stands g c =
    subst (λ (k : Kept). Stands g.links c.args.lists.now None k) (sym c.pass.ensures)
    (pass_stands g.links c.args.lists.now None (kept c.args.self.now) c.requires.1.1.0 c.in-Pass.ensures)

pub returns-in-Pass-clause-works : goal.returns-in-Pass-clause-works
returns-in-Pass-clause-works g c =
    subst (λ (k : Kept). work c.args.lists.now k < work c.args.lists.now (kept c.args.self.now)) (sym c.pass.ensures)
    (pass_works g.links c.args.lists.now None (kept c.args.self.now) c.requires.1.1.0 c.in-Pass.ensures)
