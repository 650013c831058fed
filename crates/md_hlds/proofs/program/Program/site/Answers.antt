use Rattle.std.proofs.Common.{arith, add-one}
use Rattle.md_hlds.proofs.ProcedureLemmas.{site_at, length-sites_more}
use Rattle.md_hlds.proofs.program.Program.site.Goals as goal

pub returns-in-Some : goal.returns-in-Some
returns-in-Some c =
    site_at c.args.self.now.preds.items 0 c.loop-owner.owner c.new.result c.pred-item.result c.loop-owner.before c.args.id c.in-Some.line
    (omega (arith, c.new.ensures))
    (rw c.deref-pred-items.ensures.value at c.loop-owner-test.true)
    (rw c.deref-pred-items.ensures.value at c.pred-item.is)
    c.loop-owner.invariant c.in-Some.ensures

pub loop-owner-preserved : goal.loop-owner-preserved
loop-owner-preserved c =
    rw add-one
    (omega (
      arith,
      length-sites_more c.args.self.now.preds.items 0 c.loop-owner.owner c.pred-item.result
          (rw c.deref-pred-items.ensures.value at c.loop-owner-test.true)
          (rw c.deref-pred-items.ensures.value at c.pred-item.is),
      c.in_default.ensures,
    ))
