use Rattle.std.proofs.Common.{◌+◌, ◌<◌, ◌∙◌, arith}
use Rattle.std.proofs.lemmas.Grind.{common_steps}
use Rattle.std.proofs.lemmas.List.{length-set}
use Rattle.md_static.specs.declared.entry.Site.{Site}
use Rattle.md_dynamic.proofs.SpanSteps.{all-read, counts-more, counts-fit}
use Rattle.md_dynamic.proofs.span.counts_of.Goals as goal

pub overflow_add-index_mut : goal.overflow_add-index_mut
overflow_add-index_mut c =
    let x = c.site-item.result in
    let xs = c.loop-site.counts.items in
    let owner : x.owner < c.args.procs = all-read (λ (y : Site). y.owner < c.args.procs) c.args.sites.now c.loop-site.site-index x c.requires.owners c.loop-site-test.true c.site-item.is in
    let fits = counts-fit c.args.procs c.loop-site.site-index c.index_mut.result.now c.number.result c.args.sites.now xs c.loop-site-test.true (omega (arith, owner, c.number.ensures)) c.index_mut.ensures.value c.loop-site.invariant.right in
    omega (arith, fits, c.loop-site-test.true, c.requires.few)

pub loop-site-preserved : goal.loop-site-preserved
loop-site-preserved c =
    let x = c.site-item.result in
    let xs = c.loop-site.counts.items in
    let owner : x.owner < c.args.procs = all-read (λ (y : Site). y.owner < c.args.procs) c.args.sites.now c.loop-site.site-index x c.requires.owners c.loop-site-test.true c.site-item.is in
    record {
      each = length-set xs c.number.result (c.index_mut.result.now + 1) ∙ c.loop-site.invariant.each;
      right = counts-more c.args.procs c.loop-site.site-index c.index_mut.result.now c.number.result c.args.sites.now xs x c.loop-site.invariant.each c.loop-site-test.true c.site-item.is c.number.ensures (omega (arith, owner, c.number.ensures)) c.index_mut.ensures.value c.loop-site.invariant.right;
    }

pub returns-clause-each : goal.returns-clause-each
returns-clause-each c = grind (arith, common_steps)

pub returns-clause-right : goal.returns-clause-right
returns-clause-right c = grind (arith, common_steps)
