use Rattle.std.proofs.Common.{◌+◌, ◌≡◌, ◌<◌, length, get_or, sym, ◌∙◌, ap, arith}
use Rattle.std.proofs.lemmas.Grind.{common_steps}
use Rattle.std.proofs.lemmas.Option.{get_or_from_slice_get}
use Rattle.std.proofs.lemmas.List.{length-append}
use Rattle.md_static.specs.Sites.{sites_of}
use Rattle.md_static.proofs.SiteLists.{first_site-zero}
use Rattle.md_dynamic.proofs.SpanSteps.{spans-more, first-more}
use Rattle.md_dynamic.proofs.span.spans_of.Goals as goal

pub loop-count-init : goal.loop-count-init
loop-count-init c = record {
  before = sym (first_site-zero c.args.sites.now);
  each = ap length c.in_ok-spans.ensures.items;
  right = λ p below. absurd (omega arith);
}

pub overflow_add-first : goal.overflow_add-first
overflow_add-first c =
    let i = c.loop-count.count-index in
    let below : i < c.args.procs = omega (arith, c.loop-count-test.true, ap length c.deref-count-items.ensures.value, c.in_ok-counts.ensures.each) in
    let n : get_or c.deref-count-items.result.now i 0 ≡ length (sites_of i c.args.sites.now) =
    ap (λ xs. get_or xs i 0) c.deref-count-items.ensures.value ∙ get_or_from_slice_get c.in_ok-counts.counts.items i (length (sites_of i c.args.sites.now)) 0 (c.in_ok-counts.ensures.right i below) in
    let more = first-more c.args.sites.now i c.loop-count.first (get_or c.deref-count-items.result.now i 0) c.loop-count.invariant.before n in
    omega (arith, more.1, c.requires.few)

pub loop-count-preserved : goal.loop-count-preserved
loop-count-preserved c =
    let i = c.loop-count.count-index in
    let below : i < c.args.procs = omega (arith, c.loop-count-test.true, ap length c.deref-count-items.ensures.value, c.in_ok-counts.ensures.each) in
    let n : get_or c.deref-count-items.result.now i 0 ≡ length (sites_of i c.args.sites.now) =
    ap (λ xs. get_or xs i 0) c.deref-count-items.ensures.value ∙ get_or_from_slice_get c.in_ok-counts.counts.items i (length (sites_of i c.args.sites.now)) 0 (c.in_ok-counts.ensures.right i below) in
    let more = first-more c.args.sites.now i c.loop-count.first (get_or c.deref-count-items.result.now i 0) c.loop-count.invariant.before n in
    record {
      before = more.0;
      each = ap length c.in_ok-push.ensures.items ∙ length-append c.loop-count.spans.items _ ∙ ap (λ k. k + 1) c.loop-count.invariant.each;
      right = spans-more c.args.sites.now i c.loop-count.first (get_or c.deref-count-items.result.now i 0) c.loop-count.spans.items c.push.new.self.items c.loop-count.invariant.each c.loop-count.invariant.before n c.in_ok-push.ensures.items c.loop-count.invariant.right;
    }

pub returns : goal.returns
returns c = grind (arith, common_steps)
