use Rattle.std.proofs.Common.{◌≡◌, length, arith}
use Rattle.std.proofs.Math.Seq.{take-length}
use Rattle.std.proofs.lemmas.List.Sums.{sum_by_more}
use Rattle.md_base.specs.Counts.{count_of}
use Rattle.md_dump.proofs.summing.are_small.Goals as goal

pub loop-link-preserved : goal.loop-link-preserved
loop-link-preserved c = λ m.
    let more = sum_by_more (λ r. count_of r.own m) c.args.links.now c.loop-link.link-index c.link-item.result c.loop-link-test.true in
    let at = rw (← c.link-item.is) at more in
    let small = c.from_counts-own.ensures.small m in
    let value = c.from_counts-own.ensures.value m in
    omega (arith, at, small, value, c.loop-link.invariant m)

pub returns : goal.returns
returns c = λ m.
    let done : c.loop-link.link-index ≡ length c.args.links.now = omega arith in
    let all = c.loop-link.invariant m in
    let whole = rw (done, take-length c.args.links.now) at all in
    whole
