use Rattle.std.proofs.Common.{◌≡◌, true, false}
use Rattle.std.specs.BTreeSet.{contains}
use Rattle.md_base.proofs.Differ.{was_there, was_not_there, seen_before, still_differ, seen_after}
use Rattle.md_base.proofs.distinct.all_differ.Goals as goal

pub returns-then-not-branch : goal.returns-then-not-branch
returns-then-not-branch g c =
    let cmp = g.T.Ord.cmp in
    let found : contains cmp c.loop-key.seen c.key-item.result ≡ true = was_there _ _ c.in_ok-insert.ensures.added c.if-not-branch.true in
    (λ wrong. absurd (cc wrong), λ differ. absurd (seen_before cmp c.args.keys.now c.loop-key.key-index c.key-item.result c.loop-key-test.true c.key-item.is (contains cmp c.loop-key.seen) c.loop-key.invariant.members found differ))

pub loop-key-preserved : goal.loop-key-preserved
loop-key-preserved g c =
    let cmp = g.T.Ord.cmp in
    let new : contains cmp c.loop-key.seen c.key-item.result ≡ false = was_not_there _ _ c.in_ok-insert.ensures.added c.if-not-branch.false in
    record {
      differ = still_differ cmp c.args.keys.now c.loop-key.key-index c.key-item.result c.loop-key-test.true c.key-item.is (contains cmp c.loop-key.seen) c.loop-key.invariant.members new c.loop-key.invariant.differ;
      members = seen_after cmp c.args.keys.now c.loop-key.key-index c.key-item.result c.loop-key-test.true c.key-item.is (contains cmp c.loop-key.seen) (contains cmp c.insert.new.self) c.loop-key.invariant.members c.in_ok-insert.ensures.updates.0;
    }
