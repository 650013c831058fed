use Rattle.std.proofs.Common.{arith}
use Rattle.md_reader.proofs.Seconds.{second_found, second_later, keys_later}
use Rattle.md_reader.proofs.duplicates.first_second.Goals as goal

pub returns-then-not-branch : goal.returns-then-not-branch
returns-then-not-branch c = second_found c.args.declared.now c.loop-one.one-index _ c.loop-one.seen.keys c.in_ok-insert.field-0 (omega arith) c.loop-one.invariant.seen c.loop-one.invariant.none c.in_ok-insert.ensures.added c.if-not-branch.true

pub loop-one-preserved : goal.loop-one-preserved
loop-one-preserved c = record {
  none = second_later c.args.declared.now c.loop-one.one-index _ c.loop-one.seen.keys c.in_ok-insert.field-0 (omega arith) c.loop-one.invariant.seen c.loop-one.invariant.none c.in_ok-insert.ensures.added c.if-not-branch.false;
  seen = keys_later c.args.declared.now c.loop-one.one-index _ c.loop-one.seen.keys c.insert.new.self.keys c.in_ok-insert.field-0 (omega arith) c.loop-one.invariant.seen c.in_ok-insert.ensures.keys c.in_ok-insert.ensures.added c.if-not-branch.false;
}
