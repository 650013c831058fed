use Rattle.md_deepfile.specs.State.{state_of}
use Rattle.std.proofs.Common.{arith, rules}
use Rattle.md_deepfile.proofs.Ahead.{link_taken}
use Rattle.md_deepfile.proofs.reader.Reader.some_link.Goals as goal

pub returns-then-branch-clause-follows : goal.returns-then-branch-clause-follows
returns-then-branch-clause-follows c =
    link_taken (state_of c.args.self.now) (state_of c.whole_link.new.self) c.args.bytes.now c.link_size-size.result c.link_size-size.ensures (search (rules, arith)) (c.in_ok-whole_link.ensures.taken c.if-branch.true)
