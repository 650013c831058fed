use Rattle.md_base.specs.Outside.{Rose}
use Rattle.md_tool.specs.Candidates.{IsFeedbackOfRun}
use Rattle.md_tool.proofs.KeepLemmas.{ran_accepted}
use Rattle.md_tool.proofs.pairs.feedback_file.Goals as goal
use Rattle.std.proofs.Common.{arith}
use Rattle.std.proofs.lemmas.Grind.{common_steps}

pub returns-clause-ends : goal.returns-clause-ends
returns-clause-ends g c =
    let p = rw c.deref.ensures.value at c.in_ok-paired.ensures in
    ran_accepted (IsFeedbackOfRun c.args.least c.args.steps) (g.S.Store.held c.args.store.now) (g.S.Store.held c.keep_text.new.store) c.args.file.now c.in_ok-text.text.items c.args.steps c.args.new.now
    (g.O.Sink.held c.args.out.now) (g.O.Sink.held c.keep_text.new.out)
    (Rose (g.S.Store.read_faults c.args.store.now) (g.S.Store.read_faults c.keep_text.new.store))
    (Rose (g.S.Store.write_faults c.args.store.now) (g.S.Store.write_faults c.keep_text.new.store))
    (Rose (g.O.Sink.write_faults c.args.out.now) (g.O.Sink.write_faults c.keep_text.new.out))
    c.keep_text.result c.in_ok-text.ensures.read p.accepted
    (rw (c.in_ok-text.ensures.kept, c.in_ok-text.ensures.writes) at (c.keep_text.ensures.ends p.accepted.program c.args.steps c.args.least p.is_run p.is_due))

pub pair_text-requires-clause-least : goal.pair_text-requires-clause-least
pair_text-requires-clause-least g c = grind (arith, common_steps)

pub pair_text-requires-clause-short : goal.pair_text-requires-clause-short
pair_text-requires-clause-short g c = grind (arith, common_steps)

pub returns-in_err-paired-clause-ends : goal.returns-in_err-paired-clause-ends
returns-in_err-paired-clause-ends g c = grind (arith, common_steps)

pub returns-in_err-text-clause-ends : goal.returns-in_err-text-clause-ends
returns-in_err-text-clause-ends g c = grind (arith, common_steps)
