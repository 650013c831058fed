use Rattle.md_base.specs.Outside.{Rose}
use Rattle.md_tool.specs.Candidates.{IsFeedbackOfRun}
use Rattle.md_tool.proofs.KeepLemmas.{all_kept}
use Rattle.md_tool.proofs.pairs.keep_text.Goals as goal

pub returns-clause-ends : goal.returns-clause-ends
returns-clause-ends g c program steps least run due =
    all_kept (IsFeedbackOfRun least steps program) program steps c.args.new.now c.args.paired.text.items c.args.paired.ran (g.S.Store.held c.args.store.now) (g.S.Store.held c.store_text.new.store) (g.O.Sink.held c.args.out.now) (g.O.Sink.held c.write.new.out)
    (Rose (g.S.Store.write_faults c.args.store.now) (g.S.Store.write_faults c.store_text.new.store)) (Rose (g.O.Sink.write_faults c.args.out.now) (g.O.Sink.write_faults c.write.new.out)) c.ended.result
    run due (rw c.deref.ensures.value at c.in_ok-write.ensures.ends) (rw c.deref-2.ensures.value at c.in_ok-store_text.ensures.ends) c.ended.ensures
