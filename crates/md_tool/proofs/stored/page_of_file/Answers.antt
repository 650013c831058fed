use Rattle.std.proofs.Common.{arith}
use Rattle.std.proofs.lemmas.Grind.{common_steps}
use Rattle.md_base.specs.Outside.{Rose}
use Rattle.md_query.specs.Told.{asked}
use Rattle.md_tool.proofs.StoredLemmas.{answered}
use Rattle.md_tool.proofs.stored.page_of_file.Goals as goal

pub returns-in_err-loaded-clause-ends : goal.returns-in_err-loaded-clause-ends
returns-in_err-loaded-clause-ends g c = grind (arith, common_steps)

pub returns-in_err-loaded-clause-kept : goal.returns-in_err-loaded-clause-kept
returns-in_err-loaded-clause-kept g c = grind (arith, common_steps)

pub returns-clause-kept : goal.returns-clause-kept
returns-clause-kept g c = grind (arith, common_steps)

pub returns-clause-ends : goal.returns-clause-ends
returns-clause-ends g c =
    answered (g.S.Store.held c.args.store.now) c.args.name.now (asked c.args.query.now) (g.O.Sink.held c.args.out.now) (g.O.Sink.held c.write_page.new.out)
    (Rose (g.S.Store.read_faults c.args.store.now) (g.S.Store.read_faults c.load_file.new.store))
    (Rose (g.O.Sink.write_faults c.args.out.now) (g.O.Sink.write_faults c.write_page.new.out))
    c.in_ok-loaded.loaded c.write_page.result c.in_ok-loaded.ensures.loaded c.write_page.ensures.ends
