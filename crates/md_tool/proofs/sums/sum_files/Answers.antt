use Rattle.std.proofs.Common.{arith}
use Rattle.std.proofs.lemmas.Grind.{common_steps}
use Rattle.md_base.specs.Outside.{Rose}
use Rattle.md_commands.specs.Told.{texts}
use Rattle.md_tool.proofs.SumLemmas.{sums_after}
use Rattle.md_tool.proofs.sums.sum_files.Goals as goal

pub returns-clause-ends : goal.returns-clause-ends
returns-clause-ends g c =
    sums_after (g.S.Store.held c.args.store.now) (texts c.args.names.now) (g.O.Sink.held c.args.out.now) (g.O.Sink.held c.write_sums.new.out)
    (Rose (g.S.Store.read_faults c.args.store.now) (g.S.Store.read_faults c.add_files.new.store))
    (Rose (g.O.Sink.write_faults c.args.out.now) (g.O.Sink.write_faults c.write_sums.new.out))
    c.write_sums.result (c.write_sums.ensures.ends (g.S.Store.held c.args.store.now) c.in_ok-sums.ensures.summed)

pub returns-clause-kept : goal.returns-clause-kept
returns-clause-kept g c = grind (arith, common_steps)
