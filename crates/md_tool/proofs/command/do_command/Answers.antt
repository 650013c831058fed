use Rattle.std.proofs.Common.{sym, subst, refl, inl, Some, arith}
use Rattle.std.proofs.lemmas.Grind.{common_steps}
use Rattle.md_base.specs.Outside.{Rose}
use Rattle.md_tool.specs.Served.{net_side}
use Rattle.md_query.specs.Told.{asked}
use Rattle.md_commands.specs.declared.command.Command.{Command}
use Rattle.md_commands.specs.Told.{meant, told, texts}
use Rattle.md_tool.specs.declared.fault.Fault.TheVariants.{Read, Write, Network}
use Rattle.md_tool.specs.Told.{TopEnds}
use Rattle.md_tool.proofs.RisesLemmas.{told_by, done_by}
use Rattle.md_tool.proofs.SumLemmas.{as_many_texts}
use Rattle.md_tool.proofs.TopLemmas.{report_told, cover_told, gen_told, serve_told, sum_told, compare_told}
use Rattle.md_tool.proofs.command.do_command.Goals as goal

pub returns-in-Report-clause-ends : goal.returns-in-Report-clause-ends
returns-in-Report-clause-ends g c =
    subst
    (λ (x : Command). TopEnds (Some (told x)) (g.S.Store.held c.args.store.now) (g.S.Store.held c.report_file-end.new.store) (net_side (g.N.Net.connections c.args.net.now) (g.N.Net.listens_at c.args.net.now)) (net_side (g.N.Net.connections c.args.net.now) (g.N.Net.listens_at c.args.net.now)) (g.O.Sink.held c.args.out.now) (g.O.Sink.held c.report_file-end.new.out)
    (g.E.Sink.held c.args.err.now) (g.E.Sink.held c.tell_end-in-Report.new.err)
    (Rose (g.S.Store.read_faults c.args.store.now) (g.S.Store.read_faults c.report_file-end.new.store))
    (Rose (g.S.Store.write_faults c.args.store.now) (g.S.Store.write_faults c.report_file-end.new.store))
    (Rose (g.O.Sink.write_faults c.args.out.now) (g.O.Sink.write_faults c.report_file-end.new.out))
    (Rose (g.E.Sink.write_faults c.args.err.now) (g.E.Sink.write_faults c.tell_end-in-Report.new.err))
    (Rose (g.N.Net.faults c.args.net.now) (g.N.Net.faults c.args.net.now)) c.tell_end-in-Report.result)
    (sym c.in-Report.is)
    (report_told (g.S.Store.held c.args.store.now) (g.S.Store.held c.report_file-end.new.store) (net_side (g.N.Net.connections c.args.net.now) (g.N.Net.listens_at c.args.net.now)) (net_side (g.N.Net.connections c.args.net.now) (g.N.Net.listens_at c.args.net.now)) c.in-Report.file.now (asked c.in-Report.query) c.in-Report.steps
    (g.O.Sink.held c.args.out.now) (g.O.Sink.held c.report_file-end.new.out)
    (g.E.Sink.held c.args.err.now) (g.E.Sink.held c.report_file-end.new.err) (g.E.Sink.held c.tell_end-in-Report.new.err)
    (Rose (g.S.Store.read_faults c.args.store.now) (g.S.Store.read_faults c.report_file-end.new.store))
    (Rose (g.S.Store.write_faults c.args.store.now) (g.S.Store.write_faults c.report_file-end.new.store))
    (Rose (g.O.Sink.write_faults c.args.out.now) (g.O.Sink.write_faults c.report_file-end.new.out))
    (Rose (g.N.Net.faults c.args.net.now) (g.N.Net.faults c.args.net.now))
    (g.E.Sink.write_faults c.args.err.now) (g.E.Sink.write_faults c.report_file-end.new.err) (g.E.Sink.write_faults c.tell_end-in-Report.new.err)
    c.tell_end-in-Report.result c.report_file-end.result c.report_file-end.ensures.later c.tell_end-in-Report.ensures.later c.report_file-end.ensures.ends c.report_file-end.ensures.kept
    c.tell_end-in-Report.ensures.told)

pub returns-in-Cover-clause-ends : goal.returns-in-Cover-clause-ends
returns-in-Cover-clause-ends g c =
    subst
    (λ (x : Command). TopEnds (Some (told x)) (g.S.Store.held c.args.store.now) (g.S.Store.held c.cover_file-end.new.store) (net_side (g.N.Net.connections c.args.net.now) (g.N.Net.listens_at c.args.net.now)) (net_side (g.N.Net.connections c.args.net.now) (g.N.Net.listens_at c.args.net.now)) (g.O.Sink.held c.args.out.now) (g.O.Sink.held c.cover_file-end.new.out)
    (g.E.Sink.held c.args.err.now) (g.E.Sink.held c.tell_end-in-Cover.new.err)
    (Rose (g.S.Store.read_faults c.args.store.now) (g.S.Store.read_faults c.cover_file-end.new.store))
    (Rose (g.S.Store.write_faults c.args.store.now) (g.S.Store.write_faults c.cover_file-end.new.store))
    (Rose (g.O.Sink.write_faults c.args.out.now) (g.O.Sink.write_faults c.cover_file-end.new.out))
    (Rose (g.E.Sink.write_faults c.args.err.now) (g.E.Sink.write_faults c.tell_end-in-Cover.new.err))
    (Rose (g.N.Net.faults c.args.net.now) (g.N.Net.faults c.args.net.now)) c.tell_end-in-Cover.result)
    (sym c.in-Cover.is)
    (cover_told (g.S.Store.held c.args.store.now) (g.S.Store.held c.cover_file-end.new.store) (net_side (g.N.Net.connections c.args.net.now) (g.N.Net.listens_at c.args.net.now)) (net_side (g.N.Net.connections c.args.net.now) (g.N.Net.listens_at c.args.net.now)) c.in-Cover.file.now (meant c.in-Cover.proc) c.in-Cover.steps
    (g.O.Sink.held c.args.out.now) (g.O.Sink.held c.cover_file-end.new.out)
    (g.E.Sink.held c.args.err.now) (g.E.Sink.held c.cover_file-end.new.err) (g.E.Sink.held c.tell_end-in-Cover.new.err)
    (Rose (g.S.Store.read_faults c.args.store.now) (g.S.Store.read_faults c.cover_file-end.new.store))
    (Rose (g.S.Store.write_faults c.args.store.now) (g.S.Store.write_faults c.cover_file-end.new.store))
    (Rose (g.O.Sink.write_faults c.args.out.now) (g.O.Sink.write_faults c.cover_file-end.new.out))
    (Rose (g.N.Net.faults c.args.net.now) (g.N.Net.faults c.args.net.now))
    (g.E.Sink.write_faults c.args.err.now) (g.E.Sink.write_faults c.cover_file-end.new.err) (g.E.Sink.write_faults c.tell_end-in-Cover.new.err)
    c.tell_end-in-Cover.result c.cover_file-end.result c.cover_file-end.ensures.later c.tell_end-in-Cover.ensures.later c.cover_file-end.ensures.ends c.cover_file-end.ensures.kept
    c.tell_end-in-Cover.ensures.told)

pub returns-in-Gen-clause-ends : goal.returns-in-Gen-clause-ends
returns-in-Gen-clause-ends g c =
    subst
    (λ (x : Command). TopEnds (Some (told x)) (g.S.Store.held c.args.store.now) (g.S.Store.held c.args.store.now) (net_side (g.N.Net.connections c.args.net.now) (g.N.Net.listens_at c.args.net.now)) (net_side (g.N.Net.connections c.args.net.now) (g.N.Net.listens_at c.args.net.now)) (g.O.Sink.held c.args.out.now) (g.O.Sink.held c.generate-end.new.out)
    (g.E.Sink.held c.args.err.now) (g.E.Sink.held c.tell_end-in-Gen.new.err)
    (Rose (g.S.Store.read_faults c.args.store.now) (g.S.Store.read_faults c.args.store.now))
    (Rose (g.S.Store.write_faults c.args.store.now) (g.S.Store.write_faults c.args.store.now))
    (Rose (g.O.Sink.write_faults c.args.out.now) (g.O.Sink.write_faults c.generate-end.new.out))
    (Rose (g.E.Sink.write_faults c.args.err.now) (g.E.Sink.write_faults c.tell_end-in-Gen.new.err))
    (Rose (g.N.Net.faults c.args.net.now) (g.N.Net.faults c.args.net.now)) c.tell_end-in-Gen.result)
    (sym c.in-Gen.is)
    (gen_told (g.S.Store.held c.args.store.now) (net_side (g.N.Net.connections c.args.net.now) (g.N.Net.listens_at c.args.net.now)) (net_side (g.N.Net.connections c.args.net.now) (g.N.Net.listens_at c.args.net.now)) c.in-Gen.n c.in-Gen.summary (g.O.Sink.held c.args.out.now) (g.O.Sink.held c.generate-end.new.out)
    (g.E.Sink.held c.args.err.now) (g.E.Sink.held c.tell_end-in-Gen.new.err)
    (Rose (g.S.Store.read_faults c.args.store.now) (g.S.Store.read_faults c.args.store.now))
    (Rose (g.S.Store.write_faults c.args.store.now) (g.S.Store.write_faults c.args.store.now))
    (Rose (g.O.Sink.write_faults c.args.out.now) (g.O.Sink.write_faults c.generate-end.new.out))
    (Rose (g.E.Sink.write_faults c.args.err.now) (g.E.Sink.write_faults c.tell_end-in-Gen.new.err))
    (Rose (g.N.Net.faults c.args.net.now) (g.N.Net.faults c.args.net.now)) c.tell_end-in-Gen.result c.generate-end.result
    c.generate-end.ensures.ends c.tell_end-in-Gen.ensures.told)

pub do_sum-requires-clause-few : goal.do_sum-requires-clause-few
do_sum-requires-clause-few g c =
    let bounds = rw c.in-Sum.is at c.requires in let same = as_many_texts c.in-Sum.names.items in rw (c.deref.ensures.value) (omega (arith, bounds.1, same))

pub returns-in-Sum-clause-ends : goal.returns-in-Sum-clause-ends
returns-in-Sum-clause-ends g c =
    subst
    (λ (x : Command). TopEnds (Some (told x)) (g.S.Store.held c.args.store.now) (g.S.Store.held c.do_sum.new.store) (net_side (g.N.Net.connections c.args.net.now) (g.N.Net.listens_at c.args.net.now)) (net_side (g.N.Net.connections c.args.net.now) (g.N.Net.listens_at c.args.net.now))
    (g.O.Sink.held c.args.out.now) (g.O.Sink.held c.do_sum.new.out) (g.E.Sink.held c.args.err.now) (g.E.Sink.held c.do_sum.new.err)
    (Rose (g.S.Store.read_faults c.args.store.now) (g.S.Store.read_faults c.do_sum.new.store))
    (Rose (g.S.Store.write_faults c.args.store.now) (g.S.Store.write_faults c.do_sum.new.store))
    (Rose (g.O.Sink.write_faults c.args.out.now) (g.O.Sink.write_faults c.do_sum.new.out))
    (Rose (g.E.Sink.write_faults c.args.err.now) (g.E.Sink.write_faults c.do_sum.new.err))
    (Rose (g.N.Net.faults c.args.net.now) (g.N.Net.faults c.args.net.now)) c.do_sum.result)
    (sym c.in-Sum.is)
    (let ends = rw c.deref.ensures.value at c.do_sum.ensures.ends in
    sum_told (g.S.Store.held c.args.store.now) (g.S.Store.held c.do_sum.new.store) (net_side (g.N.Net.connections c.args.net.now) (g.N.Net.listens_at c.args.net.now)) (net_side (g.N.Net.connections c.args.net.now) (g.N.Net.listens_at c.args.net.now)) (texts c.in-Sum.names.items) ends.1
    (g.O.Sink.held c.args.out.now) (g.O.Sink.held c.do_sum.new.out) (g.E.Sink.held c.args.err.now) (g.E.Sink.held c.do_sum.new.err)
    (Rose (g.S.Store.read_faults c.args.store.now) (g.S.Store.read_faults c.do_sum.new.store))
    (Rose (g.S.Store.write_faults c.args.store.now) (g.S.Store.write_faults c.do_sum.new.store))
    (Rose (g.O.Sink.write_faults c.args.out.now) (g.O.Sink.write_faults c.do_sum.new.out))
    (Rose (g.E.Sink.write_faults c.args.err.now) (g.E.Sink.write_faults c.do_sum.new.err))
    (Rose (g.N.Net.faults c.args.net.now) (g.N.Net.faults c.args.net.now)) c.do_sum.result ends.0 ends.2 c.do_sum.ensures.kept ends.3)

pub returns-in-Compare-clause-ends : goal.returns-in-Compare-clause-ends
returns-in-Compare-clause-ends g c =
    subst
    (λ (x : Command). TopEnds (Some (told x)) (g.S.Store.held c.args.store.now) (g.S.Store.held c.do_compare.new.store) (net_side (g.N.Net.connections c.args.net.now) (g.N.Net.listens_at c.args.net.now)) (net_side (g.N.Net.connections c.args.net.now) (g.N.Net.listens_at c.args.net.now))
    (g.O.Sink.held c.args.out.now) (g.O.Sink.held c.do_compare.new.out) (g.E.Sink.held c.args.err.now) (g.E.Sink.held c.do_compare.new.err)
    (Rose (g.S.Store.read_faults c.args.store.now) (g.S.Store.read_faults c.do_compare.new.store))
    (Rose (g.S.Store.write_faults c.args.store.now) (g.S.Store.write_faults c.do_compare.new.store))
    (Rose (g.O.Sink.write_faults c.args.out.now) (g.O.Sink.write_faults c.do_compare.new.out))
    (Rose (g.E.Sink.write_faults c.args.err.now) (g.E.Sink.write_faults c.do_compare.new.err))
    (Rose (g.N.Net.faults c.args.net.now) (g.N.Net.faults c.args.net.now)) c.do_compare.result)
    (sym c.in-Compare.is)
    (let ends = c.do_compare.ensures.ends in
    compare_told (g.S.Store.held c.args.store.now) (g.S.Store.held c.do_compare.new.store) (net_side (g.N.Net.connections c.args.net.now) (g.N.Net.listens_at c.args.net.now)) (net_side (g.N.Net.connections c.args.net.now) (g.N.Net.listens_at c.args.net.now)) c.in-Compare.old.now c.in-Compare.new.now c.in-Compare.by c.in-Compare.least ends.1
    (g.O.Sink.held c.args.out.now) (g.O.Sink.held c.do_compare.new.out) (g.E.Sink.held c.args.err.now) (g.E.Sink.held c.do_compare.new.err)
    (Rose (g.S.Store.read_faults c.args.store.now) (g.S.Store.read_faults c.do_compare.new.store))
    (Rose (g.S.Store.write_faults c.args.store.now) (g.S.Store.write_faults c.do_compare.new.store))
    (Rose (g.O.Sink.write_faults c.args.out.now) (g.O.Sink.write_faults c.do_compare.new.out))
    (Rose (g.E.Sink.write_faults c.args.err.now) (g.E.Sink.write_faults c.do_compare.new.err))
    (Rose (g.N.Net.faults c.args.net.now) (g.N.Net.faults c.args.net.now)) c.do_compare.result ends.0 ends.2 c.do_compare.ensures.kept ends.3)

pub returns-in-Compare-clause-net : goal.returns-in-Compare-clause-net
returns-in-Compare-clause-net g c = grind (arith, common_steps)

pub returns-in-Gen-clause-net : goal.returns-in-Gen-clause-net
returns-in-Gen-clause-net g c = grind (arith, common_steps)

pub returns-in-Undump-clause-ends : goal.returns-in-Undump-clause-ends
returns-in-Undump-clause-ends g c = grind (arith, common_steps)

pub returns-in-Undump-clause-net : goal.returns-in-Undump-clause-net
returns-in-Undump-clause-net g c = grind (arith, common_steps)

pub returns-in-Run-clause-ends : goal.returns-in-Run-clause-ends
returns-in-Run-clause-ends g c = grind (arith, common_steps)

pub returns-in-Run-clause-net : goal.returns-in-Run-clause-net
returns-in-Run-clause-net g c = grind (arith, common_steps)

pub returns-in-Feedback-clause-ends : goal.returns-in-Feedback-clause-ends
returns-in-Feedback-clause-ends g c = grind (arith, common_steps)

pub returns-in-Feedback-clause-net : goal.returns-in-Feedback-clause-net
returns-in-Feedback-clause-net g c = grind (arith, common_steps)

pub returns-in-Page-clause-ends : goal.returns-in-Page-clause-ends
returns-in-Page-clause-ends g c = grind (arith, common_steps)

pub returns-in-Page-clause-net : goal.returns-in-Page-clause-net
returns-in-Page-clause-net g c = grind (arith, common_steps)

pub returns-in-Serve-clause-ends : goal.returns-in-Serve-clause-ends
returns-in-Serve-clause-ends g c =
    subst
    (λ (x : Command). TopEnds (Some (told x)) (g.S.Store.held c.args.store.now) (g.S.Store.held c.serve_file-end.new.store) (net_side (g.N.Net.connections c.args.net.now) (g.N.Net.listens_at c.args.net.now)) (net_side (g.N.Net.connections c.serve_file-end.new.net) (g.N.Net.listens_at c.serve_file-end.new.net))
    (g.O.Sink.held c.args.out.now) (g.O.Sink.held c.serve_file-end.new.out) (g.E.Sink.held c.args.err.now) (g.E.Sink.held c.tell_end-in-Serve.new.err)
    (Rose (g.S.Store.read_faults c.args.store.now) (g.S.Store.read_faults c.serve_file-end.new.store))
    (Rose (g.S.Store.write_faults c.args.store.now) (g.S.Store.write_faults c.serve_file-end.new.store))
    (Rose (g.O.Sink.write_faults c.args.out.now) (g.O.Sink.write_faults c.serve_file-end.new.out))
    (Rose (g.E.Sink.write_faults c.args.err.now) (g.E.Sink.write_faults c.tell_end-in-Serve.new.err))
    (Rose (g.N.Net.faults c.args.net.now) (g.N.Net.faults c.serve_file-end.new.net)) c.tell_end-in-Serve.result)
    (sym c.in-Serve.is)
    (serve_told (g.S.Store.held c.args.store.now) (g.S.Store.held c.serve_file-end.new.store) (net_side (g.N.Net.connections c.args.net.now) (g.N.Net.listens_at c.args.net.now)) (net_side (g.N.Net.connections c.serve_file-end.new.net) (g.N.Net.listens_at c.serve_file-end.new.net)) c.in-Serve.name.now c.in-Serve.port c.in-Serve.requests
    (g.O.Sink.held c.args.out.now) (g.O.Sink.held c.serve_file-end.new.out) (g.E.Sink.held c.args.err.now) (g.E.Sink.held c.tell_end-in-Serve.new.err)
    (Rose (g.S.Store.read_faults c.args.store.now) (g.S.Store.read_faults c.serve_file-end.new.store))
    (Rose (g.S.Store.write_faults c.args.store.now) (g.S.Store.write_faults c.serve_file-end.new.store))
    (Rose (g.O.Sink.write_faults c.args.out.now) (g.O.Sink.write_faults c.serve_file-end.new.out))
    (Rose (g.E.Sink.write_faults c.args.err.now) (g.E.Sink.write_faults c.tell_end-in-Serve.new.err))
    (Rose (g.N.Net.faults c.args.net.now) (g.N.Net.faults c.serve_file-end.new.net)) c.tell_end-in-Serve.result c.serve_file-end.result c.serve_file-end.ensures.ends c.serve_file-end.ensures.kept c.tell_end-in-Serve.ensures.told)

pub returns-in-Serve-clause-net : goal.returns-in-Serve-clause-net
returns-in-Serve-clause-net g c = grind (arith, common_steps)

pub returns-in-Sum-clause-net : goal.returns-in-Sum-clause-net
returns-in-Sum-clause-net g c = grind (arith, common_steps)

pub returns-in-Dump-clause-ends : goal.returns-in-Dump-clause-ends
returns-in-Dump-clause-ends g c = grind (arith, common_steps)

pub returns-in-Dump-clause-net : goal.returns-in-Dump-clause-net
returns-in-Dump-clause-net g c = grind (arith, common_steps)

pub returns-in-Check-clause-ends : goal.returns-in-Check-clause-ends
returns-in-Check-clause-ends g c = grind (arith, common_steps)

pub returns-in-Check-clause-net : goal.returns-in-Check-clause-net
returns-in-Check-clause-net g c = grind (arith, common_steps)

pub returns-in-Report-clause-net : goal.returns-in-Report-clause-net
returns-in-Report-clause-net g c = grind (arith, common_steps)

pub returns-in-Cover-clause-net : goal.returns-in-Cover-clause-net
returns-in-Cover-clause-net g c = grind (arith, common_steps)

pub returns-in-Migrate-clause-ends : goal.returns-in-Migrate-clause-ends
returns-in-Migrate-clause-ends g c = grind (arith, common_steps)

pub returns-in-Migrate-clause-net : goal.returns-in-Migrate-clause-net
returns-in-Migrate-clause-net g c = grind (arith, common_steps)

pub returns-in-Check-clause-faults : goal.returns-in-Check-clause-faults
returns-in-Check-clause-faults g c = record {
  reads_are = told_by Read c.check_file-end.result _ _ _ _ c.tell_end.result _ _ c.check_file-end.ensures.reads c.tell_end.ensures.told;
  writes_are = inl c.check_file-end.ensures.writes;
  outs_are = told_by Write c.check_file-end.result _ _ _ _ c.tell_end.result _ _ c.check_file-end.ensures.outs c.tell_end.ensures.told;
  errs_are = c.tell_end.ensures.errs;
  nets_are = inl refl;
  one = inl c.check_file-end.ensures.writes;
}

pub returns-in-Run-clause-faults : goal.returns-in-Run-clause-faults
returns-in-Run-clause-faults g c = record {
  reads_are = told_by Read c.run_file-end.result _ _ _ _ c.tell_end-in-Run.result _ _ c.run_file-end.ensures.reads c.tell_end-in-Run.ensures.told;
  writes_are = told_by Write c.run_file-end.result _ _ _ _ c.tell_end-in-Run.result _ _ c.run_file-end.ensures.writes c.tell_end-in-Run.ensures.told;
  outs_are = told_by Write c.run_file-end.result _ _ _ _ c.tell_end-in-Run.result _ _ c.run_file-end.ensures.outs c.tell_end-in-Run.ensures.told;
  errs_are = c.tell_end-in-Run.ensures.errs;
  nets_are = inl refl;
  one = c.run_file-end.ensures.one;
}

pub returns-in-Report-clause-faults : goal.returns-in-Report-clause-faults
returns-in-Report-clause-faults g c = record {
  reads_are = told_by Read c.report_file-end.result _ _ _ _ c.tell_end-in-Report.result _ _ c.report_file-end.ensures.reads c.tell_end-in-Report.ensures.told;
  writes_are = inl c.report_file-end.ensures.writes;
  outs_are = told_by Write c.report_file-end.result _ _ _ _ c.tell_end-in-Report.result _ _ c.report_file-end.ensures.outs c.tell_end-in-Report.ensures.told;
  errs_are = done_by Write c.report_file-end.result _ _ _ _ c.tell_end-in-Report.result _ _ _ c.report_file-end.ensures.errs c.tell_end-in-Report.ensures.told c.tell_end-in-Report.ensures.errs;
  nets_are = inl refl;
  one = inl c.report_file-end.ensures.writes;
}

pub returns-in-Page-clause-faults : goal.returns-in-Page-clause-faults
returns-in-Page-clause-faults g c = record {
  reads_are = told_by Read c.page_of_file-end.result _ _ _ _ c.tell_end-in-Page.result _ _ c.page_of_file-end.ensures.reads c.tell_end-in-Page.ensures.told;
  writes_are = inl c.page_of_file-end.ensures.writes;
  outs_are = told_by Write c.page_of_file-end.result _ _ _ _ c.tell_end-in-Page.result _ _ c.page_of_file-end.ensures.outs c.tell_end-in-Page.ensures.told;
  errs_are = c.tell_end-in-Page.ensures.errs;
  nets_are = inl refl;
  one = inl c.page_of_file-end.ensures.writes;
}

pub returns-in-Serve-clause-faults : goal.returns-in-Serve-clause-faults
returns-in-Serve-clause-faults g c = record {
  reads_are = told_by Read c.serve_file-end.result _ _ _ _ c.tell_end-in-Serve.result _ _ c.serve_file-end.ensures.reads c.tell_end-in-Serve.ensures.told;
  writes_are = inl c.serve_file-end.ensures.writes;
  outs_are = told_by Write c.serve_file-end.result _ _ _ _ c.tell_end-in-Serve.result _ _ c.serve_file-end.ensures.outs c.tell_end-in-Serve.ensures.told;
  errs_are = c.tell_end-in-Serve.ensures.errs;
  nets_are = told_by Network c.serve_file-end.result _ _ _ _ c.tell_end-in-Serve.result _ _ c.serve_file-end.ensures.nets c.tell_end-in-Serve.ensures.told;
  one = inl c.serve_file-end.ensures.writes;
}

pub returns-in-Gen-clause-faults : goal.returns-in-Gen-clause-faults
returns-in-Gen-clause-faults g c = record {
  reads_are = inl refl;
  writes_are = inl refl;
  outs_are = told_by Write c.generate-end.result _ _ _ _ c.tell_end-in-Gen.result _ _ c.generate-end.ensures.outs c.tell_end-in-Gen.ensures.told;
  errs_are = c.tell_end-in-Gen.ensures.errs;
  nets_are = inl refl;
  one = inl refl;
}

pub returns-in-Migrate-clause-faults : goal.returns-in-Migrate-clause-faults
returns-in-Migrate-clause-faults g c = record {
  reads_are = told_by Read c.migrate_file-end.result _ _ _ _ c.tell_end-in-Migrate.result _ _ c.migrate_file-end.ensures.reads c.tell_end-in-Migrate.ensures.told;
  writes_are = told_by Write c.migrate_file-end.result _ _ _ _ c.tell_end-in-Migrate.result _ _ c.migrate_file-end.ensures.writes c.tell_end-in-Migrate.ensures.told;
  outs_are = told_by Write c.migrate_file-end.result _ _ _ _ c.tell_end-in-Migrate.result _ _ c.migrate_file-end.ensures.outs c.tell_end-in-Migrate.ensures.told;
  errs_are = c.tell_end-in-Migrate.ensures.errs;
  nets_are = inl refl;
  one = c.migrate_file-end.ensures.one;
}

pub returns-in-Feedback-clause-faults : goal.returns-in-Feedback-clause-faults
returns-in-Feedback-clause-faults g c = record {
  reads_are = told_by Read c.feedback_file-end.result _ _ _ _ c.tell_end-in-Feedback.result _ _ c.feedback_file-end.ensures.reads c.tell_end-in-Feedback.ensures.told;
  writes_are = told_by Write c.feedback_file-end.result _ _ _ _ c.tell_end-in-Feedback.result _ _ c.feedback_file-end.ensures.writes c.tell_end-in-Feedback.ensures.told;
  outs_are = told_by Write c.feedback_file-end.result _ _ _ _ c.tell_end-in-Feedback.result _ _ c.feedback_file-end.ensures.outs c.tell_end-in-Feedback.ensures.told;
  errs_are = c.tell_end-in-Feedback.ensures.errs;
  nets_are = inl refl;
  one = c.feedback_file-end.ensures.one;
}

pub returns-in-Cover-clause-faults : goal.returns-in-Cover-clause-faults
returns-in-Cover-clause-faults g c = record {
  reads_are = told_by Read c.cover_file-end.result _ _ _ _ c.tell_end-in-Cover.result _ _ c.cover_file-end.ensures.reads c.tell_end-in-Cover.ensures.told;
  writes_are = inl c.cover_file-end.ensures.writes;
  outs_are = told_by Write c.cover_file-end.result _ _ _ _ c.tell_end-in-Cover.result _ _ c.cover_file-end.ensures.outs c.tell_end-in-Cover.ensures.told;
  errs_are = done_by Write c.cover_file-end.result _ _ _ _ c.tell_end-in-Cover.result _ _ _ c.cover_file-end.ensures.errs c.tell_end-in-Cover.ensures.told c.tell_end-in-Cover.ensures.errs;
  nets_are = inl refl;
  one = inl c.cover_file-end.ensures.writes;
}

pub returns-in-Dump-clause-faults : goal.returns-in-Dump-clause-faults
returns-in-Dump-clause-faults g c = record {
  reads_are = told_by Read c.dump_file-end.result _ _ _ _ c.tell_end-in-Dump.result _ _ c.dump_file-end.ensures.reads c.tell_end-in-Dump.ensures.told;
  writes_are = inl c.dump_file-end.ensures.writes;
  outs_are = told_by Write c.dump_file-end.result _ _ _ _ c.tell_end-in-Dump.result _ _ c.dump_file-end.ensures.outs c.tell_end-in-Dump.ensures.told;
  errs_are = c.tell_end-in-Dump.ensures.errs;
  nets_are = inl refl;
  one = inl c.dump_file-end.ensures.writes;
}

pub returns-in-Undump-clause-faults : goal.returns-in-Undump-clause-faults
returns-in-Undump-clause-faults g c = record {
  reads_are = told_by Read c.undump_file-end.result _ _ _ _ c.tell_end-in-Undump.result _ _ c.undump_file-end.ensures.reads c.tell_end-in-Undump.ensures.told;
  writes_are = told_by Write c.undump_file-end.result _ _ _ _ c.tell_end-in-Undump.result _ _ c.undump_file-end.ensures.writes c.tell_end-in-Undump.ensures.told;
  outs_are = told_by Write c.undump_file-end.result _ _ _ _ c.tell_end-in-Undump.result _ _ c.undump_file-end.ensures.outs c.tell_end-in-Undump.ensures.told;
  errs_are = c.tell_end-in-Undump.ensures.errs;
  nets_are = inl refl;
  one = c.undump_file-end.ensures.one;
}

pub returns-in-Sum-clause-faults : goal.returns-in-Sum-clause-faults
returns-in-Sum-clause-faults g c = record { reads_are = c.do_sum.ensures.reads; writes_are = inl c.do_sum.ensures.writes; outs_are = c.do_sum.ensures.outs; errs_are = c.do_sum.ensures.errs; nets_are = inl refl; one = inl c.do_sum.ensures.writes }

pub returns-in-Compare-clause-faults : goal.returns-in-Compare-clause-faults
returns-in-Compare-clause-faults g c = record { reads_are = c.do_compare.ensures.reads; writes_are = inl c.do_compare.ensures.writes; outs_are = c.do_compare.ensures.outs; errs_are = c.do_compare.ensures.errs; nets_are = inl refl; one = inl c.do_compare.ensures.writes }
