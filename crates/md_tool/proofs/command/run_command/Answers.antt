use Rattle.std.proofs.Common.{refl, inl, sym, ap, ◌∙◌, arith}
use Rattle.std.proofs.lemmas.Grind.{common_steps}
use Rattle.md_base.specs.Outside.{Rose}
use Rattle.md_tool.specs.Served.{net_side}
use Rattle.md_commands.specs.Form.{words_of, form}
use Rattle.md_commands.specs.Told.{command_told}
use Rattle.md_tool.proofs.TopLemmas.{usage_told, memory_told}
use Rattle.md_tool.proofs.command.run_command.Goals as goal

pub returns-in-Err-clause-ends : goal.returns-in-Err-clause-ends
returns-in-Err-clause-ends g c =
    memory_told (form (words_of c.args.words.now)) (g.S.Store.held c.args.store.now) (net_side (g.N.Net.connections c.args.net.now) (g.N.Net.listens_at c.args.net.now)) (g.O.Sink.held c.args.out.now) (g.E.Sink.held c.args.err.now) (g.E.Sink.held c.tell.new.err)
    (Rose (g.S.Store.read_faults c.args.store.now) (g.S.Store.read_faults c.args.store.now))
    (Rose (g.S.Store.write_faults c.args.store.now) (g.S.Store.write_faults c.args.store.now))
    (Rose (g.O.Sink.write_faults c.args.out.now) (g.O.Sink.write_faults c.args.out.now))
    (Rose (g.E.Sink.write_faults c.args.err.now) (g.E.Sink.write_faults c.tell.new.err))
    (Rose (g.N.Net.faults c.args.net.now) (g.N.Net.faults c.args.net.now)) c.tell.result c.tell.ensures.told

pub returns-in-Ok-None-clause-ends : goal.returns-in-Ok-None-clause-ends
returns-in-Ok-None-clause-ends g c =
    usage_told (form (words_of c.args.words.now)) (g.S.Store.held c.args.store.now) (net_side (g.N.Net.connections c.args.net.now) (g.N.Net.listens_at c.args.net.now)) (g.O.Sink.held c.args.out.now) (g.E.Sink.held c.args.err.now) (g.E.Sink.held c.tell-in-Ok-None.new.err)
    (Rose (g.S.Store.read_faults c.args.store.now) (g.S.Store.read_faults c.args.store.now))
    (Rose (g.S.Store.write_faults c.args.store.now) (g.S.Store.write_faults c.args.store.now))
    (Rose (g.O.Sink.write_faults c.args.out.now) (g.O.Sink.write_faults c.args.out.now))
    (Rose (g.E.Sink.write_faults c.args.err.now) (g.E.Sink.write_faults c.tell-in-Ok-None.new.err))
    (Rose (g.N.Net.faults c.args.net.now) (g.N.Net.faults c.args.net.now)) c.tell-in-Ok-None.result
    (sym c.in-Ok-None.ensures.form ∙ ap command_told c.in-Ok-None.field-0-is) c.tell-in-Ok-None.ensures.told

pub returns-in-Ok-Some-clause-ends : goal.returns-in-Ok-Some-clause-ends
returns-in-Ok-Some-clause-ends g c = grind (arith, common_steps)

pub returns-in-Ok-Some-clause-net : goal.returns-in-Ok-Some-clause-net
returns-in-Ok-Some-clause-net g c = grind (arith, common_steps)

pub returns-in-Ok-None-clause-net : goal.returns-in-Ok-None-clause-net
returns-in-Ok-None-clause-net g c = grind (arith, common_steps)

pub returns-in-Err-clause-net : goal.returns-in-Err-clause-net
returns-in-Err-clause-net g c = grind (arith, common_steps)

pub returns-in-Err-clause-faults : goal.returns-in-Err-clause-faults
returns-in-Err-clause-faults g c = record { reads_are = inl refl; writes_are = inl refl; outs_are = inl refl; errs_are = c.tell.ensures.errs; nets_are = inl refl; one = inl refl }

pub returns-in-Ok-None-clause-faults : goal.returns-in-Ok-None-clause-faults
returns-in-Ok-None-clause-faults g c = record { reads_are = inl refl; writes_are = inl refl; outs_are = inl refl; errs_are = c.tell-in-Ok-None.ensures.errs; nets_are = inl refl; one = inl refl }

pub returns-in-Ok-Some-clause-faults : goal.returns-in-Ok-Some-clause-faults
returns-in-Ok-Some-clause-faults g c = c.do_command.ensures.faults
