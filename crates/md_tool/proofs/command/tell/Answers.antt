use Rattle.std.proofs.Common.{◌∙◌, ap, arith}
use Rattle.std.proofs.lemmas.Grind.{common_steps}
use Rattle.std.specs.Prelude.{Err}
use Rattle.md_base.specs.declared.files.WriteFault.{WriteFault}
use Rattle.md_base.specs.Outside.{Rose}
use Rattle.md_base.proofs.Told.{rose_at}
use Rattle.md_tool.proofs.TopLemmas.{untold, told_whole, told_until, told_short}
use Rattle.md_tool.proofs.command.tell.Goals as goal

pub returns-in_default-clause-told : goal.returns-in_default-clause-told
returns-in_default-clause-told g c =
    untold c.args.fault.now c.args.file.now (g.E.Sink.held c.args.err.now) (Rose (g.E.Sink.write_faults c.args.err.now) (g.E.Sink.write_faults c.args.err.now)) c.status.result c.status.ensures

pub returns-in-Ok-write_whole-clause-told : goal.returns-in-Ok-write_whole-clause-told
returns-in-Ok-write_whole-clause-told g c =
    told_whole c.args.fault.now c.args.file.now c.deref.result.now (g.E.Sink.held c.args.err.now) (g.E.Sink.held c.write_whole.new.sink)
    (Rose (g.E.Sink.write_faults c.args.err.now) (g.E.Sink.write_faults c.write_whole.new.sink)) c.status-in-Ok-write_whole.result
    (c.deref.ensures.value ∙ c.in-Ok.ensures) c.status-in-Ok-write_whole.ensures c.in-Ok-write_whole.ensures.whole

pub returns-in-Err-Write-clause-told : goal.returns-in-Err-Write-clause-told
returns-in-Err-Write-clause-told g c =
    told_until c.args.fault.now c.args.file.now c.deref.result.now (g.E.Sink.held c.args.err.now) (g.E.Sink.held c.write_whole.new.sink)
    (Rose (g.E.Sink.write_faults c.args.err.now) (g.E.Sink.write_faults c.write_whole.new.sink)) c.status-in-Err-Write.result
    (c.deref.ensures.value ∙ c.in-Ok.ensures) c.status-in-Err-Write.ensures c.in-Err-Write.ensures.part (rose_at _ _ _ _ c.in-Err-Write.ensures.cause (ap (λ (fault : WriteFault). Err fault) c.in-Err-Write.field-0-is))

pub returns-clause-told : goal.returns-clause-told
returns-clause-told g c =
    told_short c.args.fault.now c.args.file.now c.deref.result.now (g.E.Sink.held c.args.err.now) (g.E.Sink.held c.write_whole.new.sink)
    (Rose (g.E.Sink.write_faults c.args.err.now) (g.E.Sink.write_faults c.write_whole.new.sink)) c.status-in-Err-NoMemory.result
    (c.deref.ensures.value ∙ c.in-Ok.ensures) c.status-in-Err-NoMemory.ensures c.in-Err-NoMemory.ensures.part

pub returns-clause-later : goal.returns-clause-later
returns-clause-later g c = grind (arith, common_steps)

pub returns-in-Ok-write_whole-clause-later : goal.returns-in-Ok-write_whole-clause-later
returns-in-Ok-write_whole-clause-later g c = grind (arith, common_steps)

pub returns-in-Err-Write-clause-later : goal.returns-in-Err-Write-clause-later
returns-in-Err-Write-clause-later g c = grind (arith, common_steps)

pub returns-in_default-clause-later : goal.returns-in_default-clause-later
returns-in_default-clause-later g c = grind (arith, common_steps)
