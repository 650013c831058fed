use Rattle.std.specs.Prelude.{Ok, Err}
use Rattle.std.proofs.Common.{refl, [], inl}
use Rattle.md_tool.specs.declared.fault.Fault.TheVariants.{Read, Write}
use Rattle.md_tool.proofs.RisesLemmas.{stopped_by}
use Rattle.md_tool.proofs.command.do_compare.Goals as goal

pub returns-in-Ok-clause-ends : goal.returns-in-Ok-clause-ends
returns-in-Ok-clause-ends g c = (Ok tt, [], c.in-Ok.ensures.ends, (refl, refl))

pub returns-in-Err-clause-ends : goal.returns-in-Err-clause-ends
returns-in-Err-clause-ends g c = (Err c.in-Err.stopped.fault, c.in-Err.stopped.file.now, c.in-Err.ensures.ends, c.tell.ensures.told)

pub returns-in-Ok-clause-reads : goal.returns-in-Ok-clause-reads
returns-in-Ok-clause-reads g c = inl c.in-Ok.ensures.reads

pub returns-in-Ok-clause-outs : goal.returns-in-Ok-clause-outs
returns-in-Ok-clause-outs g c = inl c.in-Ok.ensures.outs

pub returns-in-Err-clause-reads : goal.returns-in-Err-clause-reads
returns-in-Err-clause-reads g c = stopped_by Read c.in-Err.stopped _ _ _ _ c.tell.result _ _ c.in-Err.ensures.reads c.tell.ensures.told

pub returns-in-Err-clause-outs : goal.returns-in-Err-clause-outs
returns-in-Err-clause-outs g c = stopped_by Write c.in-Err.stopped _ _ _ _ c.tell.result _ _ c.in-Err.ensures.outs c.tell.ensures.told

pub returns-in-Err-clause-errs : goal.returns-in-Err-clause-errs
returns-in-Err-clause-errs g c = c.tell.ensures.errs
