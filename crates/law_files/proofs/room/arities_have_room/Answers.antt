use Rattle.std.proofs.Common.{rules, ◌<◌, All, subst}
use Rattle.std.proofs.lemmas.List.{take_all}
use Rattle.std.proofs.lemmas.List.Elements.{All-more}
use Rattle.md_static.specs.declared.entry.Proc.{Proc}
use Rattle.law_files.proofs.room.arities_have_room.Goals as goal

pub loop-proc-preserved : goal.loop-proc-preserved
loop-proc-preserved c = All-more (λ (p : Proc). p.arity < 256) c.args.procs.now c.loop-proc.proc-index c.proc-item.result (search rules) c.loop-proc.invariant (search rules)

pub returns : goal.returns
returns c = subst (All (λ (p : Proc). p.arity < 256)) (take_all c.loop-proc.proc-index c.args.procs.now (search rules)) c.loop-proc.invariant
