use Rattle.std.proofs.Common.{Ok, ap, sym, refl}
use Rattle.md_hlds.specs.Hlds.{Hlds}
use Rattle.md_reader.specs.declared.program.Draft.{Draft}
use Rattle.md_reader.specs.Input.{input_of}
use Rattle.md_reader.specs.Rules.{declared_procedure}
use Rattle.md_reader.proofs.Lists.{with_one_procedure}
use Rattle.md_reader.proofs.program.declared_procedure.Goals as goal

pub returns : goal.returns
unfolding declared_procedure
returns c =
    let b = c.args.draft.now in
    let after : Draft = record { «module» = b.module; module_line = b.module_line; types = b.types; preds = c.push.new.self } in
    rw c.in_ok-procedure.ensures (ap (λ (l : Hlds). Ok (l, input_of c.procedure.new.input)) (sym (with_one_procedure b after c.in_ok-procedure.procedure refl refl refl c.in_ok-push.ensures.items)))
