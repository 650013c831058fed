use Rattle.std.proofs.Common.{Ok, ap, sym, refl}
use Rattle.md_hlds.specs.Hlds.{Hlds}
use Rattle.md_reader.specs.declared.program.Draft.{Draft}
use Rattle.md_reader.specs.Input.{input_of}
use Rattle.md_reader.specs.Rules.{declared_type_definition}
use Rattle.md_reader.proofs.Lists.{with_one_type_definition}
use Rattle.md_reader.proofs.program.declared_type_definition.Goals as goal

pub returns : goal.returns
unfolding declared_type_definition
returns c =
    let b = c.args.draft.now in
    let after : Draft = record { «module» = b.module; module_line = b.module_line; types = c.push.new.self; preds = b.preds } in
    rw c.in_ok-type_definition.ensures (ap (λ (l : Hlds). Ok (l, input_of c.type_definition.new.input)) (sym (with_one_type_definition b after c.in_ok-type_definition.type_definition refl refl refl c.in_ok-push.ensures.items)))
