use Rattle.std.proofs.Common.{◌∙◌, sym, ap, Some, None}
use Rattle.std.specs.Option.{option_copied}
use Rattle.md_hlds.specs.Hlds.{hlds_of}
use Rattle.md_code.specs.Tables.{functors_of}
use Rattle.md_code.proofs.NumberLemmas.{functor-number}
use Rattle.md_code.proofs.tables.Tables.functor.Goals as goal

pub returns-in-None : goal.returns-in-None
returns-in-None c =
    functor-number c.args.name.now c.args.arity c.args.self.now.functor_count (functors_of (hlds_of c.args.self.now.source.checked.now)) None c.args.self.now.counted
    (sym (ap (λ r. option_copied r) c.in-None.is) ∙ (c.get.ensures.value ∙ c.args.self.now.numbered c.args.name.now c.args.arity))

pub returns-in-Some : goal.returns-in-Some
returns-in-Some c =
    functor-number c.args.name.now c.args.arity c.args.self.now.functor_count (functors_of (hlds_of c.args.self.now.source.checked.now)) (Some c.in-Some.number.now) c.args.self.now.counted
    (sym (ap (λ r. option_copied r) c.in-Some.is) ∙ (c.get.ensures.value ∙ c.args.self.now.numbered c.args.name.now c.args.arity))
