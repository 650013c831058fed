use Rattle.std.proofs.Common.{◌≡◌, ◌∙◌, sym, ap, subst, None, Some}
use Rattle.std.specs.Option.{option_copied}
use Rattle.md_hlds.specs.declared.program.Program.{Program}
use Rattle.md_hlds.specs.Hlds.{hlds_of}
use Rattle.md_names.specs.Named.{functor_placed}
use Rattle.md_names.specs.Maps.{functor_told, functor_in}
use Rattle.md_names.proofs.names.Names.declared.Goals as goal

pub returns-in-None : goal.returns-in-None
returns-in-None c =
    let told : functor_in c.self.inside.functors c.args.name.now c.args.arity ≡ functor_told None
    = sym (ap functor_told c.get.ensures.value) ∙ ap (λ r. functor_told (option_copied r)) c.in-None.is in
    subst (λ (p : Program). functor_told None ≡ functor_placed c.args.name.now c.args.arity 0 (hlds_of p).types)
    c.self.view_is
    (sym told ∙ c.self.invariant.1 c.args.name.now c.args.arity)

pub returns-in-Some : goal.returns-in-Some
returns-in-Some c =
    let told : functor_in c.self.inside.functors c.args.name.now c.args.arity ≡ functor_told (Some c.in-Some.declared.now)
    = sym (ap functor_told c.get.ensures.value) ∙ ap (λ r. functor_told (option_copied r)) c.in-Some.is in
    subst (λ (p : Program). functor_told (Some c.in-Some.declared.now) ≡ functor_placed c.args.name.now c.args.arity 0 (hlds_of p).types)
    c.self.view_is
    (sym told ∙ c.self.invariant.1 c.args.name.now c.args.arity)
