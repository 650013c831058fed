use Rattle.std.proofs.Common.{◌∙◌, sym, ap, ℕ, List}
use Rattle.md_hlds.specs.Hlds.{hlds_of}
use Rattle.md_names.specs.Named.{functor_placed}
use Rattle.md_names.specs.Maps.{functor_told}
use Rattle.md_names.proofs.Placed.{functor_missing, functor_here}
use Rattle.md_names.proofs.names.Names.functor.Goals as goal

pub returns-in-None : goal.returns-in-None
returns-in-None c =
    let ts = (hlds_of c.args.self.now).types in
    functor_missing c.args.name.now c.args.arity ts
    (sym (ap functor_told c.in-None.is) ∙ (c.declared.ensures ∙ ap (λ (xs : List ℕ). functor_placed xs c.args.arity 0 ts) c.as_bytes.ensures.bytes))

pub returns-in-Some : goal.returns-in-Some
returns-in-Some c =
    let ts = (hlds_of c.args.self.now).types in
    functor_here c.args.name.now c.args.arity ts c.in-Some.declared
    (sym (ap functor_told c.in-Some.is) ∙ (c.declared.ensures ∙ ap (λ (xs : List ℕ). functor_placed xs c.args.arity 0 ts) c.as_bytes.ensures.bytes))
