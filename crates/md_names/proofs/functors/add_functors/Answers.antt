use Rattle.std.proofs.Common.{◌≡◌, ◌∙◌, sym, ap, arith, suc, ◌-◌, List, drop}
use Rattle.std.specs.Map.{lookup}
use Rattle.md_hlds.specs.Hlds.{HldsFunctor, type_def_of}
use Rattle.md_names.specs.declared.functors.Declared.{Declared}
use Rattle.md_names.specs.Named.{construct_among, found_in}
use Rattle.md_names.specs.Maps.{functor_told, functor_in, is_functor_key}
use Rattle.md_names.proofs.Steps.{functor_put, constructs-step}
use Rattle.md_names.proofs.functors.add_functors.Goals as goal

pub loop-number-preserved : goal.loop-number-preserved
loop-number-preserved c name arity =
    let at : c.loop-number.number ≡ suc (c.loop-number.number - 1) = omega arith in
    let d : Declared = record { place = c.args.place; family = c.args.family; functor = c.index-functor.result } in
    ap (λ es. functor_told (lookup (is_functor_key name arity) es)) c.in_ok-insert.ensures.entries
    ∙ (functor_put name arity c.loop-number.functors.entries _ d (drop c.loop-number.number c.args.family.now.functors.items)
    (functor_in c.args.functors.now name arity) c.as_bytes.ensures.bytes (omega (arith, c.len.ensures, c.index-functor.result.now.args.ok)) (c.loop-number.invariant name arity)
    ∙ ap (λ (fs : List HldsFunctor). found_in (c.args.place, type_def_of c.args.family.now) (construct_among name arity fs) (functor_in c.args.functors.now name arity))
    (sym (constructs-step c.args.family.now.functors.items (c.loop-number.number - 1) c.loop-number.number c.index-functor.result.now at
    (omega (arith, c.loop-number.auto.number, c.len-number.ensures, c.args.family.now.functors.ok)) c.index-functor.ensures)))
