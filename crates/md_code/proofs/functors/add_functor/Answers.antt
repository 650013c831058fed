use Rattle.std.proofs.Common.{◌∙◌, sym, ap, arith}
use Rattle.std.specs.Map.{lookup}
use Rattle.md_names.specs.Maps.{is_functor_key}
use Rattle.md_code.proofs.NumberLemmas.{functor-new, functor-there}
use Rattle.md_code.proofs.functors.add_functor.Goals as goal

pub returns-then-contains_key : goal.returns-then-contains_key
returns-then-contains_key c name arity =
    functor-there name arity (record { name = c.as_bytes.result; arity = c.len.result }) c.args.functor.now c.args.number c.args.numbers.now.entries c.as_bytes.ensures.bytes
    (omega (arith, c.len.ensures, c.args.functor.now.args.ok)) (sym c.contains_key.ensures ∙ c.if-contains_key.true)

pub returns : goal.returns
returns c name arity =
    ap (λ es. lookup (is_functor_key name arity) es) c.in_ok-insert.ensures.entries
    ∙ functor-new name arity (record { name = c.as_bytes.result; arity = c.len.result }) c.args.functor.now c.args.number c.args.numbers.now.entries c.as_bytes.ensures.bytes
    (omega (arith, c.len.ensures, c.args.functor.now.args.ok)) (sym c.contains_key.ensures ∙ c.if-contains_key.false)
