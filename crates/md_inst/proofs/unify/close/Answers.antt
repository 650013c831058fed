use Rattle.std.proofs.Common.{arith, sym, ap, ◌≡◌, ◌∙◌, ◌<◌, false, length}
use Rattle.std.proofs.lemmas.Grind.{common_steps}
use Rattle.md_hlds.specs.Hlds.{args_of, procedure_of}
use Rattle.md_inst.specs.Instantiation.{known_at, is_bound}
use Rattle.md_inst.specs.Kinds.{inst_map_of}
use Rattle.md_inst.proofs.NameLemmas.{length_args_of, args_of_take, args_of_drop}
use Rattle.md_inst.proofs.Closures.{closed}
use Rattle.md_inst.proofs.unify.close.Goals as goal

pub split_at-requires : goal.split_at-requires
split_at-requires c = omega (arith, c.arity.ensures, length_args_of c.as_slice-args.result.now)

pub returns : goal.returns
returns c =
    let items = c.args.pred.now.args.items in
    let few : length c.args.places.now < length (args_of items) = omega (arith, c.arity.ensures, ap (λ args. length (args_of args)) c.as_slice-args.ensures.value) in
    let unbound : is_bound (known_at (inst_map_of c.args.insts.now.items) c.args.x) ≡ false =
    rw (← c.deref.ensures.value, ← c.inst_at.ensures) (sym c.is_bound.ensures ∙ c.if-is_bound.false) in
    closed c.capture.result (inst_map_of c.capture.new.insts.items) c.args.line c.args.x (procedure_of c.args.pred.now) c.args.places.now
    (inst_map_of c.args.insts.now.items) few unbound
    (rw (← args_of_take, ← args_of_drop, ← c.as_slice-args.ensures.value, ← c.split_at.ensures.front, ← c.split_at.ensures.back) c.capture.ensures)

pub returns-then-places-arity : goal.returns-then-places-arity
returns-then-places-arity c = grind (arith, common_steps)

pub returns-then-is_bound : goal.returns-then-is_bound
returns-then-is_bound c = grind (arith, common_steps)
