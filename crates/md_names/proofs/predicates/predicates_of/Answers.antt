use Rattle.std.proofs.Common.{◌≡◌, ◌∙◌, ap, arith, suc, ◌-◌}
use Rattle.std.specs.Map.{lookup}
use Rattle.md_names.specs.Maps.{predicate_told, is_predicate_key}
use Rattle.md_names.proofs.Steps.{predicate_put}
use Rattle.md_names.proofs.predicates.predicates_of.Goals as goal

pub loop-number-preserved : goal.loop-number-preserved
loop-number-preserved c q =
    let at : c.loop-number.number ≡ suc (c.loop-number.number - 1) = omega arith in
    ap (λ es. predicate_told (lookup (is_predicate_key q) es)) c.in_ok-insert.ensures.entries
    ∙ predicate_put q c.loop-number.predicates.entries c.key_of-key.result c.args.program.now.preds.items (c.loop-number.number - 1) c.loop-number.number
    c.index-pred.result at (omega (arith, c.loop-number.auto.number, c.len-number.ensures, c.args.program.now.preds.ok)) c.index-pred.ensures
    c.key_of-key.ensures.qualifier c.key_of-key.ensures.name (c.loop-number.invariant q)
