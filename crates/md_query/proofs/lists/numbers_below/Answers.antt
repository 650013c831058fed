use Rattle.std.proofs.Common.{◌≡◌, ◌+◌, List, ℕ, ◌++◌, ◌∷◌, [], sym, ap, ◌∙◌, arith}
use Rattle.md_query.proofs.ListSteps.{range_more}
use Rattle.md_query.proofs.lists.numbers_below.Goals as goal

pub loop-id-preserved : goal.loop-id-preserved
loop-id-preserved c =
    let e : 0 + c.loop-id.id ≡ c.loop-id.id = omega arith in
    c.in_ok-push.ensures.items ∙ ap (λ (xs : List ℕ). xs ++ c.loop-id.id ∷ []) c.loop-id.invariant ∙ sym (rw e at (range_more 0 c.loop-id.id))
