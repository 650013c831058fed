use Rattle.std.proofs.Common.{sym, subst, ℕ, List}
use Rattle.std.specs.List.Sorted.{IsNonDecreasing, IsPermutation}
use Rattle.std.proofs.lemmas.List.Sorted.{IsNonDecreasingBy-from_sort}
use Rattle.md_hlds.specs.HldsGoal.{expr_of}
use Rattle.md_modes.specs.Goals.{expr_variables}
use Rattle.md_modes.proofs.Locals.{local-permuted_ok}
use Rattle.md_modes.proofs.local.Local.new.Goals as goal

pub grouped-requires : goal.grouped-requires
grouped-requires c =
    subst (λ (xs : List ℕ). IsNonDecreasing xs) (sym c.deref.ensures.value)
    (IsNonDecreasingBy-from_sort (λ x. x) c.sort_unstable.new.self.items c.sort_unstable.ensures.sorted)

pub returns : goal.returns
returns c =
    local-permuted_ok c.grouped.result (expr_variables (expr_of c.args.goal.now)) c.deref.result.now
    (subst (λ (ys : List ℕ). IsPermutation (expr_variables (expr_of c.args.goal.now)) ys) (sym c.deref.ensures.value)
    (subst (λ (xs : List ℕ). IsPermutation xs c.sort_unstable.new.self.items) c.in_ok-vars.ensures c.sort_unstable.ensures.permutation))
    c.grouped.ensures
