-- The run of a generated program within a budget that is its weight or more is all of its items; within a smaller one it isn't
-- finished.
use Rattle.std.proofs.Common.{◌≡◌, refl, ap, sym, ◌∙◌, arith, ℕ, zero, suc, ◌+◌, ◌*◌, ◌^◌, ◌<◌, ◌≤◌, true, false, ◌++◌, is_some}
use Rattle.std.proofs.Math.Nat.{pow-succ'}
use Rattle.std.proofs.Math.Pow.{pow_mono}
use Rattle.std.proofs.lemmas.Bool.{false_from_ne_true, false≢true}
use Rattle.md_hlds.specs.Trace.{Items}
use Rattle.md_hlds.specs.Run.{cut, main_items, run, is_finished, is_thrown}
use Rattle.md_hlds.proofs.BudgetLemmas.{budgets}
use Rattle.law_generated.specs.Generated.{generated, main_procedure, most_steps}
use Rattle.law_generated.proofs.Looked.{calling_found, last_found}
use Rattle.law_generated.proofs.Traced.{HasLevels, whole_items, main_end, plain-whole, main-traced}
use Rattle.law_generated.proofs.Weighed.{weight, weight-append, weight-whole, cut-plain, finished-plain, error-plain, weight-cut}

-- the generated programs are such
has-levels : (n : ℕ) → n < 2 ^ 64 → HasLevels (generated n) n
has-levels n small = record { calling = λ j below. calling_found n j small below; last = λ j is. last_found n j small is }

-- a power is above its exponent
below-power : (n : ℕ) → n < 2 ^ n
below-power zero = omega arith
below-power (suc n) = omega (arith, below-power n, pow-succ' 2 n)

-- the run is main's items, cut by the budget
run-cut : (n budget : ℕ) → run (generated n) budget ≡ cut budget (main_items (generated n) budget (0, main_procedure))
unfolding run
run-cut n budget = refl

-- with enough steps, the whole items, with r levels below procedure 1
pub run-whole : (n r budget : ℕ) → n ≡ suc r → n < 2 ^ 64 → 3 * 2 ^ n + 2 ≤ budget → run (generated n) budget ≡ whole_items (generated n) r ++ main_end
run-whole n r budget is small enough =
    let deep : 3 * n ≤ budget = omega (arith, below-power n) in
    let light : weight (whole_items (generated n) r) ≤ budget = omega (arith, weight-whole (generated n) n r is) in
    run-cut n budget
    ∙ ap (λ xs. cut budget xs) (main-traced (generated n) n r budget (has-levels n small) is deep)
    ∙ cut-plain budget (whole_items (generated n) r) main_end (plain-whole (generated n) r) light (λ l. refl)

-- so it holds its answer
pub run-finished : (n budget : ℕ) → 1 ≤ n → n < 2 ^ 64 → 3 * 2 ^ n + 2 ≤ budget → is_finished (run (generated n) budget) ≡ true
run-finished zero budget some small enough = absurd (omega arith)
run-finished (suc r) budget some small enough =
    ap is_finished (run-whole (suc r) r budget refl small enough) ∙ finished-plain (whole_items (generated (suc r)) r) main_end (plain-whole (generated (suc r)) r)

-- and no Throw
enough-throws-nothing : (n budget : ℕ) → 1 ≤ n → n < 2 ^ 64 → 3 * 2 ^ n + 2 ≤ budget → is_thrown (run (generated n) budget) ≡ false
enough-throws-nothing zero budget some small enough = absurd (omega arith)
enough-throws-nothing (suc r) budget some small enough =
    ap is_thrown (run-whole (suc r) r budget refl small enough)
    ∙ ap (λ o. is_some o) (error-plain (whole_items (generated (suc r)) r) main_end (plain-whole (generated (suc r)) r))

-- a run that throws within a smaller budget would be the whole one
pub run-throws-nothing : (n budget : ℕ) → 1 ≤ n → n < 2 ^ 64 → is_thrown (run (generated n) budget) ≡ false
run-throws-nothing n budget some small =
    let s = generated n in
    let enough : ℕ = budget + (3 * 2 ^ n + 2) in
    let never : is_thrown (run s enough) ≡ false = enough-throws-nothing n enough some small (omega arith) in
    false_from_ne_true _ (λ throws. false≢true (sym never ∙ ap (λ (xs : Items). is_thrown xs) ((budgets s budget enough (omega arith)).thrown throws) ∙ throws))

-- with fewer steps: a finished run would be the whole one, and weighs more than its budget
pub run-unfinished : (n budget : ℕ) → 1 ≤ n → n < 2 ^ 64 → budget < 3 * 2 ^ n + 2 → is_finished (run (generated n) budget) ≡ false
run-unfinished zero budget some small few = absurd (omega arith)
run-unfinished (suc r) budget some small few =
    let s = generated (suc r) in
    let enough : ℕ = 3 * 2 ^ suc r + 2 in
    false_from_ne_true _ (λ ends.
    let same : run s enough ≡ run s budget = (budgets s budget enough (omega arith)).finished ends in
    let whole : weight (run s enough) ≡ enough =
    ap weight (run-whole (suc r) r enough refl small (omega arith)) ∙ weight-append (whole_items s r) main_end (plain-whole s r)
    ∙ omega (arith, weight-whole s (suc r) r refl) in
    let light : weight (run s budget) ≤ budget = rw (run-cut (suc r) budget) (weight-cut budget (main_items s budget (0, main_procedure))) in
    omega (arith, ap weight same))

-- ---- the greatest budget

-- 20 levels weigh less
pub most-enough : (n : ℕ) → n ≤ 20 → 3 * 2 ^ n + 2 ≤ most_steps
most-enough n few = omega (arith, pow_mono few)
