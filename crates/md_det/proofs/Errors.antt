-- Goals of which some throws, one after the other.
use Rattle.std.proofs.Common.{◌≡◌, refl, subst, ap, ◌∙◌, arith, add-one, ℕ, zero, suc, ◌+◌, ◌<◌, true, false, List, [], ◌∷◌, length, drop, get_or}
use Rattle.md_hlds.specs.declared.goal.Goal.{Goal}
use Rattle.md_hlds.specs.declared.program.Pred.{Pred}
use Rattle.md_hlds.specs.HldsGoal.{gathered, goal_of, goals_of, expr_of}
use Rattle.md_hlds.specs.Hlds.{procedures_of}
use Rattle.md_det.specs.Throws.{has_error, expr_has_error, some_has_error, clauses_have_error}
use Rattle.md_switch.proofs.KeyLemmas.{parts-step}

pub error-missed : (gs : List Goal) (i : ℕ) (g : Goal) → i < length gs → g ≡ get_or gs i g → has_error (goal_of g) ≡ false
    → some_has_error (gathered (goals_of (drop i gs))) ≡ some_has_error (gathered (goals_of (drop (i + 1) gs)))
error-missed gs i g lt is miss = ap (λ ps. some_has_error (gathered ps)) (parts-step gs i g lt is) ∙ rw miss refl

pub error-found : (gs : List Goal) (i : ℕ) (g : Goal) → i < length gs → g ≡ get_or gs i g → has_error (goal_of g) ≡ true
    → some_has_error (gathered (goals_of (drop i gs))) ≡ true
error-found gs i g lt is found = ap (λ ps. some_has_error (gathered ps)) (parts-step gs i g lt is) ∙ rw found refl

pub error-none : (gs : List Goal) (i : ℕ) → length gs ≡ i → some_has_error (gathered (goals_of (drop i gs))) ≡ false
error-none [] zero e = refl
error-none [] (suc i) e = refl
error-none (g ∷ gs) zero e = absurd (omega (arith, e))
error-none (g ∷ gs) (suc i) e = error-none gs i (omega (arith, e))

-- ---- clauses of which some throws

missed : (ps : List Pred) (i : ℕ) (p : Pred) → i < length ps → p ≡ get_or ps i p → expr_has_error (expr_of p.body.kind) ≡ false
    → clauses_have_error (procedures_of (drop i ps)) ≡ clauses_have_error (procedures_of (drop (suc i) ps))
missed [] i p lt is miss = absurd (omega (arith, lt))
missed (q ∷ ps) zero p lt is miss = rw (← is, miss) refl
missed (q ∷ ps) (suc i) p lt is miss = missed ps i p (omega (arith, lt)) is miss

found : (ps : List Pred) (i : ℕ) (p : Pred) → i < length ps → p ≡ get_or ps i p → expr_has_error (expr_of p.body.kind) ≡ true
    → clauses_have_error (procedures_of (drop i ps)) ≡ true
found [] i p lt is hit = absurd (omega (arith, lt))
found (q ∷ ps) zero p lt is hit = rw (← is, hit) refl
found (q ∷ ps) (suc i) p lt is hit = found ps i p (omega (arith, lt)) is hit

pub clause-missed : (ps qs : List Pred) (i : ℕ) (p : Pred) → qs ≡ ps → i < length qs → p ≡ get_or qs i p → expr_has_error (expr_of p.body.kind) ≡ false
    → clauses_have_error (procedures_of (drop i ps)) ≡ clauses_have_error (procedures_of (drop (i + 1) ps))
clause-missed ps qs i p same lt is miss =
    rw add-one (missed ps i p (subst (λ (xs : List Pred). i < length xs) same lt) (subst (λ (xs : List Pred). p ≡ get_or xs i p) same is) miss)

pub clause-found : (ps qs : List Pred) (i : ℕ) (p : Pred) → qs ≡ ps → i < length qs → p ≡ get_or qs i p → expr_has_error (expr_of p.body.kind) ≡ true
    → clauses_have_error (procedures_of (drop i ps)) ≡ true
clause-found ps qs i p same lt is hit =
    found ps i p (subst (λ (xs : List Pred). i < length xs) same lt) (subst (λ (xs : List Pred). p ≡ get_or xs i p) same is) hit

pub clause-none : (ps : List Pred) (i : ℕ) → length ps ≡ i → clauses_have_error (procedures_of (drop i ps)) ≡ false
clause-none [] zero e = refl
clause-none [] (suc i) e = refl
clause-none (p ∷ ps) zero e = absurd (omega (arith, e))
clause-none (p ∷ ps) (suc i) e = clause-none ps i (omega (arith, e))
