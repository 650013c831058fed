-- The number of answers of a procedure's body.
use Rattle.std.specs.Prelude.{⊤, ◌≡◌, ℕ, suc, ◌-◌, ◌≤◌, Bool, true, false, ◌||◌, cond, nat_le, slice_get, List, [], ◌∷◌, length, Option, Some, None}
use Rattle.md_hlds.specs.declared.types.Det.{Det}
use Rattle.md_hlds.specs.declared.types.Det.TheVariants as det
use Rattle.md_hlds.specs.Hlds.{Procedure, Hlds, procedure_called}
use Rattle.md_hlds.specs.Value.{Value, Env, blank}
use Rattle.md_hlds.specs.Trace.{Turn, Answer, Items, back_value, body_frame, trace}
use Rattle.md_hlds.specs.Run.{HasNoDeep, is_finished, is_thrown, main_name, main_items, run}
use Rattle.law_safety.specs.Arguments.{AreArguments}

-- the variables of a head get the values of their arguments, where these have one
abbrev pub put_in : List ℕ → List (Option Value) → Env → Env
put_in (h ∷ hs) (o ∷ os) e = put_in hs os (back_value h None o e)
put_in hs os e = e

-- the environment in which a body begins, by its arguments
abbrev pub begun : Procedure → List (Option Value) → Env
begun p os = put_in p.head os (blank (length p.vars))

-- the trace of the body of the procedure of that number by itself, to a depth, as this activation
abbrev pub body_trace : Hlds → ℕ × Procedure → List (Option Value) → (depth act next : ℕ) → Items
body_trace s q os depth act next = trace s depth (body_frame s act (begun q.1 os) q []) [] next

abbrev pub answer_count : Items → ℕ
answer_count [] = 0
answer_count (Answer e ∷ xs) = suc (answer_count xs)
answer_count (x ∷ xs) = answer_count xs

-- as many answers as a determinism has
abbrev pub AnswersAs : Det → Items → Type 0
AnswersAs det.Det xs = answer_count xs ≡ 1
AnswersAs det.Semidet xs = answer_count xs ≤ 1
AnswersAs det.Multi xs = 1 ≤ answer_count xs
AnswersAs det.Nondet xs = ⊤
AnswersAs det.Failure xs = answer_count xs ≡ 0

-- Each trace of the body of each procedure, on inputs of its declared types, has as many answers as its determinism says,
-- where it is deep enough and isn't thrown.
abbrev pub AnswersAsDeclared : Hlds → Type 0
AnswersAsDeclared s =
    (n : ℕ) (p : Procedure)
    → slice_get s.procedures n ≡ Some p
    → (args : List (Option Value))
    → AreArguments s p.args args
    → (depth act next : ℕ)
    → HasNoDeep (body_trace s (n, p) args depth act next)
    → is_thrown (body_trace s (n, p) args depth act next) ≡ false
    → AnswersAs p.det (body_trace s (n, p) args depth act next)

-- ---- a whole run

-- some turn of these is heavier than what is left of the budget
abbrev pub is_over : ℕ → Items → Bool
is_over left [] = false
is_over left (Turn a g w ∷ xs) = cond (nat_le w left) (is_over (left - w) xs) true
is_over left (x ∷ xs) = is_over left xs

-- The run begins with a main, and it is finished or it has thrown, unless the budget cuts it.
pub record ComesToItsEnd (s : Hlds) (budget : ℕ) : Type 0 where
  pub main : ℕ × Procedure
  pub called : procedure_called s main_name ≡ Some main
  pub ends : is_over budget (main_items s budget main) ≡ false → (is_finished (run s budget) || is_thrown (run s budget)) ≡ true
