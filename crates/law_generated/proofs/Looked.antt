-- Each procedure of a generated program is found by its name: names are `p` and a number, and numbers below 2 ^ 64 are written
-- differently where they differ.
use Rattle.std.proofs.Common.{◌≡◌, ◌≢◌, inl, inr, refl, ap, ◌∙◌, arith, ℕ, zero, suc, ◌+◌, ◌<◌, ◌≤◌, ◌^◌, true, false, cond, [], ◌∷◌, Some, None}
use Rattle.std.specs.Fmt.{decimal}
use Rattle.std.proofs.lemmas.Bool.{eq-eqb, ne_eqb, false_from_ne_true}
use Rattle.std.proofs.lemmas.Bool.Decides.{eqb_tells}
use Rattle.std.proofs.lemmas.Fmt.{decimal_injective}
use Rattle.std.proofs.lemmas.Slice.Eq.{bytes_eq-Decides}
use Rattle.md_hlds.specs.declared.types.Det.TheVariants.{Det as One}
use Rattle.md_hlds.specs.HldsGoal.{At, GoalExpr, SimpleGoal, Succeeds, CallGoal, ConjGoal, gathered}
use Rattle.md_hlds.specs.Hlds.{Procedure, is_called, find_procedure, procedure_called}
use Rattle.md_hlds.specs.Run.{main_name}
use Rattle.law_generated.specs.Generated.{level_name, level_called, level_goal, level_procedure, level_procedures, main_procedure, generated}

-- ---- names

-- a procedure is called by its name
own_name : (n j : ℕ) → is_called (level_called (suc j)) (level_procedure n j) ≡ true
own_name n j = (bytes_eq-Decides (decimal (suc j)) (decimal (suc j))).1 refl

-- and by no other number
other_name : (n i j : ℕ) → suc i < 2 ^ 64 → suc j < 2 ^ 64 → i ≢ j → is_called (level_called (suc j)) (level_procedure n i) ≡ false
other_name n i j small little apart =
    false_from_ne_true _ (λ same. apart (omega (arith, decimal_injective (suc j) (suc i) little small ((bytes_eq-Decides (decimal (suc j)) (decimal (suc i))).0 same))))

-- ---- the look-up

-- procedure suc j, among k procedures from procedure suc a on
found_from : (n a j k : ℕ) → suc j < 2 ^ 64 → a ≤ j → j < a + k
    → find_procedure (level_called (suc j)) (suc a) (level_procedures n a k) ≡ Some (suc j, level_procedure n j)
found_from n a j zero small from below = absurd (omega arith)
found_from n a j (suc k) small from below =
    elim (eqb_tells a j) [
      | inl here ↦ let same : a ≡ j = here.1 in rw (same, own_name n j) refl
      | inr there ↦
          let passed = other_name n a j (omega arith) small there.1 in
          ap (λ b. cond b (Some (suc a, level_procedure n a)) (find_procedure (level_called (suc j)) (suc (suc a)) (level_procedures n (suc a) k))) passed
          ∙ found_from n (suc a) j k small (omega (arith, there.1)) (omega arith)
    ]

-- a procedure below main is found by its name
pub level_found : (n j : ℕ) → n < 2 ^ 64 → j < n → procedure_called (generated n) (level_called (suc j)) ≡ Some (suc j, level_procedure n j)
level_found n j small below = found_from n 0 j n (omega arith) (omega arith) (omega arith)

-- main is the first procedure
pub main_found : (n : ℕ) → procedure_called (generated n) main_name ≡ Some (0, main_procedure)
main_found n = refl

-- ---- the bodies

-- procedure suc j with this goal
abbrev pub procedure_with : ℕ → GoalExpr → Procedure
procedure_with j t = record {
  qualifier = None;
  name = level_name (suc j);
  line = 4 + (j + j);
  clause_line = 5 + (j + j);
  args = [];
  det = One;
  vars = [];
  head = [];
  body = At (5 + (j + j)) t;
}

-- two calls of procedure suc (suc j)
abbrev pub two_calls : (j line : ℕ) → GoalExpr
two_calls j line =
    ConjGoal (gathered (At line (CallGoal (1 + (j + j)) (level_called (suc (suc j))) []) ∷ At line (CallGoal (2 + (j + j)) (level_called (suc (suc j))) []) ∷ []))

-- the last procedure, and one that calls the next one twice
abbrev pub last_procedure : ℕ → Procedure
last_procedure j = procedure_with j (SimpleGoal Succeeds)

abbrev pub calling_procedure : ℕ → Procedure
calling_procedure j = procedure_with j (two_calls j (5 + (j + j)))

-- the goal of the last procedure, and of each other one
last_goal : (n j line : ℕ) → suc j ≡ n → level_goal n j line ≡ SimpleGoal Succeeds
last_goal n j line is = rw (eq-eqb (suc j) n is) refl

calling_goal : (n j line : ℕ) → suc j ≢ n → level_goal n j line ≡ two_calls j line
calling_goal n j line apart = rw (ne_eqb (suc j) n apart) refl

-- the last procedure is found as it is, and so is each other one
pub last_found : (n j : ℕ) → n < 2 ^ 64 → suc j ≡ n → procedure_called (generated n) (level_called (suc j)) ≡ Some (suc j, last_procedure j)
last_found n j small is =
    level_found n j small (omega arith) ∙ ap (λ t. Some (suc j, procedure_with j t)) (last_goal n j (5 + (j + j)) is)

pub calling_found : (n j : ℕ) → n < 2 ^ 64 → suc j < n → procedure_called (generated n) (level_called (suc j)) ≡ Some (suc j, calling_procedure j)
calling_found n j small below =
    level_found n j small (omega arith) ∙ ap (λ t. Some (suc j, procedure_with j t)) (calling_goal n j (5 + (j + j)) (λ is. absurd (omega arith)))
