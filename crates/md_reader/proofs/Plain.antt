-- Goals that are neither calls nor have goals inside: terms, relations and the builtin goals give such goals.
use Rattle.std.specs.Prelude.{codes}
use Rattle.std.proofs.Common.{◌≡◌, refl, sym, ℕ, suc, Bool, true, false, cond, nat_lt, List, [], ◌∷◌, length, Option, Some, None, Ok, inl, inr}
use Rattle.md_hlds.specs.declared.goal.PredName.{PredName}
use Rattle.md_hlds.specs.HldsGoal.{Simple, GoalExpr, SimpleGoal}
use Rattle.md_token.specs.declared.kind.Kind.TheVariants as kind
use Rattle.md_token.specs.Literal.{number_of as value_of, string_value}
use Rattle.md_reader.specs.Input.{Input, refuse, limit, token, sees, next}
use Rattle.md_reader.specs.Rules as rule
use Rattle.md_reader.specs.Grammar as g
use Rattle.md_reader.specs.Grammar.{Is}
use Rattle.md_reader.proofs.Steps.{chosen, ok_value}

-- a goal without parts and calls
abbrev pub IsPlain : GoalExpr → Type 0
IsPlain t = (u : Simple) × (t ≡ SimpleGoal u)

-- an integer, and a string
limited : (b : Bool) (u : Simple) (t : GoalExpr) (i j : Input) → cond b (limit i) (Ok (SimpleGoal u, next i)) ≡ Ok (t, j) → IsPlain t
limited true u t i j is = absurd (cc)
limited false u t i j is = (u, sym (ok_value (SimpleGoal u) t (next i) j is))

pub positive_plain : (x : ℕ) (t : GoalExpr) (i j : Input) → Is (rule.positive x) t i j → IsPlain t
unfolding rule.positive
positive_plain x t i j is = limited (nat_lt i.limits.integer (value_of (token i).text)) _ t i j is

pub negated_plain : (x : ℕ) (t : GoalExpr) (i j : Input) → Is (rule.negated x) t i j → IsPlain t
unfolding rule.negated
negated_plain x t i j is =
    elim (chosen (sees kind.Integer i) (rule.take_negative x (value_of (token i).text) i) (refuse i) (Ok (t, j)) is) [
      | inl l ↦ limited (nat_lt (suc i.limits.integer) (value_of (token i).text)) _ t i j l.1
      | inr r ↦ absurd (let e = r.1 in cc)
    ]

pub literal_plain : (x : ℕ) (t : GoalExpr) (i j : Input) → Is (rule.literal x) t i j → IsPlain t
unfolding rule.literal
literal_plain x t i j is = limited (nat_lt i.limits.bytes (length (string_value (token i).text))) _ t i j is

pub term_plain : (x : ℕ) (t : GoalExpr) (i j : Input) → g.Term x t i j → IsPlain t
term_plain x _ _ _ (g.Term.same y i j is) = (_, refl)
term_plain x _ _ _ (g.Term.arithmetic y z o i j k m is op second) = (_, refl)
term_plain x _ _ _ (g.Term.positive t i j kind is) = positive_plain x t i j is
term_plain x _ _ _ (g.Term.negative t i j k mark is) = negated_plain x t j k is
term_plain x _ _ _ (g.Term.literal t i j kind is) = literal_plain x t i j is
term_plain x _ _ _ (g.Term.application f ys i j k is args) = (_, refl)

pub relation_plain : (t : GoalExpr) (i j : Input) → g.Relation t i j → IsPlain t
relation_plain _ _ _ (g.Relation.unification x t i j k m is mark term) = term_plain x t k m term
relation_plain _ _ _ (g.Relation.comparison x y c i j k m is compared second) = (_, refl)

plain_choice : (b : Bool) (u : Simple) (rest : Option GoalExpr) (t : GoalExpr) → cond b (Some (SimpleGoal u)) rest ≡ Some t → (rest ≡ Some t → IsPlain t) → IsPlain t
plain_choice true u rest t is more = (u, cc)
plain_choice false u rest t is more = more is

no_more : (t : GoalExpr) → None ≡ Some t → IsPlain t
no_more t is = absurd (cc)

pub builtin_plain : (q : PredName) (ys : List ℕ) (t : GoalExpr) → rule.builtin q ys ≡ Some t → IsPlain t
builtin_plain q [] t is = absurd (cc)
builtin_plain q (x ∷ []) t is = plain_choice (rule.is_builtin (codes "require") (codes "error") q) _ None t is (no_more t)
builtin_plain q (x ∷ y ∷ []) t is = plain_choice (rule.is_builtin (codes "io") (codes "nl") q) _ None t is (no_more t)
builtin_plain q (x ∷ y ∷ z ∷ []) t is =
    plain_choice (rule.is_builtin (codes "io") (codes "write_int") q) _ _ t is
    (λ more. plain_choice (rule.is_builtin (codes "io") (codes "write_string") q) _ None t more (no_more t))
builtin_plain q (x ∷ y ∷ z ∷ w ∷ ys) t is = absurd (cc)
