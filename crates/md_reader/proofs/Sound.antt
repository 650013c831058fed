-- What the rules of one line read is spelled by the grammar: lists, types, terms and calls.
use Rattle.std.proofs.Common.{◌≡◌, ℕ, zero, suc, List, [], ◌∷◌, ◌++◌, refl, inl, inr, Option, Some, None, Ok, sym, ap, subst}
use Rattle.std.specs.Prelude.{codes}
use Rattle.md_hlds.specs.declared.types.Mode.{Mode}
use Rattle.md_hlds.specs.declared.goal.PredName.{PredName}
use Rattle.md_hlds.specs.declared.goal.Op.{Op}
use Rattle.md_hlds.specs.declared.goal.Cmp.{Cmp}
use Rattle.md_hlds.specs.HldsGoal.{GoalExpr}
use Rattle.md_hlds.specs.Hlds.{HldsType, HldsFunctor, HldsTypeDef}
use Rattle.md_token.specs.declared.kind.Kind.{Kind}
use Rattle.md_token.specs.declared.kind.Kind.TheVariants as kind
use Rattle.md_reader.specs.Input.{Input, next, token, kind_at, expect, variable, name, word, turns, site}
use Rattle.md_reader.specs.Rules as rule
use Rattle.md_reader.specs.Grammar as g
use Rattle.md_reader.specs.Grammar.{Is, Sign, sign, Listed, last, also, Enclosed, enclosed, AreNew}
use Rattle.md_reader.proofs.Steps.{bind_ok, closed, made, sign_of, eaten, Found, found_last, found_also, variable_new, nothing, sign_at, enclosed_found}

-- ---- lists

pub simple_types_found : (n : ℕ) (found xs : List HldsType) (i j : Input) → rule.simple_types_from n found i ≡ Ok (xs, j) → Found (Is rule.simple_type) kind.Comma kind.Close n found xs i j
unfolding rule.simple_types_from
simple_types_found zero found xs i j h = let a = bind_ok (rule.simple_type i) _ _ h in absurd (let e = a.2 in cc)
simple_types_found (suc n) found xs i j h =
    let a = bind_ok (rule.simple_type i) _ _ h in
    elim (eaten kind.Comma a.0.1 _ _ _ a.2) [
      | inl s ↦ found_also (Is rule.simple_type) kind.Comma kind.Close n found xs a.0.0 i a.0.1 (next a.0.1) j a.1 s.0 (simple_types_found n (found ++ a.0.0 ∷ []) xs (next a.0.1) j s.1)
      | inr q ↦ let b = closed kind.Close (found ++ a.0.0 ∷ []) xs a.0.1 j q in found_last (Is rule.simple_type) kind.Comma kind.Close n found xs a.0.0 i a.0.1 j a.1 b.0 b.1
    ]

pub modes_found : (n : ℕ) (found xs : List Mode) (i j : Input) → rule.modes_from n found i ≡ Ok (xs, j) → Found (Is rule.mode_word) kind.Comma kind.Close n found xs i j
unfolding rule.modes_from
modes_found zero found xs i j h = let a = bind_ok (rule.mode_word i) _ _ h in absurd (let e = a.2 in cc)
modes_found (suc n) found xs i j h =
    let a = bind_ok (rule.mode_word i) _ _ h in
    elim (eaten kind.Comma a.0.1 _ _ _ a.2) [
      | inl s ↦ found_also (Is rule.mode_word) kind.Comma kind.Close n found xs a.0.0 i a.0.1 (next a.0.1) j a.1 s.0 (modes_found n (found ++ a.0.0 ∷ []) xs (next a.0.1) j s.1)
      | inr q ↦ let b = closed kind.Close (found ++ a.0.0 ∷ []) xs a.0.1 j q in found_last (Is rule.mode_word) kind.Comma kind.Close n found xs a.0.0 i a.0.1 j a.1 b.0 b.1
    ]

-- ---- types

pub functor_arguments_sound : (ts : List HldsType) (i j : Input) → rule.functor_arguments i ≡ Ok (ts, j) → g.FunctorArguments ts i j
unfolding rule.functor_arguments
functor_arguments_sound ts i j h =
    elim (eaten kind.Open i _ _ _ h) [
      | inl s ↦ g.FunctorArguments.some ts i (next i) j s.0 (enclosed_found (Is rule.simple_type) kind.Close ts (next i) j (simple_types_found (next i).limits.items [] ts (next i) j s.1))
      | inr q ↦ nothing (λ ts. g.FunctorArguments ts i) [] ts i j q (g.FunctorArguments.none i)
    ]

pub functor_sound : (f : HldsFunctor) (i j : Input) → rule.functor i ≡ Ok (f, j) → g.Functor f i j
unfolding rule.functor
functor_sound f i j h =
    let a = bind_ok (name i) _ _ h in
    let b = made rule.functor_arguments (λ ts. record { name = a.0.0; args = ts }) f a.0.1 j a.2 in
    subst (λ (f : HldsFunctor). g.Functor f i j) (sym b.2) (g.Functor.functor a.0.0 b.0 i a.0.1 j a.1 (functor_arguments_sound b.0 a.0.1 j b.1))

pub functors_found : (n : ℕ) (found xs : List HldsFunctor) (i j : Input) → rule.functors_from n found i ≡ Ok (xs, j) → Found g.Functor kind.Semicolon kind.End n found xs i j
unfolding rule.functors_from
functors_found zero found xs i j h = absurd (cc)
functors_found (suc n) found xs i j h =
    let a = bind_ok (rule.functor i) _ _ h in
    elim (eaten kind.Semicolon a.0.1 _ _ _ a.2) [
      | inl s ↦ found_also g.Functor kind.Semicolon kind.End n found xs a.0.0 i a.0.1 (next a.0.1) j (functor_sound a.0.0 i a.0.1 a.1) s.0 (functors_found n (found ++ a.0.0 ∷ []) xs (next a.0.1) j s.1)
      | inr q ↦ let b = closed kind.End (found ++ a.0.0 ∷ []) xs a.0.1 j q in found_last g.Functor kind.Semicolon kind.End n found xs a.0.0 i a.0.1 j (functor_sound a.0.0 i a.0.1 a.1) b.0 b.1
    ]

pub type_definition_sound : (line : ℕ) (t : HldsTypeDef) (i j : Input) → rule.type_definition line i ≡ Ok (t, j) → g.TypeDeclaration line t i j
unfolding rule.type_definition rule.functors
type_definition_sound line t i j h =
    let a = bind_ok (word (codes "type") i) _ _ h in
    let b = bind_ok (rule.type_name a.0.1) _ _ a.2 in
    let c = bind_ok (expect kind.Yields b.0.1) _ _ b.2 in
    let d = made rule.functors (λ fs. record { name = b.0.0; line = line; functors = fs }) t c.0.1 j c.2 in
    let f = functors_found (turns c.0.1) [] d.0 c.0.1 j d.1 in
    subst (λ (t : HldsTypeDef). g.TypeDeclaration line t i j) (sym d.2)
    (subst (λ (fs : List HldsFunctor). g.TypeDeclaration line (record { name = b.0.0; line = line; functors = fs }) i j) (sym f.all)
    (g.TypeDeclaration.type_declaration b.0.0 f.more a.0.0 i a.0.1 b.0.1 c.0.1 f.end j a.1 b.1 (sign_of kind.Yields c.0.0 b.0.1 c.0.1 c.1) f.listed f.close))

-- ---- variables

pub variables_found : (closing : Kind) (n : ℕ) (seen found xs : List ℕ) (i j : Input) → rule.variables_from closing n seen found i ≡ Ok (xs, j) → (f : Found (Is (variable [])) kind.Comma closing n found xs i j) × AreNew seen f.more
unfolding rule.variables_from
variables_found closing zero seen found xs i j h = let a = bind_ok (variable seen i) _ _ h in absurd (let e = a.2 in cc)
variables_found closing (suc n) seen found xs i j h =
    let a = bind_ok (variable seen i) _ _ h in
    let v = variable_new seen a.0.0 i a.0.1 a.1 in
    elim (eaten kind.Comma a.0.1 _ _ _ a.2) [
      | inl s ↦
          let r = variables_found closing n (seen ++ a.0.0 ∷ []) (found ++ a.0.0 ∷ []) xs (next a.0.1) j s.1 in
          (found_also (Is (variable [])) kind.Comma closing n found xs a.0.0 i a.0.1 (next a.0.1) j v.0 s.0 r.0, (v.1, r.1))
      | inr q ↦
          let b = closed closing (found ++ a.0.0 ∷ []) xs a.0.1 j q in
          (found_last (Is (variable [])) kind.Comma closing n found xs a.0.0 i a.0.1 j v.0 b.0 b.1, (v.1, tt))
    ]

pub variables_sound : (closing : Kind) (seen xs : List ℕ) (i j : Input) → rule.variables closing seen i ≡ Ok (xs, j) → g.Variables closing seen xs i j
variables_sound closing seen xs i j h =
    let f = variables_found closing i.limits.items seen [] xs i j h in
    g.Variables.variables xs i j (enclosed_found (Is (variable [])) closing xs i j f.0) (subst (AreNew seen) (sym f.0.all) f.1)

pub arguments_sound : (seen xs : List ℕ) (i j : Input) → rule.arguments seen i ≡ Ok (xs, j) → g.Arguments seen xs i j
unfolding rule.arguments
arguments_sound seen xs i j h =
    elim (eaten kind.Open i _ _ _ h) [
      | inl s ↦ g.Arguments.some xs i (next i) j s.0 (variables_sound kind.Close seen xs (next i) j s.1)
      | inr q ↦ nothing (λ xs. g.Arguments seen xs i) [] xs i j q (g.Arguments.none i)
    ]

pub quantified_sound : (xs : List ℕ) (i j : Input) → rule.quantified i ≡ Ok (xs, j) → g.Quantified xs i j
unfolding rule.quantified
quantified_sound xs i j h =
    elim (eaten kind.CloseList i _ _ _ h) [
      | inl s ↦ nothing (λ xs j. g.Quantified xs i j) [] xs (next i) j s.1 (g.Quantified.none i (next i) s.0)
      | inr q ↦ g.Quantified.some xs i j (variables_sound kind.CloseList [] xs i j q)
    ]

-- ---- terms and calls

arithmetic_sound : (x y : ℕ) (o : Option Op) (t : GoalExpr) (i k j : Input) → Is (variable (x ∷ [])) y i k → rule.operator (token k).kind ≡ o → rule.arithmetic x y o k ≡ Ok (t, j) → g.Term x t i j
arithmetic_sound x y None t i k j v e h = nothing (λ t. g.Term x t i) _ t k j h (g.Term.same y i k v)
arithmetic_sound x y (Some o) t i k j v e h =
    let b = made (variable (x ∷ y ∷ [])) _ t (next k) j h in
    subst (λ (t : GoalExpr). g.Term x t i j) (sym b.2) (g.Term.arithmetic y b.0 o i k (next k) j v (g.Operator.operator (token k).kind k (next k) e (sign_at (token k).kind k refl)) b.1)

application_sound : (x : ℕ) (t : GoalExpr) (i j : Input) → rule.application x i ≡ Ok (t, j) → g.Term x t i j
unfolding rule.application
application_sound x t i j h =
    let a = bind_ok (rule.pred_name i) _ _ h in
    let b = made (rule.arguments (x ∷ [])) _ t a.0.1 j a.2 in
    subst (λ (t : GoalExpr). g.Term x t i j) (sym b.2) (g.Term.application a.0.0 b.0 i a.0.1 j a.1 (arguments_sound (x ∷ []) b.0 a.0.1 j b.1))

second_sound : (x : ℕ) (t : GoalExpr) (i j : Input) → rule.second x i ≡ Ok (t, j) → g.Term x t i j
unfolding rule.second
second_sound x t i j h =
    let a = bind_ok (variable (x ∷ []) i) _ _ h in
    arithmetic_sound x a.0.0 _ t i a.0.1 j a.1 refl a.2

term_sound_by : (k : Kind) (x : ℕ) (t : GoalExpr) (i j : Input) → kind_at i ≡ k → rule.term_by x k i ≡ Ok (t, j) → g.Term x t i j
term_sound_by kind.Variable x t i j e h = second_sound x t i j h
term_sound_by kind.Minus x t i j e h = g.Term.negative t i (next i) j (sign_at kind.Minus i e) h
term_sound_by kind.Integer x t i j e h = g.Term.positive t i j e h
term_sound_by kind.Text x t i j e h = g.Term.literal t i j e h
term_sound_by kind.Name x t i j e h = application_sound x t i j h
term_sound_by kind.Qualified x t i j e h = application_sound x t i j h
term_sound_by _ x t i j e h = absurd (cc)

pub term_sound : (x : ℕ) (t : GoalExpr) (i j : Input) → rule.term_after x i ≡ Ok (t, j) → g.Term x t i j
term_sound x t i j h = term_sound_by (kind_at i) x t i j refl h

compared_sound : (x : ℕ) (c : Option Cmp) (t : GoalExpr) (i k j : Input) → Is (variable []) x i k → rule.comparison (token k).kind ≡ c → rule.compared x c k ≡ Ok (t, j) → g.Relation t i j
compared_sound x None t i k j v e h = absurd (cc)
compared_sound x (Some c) t i k j v e h =
    let b = made (variable (x ∷ [])) _ t (next k) j h in
    subst (λ (t : GoalExpr). g.Relation t i j) (sym b.2) (g.Relation.comparison x b.0 c i k (next k) j v (g.Comparison.comparison (token k).kind k (next k) e (sign_at (token k).kind k refl)) b.1)

related_sound : (k : Kind) (x : ℕ) (t : GoalExpr) (i m j : Input) → Is (variable []) x i m → (token m).kind ≡ k → rule.related x k m ≡ Ok (t, j) → g.Relation t i j
related_sound kind.Equals x t i m j v e h = g.Relation.unification x t i m (next m) j v (sign_at kind.Equals m e) (term_sound x t (next m) j h)
related_sound kind.Less x t i m j v e h = compared_sound x _ t i m j v (ap rule.comparison e) h
related_sound kind.AtMost x t i m j v e h = compared_sound x _ t i m j v (ap rule.comparison e) h
related_sound kind.Greater x t i m j v e h = compared_sound x _ t i m j v (ap rule.comparison e) h
related_sound kind.AtLeast x t i m j v e h = compared_sound x _ t i m j v (ap rule.comparison e) h
related_sound _ x t i m j v e h = absurd (cc)

pub relation_sound : (t : GoalExpr) (i j : Input) → rule.relation i ≡ Ok (t, j) → g.Relation t i j
unfolding rule.relation
relation_sound t i j h =
    let a = bind_ok (variable [] i) _ _ h in
    related_sound (token a.0.1).kind a.0.0 t i a.0.1 j a.1 refl a.2

called_sound : (q : PredName) (ys : List ℕ) (b : Option GoalExpr) (t : GoalExpr) (i k m j : Input) → Is rule.pred_name q i k → g.Arguments [] ys k m → rule.builtin q ys ≡ b → rule.called q ys b m ≡ Ok (t, j) → g.Call t i j
called_sound q ys (Some u) t i k m j n a e h = nothing (λ t. g.Call t i) u t m j h (g.Call.builtin q ys u i k m n a e)
called_sound q ys None t i k m j n a e h =
    let b = made site _ t m j h in
    subst (λ (t : GoalExpr). g.Call t i j) (sym b.2) (g.Call.call q ys b.0 i k m j n a e b.1)

pub call_sound : (t : GoalExpr) (i j : Input) → rule.call i ≡ Ok (t, j) → g.Call t i j
unfolding rule.call
call_sound t i j h =
    let a = bind_ok (rule.pred_name i) _ _ h in
    let b = bind_ok (rule.arguments [] a.0.1) _ _ a.2 in
    called_sound a.0.0 b.0.0 _ t i a.0.1 b.0.1 j a.1 (arguments_sound [] b.0.0 a.0.1 b.0.1 b.1) refl b.2

applied_sound : (ys : List ℕ) (t : GoalExpr) (i k m n j : Input) → Sign kind.Call i k → Sign kind.Open k m → g.Variables kind.Close [] ys m n → rule.applied ys n ≡ Ok (t, j) → g.ClosureCall t i j
applied_sound [] t i k m n j c o v h = absurd (cc)
applied_sound (f ∷ ys) t i k m n j c o v h =
    let b = made site _ t n j h in
    subst (λ (t : GoalExpr). g.ClosureCall t i j) (sym b.2) (g.ClosureCall.closure_call f ys b.0 i k m n j c o v b.1)

pub closure_call_sound : (t : GoalExpr) (i j : Input) → rule.closure_call i ≡ Ok (t, j) → g.ClosureCall t i j
unfolding rule.closure_call
closure_call_sound t i j h =
    let a = bind_ok (expect kind.Call i) _ _ h in
    let b = bind_ok (expect kind.Open a.0.1) _ _ a.2 in
    let c = bind_ok (rule.variables kind.Close [] b.0.1) _ _ b.2 in
    applied_sound c.0.0 t i a.0.1 b.0.1 c.0.1 j (sign_of kind.Call a.0.0 i a.0.1 a.1) (sign_of kind.Open b.0.0 a.0.1 b.0.1 b.1) (variables_sound kind.Close [] c.0.0 b.0.1 c.0.1 c.1) c.2
