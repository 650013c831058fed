-- Names of modules and types, variables, terms and goals without parts: no call site stands in a term, and a call has the
-- next one.
use Rattle.std.proofs.Common.{◌∙◌, ◌≡◌, refl, sym, subst, ℕ, suc, ◌≤◌, Bool, true, false, cond, nat_lt, List, [], ◌∷◌, length, Option, Some, None, Ok, ◌⊎◌, inl, inr, arith}
use Rattle.std.specs.Str.{bytes_eq}
use Rattle.std.specs.Prelude.{codes, ◌&&◌, not}
use Rattle.md_hlds.specs.declared.goal.PredName.{PredName}
use Rattle.md_hlds.specs.HldsGoal.{Simple, GoalExpr, SimpleGoal, goals_below}
use Rattle.md_hlds.specs.Hlds.{Hlds, HldsType, named, procedure_called}
use Rattle.md_token.specs.declared.kind.Kind.{Kind}
use Rattle.md_token.specs.declared.kind.Kind.TheVariants as kind
use Rattle.md_token.specs.Literal.{number_of as value_of, string_value}
use Rattle.md_token.specs.Kinds.{same_kind}
use Rattle.md_reader.specs.Input.{Input, Parser, ◌>>=◌, ◌>>◌, pure, refuse, limit, advance, token, kind_at, sees, next, take_name, name, variable}
use Rattle.md_reader.specs.Rules as rule
use Rattle.md_reader.specs.Grammar as g
use Rattle.md_reader.specs.Grammar.{Is, Sign, Listed, last, also, Enclosed, enclosed, Variables, variables, Arguments, Quantified, Operator, operator, Comparison, Term, Relation, Call, ClosureCall}
use Rattle.md_reader.proofs.Steps.{bind_ok, chosen, ok_input, ok_value}
use Rattle.md_reader.proofs.Plain.{IsPlain, builtin_plain}
use Rattle.md_reader.proofs.Sizes.{next_fewer, pred_name_fewer}
use Rattle.md_reader.proofs.Taking.{variable_kind, pred_kinds, signed}
use Rattle.law_events.specs.Table.{number_of, expr_sites}
use Rattle.law_spelled.proofs.Names.{IsName}
use Rattle.law_spelled.proofs.Leads.{AreSound, name_at, taken_text, Leads, Steady, after, to_next, to_same, sign_steady, taken_name, name_is, pred_name_is, variable_steady, site_is}

first_true : (a b : Bool) → (a && b) ≡ true → a ≡ true
first_true true b is = refl
first_true false b is = absurd (cc)

-- a choice between two rules
applied_choice : {A : Type 0} (b : Bool) (p q : Parser A) (i : Input) (y : A × Input) → cond b p q i ≡ Ok y → (p i ≡ Ok y) ⊎ (q i ≡ Ok y)
applied_choice true p q i y is = inl is
applied_choice false p q i y is = inr is

advanced : {A : Type 0} (x y : A) (i j : Input) → (advance >> pure x) i ≡ Ok (y, j) → Steady i j
advanced x y i j is = subst (λ (m : Input). Steady i m) (ok_input x y (next i) j is) (to_next i)

named_type : (text : List ℕ) (t : HldsType) (i j : Input) → (take_name text >>= (λ n. pure (named n))) i ≡ Ok (t, j) → Steady i j
named_type text t i j is =
    let b = bind_ok (take_name text i) (λ n. pure (named n)) (t, j) is in
    after (taken_name text b.0.0 i b.0.1 b.1).0 (to_same b.0.1 j (ok_input (named b.0.0) t b.0.1 j b.2))

type_named : (text : List ℕ) (t : HldsType) (i j : Input) → rule.simple_type_named text i ≡ Ok (t, j) → Steady i j
type_named text t i j is =
    elim (applied_choice (bytes_eq text (codes "int")) _ _ i (t, j) is) [
      | inl l ↦ advanced _ t i j l
      | inr r ↦
          elim (applied_choice (bytes_eq text (codes "string")) _ _ i (t, j) r) [
            | inl l ↦ advanced _ t i j l
            | inr r ↦
                elim (applied_choice (bytes_eq text (codes "io")) _ _ i (t, j) r) [
                  | inl l ↦ advanced _ t i j l
                  | inr r ↦ named_type text t i j r
                ]
          ]
    ]

pub simple_type_steady : (t : HldsType) (i j : Input) → Is rule.simple_type t i j → Steady i j
unfolding rule.simple_type
simple_type_steady t i j is =
    elim (chosen (sees kind.Name i) (rule.simple_type_named (token i).text i) (refuse i) (Ok (t, j)) is) [
      | inl l ↦ type_named (token i).text t i j l.1
      | inr r ↦ absurd (let e = r.1 in cc)
    ]

pub type_name_is : (x : List ℕ) (i j : Input) → Is rule.type_name x i j → Steady i j × (length x ≤ i.limits.items)
unfolding rule.type_name
type_name_is x i j is =
    elim (chosen (rule.is_own_type (token i).text) (name i) (refuse i) (Ok (x, j)) is) [
      | inl l ↦ name_is x i j l.1
      | inr r ↦ absurd (let e = r.1 in cc)
    ]

to_home : (i : Input) (m : List ℕ) → Steady i (record i { home = m })
to_home i m = record { limits = refl; numbers = tt; sites = omega arith; lines = λ l. l; goals = λ l. tt; vars = λ v. v; fewer = omega arith }

pub module_name_is : (x : List ℕ) (i j : Input) → Is rule.module_name x i j → Steady i j × (length x ≤ i.limits.items)
unfolding rule.module_name
module_name_is x i j is =
    let text = (token i).text in
    elim (chosen (rule.is_name (token i).kind && not (rule.is_library text)) _ (refuse i) (Ok (x, j)) is) [
      | inl l ↦
          let b = bind_ok (take_name text i) (λ m. rule.set_home text >> pure m) (x, j) l.1 in
          let t = taken_name text b.0.0 i b.0.1 b.1 in (
            after t.0 (after (to_home b.0.1 text) (to_same (record b.0.1 { home = text }) j (ok_input b.0.0 x (record b.0.1 { home = text }) j b.2))),
            subst (λ (y : List ℕ). length y ≤ i.limits.items) (ok_value b.0.0 x (record b.0.1 { home = text }) j b.2) t.1,
          )
      | inr r ↦ absurd (let e = r.1 in cc)
    ]

pub module_name_name : (x : List ℕ) (i j : Input) → Is rule.module_name x i j → AreSound i.rest → IsName x
unfolding rule.module_name
module_name_name x i j is l =
    let text = (token i).text in
    elim (chosen (rule.is_name (token i).kind && not (rule.is_library text)) _ (refuse i) (Ok (x, j)) is) [
      | inl l' ↦
          let b = bind_ok (take_name text i) (λ m. rule.set_home text >> pure m) (x, j) l'.1 in
          let same : text ≡ x = taken_text text b.0.0 i b.0.1 b.1 ∙ ok_value b.0.0 x (record b.0.1 { home = text }) j b.2 in
          let is_word = first_true (rule.is_name (token i).kind) (not (rule.is_library text)) l'.0 in
          subst IsName same ((name_at i l).word is_word)
      | inr r ↦ absurd (let e = r.1 in cc)
    ]

-- ---- lists

pub listed_steady : {A : Type 0} (item : A → Input → Input → Type 0) (between : Kind) → ((x : A) (i j : Input) → item x i j → Steady i j)
    → (xs : List A) (i j : Input) → Listed item between xs i j → Steady i j
listed_steady item between each _ _ _ (last x i j is) = each x i j is
listed_steady item between each _ _ _ (also x xs i j k m is mark rest) = after (each x i j is) (after (sign_steady between j k mark) (listed_steady item between each xs k m rest))

pub enclosed_steady : {A : Type 0} (item : A → Input → Input → Type 0) (closing : Kind) → ((x : A) (i j : Input) → item x i j → Steady i j)
    → (xs : List A) (i j : Input) → Enclosed item closing xs i j → Steady i j × (length xs ≤ i.limits.items)
enclosed_steady item closing each _ _ _ (enclosed xs i j k is few mark) = (after (listed_steady item kind.Comma each xs i j is) (sign_steady closing j k mark), few)

pub variables_steady : (closing : Kind) (seen xs : List ℕ) (i j : Input) → Variables closing seen xs i j → Steady i j
variables_steady closing seen _ _ _ (variables xs i j is new) = (enclosed_steady (Is (variable [])) closing (variable_steady []) xs i j is).0

pub arguments_steady : (seen xs : List ℕ) (i j : Input) → Arguments seen xs i j → Steady i j
arguments_steady seen _ _ _ (g.Arguments.none i) = to_same i i refl
arguments_steady seen _ _ _ (g.Arguments.some xs i j k mark is) = after (sign_steady kind.Open i j mark) (variables_steady kind.Close seen xs j k is)

pub quantified_steady : (xs : List ℕ) (i j : Input) → Quantified xs i j → Steady i j
quantified_steady _ _ _ (g.Quantified.none i j mark) = sign_steady kind.CloseList i j mark
quantified_steady _ _ _ (g.Quantified.some xs i j is) = variables_steady kind.CloseList [] xs i j is

-- ---- terms

operator_steady : (o : _) (i j : Input) → Operator o i j → Steady i j
operator_steady _ _ _ (operator k i j is mark) = sign_steady k i j mark

comparison_steady : (c : _) (i j : Input) → Comparison c i j → Steady i j
comparison_steady _ _ _ (g.Comparison.comparison k i j is mark) = sign_steady k i j mark

-- an integer, and a string
limited : (b : Bool) (u : Simple) (t : GoalExpr) (i j : Input) → cond b (limit i) (Ok (SimpleGoal u, next i)) ≡ Ok (t, j) → Steady i j × IsPlain t
limited true u t i j is = absurd (cc)
limited false u t i j is = (subst (λ (m : Input). Steady i m) (ok_input (SimpleGoal u) t (next i) j is) (to_next i), (u, sym (ok_value (SimpleGoal u) t (next i) j is)))

positive_is : (x : ℕ) (t : GoalExpr) (i j : Input) → Is (rule.positive x) t i j → Steady i j × IsPlain t
unfolding rule.positive
positive_is x t i j is = limited (nat_lt i.limits.integer (value_of (token i).text)) _ t i j is

negated_is : (x : ℕ) (t : GoalExpr) (i j : Input) → Is (rule.negated x) t i j → Steady i j × IsPlain t
unfolding rule.negated
negated_is x t i j is =
    elim (chosen (sees kind.Integer i) (rule.take_negative x (value_of (token i).text) i) (refuse i) (Ok (t, j)) is) [
      | inl l ↦ limited (nat_lt (suc i.limits.integer) (value_of (token i).text)) _ t i j l.1
      | inr r ↦ absurd (let e = r.1 in cc)
    ]

literal_is : (x : ℕ) (t : GoalExpr) (i j : Input) → Is (rule.literal x) t i j → Steady i j × IsPlain t
unfolding rule.literal
literal_is x t i j is = limited (nat_lt i.limits.bytes (length (string_value (token i).text))) _ t i j is

term_is : (x : ℕ) (t : GoalExpr) (i j : Input) → Term x t i j → Steady i j × IsPlain t
term_is x _ _ _ (g.Term.same y i j is) = (variable_steady (x ∷ []) y i j is, (_, refl))
term_is x _ _ _ (g.Term.arithmetic y z o i j k m is op second) =
    (after (variable_steady (x ∷ []) y i j is) (after (operator_steady o j k op) (variable_steady (x ∷ y ∷ []) z k m second)), (_, refl))
term_is x _ _ _ (g.Term.positive t i j kind is) = positive_is x t i j is
term_is x _ _ _ (g.Term.negative t i j k mark is) = let n = negated_is x t j k is in (after (sign_steady kind.Minus i j mark) n.0, n.1)
term_is x _ _ _ (g.Term.literal t i j kind is) = literal_is x t i j is
term_is x _ _ _ (g.Term.application f ys i j k is args) = (after (pred_name_is f i j is).0 (arguments_steady (x ∷ []) ys j k args), (_, refl))

-- ---- goals without parts

-- a goal that begins with a variable
pub relation_is : (t : GoalExpr) (i j : Input) → Relation t i j → Steady i j × IsPlain t × (kind_at i ≡ kind.Variable)
relation_is _ _ _ (g.Relation.unification x t i j k m is mark term) =
    let r = term_is x t k m term in
    (after (variable_steady [] x i j is) (after (sign_steady kind.Equals j k mark) r.0), r.1, variable_kind [] x i j is)
relation_is _ _ _ (g.Relation.comparison x y c i j k m is compared second) =
    (after (variable_steady [] x i j is) (after (comparison_steady c j k compared) (variable_steady (x ∷ []) y k m second)), (_, refl), variable_kind [] x i j is)

module _ (s : Hlds) (owner : ℕ) where
  -- no site stands in a goal without parts and calls
  pub plain_leads : (t : GoalExpr) (i j : Input) → Steady i j → IsPlain t → Leads i j (expr_sites s owner t) (goals_below t)
  plain_leads t i j leads plain = subst (λ (x : GoalExpr). Leads i j (expr_sites s owner x) (goals_below x)) (sym plain.1) leads

  pub call_leads : (t : GoalExpr) (i j : Input) → Call t i j → Leads i j (expr_sites s owner t) (goals_below t)
  call_leads _ _ _ (g.Call.builtin q ys t i j k is args found) =
      plain_leads t i k (after (pred_name_is q i j is).0 (arguments_steady [] ys j k args)) (builtin_plain q ys t found)
  call_leads _ _ _ (g.Call.call q ys n i j k m is args found at) =
      let behind = arguments_steady [] ys j k args in
      site_is n i k m (record { owner = owner; callee = number_of (procedure_called s q) }) (after (pred_name_is q i j is).0 behind)
      (omega (arith, pred_name_fewer q i j is, behind.fewer)) at

  pub closure_call_leads : (t : GoalExpr) (i j : Input) → ClosureCall t i j → Leads i j (expr_sites s owner t) (goals_below t)
  unfolding same_kind
  closure_call_leads _ _ _ (g.ClosureCall.closure_call f ys n i j k m o mark opening args at) =
      let behind = after (sign_steady kind.Open j k opening) (variables_steady kind.Close [] (f ∷ ys) k m args) in
      let first = signed kind.Call i j mark in
      site_is n i m o (record { owner = owner; callee = None }) (after (sign_steady kind.Call i j mark) behind)
      (omega (arith, next_fewer kind.Call i j first.is refl first.behind, behind.fewer)) at

-- what each begins with
pub call_kind : (t : GoalExpr) (i j : Input) → Call t i j → (kind_at i ≡ kind.Name) ⊎ (kind_at i ≡ kind.Qualified)
call_kind _ _ _ (g.Call.builtin q ys t i j k is args found) = pred_kinds q i j is
call_kind _ _ _ (g.Call.call q ys n i j k m is args found at) = pred_kinds q i j is

pub closure_call_kind : (t : GoalExpr) (i j : Input) → ClosureCall t i j → kind_at i ≡ kind.Call
closure_call_kind _ _ _ (g.ClosureCall.closure_call f ys n i j k m o mark opening args at) = (signed kind.Call i j mark).is
