-- What the grammar spells, the rules read: lists, types, terms and calls.
use Rattle.std.proofs.Common.{◌≡◌, ℕ, zero, suc, ◌+◌, ◌≤◌, ◌<◌, List, [], ◌∷◌, ◌++◌, length, refl, Bool, true, false, cond, ◌⊎◌, inl, inr, Option, Some, None, Ok, ap, ◌∙◌, arith, append_assoc, subst}
use Rattle.md_hlds.specs.declared.goal.Op.{Op}
use Rattle.md_hlds.specs.declared.goal.Cmp.{Cmp}
use Rattle.md_hlds.specs.HldsGoal.{GoalExpr, SimpleGoal, Computes, Compares}
use Rattle.md_hlds.specs.Hlds.{HldsType, HldsFunctor, HldsTypeDef}
use Rattle.md_token.specs.declared.kind.Kind.{Kind}
use Rattle.md_token.specs.declared.kind.Kind.TheVariants as kind
use Rattle.md_token.specs.Kinds.{same_kind}
use Rattle.md_reader.specs.Input.{Input, Parser, ◌>>=◌, ◌>>◌, pure, sees, eat, token, kind_at, expect, variable, turns, site}
use Rattle.md_reader.specs.Rules as rule
use Rattle.md_reader.specs.Grammar as g
use Rattle.md_reader.specs.Grammar.{Is, Sign, sign, Listed, last, also, Enclosed, enclosed, AreNew}
use Rattle.md_reader.proofs.Steps.{same_itself, ok_input}
use Rattle.md_reader.proofs.Steady.{Stands, Steady, fewer, shorter}
use Rattle.md_reader.proofs.SteadyRules.{functor_steady}
use Rattle.md_reader.proofs.Taking.{signed, shut, stepped, eats, passes, unlike, variable_kind, pred_kinds, variable_among}

-- ---- how many tokens there are

-- what a rule leaves is no longer than what it was given
pub stays : {A : Type 0} (p : Parser A) → Steady 0 [] p → (x : A) (i j : Input) → p i ≡ Ok (x, j) → length j.rest ≤ length i.rest
stays p P x i j h =
    let w = P i in
    let here : j.rest ≡ w.stop = subst (Stands w.stop) h w.stands in
    let l = shorter i.rest w.stop w.behind in
    rw here l

pub seen_sign : (k : Kind) (i j : Input) → Sign k i j → sees k i ≡ true
unfolding sees
seen_sign k i j s = let t = signed k i j s in rw t.is (same_itself k)

pub sign_fewer : (k : Kind) (i j : Input) → Sign k i j → same_kind kind.Stop k ≡ false → length j.rest < length i.rest
sign_fewer k i j s stop = let f = fewer 0 [] k i (seen_sign k i j s) stop in rw (signed k i j s).behind f

-- ---- lists

-- what may stand behind an item
abbrev pub Followed : (between closing : Kind) → Input → Input → Type 0
Followed between closing j m = Sign between j m ⊎ Sign closing j m

-- a rule that reads an item, and then a sign and more of them, or the closing sign
abbrev pub Lists : {A : Type 0} → Parser A → (between closing : Kind) → (ℕ → List A → Parser (List A)) → Type 0
Lists {A} item between closing from = (n : ℕ) (found : List A) (i : Input) → from (suc n) found i ≡ (item >>= (λ x. eat between >>= (λ b. cond b (from n (found ++ x ∷ [])) (expect closing >> pure (found ++ x ∷ []))))) i

abbrev pub Reads : {A : Type 0} → (A → Input → Input → Type 0) → Parser A → (between closing : Kind) → Type 0
Reads {A} R item between closing = (x : A) (i j m : Input) → R x i j → Followed between closing j m → item i ≡ Ok (x, j)

module _ {A : Type 0} (R : A → Input → Input → Type 0) (item : Parser A) (between closing : Kind) (differ : same_kind closing between ≡ false) (I : Reads R item between closing) where
  pub listed_complete : (from : ℕ → List A → Parser (List A)) → Lists item between closing from
      → (n : ℕ) (found xs : List A) (i k j : Input) → Listed R between xs i k → length xs ≤ n → Sign closing k j → from n found i ≡ Ok (found ++ xs, j)
  listed_complete from L zero found _ _ _ j (last x i k r) few c = absurd (omega arith)
  listed_complete from L zero found _ _ _ j (also x xs i k m o r s rest) few c = absurd (omega arith)
  listed_complete from L (suc n) found _ _ _ j (last x i k r) few c =
      L n found i ∙ rw (I x i k j r (inr c)) (passes between (from n (found ++ x ∷ [])) (expect closing >> pure (found ++ x ∷ [])) k (unlike closing between k (signed closing k j c).is differ) ∙ shut closing (found ++ x ∷ []) k j c)
  listed_complete from L (suc n) found _ _ _ j (also x xs i k m o r s rest) few c =
      let more : length xs ≤ n = omega arith in
      L n found i ∙ rw (I x i k m r (inl s)) (eats between (from n (found ++ x ∷ [])) (expect closing >> pure (found ++ x ∷ [])) k m s ∙ (listed_complete from L n (found ++ x ∷ []) xs m o j rest more c ∙ ap (λ (ys : List A). Ok (ys, j)) (append_assoc found (x ∷ []) xs)))

  -- there are as many turns as items
  pub listed_few : Steady 0 [] item → same_kind kind.Stop between ≡ false → same_kind kind.Stop closing ≡ false
      → (xs : List A) (i k j : Input) → Listed R between xs i k → Sign closing k j → length xs ≤ length i.rest
  listed_few S stop end _ _ _ j (last x i k r) c = let l = stays item S x i k (I x i k j r (inr c)) in let m = sign_fewer closing k j c end in omega (arith, l, m)
  listed_few S stop end _ _ _ j (also x xs i k m o r s rest) c =
      let l = stays item S x i k (I x i k m r (inl s)) in
      let f = sign_fewer between k m s stop in
      let h = listed_few S stop end xs m o j rest c in
      omega (arith, l, f, h)

-- ---- types

pub simple_types_complete : (ts : List HldsType) (i j : Input) → Enclosed (Is rule.simple_type) kind.Close ts i j → rule.simple_types i ≡ Ok (ts, j)
unfolding rule.simple_types_from same_kind
simple_types_complete _ _ _ (enclosed ts i k j l few c) = listed_complete (Is rule.simple_type) rule.simple_type kind.Comma kind.Close refl (λ x i j m h _. h) rule.simple_types_from (λ n found i. refl) i.limits.items [] ts i k j l few c

functor_arguments_complete : (ts : List HldsType) (i j : Input) → g.FunctorArguments ts i j → sees kind.Open j ≡ false → rule.functor_arguments i ≡ Ok (ts, j)
unfolding rule.functor_arguments
functor_arguments_complete _ _ _ (g.FunctorArguments.none i) e = passes kind.Open rule.simple_types (pure []) i e
functor_arguments_complete _ _ _ (g.FunctorArguments.some ts i j k s l) e = eats kind.Open rule.simple_types (pure []) i j s ∙ simple_types_complete ts j k l

no_arguments : (j m : Input) → Followed kind.Semicolon kind.End j m → sees kind.Open j ≡ false
unfolding same_kind
no_arguments j m (inl s) = unlike kind.Semicolon kind.Open j (signed kind.Semicolon j m s).is refl
no_arguments j m (inr s) = unlike kind.End kind.Open j (signed kind.End j m s).is refl

functor_complete : Reads g.Functor rule.functor kind.Semicolon kind.End
unfolding rule.functor
functor_complete _ _ _ m (g.Functor.functor f ts i j k n a) s = rw (n, functor_arguments_complete ts j k a (no_arguments k m s)) refl

pub functors_complete : (fs : List HldsFunctor) (i k j : Input) → Listed g.Functor kind.Semicolon fs i k → Sign kind.End k j → rule.functors i ≡ Ok (fs, j)
unfolding rule.functors rule.functors_from same_kind
functors_complete fs i k j l c =
    listed_complete g.Functor rule.functor kind.Semicolon kind.End refl functor_complete rule.functors_from (λ n found i. refl) (turns i) [] fs i k j l
    (listed_few g.Functor rule.functor kind.Semicolon kind.End refl functor_complete (functor_steady 0 []) refl refl fs i k j l c) c

pub type_definition_complete : (line : ℕ) (t : HldsTypeDef) (i j : Input) → g.TypeDeclaration line t i j → rule.type_definition line i ≡ Ok (t, j)
unfolding rule.type_definition
type_definition_complete line _ _ _ (g.TypeDeclaration.type_declaration t fs at i j k m n o w y s l c) =
    rw (w, y) (stepped kind.Yields _ k m s ∙ rw (functors_complete fs m n o l c) refl)

-- ---- variables

variables_from_complete : (closing : Kind) → same_kind closing kind.Comma ≡ false → (n : ℕ) (seen found xs : List ℕ) (i k j : Input) → Listed (Is (variable [])) kind.Comma xs i k → length xs ≤ n → AreNew seen xs → Sign closing k j → rule.variables_from closing n seen found i ≡ Ok (found ++ xs, j)
unfolding rule.variables_from
variables_from_complete closing differ zero seen found _ _ _ j (last x i k r) few new c = absurd (omega arith)
variables_from_complete closing differ zero seen found _ _ _ j (also x xs i k m o r s rest) few new c = absurd (omega arith)
variables_from_complete closing differ (suc n) seen found _ _ _ j (last x i k r) few new c =
    rw (variable_among seen x i k r new.0) (passes kind.Comma (rule.variables_from closing n (seen ++ x ∷ []) (found ++ x ∷ [])) (expect closing >> pure (found ++ x ∷ [])) k (unlike closing kind.Comma k (signed closing k j c).is differ) ∙ shut closing (found ++ x ∷ []) k j c)
variables_from_complete closing differ (suc n) seen found _ _ _ j (also x xs i k m o r s rest) few new c =
    let more : length xs ≤ n = omega arith in
    rw (variable_among seen x i k r new.0) (eats kind.Comma (rule.variables_from closing n (seen ++ x ∷ []) (found ++ x ∷ [])) (expect closing >> pure (found ++ x ∷ [])) k m s ∙ (variables_from_complete closing differ n (seen ++ x ∷ []) (found ++ x ∷ []) xs m o j rest more new.1 c ∙ ap (λ (ys : List ℕ). Ok (ys, j)) (append_assoc found (x ∷ []) xs)))

pub variables_complete : (closing : Kind) → same_kind closing kind.Comma ≡ false → (seen xs : List ℕ) (i j : Input) → g.Variables closing seen xs i j → rule.variables closing seen i ≡ Ok (xs, j)
variables_complete closing differ seen _ _ _ (g.Variables.variables xs i j (enclosed _ _ k _ l few c) new) = variables_from_complete closing differ i.limits.items seen [] xs i k j l few new c

pub arguments_complete : (seen xs : List ℕ) (i j : Input) → g.Arguments seen xs i j → sees kind.Open j ≡ false → rule.arguments seen i ≡ Ok (xs, j)
unfolding rule.arguments same_kind
arguments_complete seen _ _ _ (g.Arguments.none i) e = passes kind.Open (rule.variables kind.Close seen) (pure []) i e
arguments_complete seen _ _ _ (g.Arguments.some xs i j k s v) e = eats kind.Open (rule.variables kind.Close seen) (pure []) i j s ∙ variables_complete kind.Close refl seen xs j k v

listed_first : (xs : List ℕ) (i k : Input) → Listed (Is (variable [])) kind.Comma xs i k → kind_at i ≡ kind.Variable
listed_first _ _ _ (last x i k r) = variable_kind [] x i k r
listed_first _ _ _ (also x xs i k m o r s rest) = variable_kind [] x i k r

variable_first : (closing : Kind) (seen xs : List ℕ) (i j : Input) → g.Variables closing seen xs i j → kind_at i ≡ kind.Variable
variable_first closing seen _ _ _ (g.Variables.variables xs i j (enclosed _ _ k _ l few c) new) = listed_first xs i k l

pub quantified_complete : (xs : List ℕ) (i j : Input) → g.Quantified xs i j → rule.quantified i ≡ Ok (xs, j)
unfolding rule.quantified same_kind
quantified_complete _ _ _ (g.Quantified.none i j s) = eats kind.CloseList (pure []) (rule.variables kind.CloseList []) i j s
quantified_complete _ _ _ (g.Quantified.some xs i j v) = passes kind.CloseList (pure []) (rule.variables kind.CloseList []) i (unlike kind.Variable kind.CloseList i (variable_first kind.CloseList [] xs i j v) refl) ∙ variables_complete kind.CloseList refl [] xs i j v

-- ---- terms

-- the tokens that may stand behind a conjunction, and behind a goal
abbrev pub ends_conjunction : Kind → Bool
ends_conjunction kind.Semicolon = true
ends_conjunction kind.Then = true
ends_conjunction kind.Close = true
ends_conjunction kind.End = true
ends_conjunction _ = false

abbrev pub ends_goal : Kind → Bool
ends_goal kind.Comma = true
ends_goal k = ends_conjunction k

not_open : (k : Kind) → ends_goal k ≡ true → same_kind k kind.Open ≡ false
unfolding same_kind
not_open kind.Comma e = refl
not_open kind.Semicolon e = refl
not_open kind.Then e = refl
not_open kind.Close e = refl
not_open kind.End e = refl
not_open _ e = absurd (cc)

no_operator : (k : Kind) → ends_goal k ≡ true → rule.operator k ≡ None
no_operator kind.Comma e = refl
no_operator kind.Semicolon e = refl
no_operator kind.Then e = refl
no_operator kind.Close e = refl
no_operator kind.End e = refl
no_operator _ e = absurd (cc)

unopened : (j : Input) → ends_goal (kind_at j) ≡ true → sees kind.Open j ≡ false
unopened j e = unlike (kind_at j) kind.Open j refl (not_open (kind_at j) e)

operator_complete : (x y z : ℕ) (o : Op) (j k m : Input) → g.Operator o j k → Is (variable (x ∷ y ∷ [])) z k m → rule.arithmetic x y (rule.operator (token j).kind) j ≡ Ok (SimpleGoal (Computes x y o z), m)
operator_complete x y z o j k m (g.Operator.operator kd _ _ e s) w =
    let t = signed kd j k s in
    let v = rw t.behind at w in
    rw (t.is, e, v) refl

named_term : (x : ℕ) (i : Input) → (kind_at i ≡ kind.Name) ⊎ (kind_at i ≡ kind.Qualified) → rule.term_after x i ≡ rule.application x i
named_term x i (inl e) = rw e refl
named_term x i (inr e) = rw e refl

pub term_complete : (x : ℕ) (t : GoalExpr) (i j : Input) → g.Term x t i j → ends_goal (kind_at j) ≡ true → rule.term_after x i ≡ Ok (t, j)
unfolding rule.second rule.application
term_complete x _ _ _ (g.Term.same y i j v) e = rw (variable_kind (x ∷ []) y i j v, v, no_operator (kind_at j) e) refl
term_complete x _ _ _ (g.Term.arithmetic y z o i j k m v op w) e = rw (variable_kind (x ∷ []) y i j v, v) (operator_complete x y z o j k m op w)
term_complete x _ _ _ (g.Term.positive t i j is h) e = rw is h
term_complete x _ _ _ (g.Term.negative t i j k s h) e = let u = signed kind.Minus i j s in rw u.is (rw u.behind at h)
term_complete x _ _ _ (g.Term.literal t i j is h) e = rw is h
term_complete x _ _ _ (g.Term.application f ys i j k n a) e = named_term x i (pred_kinds f i j n) ∙ rw (n, arguments_complete (x ∷ []) ys j k a (unopened k e)) refl

-- ---- relations and calls

unified : (x : ℕ) (t : GoalExpr) (j k m : Input) → Sign kind.Equals j k → g.Term x t k m → ends_goal (kind_at m) ≡ true → rule.related x (token j).kind j ≡ Ok (t, m)
unified x t j k m s r e = let u = signed kind.Equals j k s in let h = term_complete x t k m r e in rw u.is (rw u.behind at h)

compared : (x : ℕ) (kd : Kind) (c : Cmp) → rule.comparison kd ≡ Some c → (j : Input) → rule.related x kd j ≡ rule.compared x (Some c) j
compared x kind.Equals c e j = absurd (cc)
compared x kd c e j = ap (λ (o : Option Cmp). rule.compared x o j) e

compares : (x y : ℕ) (c : Cmp) (j k m : Input) → g.Comparison c j k → Is (variable (x ∷ [])) y k m → rule.related x (token j).kind j ≡ Ok (SimpleGoal (Compares x c y), m)
compares x y c j k m (g.Comparison.comparison kd _ _ e s) w =
    let t = signed kd j k s in
    let v = rw t.behind at w in
    rw t.is (compared x kd c e j ∙ rw v refl)

pub relation_complete : (t : GoalExpr) (i j : Input) → g.Relation t i j → ends_goal (kind_at j) ≡ true → rule.relation i ≡ Ok (t, j)
unfolding rule.relation
relation_complete _ _ _ (g.Relation.unification x t i j k m v s r) e = rw v (unified x t j k m s r e)
relation_complete _ _ _ (g.Relation.comparison x y c i j k m v p w) e = rw v (compares x y c j k m p w)

-- a number of a site takes no token
site_stays : (s : ℕ) (k m : Input) → Is site s k m → kind_at k ≡ kind_at m
unfolding site token
site_stays s k m h = ap (λ (n : Input). kind_at n) (ok_input k.sites s (record k { sites = k.sites + 1 }) m h)

pub call_complete : (t : GoalExpr) (i j : Input) → g.Call t i j → ends_goal (kind_at j) ≡ true → rule.call i ≡ Ok (t, j)
unfolding rule.call
call_complete _ _ _ (g.Call.builtin q ys t i j k n a b) e = rw (n, arguments_complete [] ys j k a (unopened k e), b) refl
call_complete _ _ _ (g.Call.call q ys s i j k m n a b w) e = rw (n, arguments_complete [] ys j k a (unopened k (rw (site_stays s k m w) e)), b, w) refl

pub closure_call_complete : (t : GoalExpr) (i j : Input) → g.ClosureCall t i j → rule.closure_call i ≡ Ok (t, j)
unfolding rule.closure_call same_kind
closure_call_complete _ _ _ (g.ClosureCall.closure_call f ys s i j k m n c o v w) =
    stepped kind.Call _ i j c ∙ (stepped kind.Open _ j k o ∙ rw (variables_complete kind.Close refl [] (f ∷ ys) k m v, w) refl)
