-- Each rule looks no further than where it stops: names, variables, terms and calls.
use Rattle.std.proofs.Common.{◌≡◌, ℕ, zero, suc, List, [], ◌∷◌, ◌++◌, length, refl, Bool, true, false, cond, not, ◌&&◌, Option, Some, None, Ok, ap, ◌∙◌, nat_lt, ◌==◌}
use Rattle.std.specs.List.{list_any}
use Rattle.std.specs.Str.{bytes_eq}
use Rattle.std.specs.Prelude.{codes, pos}
use Rattle.md_hlds.specs.declared.goal.PredName.{PredName}
use Rattle.md_hlds.specs.declared.goal.Op.{Op}
use Rattle.md_hlds.specs.declared.goal.Cmp.{Cmp}
use Rattle.md_hlds.specs.declared.goal.Term.TheVariants as term
use Rattle.md_hlds.specs.HldsGoal.{GoalExpr, SimpleGoal, Unifies, Computes, Compares}
use Rattle.md_hlds.specs.Hlds.{HldsType, number as int_type, text as string_type, world as io_type, named}
use Rattle.md_token.specs.declared.kind.Kind.{Kind}
use Rattle.md_token.specs.declared.kind.Kind.TheVariants as kind
use Rattle.md_token.specs.Kinds.{same_kind, is_final}
use Rattle.md_token.specs.Token.{Lexeme}
use Rattle.md_token.specs.Literal.{number_of, string_value}
use Rattle.md_reader.specs.Input.{Input, Parser, ◌>>=◌, ◌>>◌, pure, refuse, limit, advance, eat, sees, next, token, kind_at, expect, word, name, take_name, variable, with_variable, place_of, site, end_clause}
use Rattle.md_reader.specs.Rules as rule
use Rattle.md_reader.proofs.Steady.{Same, Steady, Goes, goes, goes_by, cut, same_bind, bound, given, faulty, limited, either, tested, tested_by, by_token, by_token_at, taking, naming, passing, eaten, expected, excess, turns_on, turned}

module _ (d : ℕ) (more : List Lexeme) where
  abbrev Stable : {A : Type 0} → Parser A → Type 0
  Stable p = Steady d more p

  -- ---- names

  pub take_name_at : (text : List ℕ) (i : Input) → Goes i → Same d more i.rest (take_name text i) (take_name text (cut d more i))
  unfolding take_name
  take_name_at text i g = tested d more i.rest (nat_lt i.limits.items (length text)) _ _ _ _ (limited d more {A = List ℕ} i) (taking d more text i g)

  pub name_steady : Stable name
  unfolding name sees
  name_steady = by_token d more (λ t i. cond (same_kind t.kind kind.Name) (take_name t.text i) (refuse i)) (λ t i e. tested_by d more i.rest (same_kind t.kind kind.Name) _ _ _ _ (λ s. take_name_at t.text i (goes kind.Name t i e s refl)) (λ _. faulty d more {A = List ℕ} i))

  both : (a b : Bool) → (a && b) ≡ true → a ≡ true
  both true b h = refl
  both false b h = h

  pub word_steady : (w : List ℕ) → Stable (word w)
  unfolding word sees
  word_steady w = by_token d more (λ t i. cond (same_kind t.kind kind.Name && bytes_eq t.text w) (Ok (t.line, next i)) (refuse i)) (λ t i e. tested_by d more i.rest (same_kind t.kind kind.Name && bytes_eq t.text w) _ _ _ _ (λ s. taking d more t.line i (goes kind.Name t i e (both _ _ s) refl)) (λ _. faulty d more {A = ℕ} i))

  denied : (b : Bool) → not b ≡ false → b ≡ true
  denied true h = refl
  denied false h = absurd (cc)

  variable_by : (seen : List ℕ) (vars : List (List ℕ)) (most : ℕ) → Stable (λ i. cond (not (sees kind.Variable i)) (refuse i) (cond (list_any (λ x. x == place_of (token i).text vars) seen) (refuse i) (cond (nat_lt most (length (token i).text)) (limit i) (Ok (place_of (token i).text vars, record (next i) { vars = with_variable (token i).text vars })))))
  unfolding sees
  variable_by seen vars most =
      by_token d more (λ t i. cond (not (same_kind t.kind kind.Variable)) (refuse i) (cond (list_any (λ x. x == place_of t.text vars) seen) (refuse i) (cond (nat_lt most (length t.text)) (limit i) (Ok (place_of t.text vars, record (next i) { vars = with_variable t.text vars })))))
      (λ t i e. tested_by d more i.rest (not (same_kind t.kind kind.Variable)) _ _ _ _ (λ _. faulty d more {A = ℕ} i)
      (λ s. tested d more i.rest (list_any (λ x. x == place_of t.text vars) seen) _ _ _ _ (faulty d more {A = ℕ} i)
      (tested d more i.rest (nat_lt most (length t.text)) _ _ _ _ (limited d more {A = ℕ} i) (naming d more (place_of t.text vars) (with_variable t.text vars) i (goes kind.Variable t i e (denied _ s) refl)))))

  pub variable_steady : (seen : List ℕ) → Stable (variable seen)
  unfolding variable
  variable_steady seen i = variable_by seen i.vars i.limits.items i

  pub site_steady : Stable site
  unfolding site
  site_steady i = record { stop = i.rest; behind = record { prefix = []; all = refl; ends = λ h. h }; stands = refl; agrees = λ _. refl }

  pub end_clause_steady : Stable end_clause
  unfolding end_clause
  end_clause_steady i = record { stop = i.rest; behind = record { prefix = []; all = refl; ends = λ h. h }; stands = refl; agrees = λ _. refl }

  -- a token that is a name of a predicate or a functor
  written_goes : (text : List ℕ) (k : Kind) (w : rule.Written) → rule.written_by text k ≡ Some w → is_final k ≡ false
  written_goes text kind.Name w h = refl
  written_goes text kind.Qualified w h = refl
  written_goes text _ w h = absurd (cc)

  name_goes : (t : Lexeme) (i : Input) (w : rule.Written) → token i ≡ t → rule.written t ≡ Some w → Goes i
  unfolding rule.written
  name_goes t i w e h = goes_by i (ap (λ (u : Lexeme). is_final u.kind) e ∙ written_goes t.text t.kind w h)

  take_written_at : (o : Option rule.Written) (i : Input) → ((w : rule.Written) → o ≡ Some w → Goes i) → Same d more i.rest (rule.take_written o i) (rule.take_written o (cut d more i))
  take_written_at None i g = faulty d more i
  take_written_at (Some w) i g = tested d more i.rest (rule.is_long i.limits.items w) _ _ _ _ (limited d more {A = PredName} i) (taking d more (rule.meant i.home w) i (g w refl))

  pub pred_name_steady : Stable rule.pred_name
  unfolding rule.pred_name
  pred_name_steady = by_token d more (λ t. rule.take_written (rule.written t)) (λ t i e. take_written_at (rule.written t) i (λ w h. name_goes t i w e h))

  chosen_at : {A : Type 0} (b : Bool) (p q : Parser A) (i : Input) → Same d more i.rest (p i) (p (cut d more i)) → Same d more i.rest (q i) (q (cut d more i)) → Same d more i.rest (cond b p q i) (cond b p q (cut d more i))
  chosen_at true p q i P Q = P
  chosen_at false p q i P Q = Q

  take_declared_at : (o : Option rule.Written) (i : Input) → ((w : rule.Written) → o ≡ Some w → Goes i) → Same d more i.rest (rule.take_declared o i) (rule.take_declared o (cut d more i))
  take_declared_at None i g = faulty d more i
  take_declared_at (Some w) i g = chosen_at (rule.is_of_library w.qualifier) refuse (rule.take_written (Some w)) i (faulty d more i) (take_written_at (Some w) i g)

  pub declared_name_steady : Stable rule.declared_name
  unfolding rule.declared_name
  declared_name_steady = by_token d more (λ t. rule.take_declared (rule.written t)) (λ t i e. take_declared_at (rule.written t) i (λ w h. name_goes t i w e h))

  take_same_at : (q : PredName) (o : Option rule.Written) (i : Input) → ((w : rule.Written) → o ≡ Some w → Goes i) → Same d more i.rest (rule.take_same q o i) (rule.take_same q o (cut d more i))
  take_same_at q None i g = faulty d more i
  take_same_at q (Some w) i g = tested d more i.rest (rule.same_name (rule.meant i.home w) q) _ _ _ _ (taking d more tt i (g w refl)) (faulty d more {A = Unit {0}} i)

  pub this_name_steady : (q : PredName) → Stable (rule.this_name q)
  unfolding rule.this_name
  this_name_steady q = by_token d more (λ t. rule.take_same q (rule.written t)) (λ t i e. take_same_at q (rule.written t) i (λ w h. name_goes t i w e h))

  -- ---- lists

  -- the closing sign behind what was found
  pub ending : {A : Type 0} (closing : Kind) → is_final closing ≡ false → (x : A) → Stable (expect closing >> pure x)
  ending closing f x = bound d more (expect closing) (λ _. pure x) (expected d more closing f) (λ _. given d more x)

  -- an item, and then a sign and more of them, or the closing sign
  pub going : {A B : Type 0} (item : Parser A) (between closing : Kind) → is_final between ≡ false → is_final closing ≡ false → (rest : A → Parser B) (done : A → B) → Stable item → ((x : A) → Stable (rest x)) → Stable (item >>= (λ x. eat between >>= (λ b. cond b (rest x) (expect closing >> pure (done x)))))
  going item between closing f z rest done I R =
      bound d more item (λ x. eat between >>= (λ b. cond b (rest x) (expect closing >> pure (done x)))) I
      (λ x. bound d more (eat between) (λ b. cond b (rest x) (expect closing >> pure (done x))) (eaten d more between f)
      (λ b. either d more b (rest x) (expect closing >> pure (done x)) (R x) (ending closing z (done x))))

  -- nothing, or a list behind a sign
  pub perhaps : {A : Type 0} (k : Kind) → is_final k ≡ false → (p q : Parser A) → Stable p → Stable q → Stable (eat k >>= (λ b. cond b p q))
  perhaps k f p q P Q = bound d more (eat k) (λ b. cond b p q) (eaten d more k f) (λ b. either d more b p q P Q)

  variables_from_steady : (closing : Kind) → is_final closing ≡ false → (n : ℕ) (seen found : List ℕ) → Stable (rule.variables_from closing n seen found)
  unfolding rule.variables_from
  variables_from_steady closing f zero seen found = excess d more (variable seen) (variable_steady seen)
  variables_from_steady closing f (suc n) seen found = going (variable seen) kind.Comma closing refl f (λ x. rule.variables_from closing n (seen ++ x ∷ []) (found ++ x ∷ [])) (λ x. found ++ x ∷ []) (variable_steady seen) (λ x. variables_from_steady closing f n (seen ++ x ∷ []) (found ++ x ∷ []))

  pub variables_steady : (closing : Kind) → is_final closing ≡ false → (seen : List ℕ) → Stable (rule.variables closing seen)
  variables_steady closing f seen i = variables_from_steady closing f i.limits.items seen [] i

  pub arguments_steady : (seen : List ℕ) → Stable (rule.arguments seen)
  unfolding rule.arguments
  arguments_steady seen = perhaps kind.Open refl (rule.variables kind.Close seen) (pure []) (variables_steady kind.Close refl seen) (given d more [])

  pub quantified_steady : Stable rule.quantified
  unfolding rule.quantified
  quantified_steady = perhaps kind.CloseList refl (pure []) (rule.variables kind.CloseList []) (given d more []) (variables_steady kind.CloseList refl [])

  -- ---- terms

  operator_goes : (k : Kind) (o : Op) → rule.operator k ≡ Some o → is_final k ≡ false
  operator_goes kind.Plus o h = refl
  operator_goes kind.Minus o h = refl
  operator_goes kind.Times o h = refl
  operator_goes _ o h = absurd (cc)

  arithmetic_at : (x y : ℕ) (o : Option Op) (i : Input) → rule.operator (kind_at i) ≡ o → Same d more i.rest (rule.arithmetic x y o i) (rule.arithmetic x y o (cut d more i))
  arithmetic_at x y None i h = given d more (SimpleGoal (Unifies x (term.Var y))) i
  arithmetic_at x y (Some o) i h = passing d more (variable (x ∷ y ∷ []) >>= (λ z. pure (SimpleGoal (Computes x y o z)))) i (goes_by i (operator_goes (kind_at i) o h)) (bound d more (variable (x ∷ y ∷ [])) _ (variable_steady (x ∷ y ∷ [])) (λ z. given d more (SimpleGoal (Computes x y o z))))

  positive_at : (x : ℕ) (i : Input) → Goes i → Same d more i.rest (rule.positive x i) (rule.positive x (cut d more i))
  unfolding rule.positive
  positive_at x i g = by_token_at d more (λ t i. cond (nat_lt i.limits.integer (number_of t.text)) (limit i) (Ok (SimpleGoal (Unifies x (term.Int (pos (number_of t.text)))), next i))) i (tested d more i.rest (nat_lt i.limits.integer (number_of (token i).text)) _ _ _ _ (limited d more {A = GoalExpr} i) (taking d more (SimpleGoal (Unifies x (term.Int (pos (number_of (token i).text))))) i g))

  take_negative_at : (x n : ℕ) (i : Input) → Goes i → Same d more i.rest (rule.take_negative x n i) (rule.take_negative x n (cut d more i))
  take_negative_at x n i g = tested d more i.rest (nat_lt (suc i.limits.integer) n) _ _ _ _ (limited d more {A = GoalExpr} i) (taking d more (SimpleGoal (Unifies x (term.Int (rule.minus n)))) i g)

  negated_steady : (x : ℕ) → Stable (rule.negated x)
  unfolding rule.negated sees
  negated_steady x = by_token d more (λ t i. cond (same_kind t.kind kind.Integer) (rule.take_negative x (number_of t.text) i) (refuse i)) (λ t i e. tested_by d more i.rest (same_kind t.kind kind.Integer) _ _ _ _ (λ s. take_negative_at x (number_of t.text) i (goes kind.Integer t i e s refl)) (λ _. faulty d more {A = GoalExpr} i))

  literal_at : (x : ℕ) (i : Input) → Goes i → Same d more i.rest (rule.literal x i) (rule.literal x (cut d more i))
  unfolding rule.literal
  literal_at x i g = by_token_at d more (λ t i. cond (nat_lt i.limits.bytes (length (string_value t.text))) (limit i) (Ok (SimpleGoal (Unifies x (term.Str (string_value t.text))), next i))) i (tested d more i.rest (nat_lt i.limits.bytes (length (string_value (token i).text))) _ _ _ _ (limited d more {A = GoalExpr} i) (taking d more (SimpleGoal (Unifies x (term.Str (string_value (token i).text)))) i g))

  application_steady : (x : ℕ) → Stable (rule.application x)
  unfolding rule.application
  application_steady x = bound d more rule.pred_name _ pred_name_steady (λ f. bound d more (rule.arguments (x ∷ [])) _ (arguments_steady (x ∷ [])) (λ ys. given d more _))

  second_steady : (x : ℕ) → Stable (rule.second x)
  unfolding rule.second
  second_steady x = bound d more (variable (x ∷ [])) _ (variable_steady (x ∷ [])) (λ y. by_token d more (λ t. rule.arithmetic x y (rule.operator t.kind)) (λ t i e. arithmetic_at x y (rule.operator t.kind) i (ap (λ (u : Lexeme). rule.operator u.kind) e)))

  -- the kind of the next token, where it is this one
  pub kind_is : (t : Lexeme) (i : Input) → token i ≡ t → kind_at i ≡ t.kind
  kind_is t i e = ap (λ (u : Lexeme). u.kind) e

  term_by_at : (x : ℕ) (k : Kind) (i : Input) → kind_at i ≡ k → Same d more i.rest (rule.term_by x k i) (rule.term_by x k (cut d more i))
  term_by_at x kind.Variable i e = second_steady x i
  term_by_at x kind.Minus i e = passing d more (rule.negated x) i (goes_by i (ap is_final e)) (negated_steady x)
  term_by_at x kind.Integer i e = positive_at x i (goes_by i (ap is_final e))
  term_by_at x kind.Text i e = literal_at x i (goes_by i (ap is_final e))
  term_by_at x kind.Name i e = application_steady x i
  term_by_at x kind.Qualified i e = application_steady x i
  term_by_at x _ i e = faulty d more i

  pub term_steady : (x : ℕ) → Stable (rule.term_after x)
  term_steady x = by_token d more (λ t. rule.term_by x t.kind) (λ t i e. term_by_at x t.kind i (kind_is t i e))

  -- ---- calls and relations

  called_steady : (q : PredName) (ys : List ℕ) (b : Option GoalExpr) → Stable (rule.called q ys b)
  called_steady q ys (Some t) = given d more t
  called_steady q ys None = bound d more site _ site_steady (λ s. given d more _)

  pub call_steady : Stable rule.call
  unfolding rule.call
  call_steady = bound d more rule.pred_name _ pred_name_steady (λ q. bound d more (rule.arguments []) _ (arguments_steady []) (λ ys. called_steady q ys (rule.builtin q ys)))

  applied_steady : (ys : List ℕ) → Stable (rule.applied ys)
  applied_steady [] = faulty d more
  applied_steady (f ∷ ys) = bound d more site _ site_steady (λ s. given d more _)

  pub closure_call_steady : Stable rule.closure_call
  unfolding rule.closure_call
  closure_call_steady = bound d more (expect kind.Call) _ (expected d more kind.Call refl) (λ _. bound d more (expect kind.Open) _ (expected d more kind.Open refl) (λ _. bound d more (rule.variables kind.Close []) _ (variables_steady kind.Close refl []) (λ ys. applied_steady ys)))

  comparison_goes : (k : Kind) (c : Cmp) → rule.comparison k ≡ Some c → is_final k ≡ false
  comparison_goes kind.Less c h = refl
  comparison_goes kind.AtMost c h = refl
  comparison_goes kind.Greater c h = refl
  comparison_goes kind.AtLeast c h = refl
  comparison_goes _ c h = absurd (cc)

  compared_at : (x : ℕ) (c : Option Cmp) (i : Input) → rule.comparison (kind_at i) ≡ c → Same d more i.rest (rule.compared x c i) (rule.compared x c (cut d more i))
  compared_at x None i h = faulty d more i
  compared_at x (Some c) i h = passing d more (variable (x ∷ []) >>= (λ y. pure (SimpleGoal (Compares x c y)))) i (goes_by i (comparison_goes (kind_at i) c h)) (bound d more (variable (x ∷ [])) _ (variable_steady (x ∷ [])) (λ y. given d more (SimpleGoal (Compares x c y))))

  related_at : (x : ℕ) (k : Kind) (i : Input) → kind_at i ≡ k → Same d more i.rest (rule.related x k i) (rule.related x k (cut d more i))
  related_at x kind.Equals i e = passing d more (rule.term_after x) i (goes_by i (ap is_final e)) (term_steady x)
  related_at x k i e = compared_at x (rule.comparison k) i (ap rule.comparison e)

  pub relation_steady : Stable rule.relation
  unfolding rule.relation
  relation_steady = bound d more (variable []) _ (variable_steady []) (λ x. by_token d more (λ t. rule.related x t.kind) (λ t i e. related_at x t.kind i (kind_is t i e)))

  -- ---- types

  simple_type_word : (t : HldsType) (i : Input) → Goes i → Same d more i.rest ((advance >> pure t) i) ((advance >> pure t) (cut d more i))
  simple_type_word t i g = passing d more (pure t) i g (given d more t)

  simple_type_named_at : (t : List ℕ) (i : Input) → Goes i → Same d more i.rest (rule.simple_type_named t i) (rule.simple_type_named t (cut d more i))
  simple_type_named_at t i g =
      chosen_at (bytes_eq t (codes "int")) _ _ i (simple_type_word int_type i g)
      (chosen_at (bytes_eq t (codes "string")) _ _ i (simple_type_word string_type i g)
      (chosen_at (bytes_eq t (codes "io")) _ _ i (simple_type_word io_type i g)
      (same_bind d more i.rest (take_name t i) (take_name t (cut d more i)) (λ n. pure (named n)) (take_name_at t i g) (λ n. given d more (named n)))))

  pub simple_type_steady : Stable rule.simple_type
  unfolding rule.simple_type sees
  simple_type_steady = by_token d more (λ t i. cond (same_kind t.kind kind.Name) (rule.simple_type_named t.text i) (refuse i)) (λ t i e. tested_by d more i.rest (same_kind t.kind kind.Name) _ _ _ _ (λ s. simple_type_named_at t.text i (goes kind.Name t i e s refl)) (λ _. faulty d more {A = HldsType} i))

  simple_types_from_steady : (n : ℕ) (found : List HldsType) → Stable (rule.simple_types_from n found)
  unfolding rule.simple_types_from
  simple_types_from_steady zero found = excess d more rule.simple_type simple_type_steady
  simple_types_from_steady (suc n) found = going rule.simple_type kind.Comma kind.Close refl refl (λ t. rule.simple_types_from n (found ++ t ∷ [])) (λ t. found ++ t ∷ []) simple_type_steady (λ t. simple_types_from_steady n (found ++ t ∷ []))

  pub simple_types_steady : Stable rule.simple_types
  simple_types_steady i = simple_types_from_steady i.limits.items [] i

  functor_arguments_steady : Stable rule.functor_arguments
  unfolding rule.functor_arguments
  functor_arguments_steady = perhaps kind.Open refl rule.simple_types (pure []) simple_types_steady (given d more [])

  pub functor_steady : Stable rule.functor
  unfolding rule.functor
  functor_steady = bound d more name _ name_steady (λ f. bound d more rule.functor_arguments _ functor_arguments_steady (λ ts. given d more _))

  pub functors_steady : Stable rule.functors
  unfolding rule.functors rule.functors_from same_kind
  functors_steady =
      turned d more rule.functors_from (λ s i. refl)
      (λ n m s i rec. turns_on d more rule.functor kind.Semicolon (λ f. rule.functors_from n (s ++ f ∷ [])) (λ f. rule.functors_from m (s ++ f ∷ [])) (λ f. expect kind.End >> pure (s ++ f ∷ [])) i functor_steady refl refl (λ f j lt. rec (s ++ f ∷ []) j lt) (λ f. ending kind.End refl (s ++ f ∷ []))) []

  pub type_name_steady : Stable rule.type_name
  unfolding rule.type_name
  type_name_steady = by_token d more (λ t i. cond (rule.is_own_type t.text) (name i) (refuse i)) (λ t i e. tested d more i.rest (rule.is_own_type t.text) _ _ _ _ (name_steady i) (faulty d more {A = List ℕ} i))

  pub type_definition_steady : (line : ℕ) → Stable (rule.type_definition line)
  unfolding rule.type_definition
  type_definition_steady line = bound d more (word (codes "type")) _ (word_steady (codes "type")) (λ _. bound d more rule.type_name _ type_name_steady (λ t. bound d more (expect kind.Yields) _ (expected d more kind.Yields refl) (λ _. bound d more rule.functors _ functors_steady (λ fs. given d more _))))
