-- What a rule took can be filled up: lists of variables, terms, calls and relations.
use Rattle.std.proofs.Common.{◌≡◌, ℕ, ◌-◌, ◌<◌, List, [], ◌∷◌, ◌++◌, length, refl, true, false, not, inl, inr, Option, Some, None, Ok, sym, ap, arith, subst, nat_lt, ◌==◌, length-append}
use Rattle.std.specs.List.{list_any}
use Rattle.md_hlds.specs.declared.goal.PredName.{PredName}
use Rattle.md_hlds.specs.declared.goal.Op.{Op}
use Rattle.md_hlds.specs.declared.goal.Cmp.{Cmp}
use Rattle.md_hlds.specs.declared.goal.Cmp.TheVariants as cmp
use Rattle.md_hlds.specs.declared.goal.Term.TheVariants as term
use Rattle.md_hlds.specs.HldsGoal.{GoalExpr, SimpleGoal, HoCallGoal, CallGoal, Unifies, Computes, Compares}
use Rattle.md_token.specs.declared.kind.Kind.{Kind}
use Rattle.md_token.specs.declared.kind.Kind.TheVariants as kind
use Rattle.md_token.specs.Kinds.{same_kind}
use Rattle.md_token.specs.Token.{Lexeme}
use Rattle.md_reader.specs.Input.{Input, Parser, Outcome, ◌>>=◌, ◌>>◌, pure, advance, expect, variable, with_variable, place_of, site, first, place, token, kind_at, sees, next}
use Rattle.md_reader.specs.Rules as rule
use Rattle.md_reader.proofs.Steps.{ok_input, past_three}
use Rattle.md_reader.proofs.Taking.{variable_kind}
use Rattle.md_reader.proofs.Complete.{ends_goal}
use Rattle.md_reader.proofs.Fills.{upon, Or, Every, Never, State, Law, Fill, Fills, refused_at, bind_at, sequel, given, done_wider, restated, loosened, law_restated}
use Rattle.md_reader.proofs.FillsTokens.{live, spelled, expects, expect_at, advance_at, Home, Seen}
use Rattle.md_reader.proofs.FillsNames.{variables, variable_at, fresh, sites, pred_names, name_at, qualified_at, positive_at, literal_at, negated}
use Rattle.md_reader.proofs.FillsLists.{fill_like, perhaps, Lists, lists, excess, chosen_at, chosen_kind}
use Rattle.md_reader.proofs.FillsTypes.{one_token, limited}

-- ---- lists of variables

abbrev pub Found : Type 0
Found = List ℕ × List ℕ

abbrev also : Found → ℕ → Found
also f x = (f.0 ++ x ∷ [], f.1 ++ x ∷ [])

abbrev from : Kind → ℕ → Found → Parser (List ℕ)
from closing n f = rule.variables_from closing n f.0 f.1

-- variables were found, one or more
abbrev pub Filled : List ℕ → List ℕ → State
Filled h xs home vars = (home ≡ h) × (0 < length xs)

some_found : (xs : List ℕ) (x : ℕ) → 0 < length (xs ++ x ∷ [])
some_found xs x = let l = length-append xs (x ∷ []) in omega (arith, l)

variable_behind : (seen : List ℕ) (x : ℕ) (i j : Input) → variable seen i ≡ Ok (x, j) → i.rest ≡ first i.rest ∷ j.rest
unfolding variable next token
variable_behind seen x i j h =
    let p = past_three (not (sees kind.Variable i)) (list_any (λ y. y == place_of (token i).text i.vars) seen) (nat_lt i.limits.items (length (token i).text)) _ _ _ _ _ h in
    let k = variable_kind seen x i j h in
    one_token i.rest j.rest (ap live k) (sym (ap (λ (m : Input). m.rest) (ok_input (place_of (token i).text i.vars) x (record (next i) { vars = with_variable (token i).text i.vars }) j p.3)))

module _ (h : List ℕ) (closing : Kind) (l : live closing ≡ true) (d : same_kind closing kind.Comma ≡ false) (F : Lexeme → Type 0) (f : (i : Input) → F (spelled kind.Variable (fresh i.vars) i)) where
  variable_lists : Lists (λ (f : Found). variable f.0) also (λ f x. f.1 ++ x ∷ []) closing (from closing) (λ f. Seen h f.0) (Filled h) F
  unfolding rule.variables_from
  variable_lists = record {
    more = λ n x i. refl;
    lives = l;
    differ = d;
    items = λ g. variables h F Every g.0 f;
    posts = λ g x home vars s. (s.0, some_found g.1 x);
  }

  variables_within : (K : Lexeme → Type 0) (n c : ℕ) (g : Found) → Fills (Seen h g.0) (Filled h) F K (from closing n g) (λ m. from closing (m - c) g)
  unfolding rule.variables_from
  variables_within K n c g =
      lists (λ (f : Found). variable f.0) also (λ f x. f.1 ++ x ∷ []) closing (from closing) (λ f. Seen h f.0) (Filled h) F variable_lists K
      (excess (λ (f : Found). variable f.0) also (λ f x. f.1 ++ x ∷ []) closing (from closing) (λ f. Seen h f.0) (Filled h) F variable_lists K (λ f x i j e. variable_behind f.0 x i j e) (λ x i. refl))
      n c g

  pub variable_list : (K : Lexeme → Type 0) (seen : List ℕ) → Fills (Seen h seen) (Filled h) F K (rule.variables closing seen) (λ n. rule.variables closing seen)
  variable_list K seen = limited (Seen h seen) (Filled h) F K (λ n. rule.variables_from closing n seen []) (λ n. variables_within K n 0 (seen, []))

-- the tokens that may stand behind a goal
abbrev pub BehindGoal : Lexeme → Type 0
BehindGoal t = ends_goal t.kind ≡ true

goal_open : (k : Kind) → ends_goal k ≡ true → same_kind k kind.Open ≡ false
unfolding same_kind
goal_open kind.Comma e = refl
goal_open kind.Semicolon e = refl
goal_open kind.Then e = refl
goal_open kind.Close e = refl
goal_open kind.End e = refl
goal_open _ e = absurd (cc)

goal_operator : (k : Kind) → ends_goal k ≡ true → rule.operator k ≡ None
goal_operator kind.Comma e = refl
goal_operator kind.Semicolon e = refl
goal_operator kind.Then e = refl
goal_operator kind.Close e = refl
goal_operator kind.End e = refl
goal_operator _ e = absurd (cc)

pub arguments : (h : List ℕ) (seen : List ℕ) → Fills (Seen h seen) (λ _. Home h) BehindGoal BehindGoal (rule.arguments seen) (λ n. rule.arguments seen)
unfolding rule.arguments same_kind
arguments h seen =
    perhaps (Seen h seen) (λ _. Home h) BehindGoal BehindGoal kind.Open (rule.variables kind.Close seen) (pure []) (λ n. rule.variables kind.Close seen) (λ n. pure []) refl (λ t e. goal_open t.kind e)
    (restated (Seen h seen) (Seen h seen) (Filled h) (λ _. Home h) Every BehindGoal (rule.variables kind.Close seen) (λ n. rule.variables kind.Close seen) (λ home vars s. s) (λ x home vars s. s.0) (variable_list h kind.Close refl refl Every (λ i. tt) BehindGoal seen))
    (given (Seen h seen) (λ _. Home h) BehindGoal [] (λ home vars s. s.0))

abbrev IsVariable : Lexeme → Type 0
IsVariable t = t.kind ≡ kind.Variable

variable_closes : (t : Lexeme) → IsVariable t → same_kind t.kind kind.CloseList ≡ false
unfolding same_kind
variable_closes t e = rw e refl

pub quantified : (h : List ℕ) (K : Lexeme → Type 0) → Fills (Home h) (λ _. Home h) Every K rule.quantified (λ n. rule.quantified)
unfolding rule.quantified same_kind
quantified h K =
    loosened (Home h) (λ _. Home h) IsVariable Every K rule.quantified (λ n. rule.quantified) (λ t e. tt)
    (perhaps (Home h) (λ _. Home h) IsVariable K kind.CloseList (pure []) (rule.variables kind.CloseList []) (λ n. pure []) (λ n. rule.variables kind.CloseList []) refl variable_closes
    (loosened (Home h) (λ _. Home h) K Every K (pure []) (λ n. pure []) (λ t e. tt) (given (Home h) (λ _. Home h) K [] (λ home vars s. s)))
    (restated (Seen h []) (Home h) (Filled h) (λ _. Home h) IsVariable K (rule.variables kind.CloseList []) (λ n. rule.variables kind.CloseList []) (λ home vars s. (s, tt)) (λ x home vars s. s.0) (variable_list h kind.CloseList refl refl IsVariable (λ i. refl) K [])))

-- ---- terms

operator_live : (k : Kind) (o : Op) → rule.operator k ≡ Some o → live k ≡ true
operator_live kind.Plus o h = refl
operator_live kind.Minus o h = refl
operator_live kind.Times o h = refl
operator_live _ o h = absurd (cc)

operator_live_at : (i : Input) (o : Op) → rule.operator (first i.rest).kind ≡ Some o → live (kind_at i) ≡ true
unfolding token
operator_live_at i o e = operator_live (first i.rest).kind o e

module _ (h : List ℕ) (x y : ℕ) where
  -- what stands behind `X = Y`, by the next token
  abbrev more : Parser GoalExpr
  more = λ i. rule.arithmetic x y (rule.operator (first i.rest).kind) i

  computed : (o : Op) → Fills (Seen h (x ∷ y ∷ [])) (λ _. Home h) Every BehindGoal (variable (x ∷ y ∷ []) >>= (λ z. pure (SimpleGoal (Computes x y o z)))) (λ n. variable (x ∷ y ∷ []) >>= (λ z. pure (SimpleGoal (Computes x y o z))))
  computed o =
      sequel (Seen h (x ∷ y ∷ [])) (λ z. Seen h ((x ∷ y ∷ []) ++ z ∷ [])) (λ _. Home h) Every BehindGoal BehindGoal (variable (x ∷ y ∷ [])) _ (variables h Every BehindGoal (x ∷ y ∷ []) (λ i. tt))
      (λ z. given (Seen h ((x ∷ y ∷ []) ++ z ∷ [])) (λ _. Home h) BehindGoal (SimpleGoal (Computes x y o z)) (λ home vars s. s.0))

  -- no operator
  plain_more : (ts : List Lexeme) (n : ℕ) (i : Input) → rule.operator (first ts).kind ≡ None → more (upon n ts i) ≡ Ok (SimpleGoal (Unifies x (term.Var y)), upon n ts i)
  plain_more ts n i e = rw e refl

  more_by : (o : Option Op) (i : Input) → rule.operator (first i.rest).kind ≡ o → Seen h (x ∷ y ∷ []) i.home i.vars → Law (λ _. Home h) BehindGoal BehindGoal (λ n. more) i (rule.arithmetic x y o i)
  more_by None i e s = record {
    prefix = [];
    whole = refl;
    post = s.0;
    run = record {
      bound = 0;
      runs = λ n tail le fit. plain_more tail n i (elim fit.1 [
        | inl g ↦ goal_operator (first tail).kind g
        | inr a ↦ rw a.0 e
      ]);
      starts = λ tail fit. fit;
    };
  }
  more_by (Some o) i e s =
      chosen_at (λ _. Home h) BehindGoal BehindGoal (λ line k n. rule.arithmetic x y (rule.operator k)) i _
      (subst (λ (p : Option Op). Law (λ _. Home h) Never BehindGoal (λ n. rule.arithmetic x y p) i (rule.arithmetic x y (Some o) i)) (sym e)
      (bind_at (λ _. Seen h (x ∷ y ∷ [])) (λ _. Home h) Never Every BehindGoal (λ n. advance) (λ _ n. variable (x ∷ y ∷ []) >>= (λ z. pure (SimpleGoal (Computes x y o z)))) i (advance i) (λ _. variable (x ∷ y ∷ []) >>= (λ z. pure (SimpleGoal (Computes x y o z))))
      (advance_at (Seen h (x ∷ y ∷ [])) Never Every i (operator_live_at i o e) s)
      (λ u j r q. (computed o).law j q) (λ u j q. (computed o).fill j q)))

  mores : Fills (Seen h (x ∷ y ∷ [])) (λ _. Home h) BehindGoal BehindGoal more (λ n. more)
  mores = record {
    law = λ i s. more_by (rule.operator (first i.rest).kind) i refl s;
    fill = λ i s. (
      [],
      record {
        value = SimpleGoal (Unifies x (term.Var y));
        end = i;
        post = s.0;
        run = record { bound = 0; runs = λ n tail le fit. plain_more tail n i (goal_operator (first tail).kind fit.1); starts = λ tail fit. fit };
      },
    );
  }

module _ (h : List ℕ) (x : ℕ) (i : Input) (s : Seen h (x ∷ []) i.home i.vars) where
  abbrev One : State
  One = Seen h (x ∷ [])

  second_at : kind_at i ≡ kind.Variable → Law (λ _. Home h) Never BehindGoal (λ n. rule.second x) i (rule.second x i)
  unfolding rule.second token
  second_at e =
      bind_at (λ y. Seen h (x ∷ y ∷ [])) (λ _. Home h) Never BehindGoal BehindGoal (λ n. variable (x ∷ [])) (λ y n. more h x y) i (variable (x ∷ []) i) (λ y. more h x y) (variable_at h Never BehindGoal (x ∷ []) i e s)
      (λ y j r q. (mores h x y).law j q) (λ y j q. (mores h x y).fill j q)

  -- a functor and its arguments
  abbrev applied : PredName → Parser GoalExpr
  applied f = rule.arguments (x ∷ []) >>= (λ ys. pure (SimpleGoal (Unifies x (term.Name f ys))))

  applications : (f : PredName) → Fills One (λ _. Home h) BehindGoal BehindGoal (applied f) (λ n. applied f)
  applications f =
      sequel One (λ _. Home h) (λ _. Home h) BehindGoal BehindGoal BehindGoal (rule.arguments (x ∷ [])) _ (arguments h (x ∷ []))
      (λ ys. given (Home h) (λ _. Home h) BehindGoal (SimpleGoal (Unifies x (term.Name f ys))) (λ home vars s. s))

  application_at : (F : Lexeme → Type 0) → Law (λ _. One) F BehindGoal (λ n. rule.pred_name) i (rule.pred_name i) → Law (λ _. Home h) F BehindGoal (λ n. rule.application x) i (rule.application x i)
  unfolding rule.application
  application_at F w = bind_at (λ _. One) (λ _. Home h) F BehindGoal BehindGoal (λ n. rule.pred_name) (λ f n. applied f) i (rule.pred_name i) applied w (λ f j r q. (applications f).law j q) (λ f j q. (applications f).fill j q)

  minus_at : kind_at i ≡ kind.Minus → Law (λ _. Home h) Never BehindGoal (λ n. advance >> rule.negated x) i ((advance >> rule.negated x) i)
  minus_at e =
      law_restated (λ _. One) (λ _. Home h) Never BehindGoal (λ n. advance >> rule.negated x) i _ (λ t home vars q. q.0)
      (bind_at (λ _. One) (λ _. One) Never Every BehindGoal (λ n. advance) (λ _ n. rule.negated x) i (advance i) (λ _. rule.negated x) (advance_at One Never Every i (ap live e) s)
      (λ u j r q. (negated One BehindGoal x).law j q) (λ u j q. (negated One BehindGoal x).fill j q))

  home_only : (P : ℕ → Parser GoalExpr) (r : Outcome GoalExpr) → Law (λ _. One) Never BehindGoal P i r → Law (λ _. Home h) Never BehindGoal P i r
  home_only P r w = law_restated (λ _. One) (λ _. Home h) Never BehindGoal P i r (λ t home vars q. q.0) w

abbrev pub IsName : Lexeme → Type 0
IsName t = t.kind ≡ kind.Name

abbrev pub IsEquals : Lexeme → Type 0
IsEquals t = t.kind ≡ kind.Equals

module _ (h : List ℕ) (x : ℕ) where
  -- what stands behind `X =`, by the next token
  abbrev Right : ℕ → Parser GoalExpr
  Right n = λ i. rule.term_by x (first i.rest).kind i

  right_fill : (i : Input) → Seen h (x ∷ []) i.home i.vars → Fill (λ _. Home h) Every BehindGoal Right i
  unfolding rule.application
  right_fill i s =
      let f = (sequel (Seen h (x ∷ [])) (λ _. Seen h (x ∷ [])) (λ _. Home h) IsName BehindGoal BehindGoal rule.pred_name (λ f. rule.arguments (x ∷ []) >>= (λ ys. pure (SimpleGoal (Unifies x (term.Name f ys))))) (pred_names (Seen h (x ∷ [])) IsName BehindGoal (λ j. refl)) (λ f. applications h x i s f)).fill i s in
      let g = fill_like (λ _. Home h) IsName BehindGoal Right (λ n. rule.application x) i 0 (λ n ts le fit. ap (λ (k : Kind). rule.term_by x k (upon n ts i)) fit.1) f in
      (g.0, done_wider (λ _. Home h) IsName Every BehindGoal Right i g.0 (λ t e. tt) g.1)

  right_chosen : (i : Input) (k : Kind) → (first i.rest).kind ≡ k → (r : Outcome GoalExpr) → Law (λ _. Home h) Never BehindGoal (λ n. rule.term_by x k) i r → Law (λ _. Home h) Every BehindGoal Right i r
  right_chosen i k e r w = chosen_kind (λ _. Home h) Every BehindGoal (λ line k n. rule.term_by x k) i k e r w

  right_by : (k : Kind) (i : Input) → (first i.rest).kind ≡ k → Seen h (x ∷ []) i.home i.vars → Law (λ _. Home h) Every BehindGoal Right i (rule.term_by x k i)
  unfolding token
  right_by kind.Variable i e s = right_chosen i kind.Variable e _ (second_at h x i s e)
  right_by kind.Minus i e s = right_chosen i kind.Minus e _ (minus_at h x i s e)
  right_by kind.Integer i e s = right_chosen i kind.Integer e _ (home_only h x i s (λ n. rule.positive x) _ (positive_at (Seen h (x ∷ [])) Never BehindGoal x i (ap live e) s))
  right_by kind.Text i e s = right_chosen i kind.Text e _ (home_only h x i s (λ n. rule.literal x) _ (literal_at (Seen h (x ∷ [])) Never BehindGoal x i (ap live e) s))
  right_by kind.Name i e s = right_chosen i kind.Name e _ (application_at h x i s Never (name_at (Seen h (x ∷ [])) Never BehindGoal i e s))
  right_by kind.Qualified i e s = right_chosen i kind.Qualified e _ (application_at h x i s Never (qualified_at (Seen h (x ∷ [])) Never BehindGoal i e s))
  right_by _ i e s = refused_at (λ _. Home h) Every BehindGoal Right i (let f = right_fill i s in (f.0, done_wider (λ _. Home h) Every (Or Every i) BehindGoal Right i f.0 (λ t g. inl tt) f.1)) (λ n later. (place (upon n (first i.rest ∷ later) i), rw e refl))

  rights : Fills (Seen h (x ∷ [])) (λ _. Home h) Every BehindGoal (rule.term_after x) (λ n. rule.term_after x)
  unfolding token
  rights = record { law = λ i s. right_by (first i.rest).kind i refl s; fill = λ i s. right_fill i s }

  -- ---- relations

  -- what stands behind `X`, by the next token
  abbrev Related : ℕ → Parser GoalExpr
  Related n = λ i. rule.related x (first i.rest).kind i

  equals_is : (n : ℕ) (ts : List Lexeme) (i : Input) → (first ts).kind ≡ kind.Equals → Related n (upon n ts i) ≡ (expect kind.Equals >> rule.term_after x) (upon n ts i)
  unfolding expect sees token next same_kind
  equals_is n ts i e = rw e refl

  related_fill : (i : Input) → Seen h (x ∷ []) i.home i.vars → Fill (λ _. Home h) Every BehindGoal Related i
  related_fill i s =
      let f = (sequel (Seen h (x ∷ [])) (λ _. Seen h (x ∷ [])) (λ _. Home h) IsEquals Every BehindGoal (expect kind.Equals) (λ _. rule.term_after x) (expects (Seen h (x ∷ [])) IsEquals Every kind.Equals refl (λ j. refl)) (λ _. rights)).fill i s in
      let g = fill_like (λ _. Home h) IsEquals BehindGoal Related (λ n. expect kind.Equals >> rule.term_after x) i 0 (λ n ts le fit. equals_is n ts i fit.1) f in
      (g.0, done_wider (λ _. Home h) IsEquals Every BehindGoal Related i g.0 (λ t e. tt) g.1)

  related_chosen : (i : Input) (k : Kind) → (first i.rest).kind ≡ k → (r : Outcome GoalExpr) → Law (λ _. Home h) Never BehindGoal (λ n. rule.related x k) i r → Law (λ _. Home h) Every BehindGoal Related i r
  related_chosen i k e r w = chosen_kind (λ _. Home h) Every BehindGoal (λ line k n. rule.related x k) i k e r w

  compared_at : (c : Cmp) (i : Input) → live (first i.rest).kind ≡ true → Seen h (x ∷ []) i.home i.vars → Law (λ _. Home h) Never BehindGoal (λ n. rule.compared x (Some c)) i (rule.compared x (Some c) i)
  unfolding token
  compared_at c i l s =
      let rest : Fills (Seen h (x ∷ [])) (λ _. Home h) Every BehindGoal (variable (x ∷ []) >>= (λ y. pure (SimpleGoal (Compares x c y)))) (λ n. variable (x ∷ []) >>= (λ y. pure (SimpleGoal (Compares x c y)))) =
      sequel (Seen h (x ∷ [])) (λ y. Seen h (x ∷ y ∷ [])) (λ _. Home h) Every BehindGoal BehindGoal (variable (x ∷ [])) _ (variables h Every BehindGoal (x ∷ []) (λ j. tt))
      (λ y. given (Seen h (x ∷ y ∷ [])) (λ _. Home h) BehindGoal (SimpleGoal (Compares x c y)) (λ home vars s. s.0)) in
      bind_at (λ _. Seen h (x ∷ [])) (λ _. Home h) Never Every BehindGoal (λ n. advance) (λ _ n. variable (x ∷ []) >>= (λ y. pure (SimpleGoal (Compares x c y)))) i (advance i) (λ _. variable (x ∷ []) >>= (λ y. pure (SimpleGoal (Compares x c y)))) (advance_at (Seen h (x ∷ [])) Never Every i l s)
      (λ u j r q. rest.law j q) (λ u j q. rest.fill j q)

  equals_at : (i : Input) → live (first i.rest).kind ≡ true → Seen h (x ∷ []) i.home i.vars → Law (λ _. Home h) Never BehindGoal (λ n. advance >> rule.term_after x) i ((advance >> rule.term_after x) i)
  unfolding token
  equals_at i l s =
      bind_at (λ _. Seen h (x ∷ [])) (λ _. Home h) Never Every BehindGoal (λ n. advance) (λ _ n. rule.term_after x) i (advance i) (λ _. rule.term_after x) (advance_at (Seen h (x ∷ [])) Never Every i l s)
      (λ u j r q. rights.law j q) (λ u j q. rights.fill j q)

  related_by : (k : Kind) (i : Input) → (first i.rest).kind ≡ k → Seen h (x ∷ []) i.home i.vars → Law (λ _. Home h) Every BehindGoal Related i (rule.related x k i)
  related_by kind.Equals i e s = related_chosen i kind.Equals e _ (equals_at i (ap live e) s)
  related_by kind.Less i e s = related_chosen i kind.Less e _ (compared_at cmp.Lt i (ap live e) s)
  related_by kind.AtMost i e s = related_chosen i kind.AtMost e _ (compared_at cmp.Le i (ap live e) s)
  related_by kind.Greater i e s = related_chosen i kind.Greater e _ (compared_at cmp.Gt i (ap live e) s)
  related_by kind.AtLeast i e s = related_chosen i kind.AtLeast e _ (compared_at cmp.Ge i (ap live e) s)
  related_by _ i e s = refused_at (λ _. Home h) Every BehindGoal Related i (let f = related_fill i s in (f.0, done_wider (λ _. Home h) Every (Or Every i) BehindGoal Related i f.0 (λ t g. inl tt) f.1)) (λ n later. (place (upon n (first i.rest ∷ later) i), rw e refl))

module _ (h : List ℕ) (i : Input) (s : Home h i.home i.vars) where
  pub relation_at : kind_at i ≡ kind.Variable → Law (λ _. Home h) Never BehindGoal (λ n. rule.relation) i (rule.relation i)
  unfolding rule.relation token
  relation_at e =
      bind_at (λ x. Seen h (x ∷ [])) (λ _. Home h) Never Every BehindGoal (λ n. variable []) (λ x n. Related h x n) i (variable [] i) (λ x. Related h x 0) (variable_at h Never Every [] i e (s, tt))
      (λ x j r q. related_by h x (first j.rest).kind j refl q) (λ x j q. related_fill h x j q)

  -- ---- calls

  called : (q : PredName) (ys : List ℕ) (o : Option GoalExpr) → Fills (Home h) (λ _. Home h) BehindGoal BehindGoal (rule.called q ys o) (λ n. rule.called q ys o)
  called q ys (Some t) = given (Home h) (λ _. Home h) BehindGoal t (λ home vars s. s)
  called q ys None = sequel (Home h) (λ _. Home h) (λ _. Home h) BehindGoal BehindGoal BehindGoal site _ (sites (Home h) BehindGoal) (λ n. given (Home h) (λ _. Home h) BehindGoal (CallGoal n q ys) (λ home vars s. s))

  abbrev Called : PredName → Parser GoalExpr
  Called q = rule.arguments [] >>= (λ ys. rule.called q ys (rule.builtin q ys))

  called_with : (q : PredName) → Fills (Home h) (λ _. Home h) BehindGoal BehindGoal (Called q) (λ n. Called q)
  called_with q =
      sequel (Home h) (λ _. Home h) (λ _. Home h) BehindGoal BehindGoal BehindGoal (rule.arguments []) _
      (restated (Seen h []) (Home h) (λ _. Home h) (λ _. Home h) BehindGoal BehindGoal (rule.arguments []) (λ n. rule.arguments []) (λ home vars s. (s, tt)) (λ x home vars s. s) (arguments h []))
      (λ ys. called q ys (rule.builtin q ys))

  pub call_at : Law (λ _. Home h) Never BehindGoal (λ n. rule.pred_name) i (rule.pred_name i) → Law (λ _. Home h) Never BehindGoal (λ n. rule.call) i (rule.call i)
  unfolding rule.call
  call_at w = bind_at (λ _. Home h) (λ _. Home h) Never BehindGoal BehindGoal (λ n. rule.pred_name) (λ q n. Called q) i (rule.pred_name i) Called w (λ q j r u. (called_with q).law j u) (λ q j u. (called_with q).fill j u)

  applied_by : (ys : List ℕ) → Fills (Filled h ys) (λ _. Home h) BehindGoal BehindGoal (rule.applied ys) (λ n. rule.applied ys)
  applied_by [] = record { law = λ j s. absurd (let l = s.1 in omega (arith, l)); fill = λ j s. absurd (let l = s.1 in omega (arith, l)) }
  applied_by (f ∷ ys) = sequel (Filled h (f ∷ ys)) (λ _. Filled h (f ∷ ys)) (λ _. Home h) BehindGoal BehindGoal BehindGoal site _ (sites (Filled h (f ∷ ys)) BehindGoal) (λ n. given (Filled h (f ∷ ys)) (λ _. Home h) BehindGoal (HoCallGoal n f ys) (λ home vars s. s.0))

  abbrev Closure : Parser GoalExpr
  Closure = expect kind.Open >> (rule.variables kind.Close [] >>= rule.applied)

  closures : Fills (Home h) (λ _. Home h) Every BehindGoal Closure (λ n. Closure)
  unfolding same_kind
  closures =
      sequel (Home h) (λ _. Home h) (λ _. Home h) Every Every BehindGoal (expect kind.Open) _ (expects (Home h) Every Every kind.Open refl (λ j. tt))
      (λ _. sequel (Home h) (Filled h) (λ _. Home h) Every BehindGoal BehindGoal (rule.variables kind.Close []) rule.applied
      (restated (Seen h []) (Home h) (Filled h) (Filled h) Every BehindGoal (rule.variables kind.Close []) (λ n. rule.variables kind.Close []) (λ home vars s. (s, tt)) (λ x home vars s. s) (variable_list h kind.Close refl refl Every (λ i. tt) BehindGoal []))
      applied_by)

  pub closure_at : kind_at i ≡ kind.Call → Law (λ _. Home h) Never BehindGoal (λ n. rule.closure_call) i (rule.closure_call i)
  unfolding rule.closure_call
  closure_at e = bind_at (λ _. Home h) (λ _. Home h) Never Every BehindGoal (λ n. expect kind.Call) (λ _ n. Closure) i (expect kind.Call i) (λ _. Closure) (expect_at (Home h) Never Every kind.Call i refl e s) (λ x j r u. closures.law j u) (λ x j u. closures.fill j u)
