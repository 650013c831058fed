-- Rules keep within the limits: lists of variables and types, terms, calls and relations.
use Rattle.std.proofs.Common.{◌≡◌, ℕ, zero, suc, ◌+◌, ◌≤◌, List, [], ◌∷◌, ◌++◌, length, refl, Bool, true, false, cond, ◌&&◌, Option, Some, None, sym, ap, ◌∙◌, arith, subst, ◌==◌}
use Rattle.std.specs.Prelude.{⊤, codes}
use Rattle.md_hlds.specs.declared.goal.PredName.{PredName}
use Rattle.md_hlds.specs.declared.goal.Op.{Op}
use Rattle.md_hlds.specs.declared.goal.Cmp.{Cmp}
use Rattle.md_hlds.specs.declared.goal.Term.TheVariants as term
use Rattle.md_hlds.specs.HldsGoal.{GoalExpr, SimpleGoal, Unifies, Computes, Compares}
use Rattle.md_hlds.specs.Hlds.{HldsType, HldsFunctor}
use Rattle.md_token.specs.declared.kind.Kind.{Kind}
use Rattle.md_token.specs.Kinds.{is_final}
use Rattle.md_token.specs.declared.kind.Kind.TheVariants as kind
use Rattle.md_reader.specs.Input.{Input, Limits, Parser, Outcome, ◌>>=◌, ◌>>◌, pure, standard, kind_at, eat, expect, name, word, variable, site}
use Rattle.md_reader.specs.Rules as rule
use Rattle.md_reader.specs.Excess.{Opened, AList, Point, opens_list, open_behind}
use Rattle.md_reader.proofs.Within.{Good, State, Case, Keeps, Step, bound, given, given_at, faulty, faulty_at, case_wider, passed, perhaps, then, ending}
use Rattle.md_reader.proofs.WithinTokens.{any, unsigned, is_minus, is_comma, is_full, Sits, mute, sign_within, sign_step, list_step, Solo, solo_at, only, IsFull, excess, name_one}
use Rattle.md_reader.proofs.WithinNames.{NameFits, word_one, variable_one, pred_name_one, positive_solo, negated_one, literal_solo, simple_type_one, type_name_one}

-- ---- lists

-- A place in a list, where n more items may begin: behind its opening, or behind one of its commas.
pub record Turn (commas n : ℕ) (o : List Opened) (s : Point) : Type 0 where
  pub around : s.around ≡ AList commas ∷ o
  pub last : n ≡ 0 → s.last ≡ kind.Comma

same_number : (m n : ℕ) → m ≡ n → (m == n) ≡ true
same_number m n e = grind arith

pub other_number : (m n k : ℕ) → m + suc k ≡ n → (m == n) ≡ false
other_number m n k e = grind arith

pub and_false : (a b : Bool) → b ≡ false → (a && b) ≡ false
and_false true b e = e
and_false false b e = refl

pub turn_sits : (commas n : ℕ) (o : List Opened) (s : Point) → commas + suc n ≡ standard.items → Turn commas (suc n) o s → Sits any (AList commas ∷ o) s
turn_sits commas n o s e w = record { around = w.around; last = refl; ready = and_false (is_comma s.last) (commas == standard.items) (other_number commas standard.items n e) }

pub turn_full : (commas : ℕ) (o : List Opened) (s : Point) → commas + 0 ≡ standard.items → Turn commas 0 o s → IsFull s
turn_full commas o s e w = record { last = w.last refl; full = ap is_full w.around ∙ same_number commas standard.items (omega (arith, e)) }

-- a comma leads to the next item
comma_step : (c : Kind → Bool) (commas n : ℕ) (o : List Opened) → Step kind.Comma (Sits c (AList commas ∷ o)) (Turn (suc commas) n o)
comma_step c commas n o = record {
  live = refl;
  within = sign_within kind.Comma c (AList commas ∷ o) refl;
  leads = λ s w. record { around = ap (open_behind kind.Comma s.last) w.around; last = λ e. refl };
}

-- an item, and then a comma and more of them, or the closing sign
pub listed : {A B : Type 0} (c d : Kind → Bool) (commas n : ℕ) (o : List Opened) (closing : Kind) (Q : B → State) (item : Parser A) (rest : A → Parser B) (done : A → B) → commas + suc n ≡ standard.items → Step closing (Sits c (AList commas ∷ o)) (Sits d o)
    → Keeps (Sits any (AList commas ∷ o)) item (λ _. Sits c (AList commas ∷ o)) → ((x : A) → Keeps (Turn (suc commas) n o) (rest x) Q) → ((x : A) (s : Point) → Sits d o s → Q (done x) s)
    → Keeps (Turn commas (suc n) o) (item >>= (λ x. eat kind.Comma >>= (λ b. cond b (rest x) (expect closing >> pure (done x))))) Q
listed c d commas n o closing Q item rest done e close I R D i s g w =
    bound (Sits any (AList commas ∷ o)) (λ _. Sits c (AList commas ∷ o)) Q item (λ x. eat kind.Comma >>= (λ b. cond b (rest x) (expect closing >> pure (done x)))) I
    (λ x. perhaps kind.Comma (Sits c (AList commas ∷ o)) (Turn (suc commas) n o) (comma_step c commas n o) Q (rest x) (expect closing >> pure (done x)) (R x)
    (ending closing (Sits c (AList commas ∷ o)) (Sits d o) close Q (done x) (D x)))
    i s g (turn_sits commas n o s e w)

-- the limit of the place is that of the product
pub at_most : {A : Type 0} (P : State) (Q : A → State) (f : ℕ → Parser A) → Keeps P (f standard.items) Q → Keeps P (λ i. f i.limits.items i) Q
at_most P Q f a i s g w = subst (λ (n : ℕ). Case Q s i (f n i)) (sym (ap (λ (l : Limits). l.items) g.limits)) (a i s g w)

pub first_turn : (c : Kind → Bool) (o : List Opened) (s : Point) → Sits c (AList 0 ∷ o) s → Turn 0 standard.items o s
first_turn c o s w = record { around = w.around; last = λ e. absurd (omega (arith, e)) }

-- the sign that closes a list
pub close_step : (c d : Kind → Bool) (commas : ℕ) (o : List Opened) → d kind.Close ≡ true → Step kind.Close (Sits c (AList commas ∷ o)) (Sits d o)
close_step c d commas o e = sign_step kind.Close c d (AList commas ∷ o) o refl refl (λ l. refl) e refl

pub bracket_step : (c d : Kind → Bool) (commas : ℕ) (o : List Opened) → d kind.CloseList ≡ true → Step kind.CloseList (Sits c (AList commas ∷ o)) (Sits d o)
bracket_step c d commas o e = sign_step kind.CloseList c d (AList commas ∷ o) o refl refl (λ l. refl) e refl

-- ---- lists of variables

pub variable_keeps : (o : List Opened) (seen : List ℕ) → Keeps (Sits any o) (variable seen) (λ _. Sits any o)
variable_keeps o seen = only any any (λ (_ : ℕ). ⊤) o (variable seen) (variable_one seen)

variables_from_keeps : (closing : Kind) (d : Kind → Bool) (o : List Opened) → ((commas : ℕ) → Step closing (Sits any (AList commas ∷ o)) (Sits d o)) → (n commas : ℕ) (seen found : List ℕ) → commas + n ≡ standard.items → Keeps (Turn commas n o) (rule.variables_from closing n seen found) (λ _. Sits d o)
unfolding rule.variables_from
variables_from_keeps closing d o close zero commas seen found e i s g w = excess any (λ (_ : ℕ). ⊤) (λ (_ : List ℕ). Sits d o) (variable seen) (variable_one seen) i s g (turn_full commas o s e w)
variables_from_keeps closing d o close (suc n) commas seen found e i s g w =
    listed any d commas n o closing (λ _. Sits d o) (variable seen) (λ x. rule.variables_from closing n (seen ++ x ∷ []) (found ++ x ∷ [])) (λ x. found ++ x ∷ []) e (close commas) (variable_keeps (AList commas ∷ o) seen)
    (λ x. variables_from_keeps closing d o close n (suc commas) (seen ++ x ∷ []) (found ++ x ∷ []) (omega (arith, e))) (λ x s w. w) i s g w

pub variables_keep : (closing : Kind) (c d : Kind → Bool) (o : List Opened) → ((commas : ℕ) → Step closing (Sits any (AList commas ∷ o)) (Sits d o)) → (seen : List ℕ) → Keeps (Sits c (AList 0 ∷ o)) (rule.variables closing seen) (λ _. Sits d o)
variables_keep closing c d o close seen =
    at_most (Sits c (AList 0 ∷ o)) (λ _. Sits d o) (λ n. rule.variables_from closing n seen [])
    (λ i s g w. variables_from_keeps closing d o close standard.items 0 seen [] refl i s g (first_turn c o s w))

pub arguments_keep : (d : Kind → Bool) (o : List Opened) (seen : List ℕ) → d kind.Close ≡ true → Keeps (Sits opens_list o) (rule.arguments seen) (λ _. Sits any o)
unfolding rule.arguments
arguments_keep d o seen e =
    perhaps kind.Open (Sits opens_list o) (Sits any (AList 0 ∷ o)) (list_step opens_list any o (λ k h. h) refl) (λ _. Sits any o) (rule.variables kind.Close seen) (pure [])
    (variables_keep kind.Close any any o (λ commas. close_step any any commas o refl) seen) (given (Sits opens_list o) (λ _. Sits any o) [] (λ s w. record { around = w.around; last = refl; ready = w.ready }))

pub quantified_keeps : (d : Kind → Bool) (o : List Opened) → d kind.CloseList ≡ true → Keeps (Sits any (AList 0 ∷ o)) rule.quantified (λ _. Sits d o)
unfolding rule.quantified
quantified_keeps d o e =
    perhaps kind.CloseList (Sits any (AList 0 ∷ o)) (Sits d o) (bracket_step any d 0 o e) (λ _. Sits d o) (pure []) (rule.variables kind.CloseList [])
    (given (Sits d o) (λ _. Sits d o) [] (λ s w. w)) (variables_keep kind.CloseList any d o (λ commas. bracket_step any d commas o e) [])

-- ---- terms

-- a sign behind which what is open stays so
pub flat_step : (k : Kind) (c d : Kind → Bool) (o : List Opened) → is_final k ≡ false → mute k ≡ true → ((l : Kind) → open_behind k l o ≡ o) → d k ≡ true → is_comma k ≡ false → Step k (Sits c o) (Sits d o)
flat_step k c d o final m leads e other = sign_step k c d o o final m leads e (rw other refl)

operator_step : (k : Kind) (p : Op) (o : List Opened) → rule.operator k ≡ Some p → Step k (Sits any o) (Sits any o)
operator_step kind.Plus p o h = flat_step kind.Plus any any o refl refl (λ l. refl) refl refl
operator_step kind.Minus p o h = flat_step kind.Minus any any o refl refl (λ l. refl) refl refl
operator_step kind.Times p o h = flat_step kind.Times any any o refl refl (λ l. refl) refl refl
operator_step _ p o h = absurd (cc)

arithmetic_at : (x y : ℕ) (p : Option Op) (o : List Opened) (i : Input) (s : Point) → rule.operator (kind_at i) ≡ p → Good i → Sits any o s → Case (λ (_ : GoalExpr). Sits any o) s i (rule.arithmetic x y p i)
arithmetic_at x y None o i s h g w = given_at (λ _. Sits any o) (SimpleGoal (Unifies x (term.Var y))) i s g w
arithmetic_at x y (Some p) o i s h g w =
    passed (kind_at i) (Sits any o) (Sits any o) (operator_step (kind_at i) p o h) (λ _. Sits any o) (variable (x ∷ y ∷ []) >>= (λ z. pure (SimpleGoal (Computes x y p z)))) i s g w refl
    (bound (Sits any o) (λ _. Sits any o) (λ _. Sits any o) (variable (x ∷ y ∷ [])) (λ z. pure (SimpleGoal (Computes x y p z))) (variable_keeps o (x ∷ y ∷ [])) (λ z. given (Sits any o) (λ _. Sits any o) _ (λ s w. w)))

second_keeps : (x : ℕ) (o : List Opened) → Keeps (Sits any o) (rule.second x) (λ _. Sits any o)
unfolding rule.second
second_keeps x o =
    bound (Sits any o) (λ _. Sits any o) (λ _. Sits any o) (variable (x ∷ [])) (λ y i. rule.arithmetic x y (rule.operator (kind_at i)) i) (variable_keeps o (x ∷ []))
    (λ y i s g w. arithmetic_at x y (rule.operator (kind_at i)) o i s refl g w)

pub pred_name_keeps : (o : List Opened) → Keeps (Sits any o) rule.pred_name (λ _. Sits opens_list o)
pred_name_keeps o = only any opens_list NameFits o rule.pred_name pred_name_one

application_keeps : (x : ℕ) (o : List Opened) → Keeps (Sits any o) (rule.application x) (λ _. Sits any o)
unfolding rule.application
application_keeps x o =
    bound (Sits any o) (λ _. Sits opens_list o) (λ _. Sits any o) rule.pred_name (λ f. rule.arguments (x ∷ []) >>= (λ ys. pure (SimpleGoal (Unifies x (term.Name f ys))))) (pred_name_keeps o)
    (λ f. bound (Sits opens_list o) (λ _. Sits any o) (λ _. Sits any o) (rule.arguments (x ∷ [])) (λ ys. pure (SimpleGoal (Unifies x (term.Name f ys)))) (arguments_keep any o (x ∷ []) refl) (λ ys. given (Sits any o) (λ _. Sits any o) _ (λ s w. w)))

pub sits_any : (c : Kind → Bool) (o : List Opened) (s : Point) → Sits c o s → Sits any o s
sits_any c o s w = record { around = w.around; last = refl; ready = w.ready }

-- where it takes one token at this place
solo_keeps : {A : Type 0} (c : Kind → Bool) (o : List Opened) (i : Input) (s : Point) (r : Outcome A) → Sits c o s → Solo any (λ (_ : A). ⊤) s.last i r → Case (λ (_ : A). Sits any o) s i r
solo_keeps {A} c o i s r w a = case_wider (λ (_ : A) u. ⊤ × Sits any o u) (λ (_ : A). Sits any o) s i r (λ x u h. h.1) (solo_at c any (λ (_ : A). ⊤) o i s r w a)

term_at : (x : ℕ) (k : Kind) (o : List Opened) (i : Input) (s : Point) → kind_at i ≡ k → Good i → Sits unsigned o s → Case (λ (_ : GoalExpr). Sits any o) s i (rule.term_by x k i)
term_at x kind.Variable o i s e g w = second_keeps x o i s g (sits_any unsigned o s w)
term_at x kind.Minus o i s e g w =
    passed kind.Minus (Sits unsigned o) (Sits is_minus o) (flat_step kind.Minus unsigned is_minus o refl refl (λ l. refl) refl refl) (λ _. Sits any o) (rule.negated x) i s g w e
    (only is_minus any (λ (_ : GoalExpr). ⊤) o (rule.negated x) (negated_one x))
term_at x kind.Integer o i s e g w = solo_keeps unsigned o i s (rule.positive x i) w (positive_solo x i s.last g w.last e)
term_at x kind.Text o i s e g w = solo_keeps unsigned o i s (rule.literal x i) w (literal_solo x i s.last g e)
term_at x kind.Name o i s e g w = application_keeps x o i s g (sits_any unsigned o s w)
term_at x kind.Qualified o i s e g w = application_keeps x o i s g (sits_any unsigned o s w)
term_at x _ o i s e g w = faulty_at (λ (_ : GoalExpr). Sits any o) s i

term_keeps : (x : ℕ) (o : List Opened) → Keeps (Sits unsigned o) (rule.term_after x) (λ _. Sits any o)
term_keeps x o i s g w = term_at x (kind_at i) o i s refl g w

-- ---- calls and relations

site_keeps : (o : List Opened) → Keeps (Sits any o) site (λ _. Sits any o)
unfolding site
site_keeps o i s g w = record { prefix = []; whole = refl; within = tt; post = w; good = record { limits = g.limits; proper = g.proper; home = g.home } }

called_keeps : (q : PredName) (ys : List ℕ) (b : Option GoalExpr) (o : List Opened) → Keeps (Sits any o) (rule.called q ys b) (λ _. Sits any o)
called_keeps q ys (Some t) o = given (Sits any o) (λ _. Sits any o) t (λ s w. w)
called_keeps q ys None o = bound (Sits any o) (λ _. Sits any o) (λ _. Sits any o) site _ (site_keeps o) (λ n. given (Sits any o) (λ _. Sits any o) _ (λ s w. w))

pub call_keeps : (o : List Opened) → Keeps (Sits any o) rule.call (λ _. Sits any o)
unfolding rule.call
call_keeps o =
    bound (Sits any o) (λ _. Sits opens_list o) (λ _. Sits any o) rule.pred_name (λ q. rule.arguments [] >>= (λ ys. rule.called q ys (rule.builtin q ys))) (pred_name_keeps o)
    (λ q. bound (Sits opens_list o) (λ _. Sits any o) (λ _. Sits any o) (rule.arguments []) (λ ys. rule.called q ys (rule.builtin q ys)) (arguments_keep any o [] refl) (λ ys. called_keeps q ys (rule.builtin q ys) o))

applied_keeps : (ys : List ℕ) (o : List Opened) → Keeps (Sits any o) (rule.applied ys) (λ _. Sits any o)
applied_keeps [] o = faulty (Sits any o) (λ (_ : GoalExpr). Sits any o)
applied_keeps (f ∷ ys) o = bound (Sits any o) (λ _. Sits any o) (λ _. Sits any o) site _ (site_keeps o) (λ n. given (Sits any o) (λ _. Sits any o) _ (λ s w. w))

pub closure_call_keeps : (o : List Opened) → Keeps (Sits any o) rule.closure_call (λ _. Sits any o)
unfolding rule.closure_call
closure_call_keeps o =
    then kind.Call (Sits any o) (Sits opens_list o) (flat_step kind.Call any opens_list o refl refl (λ l. refl) refl refl) (λ _. Sits any o) _
    (λ _. then kind.Open (Sits opens_list o) (Sits any (AList 0 ∷ o)) (list_step opens_list any o (λ k h. h) refl) (λ _. Sits any o) _
    (λ _. bound (Sits any (AList 0 ∷ o)) (λ _. Sits any o) (λ _. Sits any o) (rule.variables kind.Close []) rule.applied (variables_keep kind.Close any any o (λ commas. close_step any any commas o refl) []) (λ ys. applied_keeps ys o)))

comparison_step : (k : Kind) (c : Cmp) (o : List Opened) → rule.comparison k ≡ Some c → Step k (Sits any o) (Sits any o)
comparison_step kind.Less c o h = flat_step kind.Less any any o refl refl (λ l. refl) refl refl
comparison_step kind.AtMost c o h = flat_step kind.AtMost any any o refl refl (λ l. refl) refl refl
comparison_step kind.Greater c o h = flat_step kind.Greater any any o refl refl (λ l. refl) refl refl
comparison_step kind.AtLeast c o h = flat_step kind.AtLeast any any o refl refl (λ l. refl) refl refl
comparison_step _ c o h = absurd (cc)

compared_at : (x : ℕ) (c : Option Cmp) (o : List Opened) (i : Input) (s : Point) → rule.comparison (kind_at i) ≡ c → Good i → Sits any o s → Case (λ (_ : GoalExpr). Sits any o) s i (rule.compared x c i)
compared_at x None o i s h g w = faulty_at (λ (_ : GoalExpr). Sits any o) s i
compared_at x (Some c) o i s h g w =
    passed (kind_at i) (Sits any o) (Sits any o) (comparison_step (kind_at i) c o h) (λ _. Sits any o) (variable (x ∷ []) >>= (λ y. pure (SimpleGoal (Compares x c y)))) i s g w refl
    (bound (Sits any o) (λ _. Sits any o) (λ _. Sits any o) (variable (x ∷ [])) (λ y. pure (SimpleGoal (Compares x c y))) (variable_keeps o (x ∷ [])) (λ y. given (Sits any o) (λ _. Sits any o) _ (λ s w. w)))

related_at : (x : ℕ) (k : Kind) (o : List Opened) (i : Input) (s : Point) → kind_at i ≡ k → Good i → Sits any o s → Case (λ (_ : GoalExpr). Sits any o) s i (rule.related x k i)
related_at x kind.Equals o i s e g w =
    passed kind.Equals (Sits any o) (Sits unsigned o) (flat_step kind.Equals any unsigned o refl refl (λ l. refl) refl refl) (λ _. Sits any o) (rule.term_after x) i s g w e (term_keeps x o)
related_at x k o i s e g w = compared_at x (rule.comparison k) o i s (ap rule.comparison e) g w

pub relation_keeps : (o : List Opened) → Keeps (Sits any o) rule.relation (λ _. Sits any o)
unfolding rule.relation
relation_keeps o =
    bound (Sits any o) (λ _. Sits any o) (λ _. Sits any o) (variable []) (λ x i. rule.related x (kind_at i) i) (variable_keeps o [])
    (λ x i s g w. related_at x (kind_at i) o i s refl g w)

-- ---- types

pub simple_type_keeps : (o : List Opened) → Keeps (Sits any o) rule.simple_type (λ _. Sits any o)
simple_type_keeps o = only any any (λ (_ : HldsType). ⊤) o rule.simple_type simple_type_one

simple_types_from_keeps : (o : List Opened) (n commas : ℕ) (found : List HldsType) → commas + n ≡ standard.items → Keeps (Turn commas n o) (rule.simple_types_from n found) (λ _. Sits any o)
unfolding rule.simple_types_from
simple_types_from_keeps o zero commas found e i s g w = excess any (λ (_ : HldsType). ⊤) (λ (_ : List HldsType). Sits any o) rule.simple_type simple_type_one i s g (turn_full commas o s e w)
simple_types_from_keeps o (suc n) commas found e i s g w =
    listed any any commas n o kind.Close (λ _. Sits any o) rule.simple_type (λ t. rule.simple_types_from n (found ++ t ∷ [])) (λ t. found ++ t ∷ []) e (close_step any any commas o refl) (simple_type_keeps (AList commas ∷ o))
    (λ t. simple_types_from_keeps o n (suc commas) (found ++ t ∷ []) (omega (arith, e))) (λ x s w. w) i s g w

pub simple_types_keep : (o : List Opened) → Keeps (Sits any (AList 0 ∷ o)) rule.simple_types (λ _. Sits any o)
simple_types_keep o = at_most (Sits any (AList 0 ∷ o)) (λ _. Sits any o) (λ n. rule.simple_types_from n []) (λ i s g w. simple_types_from_keeps o standard.items 0 [] refl i s g (first_turn any o s w))

functor_arguments_keep : (o : List Opened) → Keeps (Sits opens_list o) rule.functor_arguments (λ _. Sits any o)
unfolding rule.functor_arguments
functor_arguments_keep o =
    perhaps kind.Open (Sits opens_list o) (Sits any (AList 0 ∷ o)) (list_step opens_list any o (λ k h. h) refl) (λ _. Sits any o) rule.simple_types (pure [])
    (simple_types_keep o) (given (Sits opens_list o) (λ _. Sits any o) [] (λ s w. sits_any opens_list o s w))

functor_keeps : (o : List Opened) → Keeps (Sits any o) rule.functor (λ _. Sits any o)
unfolding rule.functor
functor_keeps o =
    bound (Sits any o) (λ _. Sits opens_list o) (λ _. Sits any o) name _ (only any opens_list (λ (x : List ℕ). length x ≤ standard.items) o name (name_one opens_list refl))
    (λ f. bound (Sits opens_list o) (λ _. Sits any o) (λ _. Sits any o) rule.functor_arguments _ (functor_arguments_keep o) (λ ts. given (Sits any o) (λ _. Sits any o) _ (λ s w. w)))

-- between declarations nothing is open
functors_from_keeps : (n : ℕ) (found : List HldsFunctor) → Keeps (Sits any []) (rule.functors_from n found) (λ _. Sits any [])
unfolding rule.functors_from
functors_from_keeps zero found = faulty (Sits any []) (λ (_ : List HldsFunctor). Sits any [])
functors_from_keeps (suc n) found =
    bound (Sits any []) (λ _. Sits any []) (λ _. Sits any []) rule.functor _ (functor_keeps [])
    (λ f. perhaps kind.Semicolon (Sits any []) (Sits any []) (flat_step kind.Semicolon any any [] refl refl (λ l. refl) refl refl) (λ _. Sits any []) (rule.functors_from n (found ++ f ∷ [])) (expect kind.End >> pure (found ++ f ∷ []))
    (functors_from_keeps n (found ++ f ∷ []))
    (ending kind.End (Sits any []) (Sits any []) (flat_step kind.End any any [] refl refl (λ l. refl) refl refl) (λ _. Sits any []) (found ++ f ∷ []) (λ s w. w)))

functors_keep : Keeps (Sits any []) rule.functors (λ _. Sits any [])
unfolding rule.functors
functors_keep i s g w = functors_from_keeps (length i.rest) [] i s g w

pub type_definition_keeps : (line : ℕ) → Keeps (Sits any []) (rule.type_definition line) (λ _. Sits any [])
unfolding rule.type_definition
type_definition_keeps line =
    bound (Sits any []) (λ _. Sits any []) (λ _. Sits any []) (word (codes "type")) _ (only any any (λ (_ : ℕ). ⊤) [] (word (codes "type")) (word_one (codes "type") any refl (omega arith)))
    (λ _. bound (Sits any []) (λ _. Sits any []) (λ _. Sits any []) rule.type_name _ (only any any (λ (x : List ℕ). length x ≤ standard.items) [] rule.type_name type_name_one)
    (λ t. then kind.Yields (Sits any []) (Sits any []) (flat_step kind.Yields any any [] refl refl (λ l. refl) refl refl) (λ _. Sits any []) _
    (λ _. bound (Sits any []) (λ _. Sits any []) (λ _. Sits any []) rule.functors _ functors_keep (λ fs. given (Sits any []) (λ _. Sits any []) _ (λ s w. w)))))
