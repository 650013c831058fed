-- Printed goals are spelled by the grammar as they were.
use Rattle.std.specs.Prelude.{codes, nat_lt, decimal, ℤ, pos, negsuc}
use Rattle.std.proofs.Common.{◌≡◌, ℕ, zero, suc, ◌-◌, Bool, true, false, cond, ◌&&◌, ◌⊎◌, inl, inr, Option, Some, None, List, [], ◌∷◌, ◌++◌, length, refl, ap, sym, ◌∙◌, subst, arith}
use Rattle.std.proofs.lemmas.Slice.Eq.{bytes_eq-Decides}
use Rattle.std.specs.Str.{bytes_eq}
use Rattle.md_hlds.specs.declared.goal.PredName.{PredName}
use Rattle.md_hlds.specs.declared.goal.Term.TheVariants as term
use Rattle.md_hlds.specs.declared.goal.Op.{Op}
use Rattle.md_hlds.specs.declared.goal.Op.TheVariants as op
use Rattle.md_hlds.specs.declared.goal.Cmp.{Cmp}
use Rattle.md_hlds.specs.declared.goal.Cmp.TheVariants as cmp
use Rattle.md_hlds.specs.HldsGoal.{GoalExpr, SimpleGoal, Unifies, WritesInt, WritesText, EndsLine, Raises}
use Rattle.md_token.specs.declared.kind.Kind.{Kind}
use Rattle.md_token.specs.declared.kind.Kind.TheVariants as kind
use Rattle.md_token.specs.Literal.{string_value, number_of, inside}
use Rattle.md_token.proofs.Spelled as spelled
use Rattle.md_token.proofs.Spelled.{Reads}
use Rattle.md_token.proofs.SpelledTexts.{Writes, value_written}
use Rattle.md_token.proofs.SpelledTokens.{Fine}
use Rattle.md_reader.specs.Input.{Input, expect, variable, token, kind_at, place_of, with_variable, next}
use Rattle.md_reader.specs.Rules as rule
use Rattle.md_reader.specs.Grammar as g
use Rattle.md_reader.specs.Grammar.{Is, Sign, Listed, Enclosed}
use Rattle.md_printer.specs.Layout.{Tokens}
use Rattle.md_printer.specs.Printed as print
use Rattle.md_printer.specs.Printed.{single}
use Rattle.md_printer.specs.Lines.{expr_on_line}
use Rattle.md_printer.proofs.Onto.{onto, onto-append, at, Good, greatest, most_bytes, known, few_at}
use Rattle.md_printer.proofs.Moves.{ok_parts, holds, fails, Still, still_to, still_on, sign_still, expect_still, onward, Within, variable_facts, variable_onward, variables_listed, site_onward, operator_still, comparison_still, term_onward, pred_name_facts, pred_name_still}
use Rattle.md_printer.proofs.Takes.{token_fine, sign_takes, expect_takes, token_line, variable_read, variable_name, variable_again, printable, pred_name_takes, site_again, positive_takes, negated_takes, literal_takes}
use Rattle.md_printer.proofs.AgainTypes.{further_is, arguments_are}

-- ---- signs

pub sign_again : (k : Kind) (t : List ℕ) → Reads k t → (i j : Input) → Sign k i j → (n : ℕ) (s : List ℕ) → Sign k (at n (t ++ 32 ∷ s) i) (at n s j)
sign_again k t r i j h n s = subst (λ (m : Input). Sign k (at n (t ++ 32 ∷ s) i) m) ((sign_still k i j h).same n s) (sign_takes k t r n s i)

pub expect_again : (k : Kind) (t : List ℕ) → Reads k t → (line : ℕ) (i j : Input) → Is (expect k) line i j → (n : ℕ) (s : List ℕ) → Is (expect k) n (at n (t ++ 32 ∷ s) i) (at n s j)
expect_again k t r line i j h n s = subst (λ (m : Input). Is (expect k) n (at n (t ++ 32 ∷ s) i) m) ((expect_still k line i j h).same n s) (expect_takes k t r n s i)

-- ---- variables

variable_line : (vs : List (List ℕ)) (seen : List ℕ) (x : ℕ) (i j : Input) → Is (variable seen) x i j → Good i → Within j.vars vs → (n : ℕ) (s : List ℕ) → (token (at n (print.variable vs x ++ 32 ∷ s) i)).line ≡ n
variable_line vs seen x i j h a w n s =
    let f = variable_facts seen x i j h in
    let v : Within (with_variable (token i).text i.vars) vs = subst (λ (j : Input). Within j.vars vs) (sym f.on) w in
    let e : print.variable vs (place_of (token i).text i.vars) ≡ (token i).text = variable_name (token i).text i.vars vs v in
    subst (λ (x : ℕ). (token (at n (print.variable vs x ++ 32 ∷ s) i)).line ≡ n) f.place
    (subst (λ (t : List ℕ). (token (at n (t ++ 32 ∷ s) i)).line ≡ n) (sym e) (token_line kind.Variable (token i).text (variable_read i a f.is_variable) n s i))

abbrev pub named : List (List ℕ) → ℕ → Tokens
named vs = single (print.variable vs)

pub listed_variables : (vs : List (List ℕ)) (xs : List ℕ) (i j : Input) → Listed (Is (variable [])) kind.Comma xs i j → Good i → Within j.vars vs → (n : ℕ) (s : List ℕ)
    → Listed (Is (variable [])) kind.Comma xs (at n (onto (print.variables vs xs) s) i) (at n s j)
listed_variables vs _ _ _ (g.Listed.last x i j h) a w n s = g.Listed.last x (at n (print.variable vs x ++ 32 ∷ s) i) (at n s j) (variable_again vs [] x i j h a w n s)
listed_variables vs _ _ _ (g.Listed.also x xs i j o p h sg l) a w n s =
    let rest : List ℕ = onto (print.variables vs xs) s in
    let wo : Within o.vars vs = (variables_listed xs o p l).names vs w in
    let wj : Within j.vars vs = (onward j o (sign_still kind.Comma j o sg)).names vs wo in
    let go : Good o = (sign_still kind.Comma j o sg).good ((variable_onward [] x i j h).good a) in
    subst (λ (u : List ℕ). Listed (Is (variable [])) kind.Comma (x ∷ xs) (at n (print.variable vs x ++ 32 ∷ u) i) (at n s p)) (sym (further_is (Is (variable [])) kind.Comma (codes ",") (named vs) xs o p l s))
    (g.Listed.also x xs (at n (print.variable vs x ++ 32 ∷ (codes "," ++ 32 ∷ rest)) i) (at n (codes "," ++ 32 ∷ rest) j) (at n rest o) (at n s p)
    (variable_again vs [] x i j h a wj n (codes "," ++ 32 ∷ rest))
    (sign_again kind.Comma (codes ",") spelled.reads_comma j o sg n rest)
    (listed_variables vs xs o p l go w n s))

abbrev pub closed_variables : List (List ℕ) → List ℕ → List ℕ → Tokens
closed_variables vs ct xs = print.variables vs xs ++ ct ∷ []

pub variables_again : (vs : List (List ℕ)) (k : Kind) (ct : List ℕ) → Reads k ct → (before xs : List ℕ) (i j : Input) → g.Variables k before xs i j → Good i → Within j.vars vs → (n : ℕ) (s : List ℕ)
    → g.Variables k before xs (at n (onto (closed_variables vs ct xs) s) i) (at n s j)
variables_again vs k ct r before _ _ _ (g.Variables.variables xs i j (g.Enclosed.enclosed _ _ o _ l few sg) new) a w n s =
    let wo : Within o.vars vs = (onward o j (sign_still k o j sg)).names vs w in
    subst (λ (u : List ℕ). g.Variables k before xs (at n u i) (at n s j)) (sym (onto-append (print.variables vs xs) (ct ∷ []) s))
    (g.Variables.variables xs (at n (onto (print.variables vs xs) (ct ++ 32 ∷ s)) i) (at n s j)
    (g.Enclosed.enclosed xs (at n (onto (print.variables vs xs) (ct ++ 32 ∷ s)) i) (at n (ct ++ 32 ∷ s) o) (at n s j) (listed_variables vs xs i o l a wo n (ct ++ 32 ∷ s)) (few_at (length xs) n (onto (print.variables vs xs) (ct ++ 32 ∷ s)) i i a few) (sign_again k ct r o j sg n s))
    new)

pub variables_are : (vs : List (List ℕ)) (k : Kind) (before xs : List ℕ) (i j : Input) → g.Variables k before xs i j → print.variables_in_parentheses vs xs ≡ codes "(" ∷ closed_variables vs (codes ")") xs
variables_are vs k before _ _ _ (g.Variables.variables xs i j e new) = arguments_are (Is (variable [])) k (named vs) xs i j e

pub arguments_again : (vs : List (List ℕ)) (before xs : List ℕ) (i j : Input) → g.Arguments before xs i j → Good i → Within j.vars vs → (n : ℕ) (s : List ℕ)
    → g.Arguments before xs (at n (onto (print.variables_in_parentheses vs xs) s) i) (at n s j)
arguments_again vs before _ _ _ (g.Arguments.none i) a w n s = g.Arguments.none (at n s i)
arguments_again vs before _ _ _ (g.Arguments.some xs i j k sg v) a w n s =
    let u : List ℕ = onto (closed_variables vs (codes ")") xs) s in
    subst (λ (t : Tokens). g.Arguments before xs (at n (onto t s) i) (at n s k)) (sym (variables_are vs kind.Close before xs j k v))
    (g.Arguments.some xs (at n (codes "(" ++ 32 ∷ u) i) (at n u j) (at n s k)
    (sign_again kind.Open (codes "(") spelled.reads_open i j sg n u)
    (variables_again vs kind.Close (codes ")") spelled.reads_close before xs j k v ((sign_still kind.Open i j sg).good a) w n s))

pub quantified_again : (vs : List (List ℕ)) (xs : List ℕ) (i j : Input) → g.Quantified xs i j → Good i → Within j.vars vs → (n : ℕ) (s : List ℕ)
    → g.Quantified xs (at n (onto (print.variables vs xs) (codes "]" ++ 32 ∷ s)) i) (at n s j)
quantified_again vs _ _ _ (g.Quantified.none i j sg) a w n s = g.Quantified.none (at n (codes "]" ++ 32 ∷ s) i) (at n s j) (sign_again kind.CloseList (codes "]") spelled.reads_close_list i j sg n s)
quantified_again vs _ _ _ (g.Quantified.some xs i j v) a w n s =
    subst (λ (u : List ℕ). g.Quantified xs (at n u i) (at n s j)) (onto-append (print.variables vs xs) (codes "]" ∷ []) s)
    (g.Quantified.some xs (at n (onto (closed_variables vs (codes "]") xs) s) i) (at n s j) (variables_again vs kind.CloseList (codes "]") spelled.reads_close_list [] xs i j v a w n s))

-- ---- names

pred_name_again : (q : PredName) (i j : Input) → Is rule.pred_name q i j → Good i → (n : ℕ) (s : List ℕ) → Is rule.pred_name q (at n (print.written_name q ++ 32 ∷ s) i) (at n s j)
pred_name_again q i j h a n s =
    subst (λ (m : Input). Is rule.pred_name q (at n (print.written_name q ++ 32 ∷ s) i) m) ((pred_name_still q i j h).same n s)
    (pred_name_takes q i (printable q i j (pred_name_facts q i j h) a) n s)

pub name_line : (q : PredName) (i j : Input) → Is rule.pred_name q i j → Good i → (n : ℕ) (s : List ℕ) → (token (at n (print.written_name q ++ 32 ∷ s) i)).line ≡ n
name_line q i j h a n s = let p = printable q i j (pred_name_facts q i j h) a in token_line p.kind_of_name (print.written_name q) p.reads n s i

-- ---- terms

operator_at : (o : Op) (n : ℕ) (s : List ℕ) (i : Input) → g.Operator o (at n (print.operator o ++ 32 ∷ s) i) (at n s i)
operator_at op.Add n s i = g.Operator.operator kind.Plus (at n (codes "+" ++ 32 ∷ s) i) (at n s i) refl (sign_takes kind.Plus (codes "+") spelled.reads_plus n s i)
operator_at op.Sub n s i = g.Operator.operator kind.Minus (at n (codes "-" ++ 32 ∷ s) i) (at n s i) refl (sign_takes kind.Minus (codes "-") spelled.reads_minus n s i)
operator_at op.Mul n s i = g.Operator.operator kind.Times (at n (codes "*" ++ 32 ∷ s) i) (at n s i) refl (sign_takes kind.Times (codes "*") spelled.reads_times n s i)

operator_again : (o : Op) (i j : Input) → g.Operator o i j → (n : ℕ) (s : List ℕ) → g.Operator o (at n (print.operator o ++ 32 ∷ s) i) (at n s j)
operator_again o i j h n s = subst (λ (m : Input). g.Operator o (at n (print.operator o ++ 32 ∷ s) i) m) ((operator_still o i j h).same n s) (operator_at o n s i)

comparison_at : (c : Cmp) (n : ℕ) (s : List ℕ) (i : Input) → g.Comparison c (at n (print.comparison c ++ 32 ∷ s) i) (at n s i)
comparison_at cmp.Lt n s i = g.Comparison.comparison kind.Less (at n (codes "<" ++ 32 ∷ s) i) (at n s i) refl (sign_takes kind.Less (codes "<") spelled.reads_less n s i)
comparison_at cmp.Le n s i = g.Comparison.comparison kind.AtMost (at n (codes "=<" ++ 32 ∷ s) i) (at n s i) refl (sign_takes kind.AtMost (codes "=<") spelled.reads_at_most n s i)
comparison_at cmp.Gt n s i = g.Comparison.comparison kind.Greater (at n (codes ">" ++ 32 ∷ s) i) (at n s i) refl (sign_takes kind.Greater (codes ">") spelled.reads_greater n s i)
comparison_at cmp.Ge n s i = g.Comparison.comparison kind.AtLeast (at n (codes ">=" ++ 32 ∷ s) i) (at n s i) refl (sign_takes kind.AtLeast (codes ">=") spelled.reads_at_least n s i)

comparison_again : (c : Cmp) (i j : Input) → g.Comparison c i j → (n : ℕ) (s : List ℕ) → g.Comparison c (at n (print.comparison c ++ 32 ∷ s) i) (at n s j)
comparison_again c i j h n s = subst (λ (m : Input). g.Comparison c (at n (print.comparison c ++ 32 ∷ s) i) m) ((comparison_still c i j h).same n s) (comparison_at c n s i)

-- what is printed after `X =` is spelled as the same term
record TermAgain (vs : List (List ℕ)) (x : ℕ) (t : GoalExpr) (i j : Input) : Type 0 where
  tokens : Tokens
  here : (inner : Bool) → print.expr_tokens vs inner t ≡ print.variable vs x ∷ codes "=" ∷ tokens
  same : (n : ℕ) → expr_on_line n t ≡ t
  again : (n : ℕ) (s : List ℕ) → g.Term x t (at n (onto tokens s) i) (at n s j)

number_again : (vs : List (List ℕ)) (x m : ℕ) (i j : Input) → nat_lt greatest m ≡ false → Still i j → TermAgain vs x (SimpleGoal (Unifies x (term.Int (pos m)))) i j
number_again vs x m i j small st = record {
  tokens = decimal m ∷ [];
  here = λ inner. refl;
  same = λ n. refl;
  again = λ n s.
      let p = positive_takes x m small n s i in
      g.Term.positive (SimpleGoal (Unifies x (term.Int (pos m)))) (at n (decimal m ++ 32 ∷ s) i) (at n s j) p.0
      (subst (λ (k : Input). Is (rule.positive x) (SimpleGoal (Unifies x (term.Int (pos m)))) (at n (decimal m ++ 32 ∷ s) i) k) (st.same n s) p.1);
}

positive_again : (vs : List (List ℕ)) (x : ℕ) (t : GoalExpr) (i j : Input) → Good i → Is (rule.positive x) t i j → TermAgain vs x t i j
unfolding rule.positive
positive_again vs x t i j good h =
    let a = fails (nat_lt i.limits.integer (number_of (token i).text)) _ _ _ h in
    let b = ok_parts (SimpleGoal (Unifies x (term.Int (pos (number_of (token i).text))))) t (next i) j a.1 in
    subst (λ (t : GoalExpr). TermAgain vs x t i j) b.0 (number_again vs x (number_of (token i).text) i j (known (λ l. l.integer) i good (λ m. nat_lt m (number_of (token i).text) ≡ false) a.0) (still_to i j b.1))

minus_by : (m : ℕ) (b : Bool) → b ≡ true → cond b (negsuc (suc m - 1)) (pos (0 - suc m)) ≡ negsuc m
minus_by m true e = ap negsuc (omega arith)
minus_by m false e = absurd (cc)

minus_suc : (m : ℕ) → rule.minus (suc m) ≡ negsuc m
minus_suc m = minus_by m (nat_lt 0 (suc m)) (grind arith)

minus_again : (vs : List (List ℕ)) (x m : ℕ) (i j k : Input) → Sign kind.Minus i j → nat_lt (suc greatest) m ≡ false → Still j k → TermAgain vs x (SimpleGoal (Unifies x (term.Int (rule.minus m)))) i k
minus_again vs x zero i j k sg small st = number_again vs x 0 i k refl (still_on i j k (sign_still kind.Minus i j sg) st)
minus_again vs x (suc m) i j k sg small st = record {
  tokens = codes "-" ∷ decimal (suc m) ∷ [];
  here = λ inner. ap (λ (z : ℤ). print.variable vs x ∷ codes "=" ∷ print.integer z) (minus_suc m);
  same = λ n. refl;
  again = λ n s.
      let t : GoalExpr = SimpleGoal (Unifies x (term.Int (rule.minus (suc m)))) in
      g.Term.negative t (at n (codes "-" ++ 32 ∷ (decimal (suc m) ++ 32 ∷ s)) i) (at n (decimal (suc m) ++ 32 ∷ s) j) (at n s k)
      (sign_again kind.Minus (codes "-") spelled.reads_minus i j sg n (decimal (suc m) ++ 32 ∷ s))
      (subst (λ (z : Input). Is (rule.negated x) t (at n (decimal (suc m) ++ 32 ∷ s) j) z) (st.same n s) (negated_takes x (suc m) small n s j));
}

negated_again : (vs : List (List ℕ)) (x : ℕ) (t : GoalExpr) (i j k : Input) → Good j → Sign kind.Minus i j → Is (rule.negated x) t j k → TermAgain vs x t i k
unfolding rule.negated
negated_again vs x t i j k good sg h =
    let a = holds _ _ _ _ h in
    let c = fails (nat_lt (suc j.limits.integer) (number_of (token j).text)) _ _ _ a.1 in
    let b = ok_parts (SimpleGoal (Unifies x (term.Int (rule.minus (number_of (token j).text))))) t (next j) k c.1 in
    subst (λ (t : GoalExpr). TermAgain vs x t i k) b.0 (minus_again vs x (number_of (token j).text) i j k sg (known (λ l. l.integer) j good (λ m. nat_lt (suc m) (number_of (token j).text) ≡ false) c.0) (still_to j k b.1))

text_again : (vs : List (List ℕ)) (x : ℕ) (v w : List ℕ) (i j : Input) → Writes v w → nat_lt most_bytes (length v) ≡ false → Still i j → TermAgain vs x (SimpleGoal (Unifies x (term.Str v))) i j
text_again vs x v w i j o short st = record {
  tokens = print.quoted v ∷ [];
  here = λ inner. refl;
  same = λ n. refl;
  again = λ n s.
      let p = literal_takes x v w o short n s i in
      g.Term.literal (SimpleGoal (Unifies x (term.Str v))) (at n (print.quoted v ++ 32 ∷ s) i) (at n s j) p.0
      (subst (λ (k : Input). Is (rule.literal x) (SimpleGoal (Unifies x (term.Str v))) (at n (print.quoted v ++ 32 ∷ s) i) k) (st.same n s) p.1);
}

value_of : (v t : List ℕ) → Writes v (inside t) → string_value t ≡ v
unfolding string_value
value_of v t o = value_written v (inside t) o

literal_again : (vs : List (List ℕ)) (x : ℕ) (t : GoalExpr) (i j : Input) → kind_at i ≡ kind.Text → Is (rule.literal x) t i j → Good i → TermAgain vs x t i j
unfolding rule.literal
literal_again vs x t i j k h good =
    let f = subst (λ (k : Kind). Fine k (token i).text) k (token_fine i good) in
    let a = fails (nat_lt i.limits.bytes (length (string_value (token i).text))) _ _ _ h in
    let b = ok_parts (SimpleGoal (Unifies x (term.Str (string_value (token i).text)))) t (next i) j a.1 in
    let o : Writes (string_value (token i).text) (inside (token i).text) = subst (λ (v : List ℕ). Writes v (inside (token i).text)) (sym (value_of f.0 (token i).text f.1)) f.1 in
    subst (λ (t : GoalExpr). TermAgain vs x t i j) b.0 (text_again vs x (string_value (token i).text) (inside (token i).text) i j o (known (λ l. l.bytes) i good (λ m. nat_lt m (length (string_value (token i).text)) ≡ false) a.0) (still_to i j b.1))

term_again : (vs : List (List ℕ)) (x : ℕ) (t : GoalExpr) (i j : Input) → g.Term x t i j → Good i → Within j.vars vs → TermAgain vs x t i j
term_again vs x _ _ _ (g.Term.same y i j v) a w = record {
  tokens = print.variable vs y ∷ [];
  here = λ inner. refl;
  same = λ n. refl;
  again = λ n s. g.Term.same y (at n (print.variable vs y ++ 32 ∷ s) i) (at n s j) (variable_again vs (x ∷ []) y i j v a w n s);
}
term_again vs x _ _ _ (g.Term.arithmetic y z o i j k m v p q) a w =
    let wk : Within k.vars vs = (variable_onward (x ∷ y ∷ []) z k m q).names vs w in
    let wj : Within j.vars vs = (onward j k (operator_still o j k p)).names vs wk in
    let gk : Good k = (operator_still o j k p).good ((variable_onward (x ∷ []) y i j v).good a) in
    record {
      tokens = print.variable vs y ∷ print.operator o ∷ print.variable vs z ∷ [];
      here = λ inner. refl;
      same = λ n. refl;
      again = λ n s.
          let u1 : List ℕ = print.variable vs z ++ 32 ∷ s in
          let u2 : List ℕ = print.operator o ++ 32 ∷ u1 in
          g.Term.arithmetic y z o (at n (print.variable vs y ++ 32 ∷ u2) i) (at n u2 j) (at n u1 k) (at n s m)
          (variable_again vs (x ∷ []) y i j v a wj n u2)
          (operator_again o j k p n u1)
          (variable_again vs (x ∷ y ∷ []) z k m q gk w n s);
    }
term_again vs x _ _ _ (g.Term.positive t i j e h) a w = positive_again vs x t i j a h
term_again vs x _ _ _ (g.Term.negative t i j k sg h) a w = negated_again vs x t i j k ((sign_still kind.Minus i j sg).good a) sg h
term_again vs x _ _ _ (g.Term.literal t i j e h) a w = literal_again vs x t i j e h a
term_again vs x _ _ _ (g.Term.application f ys i j k nm ar) a w = record {
  tokens = print.applied vs f ys;
  here = λ inner. refl;
  same = λ n. refl;
  again = λ n s.
      let u : List ℕ = onto (print.variables_in_parentheses vs ys) s in
      g.Term.application f ys (at n (print.written_name f ++ 32 ∷ u) i) (at n u j) (at n s k)
      (pred_name_again f i j nm a n u)
      (arguments_again vs (x ∷ []) ys j k ar ((pred_name_still f i j nm).good a) w n s);
}

-- ---- goals without parts

-- what is printed of a goal without parts is spelled as that goal, on the line where it begins
pub record ExprAgain (R : GoalExpr → Input → Input → Type 0) (vs : List (List ℕ)) (t : GoalExpr) (i j : Input) : Type 0 where
  pub flat : (inner : Bool) → print.expr_tokens vs inner t ≡ print.expr_tokens vs true t
  pub same : (n : ℕ) → expr_on_line n t ≡ t
  pub line : (n : ℕ) (s : List ℕ) → (token (at n (onto (print.expr_tokens vs true t) s) i)).line ≡ n
  pub again : (n : ℕ) (s : List ℕ) → R t (at n (onto (print.expr_tokens vs true t) s) i) (at n s j)

pub relation_again : (vs : List (List ℕ)) (t : GoalExpr) (i j : Input) → g.Relation t i j → Good i → Within j.vars vs → ExprAgain g.Relation vs t i j
relation_again vs _ _ _ (g.Relation.unification x t i j k m v sg r) a w =
    let wk : Within k.vars vs = (term_onward x t k m r).names vs w in
    let wj : Within j.vars vs = (onward j k (sign_still kind.Equals j k sg)).names vs wk in
    let gk : Good k = (sign_still kind.Equals j k sg).good ((variable_onward [] x i j v).good a) in
    let q = term_again vs x t k m r gk w in
    record {
      flat = λ inner. q.here inner ∙ sym (q.here true);
      same = q.same;
      line = λ n s. subst (λ (ts : Tokens). (token (at n (onto ts s) i)).line ≡ n) (sym (q.here true)) (variable_line vs [] x i j v a wj n (codes "=" ++ 32 ∷ onto q.tokens s));
      again = λ n s.
          let u : List ℕ = onto q.tokens s in
          subst (λ (ts : Tokens). g.Relation t (at n (onto ts s) i) (at n s m)) (sym (q.here true))
          (g.Relation.unification x t (at n (print.variable vs x ++ 32 ∷ (codes "=" ++ 32 ∷ u)) i) (at n (codes "=" ++ 32 ∷ u) j) (at n u k) (at n s m)
          (variable_again vs [] x i j v a wj n (codes "=" ++ 32 ∷ u))
          (sign_again kind.Equals (codes "=") spelled.reads_equals j k sg n u)
          (q.again n s));
    }
relation_again vs _ _ _ (g.Relation.comparison x y c i j k m v p q) a w =
    let wk : Within k.vars vs = (variable_onward (x ∷ []) y k m q).names vs w in
    let wj : Within j.vars vs = (onward j k (comparison_still c j k p)).names vs wk in
    let gk : Good k = (comparison_still c j k p).good ((variable_onward [] x i j v).good a) in
    record {
      flat = λ inner. refl;
      same = λ n. refl;
      line = λ n s. variable_line vs [] x i j v a wj n (print.comparison c ++ 32 ∷ (print.variable vs y ++ 32 ∷ s));
      again = λ n s.
          let u1 : List ℕ = print.variable vs y ++ 32 ∷ s in
          let u2 : List ℕ = print.comparison c ++ 32 ∷ u1 in
          g.Relation.comparison x y c (at n (print.variable vs x ++ 32 ∷ u2) i) (at n u2 j) (at n u1 k) (at n s m)
          (variable_again vs [] x i j v a wj n u2)
          (comparison_again c j k p n u1)
          (variable_again vs (x ∷ []) y k m q gk w n s);
    }

-- a builtin goal is printed as its name with its variables
record IsBuiltin (vs : List (List ℕ)) (q : PredName) (ys : List ℕ) (t : GoalExpr) : Type 0 where
  tokens : (inner : Bool) → print.expr_tokens vs inner t ≡ print.applied vs q ys
  same : (n : ℕ) → expr_on_line n t ≡ t

chosen_some : {A : Type 0} (b : Bool) (x y : A) (z : Option A) → cond b (Some x) z ≡ Some y → ((b ≡ true) × (x ≡ y)) ⊎ (z ≡ Some y)
chosen_some true x y z h = inl (refl, cc)
chosen_some false x y z h = inr h

and_parts : (a b : Bool) → (a && b) ≡ true → (a ≡ true) × (b ≡ true)
and_parts true b h = (refl, h)
and_parts false b h = absurd (cc)

qualifier_is : (m : List ℕ) (o : Option (List ℕ)) → rule.is_qualified_by m o ≡ true → o ≡ Some m
qualifier_is m None h = absurd (cc)
qualifier_is m (Some n) h = ap Some ((bytes_eq-Decides n m).0 h)

builtin_name : (m p : List ℕ) (q : PredName) → rule.is_builtin m p q ≡ true → q ≡ record { qualifier = Some m; name = p }
builtin_name m p q h =
    let a = and_parts (rule.is_qualified_by m q.qualifier) (bytes_eq q.name p) h in
    let o : q.qualifier ≡ Some m = qualifier_is m q.qualifier a.0 in
    let n : q.name ≡ p = (bytes_eq-Decides q.name p).0 a.1 in
    rw (← o, ← n) refl

none_is : {A : Type 0} (y : A) (X : Type 0) → ◌≡◌ {A = Option A} None (Some y) → X
none_is y X h = absurd (cc)

error_is : (vs : List (List ℕ)) (q : PredName) (x : ℕ) (t : GoalExpr) → rule.is_builtin (codes "require") (codes "error") q ≡ true → SimpleGoal (Raises x) ≡ t → IsBuiltin vs q (x ∷ []) t
error_is vs q x t h e = subst (λ (t : GoalExpr). IsBuiltin vs q (x ∷ []) t) e (subst (λ (q : PredName). IsBuiltin vs q (x ∷ []) (SimpleGoal (Raises x))) (sym (builtin_name (codes "require") (codes "error") q h)) (record { tokens = λ inner. refl; same = λ n. refl }))

nl_is : (vs : List (List ℕ)) (q : PredName) (a b : ℕ) (t : GoalExpr) → rule.is_builtin (codes "io") (codes "nl") q ≡ true → SimpleGoal (EndsLine a b) ≡ t → IsBuiltin vs q (a ∷ b ∷ []) t
nl_is vs q a b t h e = subst (λ (t : GoalExpr). IsBuiltin vs q (a ∷ b ∷ []) t) e (subst (λ (q : PredName). IsBuiltin vs q (a ∷ b ∷ []) (SimpleGoal (EndsLine a b))) (sym (builtin_name (codes "io") (codes "nl") q h)) (record { tokens = λ inner. refl; same = λ n. refl }))

int_is : (vs : List (List ℕ)) (q : PredName) (x a b : ℕ) (t : GoalExpr) → rule.is_builtin (codes "io") (codes "write_int") q ≡ true → SimpleGoal (WritesInt x a b) ≡ t → IsBuiltin vs q (x ∷ a ∷ b ∷ []) t
int_is vs q x a b t h e = subst (λ (t : GoalExpr). IsBuiltin vs q (x ∷ a ∷ b ∷ []) t) e (subst (λ (q : PredName). IsBuiltin vs q (x ∷ a ∷ b ∷ []) (SimpleGoal (WritesInt x a b))) (sym (builtin_name (codes "io") (codes "write_int") q h)) (record { tokens = λ inner. refl; same = λ n. refl }))

text_is : (vs : List (List ℕ)) (q : PredName) (x a b : ℕ) (t : GoalExpr) → rule.is_builtin (codes "io") (codes "write_string") q ≡ true → SimpleGoal (WritesText x a b) ≡ t → IsBuiltin vs q (x ∷ a ∷ b ∷ []) t
text_is vs q x a b t h e = subst (λ (t : GoalExpr). IsBuiltin vs q (x ∷ a ∷ b ∷ []) t) e (subst (λ (q : PredName). IsBuiltin vs q (x ∷ a ∷ b ∷ []) (SimpleGoal (WritesText x a b))) (sym (builtin_name (codes "io") (codes "write_string") q h)) (record { tokens = λ inner. refl; same = λ n. refl }))

builtin_is : (vs : List (List ℕ)) (q : PredName) (ys : List ℕ) (t : GoalExpr) → rule.builtin q ys ≡ Some t → IsBuiltin vs q ys t
builtin_is vs q [] t h = absurd (cc)
builtin_is vs q (x ∷ []) t h =
    elim (chosen_some (rule.is_builtin (codes "require") (codes "error") q) _ t None h) [
      | inl c ↦ error_is vs q x t c.0 c.1
      | inr c ↦ none_is t (IsBuiltin vs q (x ∷ []) t) c
    ]
builtin_is vs q (a ∷ b ∷ []) t h =
    elim (chosen_some (rule.is_builtin (codes "io") (codes "nl") q) _ t None h) [
      | inl c ↦ nl_is vs q a b t c.0 c.1
      | inr c ↦ none_is t (IsBuiltin vs q (a ∷ b ∷ []) t) c
    ]
builtin_is vs q (x ∷ a ∷ b ∷ []) t h =
    elim (chosen_some (rule.is_builtin (codes "io") (codes "write_int") q) _ t _ h) [
      | inl c ↦ int_is vs q x a b t c.0 c.1
      | inr c ↦ elim (chosen_some (rule.is_builtin (codes "io") (codes "write_string") q) _ t None c) [
        | inl d ↦ text_is vs q x a b t d.0 d.1
        | inr d ↦ none_is t (IsBuiltin vs q (x ∷ a ∷ b ∷ []) t) d
      ]
    ]
builtin_is vs q (x ∷ a ∷ b ∷ c ∷ ys) t h = absurd (cc)

pub call_again : (vs : List (List ℕ)) (t : GoalExpr) (i j : Input) → g.Call t i j → Good i → Within j.vars vs → ExprAgain g.Call vs t i j
call_again vs _ _ _ (g.Call.builtin q ys t i j k nm ar e) a w =
    let b = builtin_is vs q ys t e in
    record {
      flat = λ inner. b.tokens inner ∙ sym (b.tokens true);
      same = b.same;
      line = λ n s. subst (λ (ts : Tokens). (token (at n (onto ts s) i)).line ≡ n) (sym (b.tokens true)) (name_line q i j nm a n (onto (print.variables_in_parentheses vs ys) s));
      again = λ n s.
          let u : List ℕ = onto (print.variables_in_parentheses vs ys) s in
          subst (λ (ts : Tokens). g.Call t (at n (onto ts s) i) (at n s k)) (sym (b.tokens true))
          (g.Call.builtin q ys t (at n (print.written_name q ++ 32 ∷ u) i) (at n u j) (at n s k)
          (pred_name_again q i j nm a n u)
          (arguments_again vs [] ys j k ar ((pred_name_still q i j nm).good a) w n s)
          e);
    }
call_again vs _ _ _ (g.Call.call q ys m i j k o nm ar e h) a w =
    let wk : Within k.vars vs = (site_onward m k o h).names vs w in
    record {
      flat = λ inner. refl;
      same = λ n. refl;
      line = λ n s. name_line q i j nm a n (onto (print.variables_in_parentheses vs ys) s);
      again = λ n s.
          let u : List ℕ = onto (print.variables_in_parentheses vs ys) s in
          g.Call.call q ys m (at n (print.written_name q ++ 32 ∷ u) i) (at n u j) (at n s k) (at n s o)
          (pred_name_again q i j nm a n u)
          (arguments_again vs [] ys j k ar ((pred_name_still q i j nm).good a) wk n s)
          e
          (site_again m k o h n s);
    }

pub closure_call_again : (vs : List (List ℕ)) (t : GoalExpr) (i j : Input) → g.ClosureCall t i j → Good i → Within j.vars vs → ExprAgain g.ClosureCall vs t i j
closure_call_again vs _ _ _ (g.ClosureCall.closure_call f ys m i j k o p c sg v h) a w =
    let wo : Within o.vars vs = (site_onward m o p h).names vs w in
    let gk : Good k = (sign_still kind.Open j k sg).good ((sign_still kind.Call i j c).good a) in
    record {
      flat = λ inner. refl;
      same = λ n. refl;
      line = λ n s. token_line kind.Call (codes "call") spelled.reads_call n (onto (print.variables_in_parentheses vs (f ∷ ys)) s) i;
      again = λ n s.
          let u : List ℕ = onto (closed_variables vs (codes ")") (f ∷ ys)) s in
          g.ClosureCall.closure_call f ys m (at n (codes "call" ++ 32 ∷ (codes "(" ++ 32 ∷ u)) i) (at n (codes "(" ++ 32 ∷ u) j) (at n u k) (at n s o) (at n s p)
          (sign_again kind.Call (codes "call") spelled.reads_call i j c n (codes "(" ++ 32 ∷ u))
          (sign_again kind.Open (codes "(") spelled.reads_open j k sg n u)
          (variables_again vs kind.Close (codes ")") spelled.reads_close [] (f ∷ ys) k o v gk wo n s)
          (site_again m o p h n s);
    }
