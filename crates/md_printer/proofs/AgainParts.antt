-- Printed goals with parts are spelled by the grammar as they were.
use Rattle.std.specs.Prelude.{codes}
use Rattle.std.proofs.Common.{◌≡◌, ℕ, zero, suc, ◌≤◌, Bool, true, false, List, [], ◌∷◌, ◌++◌, map, refl, ap, sym, ◌∙◌, subst, arith}
use Rattle.md_hlds.specs.HldsGoal.{HldsGoal, At, HldsGoals, also, GoalExpr, SimpleGoal, ConjGoal, DisjGoal, IfGoal, NotGoal, SomeGoal, gathered, Succeeds, Fails}
use Rattle.md_token.specs.declared.kind.Kind.TheVariants as kind
use Rattle.md_token.proofs.Spelled as spelled
use Rattle.md_reader.specs.Input.{Input, token, expect}
use Rattle.md_reader.specs.Rules as rule
use Rattle.md_reader.specs.Grammar as g
use Rattle.md_printer.specs.Layout.{Tokens, in_parentheses}
use Rattle.md_printer.specs.Printed as print
use Rattle.md_printer.specs.Lines.{on_line, goals_on_line}
use Rattle.md_printer.proofs.Onto.{onto, onto-append, at, Good}
use Rattle.md_printer.proofs.Moves.{Still, sign_still, expect_still, onward, Within, quantified_onward, goal_onward, units_onward, conjunction_onward, arms_onward}
use Rattle.md_printer.proofs.AgainGoals.{sign_again, expect_again, quantified_again, ExprAgain, relation_again, call_again, closure_call_again}

-- ---- lists of parts on one line

line_of_on_line : (n : ℕ) (p : HldsGoal) → rule.line_of (on_line n p) ≡ n
line_of_on_line n (At line t) = refl

gathered_on_line : (n : ℕ) (ps : List HldsGoal) → gathered (map (on_line n) ps) ≡ goals_on_line n (gathered ps)
gathered_on_line n [] = refl
gathered_on_line n (p ∷ ps) = ap (also (on_line n p)) (gathered_on_line n ps)

joined_on_line : (n : ℕ) (p q : HldsGoal) (ps : List HldsGoal) → rule.joined (on_line n p ∷ on_line n q ∷ map (on_line n) ps) ≡ on_line n (rule.joined (p ∷ q ∷ ps))
joined_on_line n p q ps =
    ap (λ (l : ℕ). At l (ConjGoal (gathered (on_line n p ∷ on_line n q ∷ map (on_line n) ps)))) (line_of_on_line n p)
    ∙ ap (λ (qs : HldsGoals). At n (ConjGoal (also (on_line n p) (also (on_line n q) qs)))) (gathered_on_line n ps)

record IsLonger (ps : List HldsGoal) : Type 0 where
  head : HldsGoal
  tail : List HldsGoal
  whole : ps ≡ head ∷ tail

units_longer : (room : ℕ) (ps : List HldsGoal) (i j : Input) → g.Units room ps i j → IsLonger ps
units_longer _ _ _ _ (g.Units.last room p i j h) = record { head = p; tail = []; whole = refl }
units_longer _ _ _ _ (g.Units.also room p ps i j k m h sg r) = record { head = p; tail = ps; whole = refl }

arms_longer : (room : ℕ) (ps : List HldsGoal) (i j : Input) → g.Arms room ps i j → IsLonger ps
arms_longer _ _ _ _ (g.Arms.last_arm room p i j h) = record { head = p; tail = []; whole = refl }
arms_longer _ _ _ _ (g.Arms.also_arm room p ps i j k m h sg r) = record { head = p; tail = ps; whole = refl }

further_goals_are : (vs : List (List ℕ)) (inner : Bool) (sign : List ℕ) (ps : List HldsGoal) → IsLonger ps → (s : List ℕ)
    → onto (print.further_goals vs inner sign (gathered ps)) s ≡ sign ++ 32 ∷ onto (print.goals_tokens vs inner sign (gathered ps)) s
further_goals_are vs inner sign ps l s = subst (λ (ps : List HldsGoal). onto (print.further_goals vs inner sign (gathered ps)) s ≡ sign ++ 32 ∷ onto (print.goals_tokens vs inner sign (gathered ps)) s) (sym l.whole) refl

-- two or more parts
joined_again : (vs : List (List ℕ)) (r n : ℕ) (p q : HldsGoal) (ps : List HldsGoal) (s : List ℕ) (i j : Input)
    → g.Units r (on_line n p ∷ on_line n q ∷ map (on_line n) ps) (at n (onto (print.goals_tokens vs true (codes ",") (gathered (p ∷ q ∷ ps))) s) i) (at n s j)
    → g.Conjunction r (on_line n (rule.joined (p ∷ q ∷ ps))) (at n (onto (print.goal_tokens vs false (rule.joined (p ∷ q ∷ ps))) s) i) (at n s j)
joined_again vs r n p q ps s i j u =
    subst (λ (t : HldsGoal). g.Conjunction r t (at n (onto (print.goal_tokens vs false (rule.joined (p ∷ q ∷ ps))) s) i) (at n s j)) (joined_on_line n p q ps)
    (g.Conjunction.conjunction r (on_line n p ∷ on_line n q ∷ map (on_line n) ps) (at n (onto (print.goals_tokens vs true (codes ",") (gathered (p ∷ q ∷ ps))) s) i) (at n s j) u)

-- the conjunction of these units, by them
longer_again : (vs : List (List ℕ)) (r n : ℕ) (p : HldsGoal) (ps : List HldsGoal) → IsLonger ps → (s : List ℕ) (i j : Input)
    → g.Units r (on_line n p ∷ map (on_line n) ps) (at n (onto (print.goals_tokens vs true (codes ",") (gathered (p ∷ ps))) s) i) (at n s j)
    → g.Conjunction r (on_line n (rule.joined (p ∷ ps))) (at n (onto (print.goal_tokens vs false (rule.joined (p ∷ ps))) s) i) (at n s j)
longer_again vs r n p ps l s i j =
    subst (λ (ps : List HldsGoal). g.Units r (on_line n p ∷ map (on_line n) ps) (at n (onto (print.goals_tokens vs true (codes ",") (gathered (p ∷ ps))) s) i) (at n s j)
    → g.Conjunction r (on_line n (rule.joined (p ∷ ps))) (at n (onto (print.goal_tokens vs false (rule.joined (p ∷ ps))) s) i) (at n s j)) (sym l.whole)
    (joined_again vs r n p l.head l.tail s i j)

-- it stands in parentheses where it is a part of a conjunction
parenthesised : (vs : List (List ℕ)) (p : HldsGoal) (ps : List HldsGoal) → IsLonger ps → print.goal_tokens vs true (rule.joined (p ∷ ps)) ≡ codes "(" ∷ (print.goal_tokens vs false (rule.joined (p ∷ ps)) ++ codes ")" ∷ [])
parenthesised vs p ps l = subst (λ (ps : List HldsGoal). print.goal_tokens vs true (rule.joined (p ∷ ps)) ≡ codes "(" ∷ (print.goal_tokens vs false (rule.joined (p ∷ ps)) ++ codes ")" ∷ [])) (sym l.whole) refl

-- ---- goals

-- what is printed of a goal is spelled as it, where it is a part of a conjunction and where it isn't
pub record GoalAgain (vs : List (List ℕ)) (r : ℕ) (p : HldsGoal) (i j : Input) : Type 0 where
  pub unit : (n : ℕ) (s : List ℕ) → g.Goal r (on_line n p) (at n (onto (print.goal_tokens vs true p) s) i) (at n s j)
  pub body : (n : ℕ) (s : List ℕ) → g.Conjunction r (on_line n p) (at n (onto (print.goal_tokens vs false p) s) i) (at n s j)

abbrev pub BodyAgain : List (List ℕ) → ℕ → HldsGoal → Input → Input → Type 0
BodyAgain vs r p i j = (n : ℕ) (s : List ℕ) → g.Conjunction r (on_line n p) (at n (onto (print.goal_tokens vs false p) s) i) (at n s j)

-- a goal that is no conjunction
by_unit : (vs : List (List ℕ)) (r : ℕ) (p : HldsGoal) (i j : Input) → print.goal_tokens vs false p ≡ print.goal_tokens vs true p
    → ((n : ℕ) (s : List ℕ) → g.Goal r (on_line n p) (at n (onto (print.goal_tokens vs true p) s) i) (at n s j)) → GoalAgain vs r p i j
by_unit vs r p i j e u = record {
  unit = u;
  body = λ n s.
      subst (λ (ts : Tokens). g.Conjunction r (on_line n p) (at n (onto ts s) i) (at n s j)) (sym e)
      (g.Conjunction.conjunction r (on_line n p ∷ []) (at n (onto (print.goal_tokens vs true p) s) i) (at n s j) (g.Units.last r (on_line n p) (at n (onto (print.goal_tokens vs true p) s) i) (at n s j) (u n s)));
}

of_expr : (R : GoalExpr → Input → Input → Type 0) (vs : List (List ℕ)) (r : ℕ) (line : ℕ) (t : GoalExpr) (i j : Input)
    → ((t : GoalExpr) (i j : Input) → R t i j → g.Goal r (At (token i).line t) i j) → ExprAgain R vs t i j → GoalAgain vs r (At line t) i j
of_expr R vs r line t i j goal a =
    by_unit vs r (At line t) i j (a.flat false) (λ n s.
    let k : Input = at n (onto (print.expr_tokens vs true t) s) i in
    subst (λ (u : GoalExpr). g.Goal r (At n u) k (at n s j)) (sym (a.same n))
    (subst (λ (l : ℕ). g.Goal r (At l t) k (at n s j)) (a.line n s) (goal t k (at n s j) (a.again n s))))

-- the same between other inputs in the same states
moved_goal : (vs : List (List ℕ)) (r : ℕ) (p : HldsGoal) (i j k m : Input) → Still i j → Still k m → GoalAgain vs r p j k → GoalAgain vs r p i m
moved_goal vs r p i j k m a b q = record {
  unit = λ n s.
      subst (λ (z : Input). g.Goal r (on_line n p) z (at n s m)) (sym (a.same n (onto (print.goal_tokens vs true p) s)))
      (subst (λ (z : Input). g.Goal r (on_line n p) (at n (onto (print.goal_tokens vs true p) s) j) z) (b.same n s) (q.unit n s));
  body = λ n s.
      subst (λ (z : Input). g.Conjunction r (on_line n p) z (at n s m)) (sym (a.same n (onto (print.goal_tokens vs false p) s)))
      (subst (λ (z : Input). g.Conjunction r (on_line n p) (at n (onto (print.goal_tokens vs false p) s) j) z) (b.same n s) (q.body n s));
}

-- a conjunction of two or more in parentheses
in_brackets : (vs : List (List ℕ)) (r : ℕ) (p : HldsGoal) (i j k m : Input) → g.Sign kind.Open i j → g.Sign kind.Close k m
    → print.goal_tokens vs true p ≡ codes "(" ∷ (print.goal_tokens vs false p ++ codes ")" ∷ []) → BodyAgain vs r p j k → BodyAgain vs (suc r) p j k → GoalAgain vs (suc r) p i m
in_brackets vs r p i j k m o z e inside whole = record {
  unit = λ n s.
      let u : List ℕ = codes ")" ++ 32 ∷ s in
      let w : List ℕ = onto (print.goal_tokens vs false p) u in
      subst (λ (ts : Tokens). g.Goal (suc r) (on_line n p) (at n (onto ts s) i) (at n s m)) (sym e)
      (subst (λ (v : List ℕ). g.Goal (suc r) (on_line n p) (at n (codes "(" ++ 32 ∷ v) i) (at n s m)) (sym (onto-append (print.goal_tokens vs false p) (codes ")" ∷ []) s))
      (g.Goal.parentheses r (on_line n p) (at n (codes "(" ++ 32 ∷ w) i) (at n w j) (at n u k) (at n s m)
      (sign_again kind.Open (codes "(") spelled.reads_open i j o n w)
      (inside n u)
      (sign_again kind.Close (codes ")") spelled.reads_close k m z n s)));
  body = λ n s.
      subst (λ (z : Input). g.Conjunction (suc r) (on_line n p) z (at n s m)) (sym ((sign_still kind.Open i j o).same n (onto (print.goal_tokens vs false p) s)))
      (subst (λ (z : Input). g.Conjunction (suc r) (on_line n p) (at n (onto (print.goal_tokens vs false p) s) j) z) ((sign_still kind.Close k m z).same n s) (whole n s));
}

-- one unit more
more_units : (vs : List (List ℕ)) (r n : ℕ) (p : HldsGoal) (ps : List HldsGoal) (s : List ℕ) (i x y j : Input) → IsLonger ps → GoalAgain vs r p i x → g.Sign kind.Comma x y
    → g.Units r (map (on_line n) ps) (at n (onto (print.goals_tokens vs true (codes ",") (gathered ps)) s) y) (at n s j)
    → g.Units r (on_line n p ∷ map (on_line n) ps) (at n (onto (print.goals_tokens vs true (codes ",") (gathered (p ∷ ps))) s) i) (at n s j)
more_units vs r n p ps s i x y j l h sg us =
    let u : List ℕ = onto (print.goals_tokens vs true (codes ",") (gathered ps)) s in
    subst (λ (v : List ℕ). g.Units r (on_line n p ∷ map (on_line n) ps) (at n v i) (at n s j))
    (sym (onto-append (print.goal_tokens vs true p) (print.further_goals vs true (codes ",") (gathered ps)) s ∙ ap (onto (print.goal_tokens vs true p)) (further_goals_are vs true (codes ",") ps l s)))
    (g.Units.also r (on_line n p) (map (on_line n) ps) (at n (onto (print.goal_tokens vs true p) (codes "," ++ 32 ∷ u)) i) (at n (codes "," ++ 32 ∷ u) x) (at n u y) (at n s j)
    (h.unit n (codes "," ++ 32 ∷ u))
    (sign_again kind.Comma (codes ",") spelled.reads_comma x y sg n u)
    us)

choice_onto : (c t e : Tokens) (s : List ℕ)
    → onto (print.choice_tokens c t e) s ≡ codes "(" ++ 32 ∷ onto c (codes "->" ++ 32 ∷ onto t (codes ";" ++ 32 ∷ onto e (codes ")" ++ 32 ∷ s)))
choice_onto c t e s =
    ap (λ (u : List ℕ). codes "(" ++ 32 ∷ u)
    (onto-append (c ++ codes "->" ∷ (t ++ codes ";" ∷ e)) (codes ")" ∷ []) s
    ∙ onto-append c (codes "->" ∷ (t ++ codes ";" ∷ e)) (codes ")" ++ 32 ∷ s)
    ∙ ap (λ (u : List ℕ). onto c (codes "->" ++ 32 ∷ u)) (onto-append t (codes ";" ∷ e) (codes ")" ++ 32 ∷ s)))

quantified_onto : (v c : Tokens) (s : List ℕ)
    → onto (print.quantified_tokens v c) s ≡ codes "some" ++ 32 ∷ (codes "[" ++ 32 ∷ onto v (codes "]" ++ 32 ∷ (codes "(" ++ 32 ∷ onto c (codes ")" ++ 32 ∷ s))))
quantified_onto v c s =
    ap (λ (u : List ℕ). codes "some" ++ 32 ∷ (codes "[" ++ 32 ∷ u))
    (onto-append v (codes "]" ∷ in_parentheses c) s
    ∙ ap (λ (u : List ℕ). onto v (codes "]" ++ 32 ∷ (codes "(" ++ 32 ∷ u))) (onto-append c (codes ")" ∷ []) s))

either_onto : (vs : List (List ℕ)) (p : HldsGoal) (ps : List HldsGoal) → IsLonger ps → (s : List ℕ)
    → onto (in_parentheses (print.goals_tokens vs false (codes ";") (gathered (p ∷ ps)))) s
    ≡ codes "(" ++ 32 ∷ onto (print.goal_tokens vs false p) (codes ";" ++ 32 ∷ onto (print.goals_tokens vs false (codes ";") (gathered ps)) (codes ")" ++ 32 ∷ s))
either_onto vs p ps l s =
    ap (λ (u : List ℕ). codes "(" ++ 32 ∷ u)
    (onto-append (print.goal_tokens vs false p ++ print.further_goals vs false (codes ";") (gathered ps)) (codes ")" ∷ []) s
    ∙ onto-append (print.goal_tokens vs false p) (print.further_goals vs false (codes ";") (gathered ps)) (codes ")" ++ 32 ∷ s)
    ∙ ap (onto (print.goal_tokens vs false p)) (further_goals_are vs false (codes ";") ps l (codes ")" ++ 32 ∷ s)))

disjunction_again : (vs : List (List ℕ)) (r line : ℕ) (p : HldsGoal) (ps : List HldsGoal) (i j k m n o : Input) → IsLonger ps → g.Is (expect kind.Open) line i j → BodyAgain vs r p j k → g.Sign kind.Semicolon k m
    → ((l : ℕ) (s : List ℕ) → g.Arms r (map (on_line l) ps) (at l (onto (print.goals_tokens vs false (codes ";") (gathered ps)) s) m) (at l s n)) → g.Sign kind.Close n o
    → GoalAgain vs (suc r) (At line (DisjGoal (gathered (p ∷ ps)))) i o
disjunction_again vs r line p ps i j k m n o longer e first sg rest z =
    by_unit vs (suc r) (At line (DisjGoal (gathered (p ∷ ps)))) i o refl (λ l s.
    let u1 : List ℕ = codes ")" ++ 32 ∷ s in
    let u2 : List ℕ = onto (print.goals_tokens vs false (codes ";") (gathered ps)) u1 in
    let u3 : List ℕ = codes ";" ++ 32 ∷ u2 in
    let u4 : List ℕ = onto (print.goal_tokens vs false p) u3 in
    subst (λ (u : List ℕ). g.Goal (suc r) (At l (DisjGoal (also (on_line l p) (goals_on_line l (gathered ps))))) (at l u i) (at l s o)) (sym (either_onto vs p ps longer s))
    (subst (λ (qs : HldsGoals). g.Goal (suc r) (At l (DisjGoal (also (on_line l p) qs))) (at l (codes "(" ++ 32 ∷ u4) i) (at l s o)) (gathered_on_line l ps)
    (g.Goal.disjunction r l (on_line l p) (map (on_line l) ps) (at l (codes "(" ++ 32 ∷ u4) i) (at l u4 j) (at l u3 k) (at l u2 m) (at l u1 n) (at l s o)
    (expect_again kind.Open (codes "(") spelled.reads_open line i j e l u4)
    (first l u3)
    (sign_again kind.Semicolon (codes ";") spelled.reads_semicolon k m sg l u2)
    (rest l u1)
    (sign_again kind.Close (codes ")") spelled.reads_close n o z l s))))

mutual
  pub goal_again : (vs : List (List ℕ)) (room : ℕ) (p : HldsGoal) (i j : Input) → g.Goal room p i j → (r : ℕ) → room ≤ r → Good i → Within j.vars vs → GoalAgain vs r p i j
  goal_again vs _ _ _ _ (g.Goal.true room line i j e) r le a w =
      by_unit vs r (At line (SimpleGoal Succeeds)) i j refl (λ n s. g.Goal.true r n (at n (codes "true" ++ 32 ∷ s) i) (at n s j) (expect_again kind.True (codes "true") spelled.reads_true line i j e n s))
  goal_again vs _ _ _ _ (g.Goal.fail room line i j e) r le a w =
      by_unit vs r (At line (SimpleGoal Fails)) i j refl (λ n s. g.Goal.fail r n (at n (codes "fail" ++ 32 ∷ s) i) (at n s j) (expect_again kind.Fail (codes "fail") spelled.reads_fail line i j e n s))
  goal_again vs _ _ _ _ (g.Goal.relation room t i j h) r le a w = of_expr g.Relation vs r (token i).line t i j (λ t i j h. g.Goal.relation r t i j h) (relation_again vs t i j h a w)
  goal_again vs _ _ _ _ (g.Goal.call room t i j h) r le a w = of_expr g.Call vs r (token i).line t i j (λ t i j h. g.Goal.call r t i j h) (call_again vs t i j h a w)
  goal_again vs _ _ _ _ (g.Goal.closure_call room t i j h) r le a w = of_expr g.ClosureCall vs r (token i).line t i j (λ t i j h. g.Goal.closure_call r t i j h) (closure_call_again vs t i j h a w)
  goal_again vs _ _ _ _ (g.Goal.parentheses room _ i j k m o (g.Conjunction.conjunction _ _ _ _ (g.Units.last _ p _ _ h)) z) r le a w =
      moved_goal vs r p i j k m (sign_still kind.Open i j o) (sign_still kind.Close k m z)
      (goal_again vs room p j k h r (omega arith) ((sign_still kind.Open i j o).good a) ((onward k m (sign_still kind.Close k m z)).names vs w))
  goal_again vs _ _ _ _ (g.Goal.parentheses room _ i j k m o (g.Conjunction.conjunction _ _ _ _ (g.Units.also _ p ps _ x y _ h sg us)) z) zero le a w = absurd (omega arith)
  goal_again vs _ _ _ _ (g.Goal.parentheses room _ i j k m o (g.Conjunction.conjunction _ _ _ _ (g.Units.also _ p ps _ x y _ h sg us)) z) (suc r) le a w =
      let gj : Good j = (sign_still kind.Open i j o).good a in
      let wk : Within k.vars vs = (onward k m (sign_still kind.Close k m z)).names vs w in
      let wy : Within y.vars vs = (units_onward room ps y k us).names vs wk in
      let wx : Within x.vars vs = (onward x y (sign_still kind.Comma x y sg)).names vs wy in
      let gy : Good y = (sign_still kind.Comma x y sg).good ((goal_onward room p j x h).good gj) in
      let l = units_longer room ps y k us in
      in_brackets vs r (rule.joined (p ∷ ps)) i j k m o z (parenthesised vs p ps l)
      (λ n s. longer_again vs r n p ps l s j k (more_units vs r n p ps s j x y k l (goal_again vs room p j x h r (omega arith) gj wx) sg (units_again vs room ps y k us r (omega arith) gy wk n s)))
      (λ n s. longer_again vs (suc r) n p ps l s j k (more_units vs (suc r) n p ps s j x y k l (goal_again vs room p j x h (suc r) (omega arith) gj wx) sg (units_again vs room ps y k us (suc r) (omega arith) gy wk n s)))
  goal_again vs _ _ _ _ (g.Goal.disjunction room line p ps i j k m n o e c sg rest z) zero le a w = absurd (omega arith)
  goal_again vs _ _ _ _ (g.Goal.disjunction room line p ps i j k m n o e c sg rest z) (suc r) le a w =
      let wn : Within n.vars vs = (onward n o (sign_still kind.Close n o z)).names vs w in
      let wm : Within m.vars vs = (arms_onward room ps m n rest).names vs wn in
      let wk : Within k.vars vs = (onward k m (sign_still kind.Semicolon k m sg)).names vs wm in
      let gj : Good j = (expect_still kind.Open line i j e).good a in
      let gm : Good m = (sign_still kind.Semicolon k m sg).good ((conjunction_onward room p j k c).good gj) in
      disjunction_again vs r line p ps i j k m n o (arms_longer room ps m n rest) e (body_again vs room p j k c r (omega arith) gj wk) sg (arms_again vs room ps m n rest r (omega arith) gm wn) z
  goal_again vs _ _ _ _ (g.Goal.choice room line c t e i j k m n o p q a b d f h l z) zero le good w = absurd (omega arith)
  goal_again vs _ _ _ _ (g.Goal.choice room line c t e i j k m n o p q a b d f h l z) (suc r) le good w =
      let wp : Within p.vars vs = (onward p q (sign_still kind.Close p q z)).names vs w in
      let wo : Within o.vars vs = (conjunction_onward room e o p l).names vs wp in
      let wn : Within n.vars vs = (onward n o (sign_still kind.Semicolon n o h)).names vs wo in
      let wm : Within m.vars vs = (conjunction_onward room t m n f).names vs wn in
      let wk : Within k.vars vs = (onward k m (sign_still kind.Then k m d)).names vs wm in
      let gj : Good j = (expect_still kind.Open line i j a).good good in
      let gm : Good m = (sign_still kind.Then k m d).good ((conjunction_onward room c j k b).good gj) in
      let go : Good o = (sign_still kind.Semicolon n o h).good ((conjunction_onward room t m n f).good gm) in
      let bc = body_again vs room c j k b r (omega arith) gj wk in
      let bt = body_again vs room t m n f r (omega arith) gm wn in
      let be = body_again vs room e o p l r (omega arith) go wp in
      by_unit vs (suc r) (At line (IfGoal c t e)) i q refl (λ x s.
      let u1 : List ℕ = codes ")" ++ 32 ∷ s in
      let u2 : List ℕ = onto (print.goal_tokens vs false e) u1 in
      let u3 : List ℕ = codes ";" ++ 32 ∷ u2 in
      let u4 : List ℕ = onto (print.goal_tokens vs false t) u3 in
      let u5 : List ℕ = codes "->" ++ 32 ∷ u4 in
      let u6 : List ℕ = onto (print.goal_tokens vs false c) u5 in
      subst (λ (u : List ℕ). g.Goal (suc r) (At x (IfGoal (on_line x c) (on_line x t) (on_line x e))) (at x u i) (at x s q)) (sym (choice_onto (print.goal_tokens vs false c) (print.goal_tokens vs false t) (print.goal_tokens vs false e) s))
      (g.Goal.choice r x (on_line x c) (on_line x t) (on_line x e) (at x (codes "(" ++ 32 ∷ u6) i) (at x u6 j) (at x u5 k) (at x u4 m) (at x u3 n) (at x u2 o) (at x u1 p) (at x s q)
      (expect_again kind.Open (codes "(") spelled.reads_open line i j a x u6)
      (bc x u5)
      (sign_again kind.Then (codes "->") spelled.reads_then k m d x u4)
      (bt x u3)
      (sign_again kind.Semicolon (codes ";") spelled.reads_semicolon n o h x u2)
      (be x u1)
      (sign_again kind.Close (codes ")") spelled.reads_close p q z x s)))
  goal_again vs _ _ _ _ (g.Goal.negation room line c i j k m n a o b z) zero le good w = absurd (omega arith)
  goal_again vs _ _ _ _ (g.Goal.negation room line c i j k m n a o b z) (suc r) le good w =
      let wm : Within m.vars vs = (onward m n (sign_still kind.Close m n z)).names vs w in
      let gk : Good k = (sign_still kind.Open j k o).good ((expect_still kind.Not line i j a).good good) in
      let bc = body_again vs room c k m b r (omega arith) gk wm in
      by_unit vs (suc r) (At line (NotGoal c)) i n refl (λ x s.
      let u1 : List ℕ = codes ")" ++ 32 ∷ s in
      let u2 : List ℕ = onto (print.goal_tokens vs false c) u1 in
      let u3 : List ℕ = codes "(" ++ 32 ∷ u2 in
      subst (λ (u : List ℕ). g.Goal (suc r) (At x (NotGoal (on_line x c))) (at x (codes "not" ++ 32 ∷ (codes "(" ++ 32 ∷ u)) i) (at x s n)) (sym (onto-append (print.goal_tokens vs false c) (codes ")" ∷ []) s))
      (g.Goal.negation r x (on_line x c) (at x (codes "not" ++ 32 ∷ u3) i) (at x u3 j) (at x u2 k) (at x u1 m) (at x s n)
      (expect_again kind.Not (codes "not") spelled.reads_not line i j a x u3)
      (sign_again kind.Open (codes "(") spelled.reads_open j k o x u2)
      (bc x u1)
      (sign_again kind.Close (codes ")") spelled.reads_close m n z x s)))
  goal_again vs _ _ _ _ (g.Goal.quantification room line xs c i j k m n o p a b v d e z) zero le good w = absurd (omega arith)
  goal_again vs _ _ _ _ (g.Goal.quantification room line xs c i j k m n o p a b v d e z) (suc r) le good w =
      let wo : Within o.vars vs = (onward o p (sign_still kind.Close o p z)).names vs w in
      let wn : Within n.vars vs = (conjunction_onward room c n o e).names vs wo in
      let wm : Within m.vars vs = (onward m n (sign_still kind.Open m n d)).names vs wn in
      let gk : Good k = (sign_still kind.OpenList j k b).good ((expect_still kind.Some line i j a).good good) in
      let gn : Good n = (sign_still kind.Open m n d).good ((quantified_onward xs k m v).good gk) in
      let bc = body_again vs room c n o e r (omega arith) gn wo in
      by_unit vs (suc r) (At line (SomeGoal xs c)) i p refl (λ x s.
      let u1 : List ℕ = codes ")" ++ 32 ∷ s in
      let u2 : List ℕ = onto (print.goal_tokens vs false c) u1 in
      let u3 : List ℕ = codes "(" ++ 32 ∷ u2 in
      let u4 : List ℕ = onto (print.variables vs xs) (codes "]" ++ 32 ∷ u3) in
      let u5 : List ℕ = codes "[" ++ 32 ∷ u4 in
      subst (λ (u : List ℕ). g.Goal (suc r) (At x (SomeGoal xs (on_line x c))) (at x u i) (at x s p)) (sym (quantified_onto (print.variables vs xs) (print.goal_tokens vs false c) s))
      (g.Goal.quantification r x xs (on_line x c) (at x (codes "some" ++ 32 ∷ u5) i) (at x u5 j) (at x u4 k) (at x u3 m) (at x u2 n) (at x u1 o) (at x s p)
      (expect_again kind.Some (codes "some") spelled.reads_some line i j a x u5)
      (sign_again kind.OpenList (codes "[") spelled.reads_open_list j k b x u4)
      (quantified_again vs xs k m v gk wm x u3)
      (sign_again kind.Open (codes "(") spelled.reads_open m n d x u2)
      (bc x u1)
      (sign_again kind.Close (codes ")") spelled.reads_close o p z x s)))

  units_again : (vs : List (List ℕ)) (room : ℕ) (ps : List HldsGoal) (i j : Input) → g.Units room ps i j → (r : ℕ) → room ≤ r → Good i → Within j.vars vs → (n : ℕ) (s : List ℕ)
      → g.Units r (map (on_line n) ps) (at n (onto (print.goals_tokens vs true (codes ",") (gathered ps)) s) i) (at n s j)
  units_again vs _ _ _ _ (g.Units.last room p i j h) r le a w n s =
      subst (λ (u : List ℕ). g.Units r (on_line n p ∷ []) (at n u i) (at n s j)) (sym (onto-append (print.goal_tokens vs true p) [] s))
      (g.Units.last r (on_line n p) (at n (onto (print.goal_tokens vs true p) s) i) (at n s j) ((goal_again vs room p i j h r le a w).unit n s))
  units_again vs _ _ _ _ (g.Units.also room p ps i x y j h sg us) r le a w n s =
      let wy : Within y.vars vs = (units_onward room ps y j us).names vs w in
      let wx : Within x.vars vs = (onward x y (sign_still kind.Comma x y sg)).names vs wy in
      let gy : Good y = (sign_still kind.Comma x y sg).good ((goal_onward room p i x h).good a) in
      more_units vs r n p ps s i x y j (units_longer room ps y j us) (goal_again vs room p i x h r le a wx) sg (units_again vs room ps y j us r le gy w n s)

  pub body_again : (vs : List (List ℕ)) (room : ℕ) (p : HldsGoal) (i j : Input) → g.Conjunction room p i j → (r : ℕ) → room ≤ r → Good i → Within j.vars vs → BodyAgain vs r p i j
  body_again vs _ _ _ _ (g.Conjunction.conjunction room _ i j (g.Units.last _ p _ _ h)) r le a w = (goal_again vs room p i j h r le a w).body
  body_again vs _ _ _ _ (g.Conjunction.conjunction room _ i j (g.Units.also _ p ps _ x y _ h sg us)) r le a w =
      let wy : Within y.vars vs = (units_onward room ps y j us).names vs w in
      let wx : Within x.vars vs = (onward x y (sign_still kind.Comma x y sg)).names vs wy in
      let gy : Good y = (sign_still kind.Comma x y sg).good ((goal_onward room p i x h).good a) in
      let l = units_longer room ps y j us in
      (λ n s. longer_again vs r n p ps l s i j (more_units vs r n p ps s i x y j l (goal_again vs room p i x h r le a wx) sg (units_again vs room ps y j us r le gy w n s)))

  arms_again : (vs : List (List ℕ)) (room : ℕ) (ps : List HldsGoal) (i j : Input) → g.Arms room ps i j → (r : ℕ) → room ≤ r → Good i → Within j.vars vs → (n : ℕ) (s : List ℕ)
      → g.Arms r (map (on_line n) ps) (at n (onto (print.goals_tokens vs false (codes ";") (gathered ps)) s) i) (at n s j)
  arms_again vs _ _ _ _ (g.Arms.last_arm room p i j h) r le a w n s =
      subst (λ (u : List ℕ). g.Arms r (on_line n p ∷ []) (at n u i) (at n s j)) (sym (onto-append (print.goal_tokens vs false p) [] s))
      (g.Arms.last_arm r (on_line n p) (at n (onto (print.goal_tokens vs false p) s) i) (at n s j) (body_again vs room p i j h r le a w n s))
  arms_again vs _ _ _ _ (g.Arms.also_arm room p ps i x y j h sg us) r le a w n s =
      let wy : Within y.vars vs = (arms_onward room ps y j us).names vs w in
      let wx : Within x.vars vs = (onward x y (sign_still kind.Semicolon x y sg)).names vs wy in
      let gy : Good y = (sign_still kind.Semicolon x y sg).good ((conjunction_onward room p i x h).good a) in
      let u : List ℕ = onto (print.goals_tokens vs false (codes ";") (gathered ps)) s in
      subst (λ (v : List ℕ). g.Arms r (on_line n p ∷ map (on_line n) ps) (at n v i) (at n s j))
      (sym (onto-append (print.goal_tokens vs false p) (print.further_goals vs false (codes ";") (gathered ps)) s ∙ ap (onto (print.goal_tokens vs false p)) (further_goals_are vs false (codes ";") ps (arms_longer room ps y j us) s)))
      (g.Arms.also_arm r (on_line n p) (map (on_line n) ps) (at n (onto (print.goal_tokens vs false p) (codes ";" ++ 32 ∷ u)) i) (at n (codes ";" ++ 32 ∷ u) x) (at n u y) (at n s j)
      (body_again vs room p i x h r le a wx n (codes ";" ++ 32 ∷ u))
      (sign_again kind.Semicolon (codes ";") spelled.reads_semicolon x y sg n u)
      (arms_again vs room ps y j us r le gy w n s))
