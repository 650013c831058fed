-- What the grammar spells, the rules read: goals.
use Rattle.std.proofs.Common.{◌≡◌, ℕ, zero, suc, ◌≤◌, ◌<◌, List, [], ◌∷◌, ◌++◌, length, refl, true, false, ◌⊎◌, inl, inr, Ok, ap, ◌∙◌, arith, append_assoc}
use Rattle.md_hlds.specs.HldsGoal.{HldsGoal, At, GoalExpr, SimpleGoal, Succeeds, Fails, DisjGoal, IfGoal, NotGoal, SomeGoal, gathered}
use Rattle.md_token.specs.declared.kind.Kind.{Kind}
use Rattle.md_token.specs.declared.kind.Kind.TheVariants as kind
use Rattle.md_token.specs.Kinds.{same_kind}
use Rattle.md_token.specs.Token.{Lexeme}
use Rattle.md_reader.specs.Input.{Input, Parser, ◌>>◌, pure, first, token, kind_at, expect, turns}
use Rattle.md_reader.specs.Rules as rule
use Rattle.md_reader.specs.Grammar as g
use Rattle.md_reader.specs.Grammar.{Is, Sign, sign}
use Rattle.md_reader.proofs.Goals.{conjunction_is}
use Rattle.md_reader.proofs.SteadyGoals.{unit_steady, within_steady, conjunction_steady}
use Rattle.md_reader.proofs.Taking.{signed, expected, expected_line, shut, eats, passes, unlike, variable_kind, pred_kinds}
use Rattle.md_reader.proofs.Complete.{stays, sign_fewer, ends_goal, ends_conjunction, quantified_complete, relation_complete, call_complete, closure_call_complete}

-- ---- goals of one token and of one line

plain_true : (room line : ℕ) (inner : Parser HldsGoal) (i j : Input) → Is (expect kind.True) line i j → rule.unit room inner i ≡ Ok (At line (SimpleGoal Succeeds), j)
unfolding rule.unit
plain_true room line inner i j h = let t = expected kind.True line i j h in rw (t.is, expected_line kind.True line i j h) (rw t.behind refl)

plain_fail : (room line : ℕ) (inner : Parser HldsGoal) (i j : Input) → Is (expect kind.Fail) line i j → rule.unit room inner i ≡ Ok (At line (SimpleGoal Fails), j)
unfolding rule.unit
plain_fail room line inner i j h = let t = expected kind.Fail line i j h in rw (t.is, expected_line kind.Fail line i j h) (rw t.behind refl)

relation_first : (t : GoalExpr) (i j : Input) → g.Relation t i j → kind_at i ≡ kind.Variable
relation_first _ _ _ (g.Relation.unification x t i j k m v s r) = variable_kind [] x i j v
relation_first _ _ _ (g.Relation.comparison x y c i j k m v p w) = variable_kind [] x i j v

related : (room : ℕ) (inner : Parser HldsGoal) (t : GoalExpr) (i j : Input) → g.Relation t i j → ends_goal (kind_at j) ≡ true → rule.unit room inner i ≡ Ok (At (token i).line t, j)
unfolding rule.unit
related room inner t i j r e = rw (relation_first t i j r, relation_complete t i j r e) refl

call_first : (t : GoalExpr) (i j : Input) → g.Call t i j → (kind_at i ≡ kind.Name) ⊎ (kind_at i ≡ kind.Qualified)
call_first _ _ _ (g.Call.builtin q ys t i j k n a b) = pred_kinds q i j n
call_first _ _ _ (g.Call.call q ys s i j k m n a b w) = pred_kinds q i j n

called_by : (room : ℕ) (inner : Parser HldsGoal) (t : GoalExpr) (i j : Input) → (kind_at i ≡ kind.Name) ⊎ (kind_at i ≡ kind.Qualified) → rule.call i ≡ Ok (t, j) → rule.unit room inner i ≡ Ok (At (token i).line t, j)
unfolding rule.unit
called_by room inner t i j (inl e) h = rw (e, h) refl
called_by room inner t i j (inr e) h = rw (e, h) refl

closure_first : (t : GoalExpr) (i j : Input) → g.ClosureCall t i j → kind_at i ≡ kind.Call
closure_first _ _ _ (g.ClosureCall.closure_call f ys s i j k m n c o v w) = (signed kind.Call i j c).is

applied : (room : ℕ) (inner : Parser HldsGoal) (t : GoalExpr) (i j : Input) → g.ClosureCall t i j → rule.unit room inner i ≡ Ok (At (token i).line t, j)
unfolding rule.unit
applied room inner t i j c = rw (closure_first t i j c, closure_call_complete t i j c) refl

-- ---- goals with goals inside

-- what stands behind a conjunction
ended : (k : Kind) (i j : Input) → Sign k i j → ends_conjunction k ≡ true → ends_conjunction (kind_at i) ≡ true
ended k i j s e = rw (signed k i j s).is e

abbrev Opened : (room : ℕ) → HldsGoal → Input → Input → Type 0
Opened room p i j = rule.unit (suc room) (rule.within (suc room)) i ≡ Ok (p, j)

parenthesized : (room : ℕ) (p : HldsGoal) (i j k m : Input) → Sign kind.Open i j → rule.conjunction room j ≡ Ok (p, k) → Sign kind.Close k m → Opened room p i m
unfolding rule.unit rule.within rule.group rule.open_goal
parenthesized room p _ _ k m (sign line i j h) c s =
    let t = signed kind.Close k m s in
    rw ((expected kind.Open line i j h).is, h, c, t.is) (rw t.behind refl)

disjoined : (room line : ℕ) (p : HldsGoal) (ps : List HldsGoal) (i j k m o : Input) → Is (expect kind.Open) line i j → rule.conjunction room j ≡ Ok (p, k) → Sign kind.Semicolon k m → rule.arms_from (rule.conjunction room) (turns m) (p ∷ []) m ≡ Ok (p ∷ ps, o) → Opened room (At line (DisjGoal (gathered (p ∷ ps)))) i o
unfolding rule.unit rule.within rule.group rule.open_goal rule.disjunction rule.arms
disjoined room line p ps i j _ _ o h c (sign at k m s) a = rw ((expected kind.Open line i j h).is, h, c, (expected kind.Semicolon at k m s).is, s, a) refl

decided : (room line : ℕ) (c t e : HldsGoal) (i j k m n o p q : Input) → Is (expect kind.Open) line i j → rule.conjunction room j ≡ Ok (c, k) → Sign kind.Then k m → rule.conjunction room m ≡ Ok (t, n) → Sign kind.Semicolon n o → rule.conjunction room o ≡ Ok (e, p) → Sign kind.Close p q → Opened room (At line (IfGoal c t e)) i q
unfolding rule.unit rule.within rule.group rule.open_goal rule.choice rule.branches
decided room line c t e i j _ _ _ _ _ _ h hc (sign a k m s) ht (sign b n o u) he (sign d p q v) = rw ((expected kind.Open line i j h).is, h, hc, (expected kind.Then a k m s).is, s, ht, u, he, v) refl

negated : (room line : ℕ) (c : HldsGoal) (i j k m n : Input) → Is (expect kind.Not) line i j → Sign kind.Open j k → rule.conjunction room k ≡ Ok (c, m) → Sign kind.Close m n → Opened room (At line (NotGoal c)) i n
unfolding rule.unit rule.within rule.negation rule.open_goal
negated room line c i _ _ _ _ h (sign a j k o) hc (sign b m n s) = rw ((expected kind.Not line i j h).is, h, o, hc, s) refl

quantified : (room line : ℕ) (vs : List ℕ) (c : HldsGoal) (i j k m n o p : Input) → Is (expect kind.Some) line i j → Sign kind.OpenList j k → g.Quantified vs k m → Sign kind.Open m n → rule.conjunction room n ≡ Ok (c, o) → Sign kind.Close o p → Opened room (At line (SomeGoal vs c)) i p
unfolding rule.unit rule.within rule.quantification rule.open_goal
quantified room line vs c i _ _ _ _ _ _ h (sign a j k l) q (sign b m n s) hc (sign d o p u) = rw ((expected kind.Some line i j h).is, h, l, quantified_complete vs k m q, s, hc, u) refl

-- ---- lists of goals

left_by : (ts : List Lexeme) → ends_conjunction (first ts).kind ≡ true → 0 < length ts
left_by [] e = absurd (cc)
left_by (t ∷ ts) e = omega arith

some_left : (i : Input) → ends_conjunction (kind_at i) ≡ true → 0 < length i.rest
unfolding token
some_left i e = left_by i.rest e

goal_ended : (k : Kind) → ends_conjunction k ≡ true → ends_goal k ≡ true
goal_ended kind.Comma e = refl
goal_ended k e = e

no_comma : (k : Kind) → ends_conjunction k ≡ true → same_kind k kind.Comma ≡ false
unfolding same_kind
no_comma kind.Semicolon e = refl
no_comma kind.Then e = refl
no_comma kind.Close e = refl
no_comma kind.End e = refl
no_comma _ e = absurd (cc)

unit_stays : (room : ℕ) (p : HldsGoal) (i j : Input) → rule.unit room (rule.within room) i ≡ Ok (p, j) → length j.rest ≤ length i.rest
unit_stays room p i j h = stays (rule.unit room (rule.within room)) (unit_steady 0 [] room (rule.within room) (within_steady 0 [] room)) p i j h

conjunction_stays : (room : ℕ) (p : HldsGoal) (i j : Input) → rule.conjunction room i ≡ Ok (p, j) → length j.rest ≤ length i.rest
conjunction_stays room p i j h = stays (rule.conjunction room) (conjunction_steady 0 [] room) p i j h

units_last : (room n : ℕ) (found : List HldsGoal) (p : HldsGoal) (i j : Input) → rule.unit room (rule.within room) i ≡ Ok (p, j) → ends_conjunction (kind_at j) ≡ true → length i.rest ≤ n → rule.units_from room (rule.within room) n found i ≡ Ok (found ++ p ∷ [], j)
unfolding rule.units_from
units_last room zero found p i j h e few = let a = unit_stays room p i j h in let b = some_left j e in absurd (omega (arith, a, b, few))
units_last room (suc n) found p i j h e few = rw h (passes kind.Comma (rule.units_from room (rule.within room) n (found ++ p ∷ [])) (pure (found ++ p ∷ [])) j (unlike (kind_at j) kind.Comma j refl (no_comma (kind_at j) e)))

units_also : (room n : ℕ) (found : List HldsGoal) (p : HldsGoal) (ps : List HldsGoal) (i j k m : Input) → rule.unit room (rule.within room) i ≡ Ok (p, j) → Sign kind.Comma j k
    → ((l : ℕ) → length k.rest ≤ l → rule.units_from room (rule.within room) l (found ++ p ∷ []) k ≡ Ok ((found ++ p ∷ []) ++ ps, m)) → length i.rest ≤ n
    → rule.units_from room (rule.within room) n found i ≡ Ok (found ++ p ∷ ps, m)
unfolding rule.units_from same_kind
units_also room zero found p ps i j k m h s rest few = let a = unit_stays room p i j h in let b = sign_fewer kind.Comma j k s refl in absurd (omega (arith, a, b, few))
units_also room (suc n) found p ps i j k m h s rest few =
    let a = unit_stays room p i j h in
    let b = sign_fewer kind.Comma j k s refl in
    rw h (eats kind.Comma (rule.units_from room (rule.within room) n (found ++ p ∷ [])) (pure (found ++ p ∷ [])) j k s ∙ (rest n (omega (arith, a, b, few)) ∙ ap (λ (qs : List HldsGoal). Ok (qs, m)) (append_assoc found (p ∷ []) ps)))

arms_last : (room n : ℕ) (found : List HldsGoal) (p : HldsGoal) (i k j : Input) → rule.conjunction room i ≡ Ok (p, k) → Sign kind.Close k j → length i.rest ≤ n → rule.arms_from (rule.conjunction room) n found i ≡ Ok (found ++ p ∷ [], j)
unfolding rule.arms_from same_kind
arms_last room zero found p i k j h s few = let a = conjunction_stays room p i k h in let b = sign_fewer kind.Close k j s refl in absurd (omega (arith, a, b, few))
arms_last room (suc n) found p i k j h s few =
    rw h (passes kind.Semicolon (rule.arms_from (rule.conjunction room) n (found ++ p ∷ [])) (expect kind.Close >> pure (found ++ p ∷ [])) k (unlike kind.Close kind.Semicolon k (signed kind.Close k j s).is refl) ∙ shut kind.Close (found ++ p ∷ []) k j s)

arms_also : (room n : ℕ) (found : List HldsGoal) (p : HldsGoal) (ps : List HldsGoal) (i j k m : Input) → rule.conjunction room i ≡ Ok (p, j) → Sign kind.Semicolon j k
    → ((l : ℕ) → length k.rest ≤ l → rule.arms_from (rule.conjunction room) l (found ++ p ∷ []) k ≡ Ok ((found ++ p ∷ []) ++ ps, m)) → length i.rest ≤ n
    → rule.arms_from (rule.conjunction room) n found i ≡ Ok (found ++ p ∷ ps, m)
unfolding rule.arms_from same_kind
arms_also room zero found p ps i j k m h s rest few = let a = conjunction_stays room p i j h in let b = sign_fewer kind.Semicolon j k s refl in absurd (omega (arith, a, b, few))
arms_also room (suc n) found p ps i j k m h s rest few =
    let a = conjunction_stays room p i j h in
    let b = sign_fewer kind.Semicolon j k s refl in
    rw h (eats kind.Semicolon (rule.arms_from (rule.conjunction room) n (found ++ p ∷ [])) (expect kind.Close >> pure (found ++ p ∷ [])) j k s ∙ (rest n (omega (arith, a, b, few)) ∙ ap (λ (qs : List HldsGoal). Ok (qs, m)) (append_assoc found (p ∷ []) ps)))

conjoined : (room : ℕ) (ps : List HldsGoal) (i j : Input) → rule.units_from room (rule.within room) (turns i) [] i ≡ Ok (ps, j) → rule.conjunction room i ≡ Ok (rule.joined ps, j)
unfolding rule.units
conjoined room ps i j h = conjunction_is room i ∙ rw h refl

-- ---- all goals

mutual
  pub goal_complete : (room : ℕ) (p : HldsGoal) (i j : Input) → g.Goal room p i j → ends_goal (kind_at j) ≡ true → rule.unit room (rule.within room) i ≡ Ok (p, j)
  goal_complete _ _ _ _ (g.Goal.true room line i j h) e = plain_true room line (rule.within room) i j h
  goal_complete _ _ _ _ (g.Goal.fail room line i j h) e = plain_fail room line (rule.within room) i j h
  goal_complete _ _ _ _ (g.Goal.relation room t i j r) e = related room (rule.within room) t i j r e
  goal_complete _ _ _ _ (g.Goal.call room t i j c) e = called_by room (rule.within room) t i j (call_first t i j c) (call_complete t i j c e)
  goal_complete _ _ _ _ (g.Goal.closure_call room t i j c) e = applied room (rule.within room) t i j c
  goal_complete _ _ _ _ (g.Goal.parentheses room p i j k m o c s) e = parenthesized room p i j k m o (conjunction_complete room p j k c (ended kind.Close k m s refl)) s
  goal_complete _ _ _ _ (g.Goal.disjunction room line p ps i j k m n o h c s as' z) e = disjoined room line p ps i j k m o h (conjunction_complete room p j k c (ended kind.Semicolon k m s refl)) s (arms_complete room ps m n as' o (turns m) (p ∷ []) z (omega arith))
  goal_complete _ _ _ _ (g.Goal.choice room line c t e' i j k m n o p q h hc s ht u he v) e = decided room line c t e' i j k m n o p q h (conjunction_complete room c j k hc (ended kind.Then k m s refl)) s (conjunction_complete room t m n ht (ended kind.Semicolon n o u refl)) u (conjunction_complete room e' o p he (ended kind.Close p q v refl)) v
  goal_complete _ _ _ _ (g.Goal.negation room line c i j k m n h o hc s) e = negated room line c i j k m n h o (conjunction_complete room c k m hc (ended kind.Close m n s refl)) s
  goal_complete _ _ _ _ (g.Goal.quantification room line vs c i j k m n o p h l q s hc u) e = quantified room line vs c i j k m n o p h l q s (conjunction_complete room c n o hc (ended kind.Close o p u refl)) u

  units_complete : (room : ℕ) (ps : List HldsGoal) (i j : Input) → g.Units room ps i j → ends_conjunction (kind_at j) ≡ true → (n : ℕ) (found : List HldsGoal) → length i.rest ≤ n → rule.units_from room (rule.within room) n found i ≡ Ok (found ++ ps, j)
  units_complete _ _ _ _ (g.Units.last room p i j h) e n found few = units_last room n found p i j (goal_complete room p i j h (goal_ended (kind_at j) e)) e few
  units_complete _ _ _ _ (g.Units.also room p ps i j k m h s rest) e n found few = units_also room n found p ps i j k m (goal_complete room p i j h (rw (signed kind.Comma j k s).is refl)) s (λ l f. units_complete room ps k m rest e l (found ++ p ∷ []) f) few

  pub conjunction_complete : (room : ℕ) (p : HldsGoal) (i j : Input) → g.Conjunction room p i j → ends_conjunction (kind_at j) ≡ true → rule.conjunction room i ≡ Ok (p, j)
  conjunction_complete _ _ _ _ (g.Conjunction.conjunction room ps i j us) e = conjoined room ps i j (units_complete room ps i j us e (turns i) [] (omega arith))

  arms_complete : (room : ℕ) (ps : List HldsGoal) (i k : Input) → g.Arms room ps i k → (j : Input) (n : ℕ) (found : List HldsGoal) → Sign kind.Close k j → length i.rest ≤ n → rule.arms_from (rule.conjunction room) n found i ≡ Ok (found ++ ps, j)
  arms_complete _ _ _ _ (g.Arms.last_arm room p i k c) j n found s few = arms_last room n found p i k j (conjunction_complete room p i k c (ended kind.Close k j s refl)) s few
  arms_complete _ _ _ _ (g.Arms.also_arm room p ps i k m o c u rest) j n found s few = arms_also room n found p ps i k m j (conjunction_complete room p i k c (ended kind.Semicolon k m u refl)) u (λ l f. arms_complete room ps m o rest j l (found ++ p ∷ []) s f) few
