-- Each goal of a program has a token of its own, and each token a byte: so a text spells fewer goals than it has bytes.
use Rattle.std.specs.Prelude.{codes}
use Rattle.std.proofs.Common.{◌≡◌, refl, ap, ◌∙◌, sym, ℕ, suc, ◌+◌, ◌<◌, ◌≤◌, false, List, [], ◌∷◌, ◌++◌, length, drop, Option, Some, None, Ok, inl, inr, arith}
use Rattle.md_hlds.specs.declared.goal.Cmp.{Cmp}
use Rattle.md_hlds.specs.declared.goal.PredName.{PredName}
use Rattle.md_hlds.specs.HldsGoal.{HldsGoal, At, GoalExpr, gathered, goal_size, parts_size, goals_size}
use Rattle.md_hlds.specs.Hlds.{Hlds, Procedure, goals_before}
use Rattle.md_token.specs.declared.kind.Kind.{Kind}
use Rattle.md_token.specs.declared.kind.Kind.TheVariants as kind
use Rattle.md_token.specs.Kinds.{same_kind}
use Rattle.md_token.specs.Token.{Lexeme, tokens_of}
use Rattle.md_token.proofs.Few.{few_tokens}
use Rattle.md_reader.specs.Input.{Input, first, token, kind_at, next, word, variable, limit, site, end_clause}
use Rattle.md_reader.specs.Rules as rule
use Rattle.md_reader.specs.Grammar as g
use Rattle.md_reader.specs.Grammar.{Is, Sign, sign, Listed, last, also, enclosed, Spells}
use Rattle.md_reader.proofs.Steps.{chosen, ok_input}
use Rattle.md_reader.proofs.SteadyRules.{word_steady, variable_steady, site_steady, end_clause_steady, this_name_steady, term_steady}
use Rattle.md_reader.proofs.SteadyPrograms.{module_name_steady}
use Rattle.md_reader.proofs.Taking.{signed, pred_kinds}
use Rattle.md_reader.proofs.Plain.{IsPlain, relation_plain, builtin_plain}
use Rattle.md_reader.proofs.Complete.{stays, sign_fewer}
use Rattle.md_reader.proofs.CompletePrograms.{pred_fewer, type_fewer}

-- ---- one token or more

taken_fewer : (ts : List Lexeme) → same_kind (first ts).kind kind.Stop ≡ false → length (drop 1 ts) < length ts
unfolding same_kind
taken_fewer [] not_stop = absurd (cc)
taken_fewer (t ∷ ts) not_stop = omega arith

pub next_fewer : (k : Kind) (i j : Input) → kind_at i ≡ k → same_kind k kind.Stop ≡ false → j ≡ next i → length j.rest < length i.rest
unfolding token next
next_fewer k i j is not_stop behind = rw behind (taken_fewer i.rest (ap (λ (x : Kind). same_kind x kind.Stop) is ∙ not_stop))

written_behind : (o : Option rule.Written) (q : PredName) (i j : Input) → rule.take_written o i ≡ Ok (q, j) → j ≡ next i
written_behind None q i j is = absurd (cc)
written_behind (Some w) q i j is =
    elim (chosen (rule.is_long i.limits.items w) (limit i) (Ok (rule.meant i.home w, next i)) (Ok (q, j)) is) [
      | inl l ↦ absurd (let e = l.1 in cc)
      | inr r ↦ sym (ok_input (rule.meant i.home w) q (next i) j r.1)
    ]

-- the name of a predicate is a token that isn't the end
pub pred_name_fewer : (q : PredName) (i j : Input) → Is rule.pred_name q i j → length j.rest < length i.rest
unfolding rule.pred_name same_kind
pred_name_fewer q i j is =
    let behind = written_behind (rule.written (token i)) q i j is in
    elim (pred_kinds q i j is) [ inl name ↦ next_fewer kind.Name i j name refl behind | inr name ↦ next_fewer kind.Qualified i j name refl behind ]

variable_stays : (seen : List ℕ) (x : ℕ) (i j : Input) → Is (variable seen) x i j → length j.rest ≤ length i.rest
variable_stays seen x i j h = stays (variable seen) (variable_steady 0 [] seen) x i j h

comparison_goes : (k : Kind) (c : Cmp) → rule.comparison k ≡ Some c → same_kind kind.Stop k ≡ false
unfolding same_kind
comparison_goes kind.Stop c h = absurd (cc)
comparison_goes _ c h = refl

operator_goes : (k : Kind) (o : _) → rule.operator k ≡ Some o → same_kind kind.Stop k ≡ false
unfolding same_kind
operator_goes kind.Stop o h = absurd (cc)
operator_goes _ o h = refl

-- ---- lists of variables

listed_stays : (between : Kind) → same_kind kind.Stop between ≡ false → (xs : List ℕ) (i j : Input) → Listed (Is (variable [])) between xs i j → length j.rest ≤ length i.rest
listed_stays between stop _ _ _ (last x i j h) = variable_stays [] x i j h
listed_stays between stop _ _ _ (also x xs i j k m h s rest) =
    let a = variable_stays [] x i j h in
    let b = sign_fewer between j k s stop in
    let c = listed_stays between stop xs k m rest in
    omega (arith, a, b, c)

variables_stay : (closing : Kind) → same_kind kind.Stop closing ≡ false → (seen xs : List ℕ) (i j : Input) → g.Variables closing seen xs i j → length j.rest ≤ length i.rest
unfolding same_kind
variables_stay closing stop seen _ _ _ (g.Variables.variables xs i j (enclosed _ _ k _ listed few s) new) =
    let a = listed_stays kind.Comma refl xs i k listed in
    let b = sign_fewer closing k j s stop in
    omega (arith, a, b)

arguments_stay : (seen xs : List ℕ) (i j : Input) → g.Arguments seen xs i j → length j.rest ≤ length i.rest
unfolding same_kind
arguments_stay seen _ _ _ (g.Arguments.none i) = omega arith
arguments_stay seen _ _ _ (g.Arguments.some xs i j k s v) =
    let a = sign_fewer kind.Open i j s refl in
    let b = variables_stay kind.Close refl seen xs j k v in
    omega (arith, a, b)

quantified_stays : (xs : List ℕ) (i j : Input) → g.Quantified xs i j → length j.rest ≤ length i.rest
unfolding same_kind
quantified_stays _ _ _ (g.Quantified.none i j s) = let a = sign_fewer kind.CloseList i j s refl in omega (arith, a)
quantified_stays _ _ _ (g.Quantified.some xs i j v) = variables_stay kind.CloseList refl [] xs i j v

-- ---- goals without goals inside

term_stays : (x : ℕ) (t : GoalExpr) (i j : Input) → g.Term x t i j → length j.rest ≤ length i.rest
term_stays x _ _ _ (g.Term.same y i j v) = variable_stays (x ∷ []) y i j v
term_stays x _ _ _ (g.Term.arithmetic y z o i j k m v (g.Operator.operator kd _ _ e s) w) =
    let a = variable_stays (x ∷ []) y i j v in
    let b = sign_fewer kd j k s (operator_goes kd o e) in
    let c = variable_stays (x ∷ y ∷ []) z k m w in
    omega (arith, a, b, c)
term_stays x _ _ _ (g.Term.positive t i j is h) = stays (rule.term_after x) (term_steady 0 [] x) t i j (rw is h)
term_stays x _ _ _ (g.Term.negative t i j k s h) = stays (rule.term_after x) (term_steady 0 [] x) t i k (let u = signed kind.Minus i j s in rw u.is (rw u.behind at h))
term_stays x _ _ _ (g.Term.literal t i j is h) = stays (rule.term_after x) (term_steady 0 [] x) t i j (rw is h)
term_stays x _ _ _ (g.Term.application f ys i j k n a) =
    let b = pred_name_fewer f i j n in
    let c = arguments_stay (x ∷ []) ys j k a in
    omega (arith, b, c)

relation_fewer : (t : GoalExpr) (i j : Input) → g.Relation t i j → length j.rest < length i.rest
unfolding same_kind
relation_fewer _ _ _ (g.Relation.unification x t i j k m v s r) =
    let a = variable_stays [] x i j v in
    let b = sign_fewer kind.Equals j k s refl in
    let c = term_stays x t k m r in
    omega (arith, a, b, c)
relation_fewer _ _ _ (g.Relation.comparison x y c i j k m v (g.Comparison.comparison kd _ _ e s) w) =
    let a = variable_stays [] x i j v in
    let b = sign_fewer kd j k s (comparison_goes kd c e) in
    let d = variable_stays (x ∷ []) y k m w in
    omega (arith, a, b, d)

site_stays : (s : ℕ) (i j : Input) → Is site s i j → length j.rest ≤ length i.rest
site_stays s i j h = stays site (site_steady 0 []) s i j h

call_fewer : (t : GoalExpr) (i j : Input) → g.Call t i j → length j.rest < length i.rest
call_fewer _ _ _ (g.Call.builtin q ys t i j k n a b) =
    let c = pred_name_fewer q i j n in
    let d = arguments_stay [] ys j k a in
    omega (arith, c, d)
call_fewer _ _ _ (g.Call.call q ys s i j k m n a b w) =
    let c = pred_name_fewer q i j n in
    let d = arguments_stay [] ys j k a in
    let e = site_stays s k m w in
    omega (arith, c, d, e)

closure_call_fewer : (t : GoalExpr) (i j : Input) → g.ClosureCall t i j → length j.rest < length i.rest
unfolding same_kind
closure_call_fewer _ _ _ (g.ClosureCall.closure_call f ys s i j k m n c o v w) =
    let a = sign_fewer kind.Call i j c refl in
    let b = sign_fewer kind.Open j k o refl in
    let d = variables_stay kind.Close refl [] (f ∷ ys) k m v in
    let e = site_stays s m n w in
    omega (arith, a, b, d, e)

-- these have no goals inside

simple_size : (t : GoalExpr) → IsPlain t → parts_size t ≡ 0
simple_size t plain = rw plain.1 refl

call_size : (t : GoalExpr) (i j : Input) → g.Call t i j → parts_size t ≡ 0
call_size _ _ _ (g.Call.builtin q ys t i j k n a b) = simple_size t (builtin_plain q ys t b)
call_size _ _ _ (g.Call.call q ys s i j k m n a b w) = refl

closure_call_size : (t : GoalExpr) (i j : Input) → g.ClosureCall t i j → parts_size t ≡ 0
closure_call_size _ _ _ (g.ClosureCall.closure_call f ys s i j k m n c o v w) = refl

plain_few : (line : ℕ) (t : GoalExpr) (i j : Input) → parts_size t ≡ 0 → length j.rest < length i.rest → length j.rest + goal_size (At line t) ≤ length i.rest
plain_few line t i j e f = omega (arith, e, f)

-- ---- goals

-- units stand with a comma between them, which is the token of their conjunction
record AreFew (ps : List HldsGoal) (i j : Input) : Type 0 where
  some : 0 < length ps
  few : length j.rest + (goals_size (gathered ps) + length ps) ≤ suc (length i.rest)

joined_few : (ps : List HldsGoal) (i j : Input) → AreFew ps i j → length j.rest + goal_size (rule.joined ps) ≤ length i.rest
joined_few [] i j a = let s = a.some in absurd (omega (arith, s))
joined_few (p ∷ []) i j a = let f = a.few in omega (arith, f)
joined_few (p ∷ q ∷ ps) i j a = let f = a.few in omega (arith, f)

mutual
  unfolding same_kind

  goal_few : (room : ℕ) (p : HldsGoal) (i j : Input) → g.Goal room p i j → length j.rest + goal_size p ≤ length i.rest
  goal_few _ _ _ _ (g.Goal.true room line i j h) = let a = sign_fewer kind.True i j (sign line i j h) refl in omega (arith, a)
  goal_few _ _ _ _ (g.Goal.fail room line i j h) = let a = sign_fewer kind.Fail i j (sign line i j h) refl in omega (arith, a)
  goal_few _ _ _ _ (g.Goal.relation room t i j r) = plain_few (token i).line t i j (simple_size t (relation_plain t i j r)) (relation_fewer t i j r)
  goal_few _ _ _ _ (g.Goal.call room t i j c) = plain_few (token i).line t i j (call_size t i j c) (call_fewer t i j c)
  goal_few _ _ _ _ (g.Goal.closure_call room t i j c) = plain_few (token i).line t i j (closure_call_size t i j c) (closure_call_fewer t i j c)
  goal_few _ _ _ _ (g.Goal.parentheses room p i j k m o c s) =
      let a = sign_fewer kind.Open i j o refl in
      let b = conjunction_few room p j k c in
      let d = sign_fewer kind.Close k m s refl in
      omega (arith, a, b, d)
  goal_few _ _ _ _ (g.Goal.disjunction room line p ps i j k m n o h c s arms z) =
      let a = sign_fewer kind.Open i j (sign line i j h) refl in
      let b = conjunction_few room p j k c in
      let d = sign_fewer kind.Semicolon k m s refl in
      let e = arms_few room ps m n arms in
      let f = sign_fewer kind.Close n o z refl in
      omega (arith, a, b, d, e, f)
  goal_few _ _ _ _ (g.Goal.choice room line c t e i j k m n o p q h hc s ht u he v) =
      let a = sign_fewer kind.Open i j (sign line i j h) refl in
      let b = conjunction_few room c j k hc in
      let d = sign_fewer kind.Then k m s refl in
      let f = conjunction_few room t m n ht in
      let l = sign_fewer kind.Semicolon n o u refl in
      let r = conjunction_few room e o p he in
      let w = sign_fewer kind.Close p q v refl in
      omega (arith, a, b, d, f, l, r, w)
  goal_few _ _ _ _ (g.Goal.negation room line c i j k m n h o hc s) =
      let a = sign_fewer kind.Not i j (sign line i j h) refl in
      let b = sign_fewer kind.Open j k o refl in
      let d = conjunction_few room c k m hc in
      let e = sign_fewer kind.Close m n s refl in
      omega (arith, a, b, d, e)
  goal_few _ _ _ _ (g.Goal.quantification room line vs c i j k m n o p h l q s hc u) =
      let a = sign_fewer kind.Some i j (sign line i j h) refl in
      let b = sign_fewer kind.OpenList j k l refl in
      let d = quantified_stays vs k m q in
      let e = sign_fewer kind.Open m n s refl in
      let f = conjunction_few room c n o hc in
      let r = sign_fewer kind.Close o p u refl in
      omega (arith, a, b, d, e, f, r)

  units_few : (room : ℕ) (ps : List HldsGoal) (i j : Input) → g.Units room ps i j → AreFew ps i j
  units_few _ _ _ _ (g.Units.last room p i j h) = let a = goal_few room p i j h in record { some = omega arith; few = omega (arith, a) }
  units_few _ _ _ _ (g.Units.also room p ps i j k m h s rest) =
      let a = goal_few room p i j h in
      let b = sign_fewer kind.Comma j k s refl in
      let c = (units_few room ps k m rest).few in
      record { some = omega arith; few = omega (arith, a, b, c) }

  conjunction_few : (room : ℕ) (p : HldsGoal) (i j : Input) → g.Conjunction room p i j → length j.rest + goal_size p ≤ length i.rest
  conjunction_few _ _ _ _ (g.Conjunction.conjunction room ps i j us) = joined_few ps i j (units_few room ps i j us)

  arms_few : (room : ℕ) (ps : List HldsGoal) (i j : Input) → g.Arms room ps i j → length j.rest + goals_size (gathered ps) ≤ length i.rest
  arms_few _ _ _ _ (g.Arms.last_arm room p i j c) = let a = conjunction_few room p i j c in omega (arith, a)
  arms_few _ _ _ _ (g.Arms.also_arm room p ps i j k m c s rest) =
      let a = conjunction_few room p i j c in
      let b = sign_fewer kind.Semicolon j k s refl in
      let d = arms_few room ps k m rest in
      omega (arith, a, b, d)

-- ---- programs

-- the goals of one clause more
before_push : (ps : List Procedure) (p : Procedure) → goals_before (ps ++ p ∷ []) (length (ps ++ p ∷ [])) ≡ goals_before ps (length ps) + goal_size p.body
before_push [] p = omega arith
before_push (q ∷ ps) p = let e = before_push ps p in omega (arith, e)

head_stays : (arity : ℕ) (xs : List ℕ) (i j : Input) → g.Head arity xs i j → length j.rest ≤ length i.rest
unfolding same_kind
head_stays _ _ _ _ (g.Head.none i) = omega arith
head_stays _ _ _ _ (g.Head.some xs i j k l o listed new c) =
    let a = sign_fewer kind.Open i j o refl in
    let b = listed_stays kind.Comma refl xs j k listed in
    let d = sign_fewer kind.Close k l c refl in
    omega (arith, a, b, d)

clause_few : (q : PredName) (arity : ℕ) (c : rule.Clause) (i j : Input) → g.PredClause q arity c i j → length j.rest + goal_size c.body ≤ length i.rest
unfolding same_kind
clause_few q arity _ _ _ (g.PredClause.pred_clause xs p vs i j k l m n o h head s c z e) =
    let a = stays (rule.this_name q) (this_name_steady 0 [] q) tt i j h in
    let b = head_stays arity xs j k head in
    let d = sign_fewer kind.Declare k l s refl in
    let f = conjunction_few l.limits.goals p l m c in
    let r = sign_fewer kind.End m n z refl in
    let t = stays end_clause (end_clause_steady 0 []) vs n o e in
    omega (arith, a, b, d, f, r, t)

abbrev size : Hlds → ℕ
size l = goals_before l.procedures (length l.procedures)

declared_few : (before' after' : Hlds) (i j : Input) → g.Declared before' after' i j → length j.rest + size after' ≤ length i.rest + size before'
unfolding rule.with_type_definition rule.with_procedure rule.procedure_from same_kind
declared_few before' _ _ _ (g.Declared.type t line i j k h d) =
    let a = sign_fewer kind.Declare i j (sign line i j h) refl in
    let b = type_fewer line t j k d in
    omega (arith, a, b)
declared_few before' _ _ _ (g.Declared.predicate d c line i j k l h p q) =
    let a = sign_fewer kind.Declare i j (sign line i j h) refl in
    let b = pred_fewer d j k p in
    let e = clause_few d.name (length d.args) c k l q in
    let f = before_push before'.procedures (rule.procedure_from line d c) in
    omega (arith, a, b, e, f)

declarations_few : (before' after' : Hlds) (i j : Input) → g.Declarations before' after' i j → length j.rest + size after' ≤ length i.rest + size before'
declarations_few _ _ _ _ (g.Declarations.none l i) = omega arith
declarations_few _ _ _ _ (g.Declarations.also before' l after' i j k d rest) =
    let a = declared_few before' l i j d in
    let b = declarations_few l after' j k rest in
    omega (arith, a, b)

program_few : (l : Hlds) (i j : Input) → g.Program l i j → length j.rest + suc (size l) < length i.rest
unfolding same_kind
program_few _ _ _ (g.Program.program m line at l i j k n o p h w y s rest) =
    let a = sign_fewer kind.Declare i j (sign line i j h) refl in
    let b = stays (word (codes "module")) (word_steady 0 [] (codes "module")) at j k w in
    let c = stays rule.module_name (module_name_steady 0 []) m k n y in
    let d = sign_fewer kind.End n o s refl in
    let e = declarations_few (record { module_name = m; module_line = line; types = []; procedures = [] }) l o p rest in
    omega (arith, a, b, c, d, e)

-- the goals of a program are fewer than the bytes of its text
pub goals_few : (text : List ℕ) (p : Hlds) → Spells text p → goals_before p.procedures (length p.procedures) < length text
goals_few text p t = let a = program_few p (rule.start (tokens_of text)) t.end t.program in let b = few_tokens text in omega (arith, a, b)
