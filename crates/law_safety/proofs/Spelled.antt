-- What the grammar gives of a program: the variables of a goal without parts differ, a head has a variable for each
-- argument, and no name is declared twice.
use Rattle.std.proofs.Common.{◌≡◌, refl, sym, ap, ◌∙◌, subst, arith, ℕ, zero, suc, ◌<◌, ◌==◌, Bool, true, false, not, cond, nat_eq, nat_lt, List, [], ◌∷◌, ◌++◌, length, Option, Some, None, Ok, Err, Result, slice_get, codes}
use Rattle.std.proofs.lemmas.Bool.{or_parts, ne_eqb, eq-eqb, cond-false, false≢true}
use Rattle.std.specs.List.{list_any}
use Rattle.std.specs.Prelude.{⊤}
use Rattle.md_hlds.specs.declared.goal.PredName.{PredName}
use Rattle.md_hlds.specs.HldsGoal.{HldsGoal, GoalExpr, SimpleGoal, gathered, WritesInt, WritesText, EndsLine, Raises}
use Rattle.md_hlds.specs.Hlds.{Procedure, Hlds}
use Rattle.md_token.specs.declared.kind.Kind.{Kind}
use Rattle.md_token.specs.declared.kind.Kind.TheVariants as kind
use Rattle.md_reader.specs.Input.{Input, variable, sees, token, place_of}
use Rattle.md_reader.specs.Rules as rule
use Rattle.md_reader.specs.Grammar as grammar
use Rattle.md_reader.specs.Grammar.{Is, AreNew, Variables, variables, Arguments, none, some, Term, same, arithmetic, positive, negative, literal, application, Relation, unification, comparison, Call, builtin, call, ClosureCall, closure_call, Goal, relation, parentheses, disjunction, choice, negation, quantification, Units, last, Conjunction, conjunction, Arms, last_arm, also_arm, Head, PredClause, pred_clause, Declared, type, predicate, Declarations, Program, program, Spells}
use Rattle.md_inst.specs.Instantiation.{times}
use Rattle.md_modes.proofs.Counts.{times-append}
use Rattle.law_safety.specs.Turns.{AreDistinct, IsTidy, IsTidyExpr, AreTidy}
use Rattle.law_safety.proofs.Handing.{first_times}

-- ---- variables that differ

other_first : (x y : ℕ) (ys : List ℕ) → (x ≡ y → ⊥) → times x (y ∷ ys) ≡ times x ys
other_first x y ys other = cond-false (nat_eq x y) (suc (times x ys)) (times x ys) (ne_eqb x y other)

not_equal : (x y : ℕ) → (y == x) ≡ false → x ≡ y → ⊥
not_equal x y h e = false≢true (sym h ∙ eq-eqb y x (sym e))

new_times : (x : ℕ) (seen : List ℕ) → list_any (λ y. y == x) seen ≡ false → times x seen ≡ 0
new_times x [] h = refl
new_times x (y ∷ ys) h =
    let both = or_parts (y == x) (list_any (λ y. y == x) ys) h in
    other_first x y ys (not_equal x y both.0) ∙ new_times x ys both.1

pub new_distinct : (before xs : List ℕ) → AreNew before xs → AreDistinct xs × ((y : ℕ) → 0 < times y before → times y xs ≡ 0)
new_distinct before [] h = (tt, λ y there. refl)
new_distinct before (x ∷ xs) h =
    let rest = new_distinct (before ++ x ∷ []) xs h.1 in
    let here : times x before ≡ 0 = new_times x before h.0 in (
      (rest.1 x (let a = times-append x before (x ∷ []) in let b = first_times x [] in omega (arith, a, b)), rest.0),
      λ y there. other_first y x xs (λ e. let gone : times y before ≡ 0 = ap (λ (z : ℕ). times z before) e ∙ here in omega (arith, gone, there))
          ∙ rest.1 y (let a = times-append y before (x ∷ []) in omega (arith, a, there)),
    )

distinct : (xs : List ℕ) → AreNew [] xs → AreDistinct xs
distinct xs h = (new_distinct [] xs h).0

three : {R E : Type 0} (a b c : Bool) (u v w : E) (z x : R) → cond a (Err u) (cond b (Err v) (cond c (Err w) (Ok z))) ≡ Ok x → (b ≡ false) × (z ≡ x)
three true b c u v w z x h = absurd (cc h)
three false true c u v w z x h = absurd (cc h)
three false false true u v w z x h = absurd (cc h)
three false false false u v w z x h = (refl, cc h)

variable_new : (seen : List ℕ) (x : ℕ) (i j : Input) → Is (variable seen) x i j → list_any (λ y. y == x) seen ≡ false
unfolding variable
variable_new seen x i j h =
    let p = three (not (sees kind.Variable i)) (list_any (λ y. y == place_of (token i).text i.vars) seen) (nat_lt i.limits.items (length (token i).text)) _ _ _ _ _ h in
    let e : place_of (token i).text i.vars ≡ x = ap (λ (w : ℕ × Input). w.0) p.1 in
    subst (λ (z : ℕ). list_any (λ y. y == z) seen ≡ false) e p.0

variables_new : (closing : Kind) (before xs : List ℕ) (i j : Input) → Variables closing before xs i j → AreNew before xs
variables_new closing before _ _ _ (variables xs i j list new) = new

arguments_new : (before xs : List ℕ) (i j : Input) → Arguments before xs i j → AreNew before xs
arguments_new before _ _ _ (none i) = tt
arguments_new before _ _ _ (some xs i j k mark vs) = variables_new kind.Close before xs j k vs

-- ---- goals without parts

one_if : {R E : Type 0} (b : Bool) (u : E) (z x : R) → cond b (Err u) (Ok z) ≡ Ok x → z ≡ x
one_if true u z x h = absurd (cc h)
one_if false u z x h = cc h

other_if : {R E : Type 0} (b : Bool) (u : E) (v : Result R E) (x : R) → cond b v (Err u) ≡ Ok x → v ≡ Ok x
other_if true u v x h = h
other_if false u v x h = absurd (cc h)

positive_tidy : (x : ℕ) (t : GoalExpr) (i j : Input) → Is (rule.positive x) t i j → IsTidyExpr t
unfolding rule.positive
positive_tidy x t i j h = subst IsTidyExpr (ap (λ (w : GoalExpr × Input). w.0) (one_if _ _ _ _ h)) tt

negative_tidy : (x : ℕ) (t : GoalExpr) (i j : Input) → Is (rule.negated x) t i j → IsTidyExpr t
unfolding rule.negated
negative_tidy x t i j h = subst IsTidyExpr (ap (λ (w : GoalExpr × Input). w.0) (one_if _ _ _ _ (other_if (sees kind.Integer i) _ _ _ h))) tt

literal_tidy : (x : ℕ) (t : GoalExpr) (i j : Input) → Is (rule.literal x) t i j → IsTidyExpr t
unfolding rule.literal
literal_tidy x t i j h = subst IsTidyExpr (ap (λ (w : GoalExpr × Input). w.0) (one_if _ _ _ _ h)) tt

term_tidy : (x : ℕ) (t : GoalExpr) (i j : Input) → Term x t i j → IsTidyExpr t
term_tidy x _ _ _ (same y i j is) = tt
term_tidy x _ _ _ (arithmetic y z o i j k m first mark second) =
    distinct (x ∷ y ∷ z ∷ []) (refl, (variable_new (x ∷ []) y i j first, (variable_new (x ∷ y ∷ []) z k m second, tt)))
term_tidy x _ _ _ (positive t i j at is) = positive_tidy x t i j is
term_tidy x _ _ _ (negative t i j k mark is) = negative_tidy x t j k is
term_tidy x _ _ _ (literal t i j at is) = literal_tidy x t i j is
term_tidy x _ _ _ (application f ys i j k name args) = (new_distinct (x ∷ []) ys (arguments_new (x ∷ []) ys j k args)).0

relation_tidy : (t : GoalExpr) (i j : Input) → Relation t i j → IsTidyExpr t
relation_tidy _ _ _ (unification x t i j k m is mark rest) = term_tidy x t k m rest
relation_tidy _ _ _ (comparison x y c i j k m first mark second) = distinct (x ∷ y ∷ []) (refl, (variable_new (x ∷ []) y k m second, tt))

some_if : (b : Bool) (t u : GoalExpr) (o : Option GoalExpr) → IsTidyExpr u → (o ≡ Some t → IsTidyExpr t) → cond b (Some u) o ≡ Some t → IsTidyExpr t
some_if true t u o h g e = let is : u ≡ t = cc e in subst IsTidyExpr is h
some_if false t u o h g e = g e

builtin_tidy : (q : PredName) (ys : List ℕ) (t : GoalExpr) → AreDistinct ys → rule.builtin q ys ≡ Some t → IsTidyExpr t
builtin_tidy q [] t d h = absurd (cc h)
builtin_tidy q (x ∷ []) t d h = some_if (rule.is_builtin (codes "require") (codes "error") q) t (SimpleGoal (Raises x)) None tt (λ e. absurd (cc e)) h
builtin_tidy q (a ∷ b ∷ []) t d h = some_if (rule.is_builtin (codes "io") (codes "nl") q) t (SimpleGoal (EndsLine a b)) None d (λ e. absurd (cc e)) h
builtin_tidy q (x ∷ a ∷ b ∷ []) t d h =
    some_if (rule.is_builtin (codes "io") (codes "write_int") q) t (SimpleGoal (WritesInt x a b))
    (cond (rule.is_builtin (codes "io") (codes "write_string") q) (Some (SimpleGoal (WritesText x a b))) None) d
    (λ e. some_if (rule.is_builtin (codes "io") (codes "write_string") q) t (SimpleGoal (WritesText x a b)) None d (λ f. absurd (cc f)) e) h
builtin_tidy q (x ∷ a ∷ b ∷ c ∷ ys) t d h = absurd (cc h)

call_tidy : (t : GoalExpr) (i j : Input) → Call t i j → IsTidyExpr t
call_tidy _ _ _ (builtin q ys t i j k name args is) = builtin_tidy q ys t (distinct ys (arguments_new [] ys j k args)) is
call_tidy _ _ _ (call q ys s i j k m name args is at) = distinct ys (arguments_new [] ys j k args)

closure_tidy : (t : GoalExpr) (i j : Input) → ClosureCall t i j → IsTidyExpr t
closure_tidy _ _ _ (closure_call f ys s i j k m n first second args at) = (distinct (f ∷ ys) (variables_new kind.Close [] (f ∷ ys) k m args)).1

-- ---- goals

abbrev AllTidy : List HldsGoal → Type 0
AllTidy [] = ⊤
AllTidy (p ∷ ps) = IsTidy p × AllTidy ps

gathered_tidy : (ps : List HldsGoal) → AllTidy ps → AreTidy (gathered ps)
gathered_tidy [] h = tt
gathered_tidy (p ∷ ps) h = (h.0, gathered_tidy ps h.1)

joined_tidy : (ps : List HldsGoal) → AllTidy ps → IsTidy (rule.joined ps)
joined_tidy [] h = tt
joined_tidy (p ∷ []) h = h.0
joined_tidy (p ∷ q ∷ ps) h = gathered_tidy (p ∷ q ∷ ps) h

mutual
  goal_tidy : (room : ℕ) (p : HldsGoal) (i j : Input) → Goal room p i j → IsTidy p
  goal_tidy _ _ _ _ (grammar.true room line i j is) = tt
  goal_tidy _ _ _ _ (grammar.fail room line i j is) = tt
  goal_tidy _ _ _ _ (relation room t i j r) = relation_tidy t i j r
  goal_tidy _ _ _ _ (grammar.call room t i j c) = call_tidy t i j c
  goal_tidy _ _ _ _ (grammar.closure_call room t i j c) = closure_tidy t i j c
  goal_tidy _ _ _ _ (parentheses room p i j k m open' inner close) = conjunction_tidy room p j k inner
  goal_tidy _ _ _ _ (disjunction room line p ps i j k m n o open' first mark rest close) = (conjunction_tidy room p j k first, gathered_tidy ps (arms_tidy room ps m n rest))
  goal_tidy _ _ _ _ (choice room line c t e i j k m n o p q open' a then b else d close) =
      (conjunction_tidy room c j k a, (conjunction_tidy room t m n b, conjunction_tidy room e o p d))
  goal_tidy _ _ _ _ (negation room line c i j k m n is open' inner close) = conjunction_tidy room c k m inner
  goal_tidy _ _ _ _ (quantification room line vs c i j k m n o p is list q open' inner close) = conjunction_tidy room c n o inner

  units_tidy : (room : ℕ) (ps : List HldsGoal) (i j : Input) → Units room ps i j → AllTidy ps
  units_tidy _ _ _ _ (last room p i j one) = (goal_tidy room p i j one, tt)
  units_tidy _ _ _ _ (grammar.also room p ps i j k m one mark rest) = (goal_tidy room p i j one, units_tidy room ps k m rest)

  conjunction_tidy : (room : ℕ) (p : HldsGoal) (i j : Input) → Conjunction room p i j → IsTidy p
  conjunction_tidy _ _ _ _ (conjunction room ps i j units) = joined_tidy ps (units_tidy room ps i j units)

  arms_tidy : (room : ℕ) (ps : List HldsGoal) (i j : Input) → Arms room ps i j → AllTidy ps
  arms_tidy _ _ _ _ (last_arm room p i j one) = (conjunction_tidy room p i j one, tt)
  arms_tidy _ _ _ _ (also_arm room p ps i j k m one mark rest) = (conjunction_tidy room p i j one, arms_tidy room ps k m rest)

-- ---- programs

abbrev IsSpelled : Procedure → Type 0
IsSpelled p = IsTidy p.body × (length p.head ≡ length p.args)

abbrev AllSpelled : List Procedure → Type 0
AllSpelled [] = ⊤
AllSpelled (p ∷ ps) = IsSpelled p × AllSpelled ps

one_more : (ps : List Procedure) (p : Procedure) → AllSpelled ps → IsSpelled p → AllSpelled (ps ++ p ∷ [])
one_more [] p h g = (g, tt)
one_more (q ∷ ps) p h g = (h.0, one_more ps p h.1 g)

pub spelled_at : (ps : List Procedure) (n : ℕ) (p : Procedure) → AllSpelled ps → slice_get ps n ≡ Some p → IsSpelled p
spelled_at [] n p h is = absurd (cc is)
spelled_at (q ∷ ps) zero p h is = let e : q ≡ p = cc is in subst IsSpelled e h.0
spelled_at (q ∷ ps) (suc n) p h is = spelled_at ps n p h.1 is

head_size : (arity : ℕ) (xs : List ℕ) (i j : Input) → Head arity xs i j → length xs ≡ arity
head_size _ _ _ _ (none i) = refl
head_size _ _ _ _ (some xs i j k l open' vs new close) = refl

clause_spelled : (q : PredName) (arity : ℕ) (c : rule.Clause) (i j : Input) → PredClause q arity c i j → IsTidy c.body × (length c.head ≡ arity)
clause_spelled q arity _ _ _ (pred_clause xs p vs i j k l m n o name head mark body end names) = (conjunction_tidy _ p l m body, head_size arity xs j k head)

declared_spelled : (before l : Hlds) (i j : Input) → Declared before l i j → AllSpelled before.procedures → AllSpelled l.procedures
unfolding rule.with_type_definition rule.with_procedure rule.procedure_from
declared_spelled before _ _ _ (type t line i j k is declaration) h = h
declared_spelled before _ _ _ (predicate d c line i j k l is declaration clause) h = one_more before.procedures _ h (clause_spelled d.name (length d.args) c k l clause)

declarations_spelled : (before l : Hlds) (i j : Input) → Declarations before l i j → AllSpelled before.procedures → AllSpelled l.procedures
declarations_spelled _ _ _ _ (grammar.none l i) h = h
declarations_spelled _ _ _ _ (grammar.also before l after i j k one rest) h = declarations_spelled l after j k rest (declared_spelled before l i j one h)

program_spelled : (l : Hlds) (i j : Input) → Program l i j → AllSpelled l.procedures
program_spelled _ _ _ (program m line at l i j k n o p a b c d declarations) = declarations_spelled _ l o p declarations tt

pub spelled : (text : List ℕ) (l : Hlds) → Spells text l → AllSpelled l.procedures
spelled text l h = program_spelled l _ h.end h.program
