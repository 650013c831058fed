-- What the grammar and the rule on second declarations give of a program that a text spells: names are names of the
-- language, a qualifier is another module's, and no two predicates have one name.
use Rattle.std.specs.Prelude.{IsTrue, codes}
use Rattle.std.proofs.Common.{◌≡◌, ◌≢◌, refl, sym, ap, ◌∙◌, subst, arith, ℕ, suc, ◌≤◌, ◌<◌, Bool, true, false, not, cond, ◌&&◌, nat_lt, List, [], ◌∷◌, ◌++◌, length, map, Option, Some, None, Ok, Err, Result, append-nil, append_assoc, length-append, ◌+◌, inl, inr, All, AllPairs, get_or}
use Rattle.std.proofs.lemmas.Bool.{ltb-false, false≢true, true≢false}
use Rattle.std.proofs.lemmas.List.{length-map}
use Rattle.std.proofs.lemmas.List.Elements.{All-nil, All-cons, All-append, All-map, All-weaker}
use Rattle.std.proofs.lemmas.List.Kept.{AllPairs-cons}
use Rattle.md_hlds.specs.declared.goal.PredName.{PredName}
use Rattle.md_hlds.specs.HldsGoal.{HldsGoal, GoalExpr, SimpleGoal, Raises, EndsLine, WritesInt, WritesText, gathered, site_lines, expr_lines, goals_lines}
use Rattle.md_hlds.specs.Hlds.{HldsType, HldsFunctor, HldsTypeDef, Procedure, Hlds, same_qualifier, find_procedure, procedure_called, owned_by, sites_from, sites_of}
use Rattle.md_hlds.specs.Run.{main_name}
use Rattle.md_hlds.specs.declared.types.Mode.{Mode}
use Rattle.md_hlds.specs.declared.types.Det.{Det}
use Rattle.md_token.specs.declared.kind.Kind.{Kind}
use Rattle.md_token.specs.declared.kind.Kind.TheVariants as kind
use Rattle.md_token.specs.Token.{Lexeme, tokens_of}
use Rattle.md_reader.specs.Input.{Input, ◌>>◌, pure, standard, refuse, limit, token, sees, next, variable, take_name}
use Rattle.md_reader.specs.Duplicates as second
use Rattle.md_reader.specs.Duplicates.{same_declared, is_among, first_second, declared_procedure, earlier, second_procedure, duplicate}
use Rattle.md_reader.specs.Rules as rule
use Rattle.md_reader.specs.Grammar as grammar
use Rattle.md_reader.specs.Grammar.{Is, Sign, Listed, Enclosed, Variables, Arguments, Quantified, Operator, Comparison, Term, Relation, Call, ClosureCall, Goal, Units, Conjunction, Arms, FunctorArguments, Functor, TypeDeclaration, Inst, Argument, DeclaredArguments, PredDeclaration, Head, PredClause, Declared, Declarations, Program, Spells}
use Rattle.md_reader.proofs.Steps.{bind_ok, chosen, ok_input, ok_value}
use Rattle.md_static.specs.Names.{is_name}
use Rattle.md_ports.specs.Orderly.{IsOrderly}
use Rattle.md_ports.specs.Ports.{statics_of}
use Rattle.md_ports.proofs.Bytes.{bytes_same}
use Rattle.md_ports.proofs.Sound.{sites_lined}
use Rattle.md_ports.proofs.Words.{ArePieces, IsLine, HaveLines, text_pieces, text_lines, few_tokens, piece_word, word_name}
use Rattle.md_ports.proofs.Onward.{Onward, then, stay, to_next, sign_on, expect_on, word_on, name_on, type_name_on, variable_on, site_on, end_on, mode_on, ho_mode_on, determinism_on, positive_on, negated_on, literal_on, pred_name_on, this_name_on, simple_type_on, declared_name_is, next_piece, Fits, IsAt, pred_name_at, call_at, expect_less, declare_goes}

-- ---- lists

listed_on : {A : Type 0} (item : A → Input → Input → Type 0) (between : Kind) → ((x : A) (i j : Input) → item x i j → Onward i j)
    → (xs : List A) (i j : Input) → Listed item between xs i j → Onward i j
listed_on item between each _ _ _ (grammar.last x i j one) = each x i j one
listed_on item between each _ _ _ (grammar.also x xs i j k m one mark rest) = then (each x i j one) (then (sign_on between j k mark) (listed_on item between each xs k m rest))

enclosed_on : {A : Type 0} (item : A → Input → Input → Type 0) (closing : Kind) → ((x : A) (i j : Input) → item x i j → Onward i j)
    → (xs : List A) (i j : Input) → Enclosed item closing xs i j → Onward i j
enclosed_on item closing each _ _ _ (grammar.enclosed xs i j k list short close) = then (listed_on item kind.Comma each xs i j list) (sign_on closing j k close)

variables_on : (closing : Kind) (before xs : List ℕ) (i j : Input) → Variables closing before xs i j → Onward i j
variables_on closing before _ _ _ (grammar.variables xs i j list new) = enclosed_on (Is (variable [])) closing (variable_on []) xs i j list

arguments_on : (before xs : List ℕ) (i j : Input) → Arguments before xs i j → Onward i j
arguments_on before _ _ _ (grammar.none i) = stay i
arguments_on before _ _ _ (grammar.some xs i j k mark vs) = then (sign_on kind.Open i j mark) (variables_on kind.Close before xs j k vs)

quantified_on : (xs : List ℕ) (i j : Input) → Quantified xs i j → Onward i j
quantified_on _ _ _ (grammar.none i j mark) = sign_on kind.CloseList i j mark
quantified_on _ _ _ (grammar.some xs i j vs) = variables_on kind.CloseList [] xs i j vs

-- ---- goals

term_on : (x : ℕ) (t : GoalExpr) (i j : Input) → Term x t i j → Onward i j
term_on x _ _ _ (grammar.same y i j is) = variable_on (x ∷ []) y i j is
term_on x _ _ _ (grammar.arithmetic y z o i j k m first (grammar.operator n _ _ is mark) second) =
    then (variable_on (x ∷ []) y i j first) (then (sign_on n j k mark) (variable_on (x ∷ y ∷ []) z k m second))
term_on x _ _ _ (grammar.positive t i j at is) = positive_on x t i j is
term_on x _ _ _ (grammar.negative t i j k mark is) = then (sign_on kind.Minus i j mark) (negated_on x t j k is)
term_on x _ _ _ (grammar.literal t i j at is) = literal_on x t i j is
term_on x _ _ _ (grammar.application f ys i j k name args) = then (pred_name_on f i j name) (arguments_on (x ∷ []) ys j k args)

relation_on : (t : GoalExpr) (i j : Input) → Relation t i j → Onward i j
relation_on _ _ _ (grammar.unification x t i j k m is mark rest) = then (variable_on [] x i j is) (then (sign_on kind.Equals j k mark) (term_on x t k m rest))
relation_on _ _ _ (grammar.comparison x y c i j k m first (grammar.comparison n _ _ is mark) second) =
    then (variable_on [] x i j first) (then (sign_on n j k mark) (variable_on (x ∷ []) y k m second))

-- from i to j stands a goal whose call sites have these lines
pub record Lined (i j : Input) (lines : List ℕ) : Type 0 where
  pub on : Onward i j
  pub count : length lines + length j.rest ≤ length i.rest
  pub lines_there : (most : ℕ) → HaveLines most i.rest → All (IsLine most) lines

silent : {i j : Input} → Onward i j → Lined i j []
silent a = record { on = a; count = omega (arith, a.count); lines_there = λ most h. All-nil (IsLine most) }

lined_then : {i j k : Input} {xs ys : List ℕ} → Lined i j xs → Lined j k ys → Lined i k (xs ++ ys)
lined_then {xs = xs} {ys = ys} a b = record {
  on = then a.on b.on;
  count = omega (arith, a.count, b.count, length-append xs ys);
  lines_there = λ most h. All-append (IsLine most) xs ys (a.lines_there most h) (b.lines_there most (a.on.lines most h));
}

behind : {i j k : Input} {xs : List ℕ} → Onward i j → Lined j k xs → Lined i k xs
behind a b = lined_then (silent a) b

before : {i j k : Input} {xs : List ℕ} → Lined i j xs → Onward j k → Lined i k xs
before a b = record { on = then a.on b; count = omega (arith, a.count, b.count); lines_there = a.lines_there }

-- a goal without call sites
abbrev Silent : GoalExpr → Type 0
Silent t = (l : ℕ) → expr_lines l t ≡ []

quiet : {i j : Input} (l : ℕ) (t : GoalExpr) → Silent t → Onward i j → Lined i j (expr_lines l t)
quiet {i = i} {j = j} l t none on = subst (Lined i j) (sym (none l)) (silent on)

one_if : {R E : Type 0} (b : Bool) (u : E) (z x : R) → cond b (Err u) (Ok z) ≡ Ok x → z ≡ x
one_if true u z x h = absurd (cc h)
one_if false u z x h = cc h

other_if : {R E : Type 0} (b : Bool) (u : E) (v : Result R E) (x : R) → cond b v (Err u) ≡ Ok x → v ≡ Ok x
other_if true u v x h = h
other_if false u v x h = absurd (cc h)

positive_silent : (x : ℕ) (t : GoalExpr) (i j : Input) → Is (rule.positive x) t i j → Silent t
unfolding rule.positive
positive_silent x t i j h = subst Silent (ap (λ (w : GoalExpr × Input). w.0) (one_if _ _ _ _ h)) (λ l. refl)

negative_silent : (x : ℕ) (t : GoalExpr) (i j : Input) → Is (rule.negated x) t i j → Silent t
unfolding rule.negated
negative_silent x t i j h = subst Silent (ap (λ (w : GoalExpr × Input). w.0) (one_if _ _ _ _ (other_if (sees kind.Integer i) _ _ _ h))) (λ l. refl)

literal_silent : (x : ℕ) (t : GoalExpr) (i j : Input) → Is (rule.literal x) t i j → Silent t
unfolding rule.literal
literal_silent x t i j h = subst Silent (ap (λ (w : GoalExpr × Input). w.0) (one_if _ _ _ _ h)) (λ l. refl)

term_silent : (x : ℕ) (t : GoalExpr) (i j : Input) → Term x t i j → Silent t
term_silent x _ _ _ (grammar.same y i j is) = λ l. refl
term_silent x _ _ _ (grammar.arithmetic y z o i j k m first mark second) = λ l. refl
term_silent x _ _ _ (grammar.positive t i j at is) = positive_silent x t i j is
term_silent x _ _ _ (grammar.negative t i j k mark is) = negative_silent x t j k is
term_silent x _ _ _ (grammar.literal t i j at is) = literal_silent x t i j is
term_silent x _ _ _ (grammar.application f ys i j k name args) = λ l. refl

relation_silent : (t : GoalExpr) (i j : Input) → Relation t i j → Silent t
relation_silent _ _ _ (grammar.unification x t i j k m is mark rest) = term_silent x t k m rest
relation_silent _ _ _ (grammar.comparison x y c i j k m first mark second) = λ l. refl

some_if : (b : Bool) (t u : GoalExpr) (o : Option GoalExpr) → Silent u → (o ≡ Some t → Silent t) → cond b (Some u) o ≡ Some t → Silent t
some_if true t u o h g e = let is : u ≡ t = cc e in subst Silent is h
some_if false t u o h g e = g e

builtin_silent : (q : PredName) (ys : List ℕ) (t : GoalExpr) → rule.builtin q ys ≡ Some t → Silent t
builtin_silent q [] t h = absurd (cc h)
builtin_silent q (x ∷ []) t h = some_if (rule.is_builtin (codes "require") (codes "error") q) t (SimpleGoal (Raises x)) None (λ l. refl) (λ e. absurd (cc e)) h
builtin_silent q (a ∷ b ∷ []) t h = some_if (rule.is_builtin (codes "io") (codes "nl") q) t (SimpleGoal (EndsLine a b)) None (λ l. refl) (λ e. absurd (cc e)) h
builtin_silent q (x ∷ a ∷ b ∷ []) t h =
    some_if (rule.is_builtin (codes "io") (codes "write_int") q) t (SimpleGoal (WritesInt x a b))
    (cond (rule.is_builtin (codes "io") (codes "write_string") q) (Some (SimpleGoal (WritesText x a b))) None) (λ l. refl)
    (λ e. some_if (rule.is_builtin (codes "io") (codes "write_string") q) t (SimpleGoal (WritesText x a b)) None (λ l. refl) (λ f. absurd (cc f)) e) h
builtin_silent q (x ∷ a ∷ b ∷ c ∷ ys) t h = absurd (cc h)

-- a call site on the line of its first token
one_line : (i j k : Input) → IsAt i j → Onward i j → Onward j k → Lined i k ((token i).line ∷ [])
one_line i j k at first rest = record {
  on = then first rest;
  count = omega (arith, at.less, rest.count);
  lines_there = λ most h. All-cons (IsLine most) (token i).line [] (at.line most h) (All-nil (IsLine most));
}

call_lined : (t : GoalExpr) (i j : Input) → Call t i j → Lined i j (expr_lines (token i).line t)
call_lined _ _ _ (grammar.builtin q ys t i j k name args is) =
    quiet (token i).line t (builtin_silent q ys t is) (then (pred_name_on q i j name) (arguments_on [] ys j k args))
call_lined _ _ _ (grammar.call q ys s i j k m name args is at) =
    one_line i j m (pred_name_at q i j name) (pred_name_on q i j name) (then (arguments_on [] ys j k args) (site_on s k m at))

closure_lined : (t : GoalExpr) (i j : Input) → ClosureCall t i j → Lined i j (expr_lines (token i).line t)
closure_lined _ _ _ (grammar.closure_call f ys s i j k m n first second args at) =
    one_line i j n (call_at i j first) (sign_on kind.Call i j first)
    (then (sign_on kind.Open j k second) (then (variables_on kind.Close [] (f ∷ ys) k m args) (site_on s m n at)))

-- goals one after the other
abbrev pub each_line : List HldsGoal → List ℕ
each_line ps = goals_lines (gathered ps)

lines_joined : (ps : List HldsGoal) → site_lines (rule.joined ps) ≡ each_line ps
lines_joined [] = refl
lines_joined (p ∷ []) = sym (append-nil (site_lines p))
lines_joined (p ∷ q ∷ ps) = refl

mutual
  goal_lined : (room : ℕ) (p : HldsGoal) (i j : Input) → Goal room p i j → Lined i j (site_lines p)
  goal_lined _ _ _ _ (grammar.true room line i j is) = silent (expect_on kind.True line i j is)
  goal_lined _ _ _ _ (grammar.fail room line i j is) = silent (expect_on kind.Fail line i j is)
  goal_lined _ _ _ _ (grammar.relation room t i j r) = quiet (token i).line t (relation_silent t i j r) (relation_on t i j r)
  goal_lined _ _ _ _ (grammar.call room t i j c) = call_lined t i j c
  goal_lined _ _ _ _ (grammar.closure_call room t i j c) = closure_lined t i j c
  goal_lined _ _ _ _ (grammar.parentheses room p i j k m open' inner close) =
      behind (sign_on kind.Open i j open') (before (conjunction_lined room p j k inner) (sign_on kind.Close k m close))
  goal_lined _ _ _ _ (grammar.disjunction room line p ps i j k m n o open' first mark rest close) =
      behind (expect_on kind.Open line i j open')
      (before (lined_then (before (conjunction_lined room p j k first) (sign_on kind.Semicolon k m mark)) (arms_lined room ps m n rest)) (sign_on kind.Close n o close))
  goal_lined _ _ _ _ (grammar.choice room line c t e i j k m n o p q open' a arrow b else' d close) =
      behind (expect_on kind.Open line i j open')
      (lined_then (before (conjunction_lined room c j k a) (sign_on kind.Then k m arrow))
      (lined_then (before (conjunction_lined room t m n b) (sign_on kind.Semicolon n o else')) (before (conjunction_lined room e o p d) (sign_on kind.Close p q close))))
  goal_lined _ _ _ _ (grammar.negation room line c i j k m n is open' inner close) =
      behind (then (expect_on kind.Not line i j is) (sign_on kind.Open j k open')) (before (conjunction_lined room c k m inner) (sign_on kind.Close m n close))
  goal_lined _ _ _ _ (grammar.quantification room line vs c i j k m n o p is list q open' inner close) =
      behind (then (expect_on kind.Some line i j is) (then (sign_on kind.OpenList j k list) (then (quantified_on vs k m q) (sign_on kind.Open m n open'))))
      (before (conjunction_lined room c n o inner) (sign_on kind.Close o p close))

  units_lined : (room : ℕ) (ps : List HldsGoal) (i j : Input) → Units room ps i j → Lined i j (each_line ps)
  units_lined _ _ _ _ (grammar.last room p i j one) = subst (Lined i j) (sym (append-nil (site_lines p))) (goal_lined room p i j one)
  units_lined _ _ _ _ (grammar.also room p ps i j k m one mark rest) =
      lined_then (before (goal_lined room p i j one) (sign_on kind.Comma j k mark)) (units_lined room ps k m rest)

  conjunction_lined : (room : ℕ) (p : HldsGoal) (i j : Input) → Conjunction room p i j → Lined i j (site_lines p)
  conjunction_lined _ _ _ _ (grammar.conjunction room ps i j units) = subst (Lined i j) (sym (lines_joined ps)) (units_lined room ps i j units)

  arms_lined : (room : ℕ) (ps : List HldsGoal) (i j : Input) → Arms room ps i j → Lined i j (each_line ps)
  arms_lined _ _ _ _ (grammar.last_arm room p i j one) = subst (Lined i j) (sym (append-nil (site_lines p))) (conjunction_lined room p i j one)
  arms_lined _ _ _ _ (grammar.also_arm room p ps i j k m one mark rest) =
      lined_then (before (conjunction_lined room p i j one) (sign_on kind.Semicolon j k mark)) (arms_lined room ps k m rest)

-- ---- types

functor_arguments_on : (ts : List HldsType) (i j : Input) → FunctorArguments ts i j → Onward i j
functor_arguments_on _ _ _ (grammar.none i) = stay i
functor_arguments_on _ _ _ (grammar.some ts i j k mark list) = then (sign_on kind.Open i j mark) (enclosed_on (Is rule.simple_type) kind.Close simple_type_on ts j k list)

functor_on : (f : HldsFunctor) (i j : Input) → Functor f i j → Onward i j
functor_on _ _ _ (grammar.functor f ts i j k name args) = then (name_on f i j name) (functor_arguments_on ts j k args)

type_on : (line : ℕ) (t : HldsTypeDef) (i j : Input) → TypeDeclaration line t i j → Onward i j
type_on line _ _ _ (grammar.type_declaration t fs at i j k m n o is name yields list end) =
    then (word_on _ at i j is)
    (then (type_name_on t j k name) (then (sign_on kind.Yields k m yields) (then (listed_on Functor kind.Semicolon functor_on fs m n list) (sign_on kind.End n o end))))

-- ---- predicates

inst_on : (ms : List Mode) (d : Det) (i j : Input) → Inst ms d i j → Onward i j
inst_on _ _ _ _ (grammar.inst ms d i j k l m n o p a b c list e is f) =
    then (sign_on kind.Open i j a)
    (then (sign_on kind.Pred j k b)
    (then (sign_on kind.Open k l c)
    (then (enclosed_on (Is rule.mode_word) kind.Close mode_on ms l m list)
    (then (sign_on kind.Is m n e) (then (determinism_on d n o is) (sign_on kind.Close o p f))))))

argument_on : (a : HldsType × Mode) (i j : Input) → Argument a i j → Onward i j
argument_on _ _ _ (grammar.plain t m i j k l is mark mode) = then (simple_type_on t i j is) (then (sign_on kind.HasMode j k mark) (mode_on m k l mode))
argument_on _ _ _ (grammar.higher_order ts m ms d i j k l n o p a b list mark mode last) =
    then (sign_on kind.Pred i j a)
    (then (sign_on kind.Open j k b)
    (then (enclosed_on (Is rule.simple_type) kind.Close simple_type_on ts k l list)
    (then (sign_on kind.HasMode l n mark) (then (ho_mode_on m n o mode) (inst_on ms d o p last)))))

declared_arguments_on : (as' : List (HldsType × Mode)) (i j : Input) → DeclaredArguments as' i j → Onward i j
declared_arguments_on _ _ _ (grammar.none i) = stay i
declared_arguments_on _ _ _ (grammar.some as' i j k mark list) = then (sign_on kind.Open i j mark) (enclosed_on Argument kind.Close argument_on as' j k list)

-- a place in a text, under the limits of the product
pub record Good (i : Input) : Type 0 where
  pub pieces : ArePieces i.rest
  pub limits : i.limits ≡ standard

good_then : (i j : Input) → Good i → Onward i j → Good j
good_then i j g on = record { pieces = on.pieces g.pieces; limits = on.limits ∙ g.limits }

declaration_is : (d : rule.Declaration) (i j : Input) → PredDeclaration d i j → Good i → Onward i j × Fits i.home d.name
declaration_is _ _ _ (grammar.pred_declaration q as' d i j k l m n o mark name args is det end) good =
    let first = sign_on kind.Pred i j mark in
    let there = good_then i j good first in
    let named = declared_name_is q j k name there.pieces (ap (λ ls. ls.items) there.limits) in (
      then first (then named.0 (then (declared_arguments_on as' k l args) (then (sign_on kind.Is l m is) (then (determinism_on d m n det) (sign_on kind.End n o end))))),
      subst (λ (home : List ℕ). Fits home q) first.home named.1,
    )

head_on : (arity : ℕ) (xs : List ℕ) (i j : Input) → Head arity xs i j → Onward i j
head_on _ _ _ _ (grammar.none i) = stay i
head_on _ _ _ _ (grammar.some xs i j k l open' list new close) =
    then (sign_on kind.Open i j open') (then (listed_on (Is (variable [])) kind.Comma (variable_on []) xs j k list) (sign_on kind.Close k l close))

clause_lined : (q : PredName) (arity : ℕ) (c : rule.Clause) (i j : Input) → PredClause q arity c i j → Lined i j (site_lines c.body)
clause_lined q arity _ _ _ (grammar.pred_clause xs p vs i j k l m n o name head mark body end names) =
    behind (then (this_name_on q i j name) (then (head_on arity xs j k head) (sign_on kind.Declare k l mark)))
    (before (conjunction_lined _ p l m body) (then (sign_on kind.End m n end) (end_on vs n o names)))

-- ---- programs

-- a procedure's name and qualifier fit
abbrev pub FitsAt : List ℕ → Procedure → Type 0
FitsAt home p = Fits home (record { qualifier = p.qualifier; name = p.name })

-- a procedure's call sites have lines
abbrev HasLines : ℕ → Procedure → Type 0
HasLines most p = All (IsLine most) (site_lines p.body)

-- procedures and call sites together
abbrev weight : List Procedure → ℕ
weight [] = 0
weight (p ∷ ps) = suc (length (site_lines p.body)) + weight ps

weight_more : (ps : List Procedure) (p : Procedure) → weight (ps ++ p ∷ []) ≡ weight ps + suc (length (site_lines p.body))
weight_more [] p = omega arith
weight_more (q ∷ ps) p = omega (arith, weight_more ps p)

-- what the declarations from i to j add to a program
pub record Adds (i j : Input) (before l : Hlds) : Type 0 where
  pub module_name : l.module_name ≡ before.module_name
  pub fit : All (FitsAt i.home) before.procedures → All (FitsAt i.home) l.procedures
  pub lined : (most : ℕ) → HaveLines most i.rest → All (HasLines most) before.procedures → All (HasLines most) l.procedures
  pub count : weight l.procedures + length j.rest ≤ weight before.procedures + length i.rest

one_more : (P : Procedure → Type 0) (ps : List Procedure) (p : Procedure) → P p → All P ps → All P (ps ++ p ∷ [])
one_more P ps p h all = All-append P ps (p ∷ []) all (All-cons P p [] h (All-nil P))

declared_adds : (before l : Hlds) (i j : Input) → Declared before l i j → Good i → Onward i j × Adds i j before l
unfolding rule.with_type_definition rule.with_procedure rule.procedure_from
declared_adds before _ _ _ (grammar.type t line i j k is declaration) good =
    let on = then (expect_on kind.Declare line i j is) (type_on line t j k declaration) in
    (on, record { module_name = refl; fit = λ h. h; lined = λ most lines h. h; count = omega (arith, on.count) })
declared_adds before _ _ _ (grammar.predicate d c line i j k l is declaration clause) good =
    let first = expect_on kind.Declare line i j is in
    let there = good_then i j good first in
    let named = declaration_is d j k declaration there in
    let lined = clause_lined d.name (length d.args) c k l clause in
    let fits : Fits i.home d.name = subst (λ (home : List ℕ). Fits home d.name) first.home named.1 in (
      then first (then named.0 lined.on),
      record {
        module_name = refl;
        fit = one_more (FitsAt i.home) before.procedures _ fits;
        lined = λ most lines. one_more (HasLines most) before.procedures _ (lined.lines_there most (named.0.lines most (first.lines most lines)));
        count = omega (arith, weight_more before.procedures (rule.procedure_from line d c), lined.count, named.0.count, expect_less kind.Declare line i j is declare_goes);
      },
    )

declarations_add : (before l : Hlds) (i j : Input) → Declarations before l i j → Good i → Adds i j before l
declarations_add _ _ _ _ (grammar.none l i) good = record { module_name = refl; fit = λ h. h; lined = λ most lines h. h; count = omega arith }
declarations_add _ _ _ _ (grammar.also before l after i j k one rest) good =
    let first = declared_adds before l i j one good in
    let later = declarations_add l after j k rest (good_then i j good first.0) in
    record {
      module_name = later.module_name ∙ first.1.module_name;
      fit = λ h. subst (λ (home : List ℕ). All (FitsAt home) after.procedures) first.0.home
          (later.fit (subst (λ (home : List ℕ). All (FitsAt home) l.procedures) (sym first.0.home) (first.1.fit h)));
      lined = λ most lines h. later.lined most (first.0.lines most lines) (first.1.lined most lines h);
      count = omega (arith, later.count, first.1.count);
    }

-- the heading's name, which is the program's own module from there on
pub record IsHome (m : List ℕ) (i j : Input) : Type 0 where
  pub home : j.home ≡ m
  pub count : length j.rest ≤ length i.rest
  pub lines : (most : ℕ) → HaveLines most i.rest → HaveLines most j.rest
  pub name : IsTrue (is_name m)
  pub good : Good j

module_is : (m : List ℕ) (i j : Input) → Is rule.module_name m i j → Good i → IsHome m i j
unfolding rule.module_name take_name next
module_is m i j h good =
    elim (chosen (rule.is_name (token i).kind && not (rule.is_library (token i).text)) _ (refuse i) (Ok (m, j)) h) [
      | inl l ↦
          let b = bind_ok (take_name (token i).text i) (λ n. rule.set_home (token i).text >> pure n) (m, j) l.1 in
          elim (chosen (nat_lt i.limits.items (length (token i).text)) (limit i) (Ok ((token i).text, next i)) (Ok b.0) b.1) [
            | inl over ↦ absurd (let e = over.1 in cc)
            | inr r ↦
                let text : (token i).text ≡ m = ok_value (token i).text b.0.0 (next i) b.0.1 r.1 ∙ ok_value b.0.0 m (record b.0.1 { home = (token i).text }) j b.2 in
                let at : next i ≡ b.0.1 = ok_input (token i).text b.0.0 (next i) b.0.1 r.1 in
                let there : record b.0.1 { home = (token i).text } ≡ j = ok_input b.0.0 m (record b.0.1 { home = (token i).text }) j b.2 in
                let step = subst (λ (k : Input). Onward i k) at (to_next i) in
                let on = good_then i b.0.1 good step in
                let short : length (token i).text ≤ 255 = subst (λ (n : ℕ). length (token i).text ≤ n) (ap (λ ls. ls.items) good.limits) (ltb-false i.limits.items (length (token i).text) r.0) in
                record {
                  home = sym (ap (λ k. k.home) there) ∙ text;
                  count = subst (λ (k : Input). length k.rest ≤ length i.rest) there step.count;
                  lines = subst (λ (k : Input). (most : ℕ) → HaveLines most i.rest → HaveLines most k.rest) there step.lines;
                  name = subst (λ (x : List ℕ). IsTrue (is_name x)) text (word_name (token i).text (piece_word (token i) (next_piece i good.pieces) (first_true _ _ l.0)) short);
                  good = subst Good there (record { pieces = on.pieces; limits = on.limits });
                }
          ]
      | inr r ↦ absurd (let e = r.1 in cc)
    ]
  where
    first_true : (a b : Bool) → (a && b) ≡ true → a ≡ true
    first_true true b h = refl
    first_true false b h = h

-- what a program's text gives of its tables
pub record HasNames (l : Hlds) (tokens : List Lexeme) : Type 0 where
  pub module_name : IsTrue (is_name l.module_name)
  pub fit : All (FitsAt l.module_name) l.procedures
  pub lined : (most : ℕ) → HaveLines most tokens → All (HasLines most) l.procedures
  pub few : weight l.procedures < length tokens

program_named : (l : Hlds) (i j : Input) → Program l i j → Good i → HasNames l i.rest
program_named _ _ _ (grammar.program m line at l i j k n o p heading word name end declarations) good =
    let zeroth = expect_on kind.Declare line i j heading in
    let first = good_then i j good zeroth in
    let next' = word_on _ at j k word in
    let second = good_then j k first next' in
    let home = module_is m k n name second in
    let mark = sign_on kind.End n o end in
    let rest = declarations_add _ l o p declarations (good_then n o home.good mark) in
    let own : o.home ≡ l.module_name = mark.home ∙ (home.home ∙ sym rest.module_name) in
    record {
      module_name = subst (λ (x : List ℕ). IsTrue (is_name x)) (sym rest.module_name) home.name;
      fit = subst (λ (x : List ℕ). All (FitsAt x) l.procedures) own (rest.fit (All-nil (FitsAt o.home)));
      lined = λ most lines. rest.lined most (mark.lines most (home.lines most (next'.lines most (zeroth.lines most lines)))) (All-nil (HasLines most));
      few = omega (arith, rest.count, mark.count, home.count, next'.count, expect_less kind.Declare line i j heading declare_goes);
    }

text_named : (text : List ℕ) (l : Hlds) → Spells text l → HasNames l (tokens_of text)
unfolding tokens_of
text_named text l h = program_named l _ h.end h.program (record { pieces = text_pieces text; limits = refl })

-- ---- call sites

abbrev OnLine : ℕ → ℕ × ℕ → Type 0
OnLine most x = IsLine most x.1

owned_lines : (most n : ℕ) (ls : List ℕ) → All (IsLine most) ls → All (OnLine most) (map (owned_by n) ls)
owned_lines most n ls h = All-map (OnLine most) (owned_by n) ls h

owned_on : (most n : ℕ) (ps : List Procedure) → All (HasLines most) ps → All (OnLine most) (sites_from n ps)
owned_on most n [] h = All-nil (OnLine most)
owned_on most n (p ∷ ps) h =
    All-append (OnLine most) (map (owned_by n) (site_lines p.body)) (sites_from (suc n) ps) (owned_lines most n (site_lines p.body) (h 0 p (omega arith)))
    (owned_on most (suc n) ps (λ k d lt. h (suc k) d (omega (arith, lt))))

-- each call site of a program that a text spells stands on a line of the text
pub text_sites : (text : List ℕ) (l : Hlds) → Spells text l → All (λ x. IsLine (length text + 1) x.1) (sites_of l)
text_sites text l h = owned_on (length text + 1) 0 l.procedures ((text_named text l h).lined (length text + 1) (text_lines text))

sites_few : (n : ℕ) (ps : List Procedure) → length (sites_from n ps) + length ps ≤ weight ps
sites_few n [] = omega arith
sites_few n (p ∷ ps) =
    omega (arith, sites_few (suc n) ps, length-append (map (owned_by n) (site_lines p.body)) (sites_from (suc n) ps), length-map (site_lines p.body) (owned_by n))

-- so does each call site of its tables
pub text_table_lines : (text : List ℕ) (l : Hlds) → Spells text l → All (λ x. x.line ≤ length text + 1) (statics_of l).sites
text_table_lines text l h =
    sites_lined (λ line. line ≤ length text + 1) l
    (All-weaker (λ (x : ℕ × ℕ). IsLine (length text + 1) x.1) (λ (x : ℕ × ℕ). x.1 ≤ length text + 1) (λ x on. on.last) (sites_of l) (text_sites text l h))

-- ---- second declarations

yet_none : (a b : Option ℕ) → earlier a b ≡ None → b ≡ None
yet_none None b h = h
yet_none (Some x) None h = absurd (cc h)
yet_none (Some x) (Some y) h = absurd (cc h)

no_second : (l : Hlds) → duplicate l ≡ None → first_second [] (map declared_procedure l.procedures) ≡ None
unfolding duplicate second_procedure
no_second l h = yet_none _ _ (yet_none _ _ h)

seen_not : (b : Bool) (n : ℕ) (o : Option ℕ) → cond b (Some n) o ≡ None → (b ≡ false) × (o ≡ None)
seen_not true n o h = absurd (cc h)
seen_not false n o h = (refl, h)

among_not : (a b : Bool) → cond a true b ≡ false → (a ≡ false) × (b ≡ false)
among_not true b h = absurd (true≢false h)
among_not false b h = (refl, h)

-- what isn't among some differs from each
apart : (e d : second.Declared) (as' bs : List second.Declared) → is_among e (as' ++ d ∷ bs) ≡ false → same_declared e d ≡ false
apart e d [] bs h = (among_not (same_declared e d) (is_among e bs) h).0
apart e d (a ∷ as') bs h = apart e d as' bs (among_not (same_declared e a) (is_among e (as' ++ d ∷ bs)) h).1

all_apart : (d : second.Declared) (as' bs seen : List second.Declared) (ps : List Procedure) → seen ≡ as' ++ d ∷ bs → first_second seen (map declared_procedure ps) ≡ None
    → All (λ q. same_declared (declared_procedure q) d ≡ false) ps
all_apart d as' bs seen [] is h = All-nil (λ q. same_declared (declared_procedure q) d ≡ false)
all_apart d as' bs seen (p ∷ ps) is h =
    let both = seen_not (is_among (declared_procedure p) seen) p.line (first_second (seen ++ declared_procedure p ∷ []) (map declared_procedure ps)) h in
    All-cons (λ q. same_declared (declared_procedure q) d ≡ false) p ps
    (apart (declared_procedure p) d as' bs (subst (λ (ds : List second.Declared). is_among (declared_procedure p) ds ≡ false) is both.0))
    (all_apart d as' (bs ++ declared_procedure p ∷ []) (seen ++ declared_procedure p ∷ []) ps
    (ap (λ (ds : List second.Declared). ds ++ declared_procedure p ∷ []) is ∙ append_assoc as' (d ∷ bs) (declared_procedure p ∷ [])) both.1)

abbrev pub Differ : Procedure → Procedure → Type 0
Differ p q = p.qualifier ≡ q.qualifier → p.name ≢ q.name

qualifier_same : (o : Option (List ℕ)) → same_qualifier o o ≡ true
qualifier_same None = refl
qualifier_same (Some m) = bytes_same m

differ : (p q : Procedure) → same_declared (declared_procedure q) (declared_procedure p) ≡ false → Differ p q
differ p q h qualifiers names =
    let same : same_declared (declared_procedure q) (declared_procedure p) ≡ true = rw (qualifiers, names, qualifier_same q.qualifier, bytes_same q.name) refl in
    false≢true (sym h ∙ same)

predicates_differ : (seen : List second.Declared) (ps : List Procedure) → first_second seen (map declared_procedure ps) ≡ None → AllPairs Differ ps
predicates_differ seen [] h = λ i j d lt within. absurd (omega (arith, within))
predicates_differ seen (p ∷ ps) h =
    let both = seen_not (is_among (declared_procedure p) seen) p.line (first_second (seen ++ declared_procedure p ∷ []) (map declared_procedure ps)) h in
    AllPairs-cons Differ p ps
    (λ k d lt. differ p (get_or ps k d) (all_apart (declared_procedure p) seen [] (seen ++ declared_procedure p ∷ []) ps refl both.1 k d lt))
    (predicates_differ (seen ++ declared_procedure p ∷ []) ps both.1)

-- ---- the program

some_procedure : (q : PredName) (n : ℕ) (ps : List Procedure) (m : ℕ × Procedure) → find_procedure q n ps ≡ Some m → 0 < length ps
some_procedure q n [] m h = absurd (cc)
some_procedure q n (p ∷ ps) m h = omega arith

-- a program that a text spells is as its tables need it
pub text_orderly : (text : List ℕ) (l : Hlds) → Spells text l → length text < 4294967295 → (main : ℕ × Procedure) → procedure_called l main_name ≡ Some main → IsOrderly l
text_orderly text l h short main called =
    let names = text_named text l h in
    let tokens = few_tokens text in
    let sites = sites_few 0 l.procedures in
    record {
      module_is_name = names.module_name;
      qualifiers_are_names = λ k d lt. (names.fit k d lt).qualifier;
      names_are_names = λ k d lt. (names.fit k d lt).name;
      qualifiers_are_others = λ k d lt. (names.fit k d lt).other;
      predicates_differ = predicates_differ [] l.procedures (no_second l h.once);
      lines_from_one = All-weaker (λ (x : ℕ × ℕ). IsLine (length text + 1) x.1) (λ (x : ℕ × ℕ). 1 ≤ x.1) (λ x on. on.first) (sites_of l) (text_sites text l h);
      some_predicates = some_procedure main_name 0 l.procedures main called;
      few_predicates = omega (arith, names.few, tokens, sites, short);
      few_sites = omega (arith, names.few, tokens, sites, short);
    }
