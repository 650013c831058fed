-- What line numbers play no part in: the printed text, and whether something is declared a second time.
use Rattle.std.specs.Prelude.{codes}
use Rattle.std.proofs.Common.{◌≡◌, ℕ, Bool, true, false, cond, Option, Some, None, List, [], ◌∷◌, ◌++◌, map, refl, ap, sym, ◌∙◌}
use Rattle.std.proofs.lemmas.List.{map-append}
use Rattle.std.specs.List.{flat_map}
use Rattle.md_hlds.specs.HldsGoal.{HldsGoal, At, HldsGoals, nothing, also, GoalExpr, SimpleGoal, CallGoal, HoCallGoal, ConjGoal, DisjGoal, IfGoal, NotGoal, SomeGoal}
use Rattle.md_hlds.specs.Hlds.{HldsFunctor, HldsTypeDef, Procedure, Hlds}
use Rattle.md_reader.specs.Duplicates.{Declared, is_among, first_second, declared_type_definition, declared_functor, declared_functors, declared_procedure, earlier, second_type_definition, second_functor, second_procedure, duplicate}
use Rattle.md_printer.specs.Layout.{Tokens, sentence, in_parentheses}
use Rattle.md_printer.specs.Printed.{goal_tokens, expr_tokens, goals_tokens, further_goals, enclosed, choice_tokens, quantified_tokens, variables, type_tokens, procedure_sentences, declaration_tokens, written, variables_in_parentheses, module_tokens, printed}
use Rattle.md_printer.specs.Lines.{on_line, expr_on_line, goals_on_line, type_definition_on_line, procedure_on_lines, unlined}

-- ---- lines of lines

mutual
  pub on_line_again : (m n : ℕ) (p : HldsGoal) → on_line m (on_line n p) ≡ on_line m p
  on_line_again m n (At line t) = ap (At m) (expr_on_line_again m n t)

  expr_on_line_again : (m n : ℕ) (t : GoalExpr) → expr_on_line m (expr_on_line n t) ≡ expr_on_line m t
  expr_on_line_again m n (SimpleGoal s) = refl
  expr_on_line_again m n (CallGoal site q ys) = refl
  expr_on_line_again m n (HoCallGoal site f ys) = refl
  expr_on_line_again m n (ConjGoal ps) = ap ConjGoal (goals_on_line_again m n ps)
  expr_on_line_again m n (DisjGoal ps) = ap DisjGoal (goals_on_line_again m n ps)
  expr_on_line_again m n (IfGoal c t e) = rw (on_line_again m n c, on_line_again m n t, on_line_again m n e) refl
  expr_on_line_again m n (NotGoal c) = ap NotGoal (on_line_again m n c)
  expr_on_line_again m n (SomeGoal xs c) = ap (SomeGoal xs) (on_line_again m n c)

  goals_on_line_again : (m n : ℕ) (ps : HldsGoals) → goals_on_line m (goals_on_line n ps) ≡ goals_on_line m ps
  goals_on_line_again m n nothing = refl
  goals_on_line_again m n (also p ps) = rw (on_line_again m n p, goals_on_line_again m n ps) refl

pub procedure_again : (d c : ℕ) (p : Procedure) → procedure_on_lines 0 0 (procedure_on_lines d c p) ≡ procedure_on_lines 0 0 p
procedure_again d c p = ap (λ (b : HldsGoal). record p { line = 0; clause_line = 0; body = b }) (on_line_again 0 c p.body)

-- ---- the printed text

mutual
  goal_same : (vs : List (List ℕ)) (inner : Bool) (n : ℕ) (p : HldsGoal) → goal_tokens vs inner (on_line n p) ≡ goal_tokens vs inner p
  goal_same vs inner n (At line t) = expr_same vs inner n t

  expr_same : (vs : List (List ℕ)) (inner : Bool) (n : ℕ) (t : GoalExpr) → expr_tokens vs inner (expr_on_line n t) ≡ expr_tokens vs inner t
  expr_same vs inner n (SimpleGoal s) = refl
  expr_same vs inner n (CallGoal site q ys) = refl
  expr_same vs inner n (HoCallGoal site f ys) = refl
  expr_same vs inner n (ConjGoal ps) = ap (enclosed inner) (goals_same vs true (codes ",") n ps)
  expr_same vs inner n (DisjGoal ps) = ap in_parentheses (goals_same vs false (codes ";") n ps)
  expr_same vs inner n (IfGoal c t e) =
      ap (λ (x : Tokens). choice_tokens x (goal_tokens vs false (on_line n t)) (goal_tokens vs false (on_line n e))) (goal_same vs false n c)
      ∙ ap (λ (x : Tokens). choice_tokens (goal_tokens vs false c) x (goal_tokens vs false (on_line n e))) (goal_same vs false n t)
      ∙ ap (λ (x : Tokens). choice_tokens (goal_tokens vs false c) (goal_tokens vs false t) x) (goal_same vs false n e)
  expr_same vs inner n (NotGoal c) = ap (λ (x : Tokens). codes "not" ∷ in_parentheses x) (goal_same vs false n c)
  expr_same vs inner n (SomeGoal xs c) = ap (quantified_tokens (variables vs xs)) (goal_same vs false n c)

  goals_same : (vs : List (List ℕ)) (inner : Bool) (sign : List ℕ) (n : ℕ) (ps : HldsGoals) → goals_tokens vs inner sign (goals_on_line n ps) ≡ goals_tokens vs inner sign ps
  goals_same vs inner sign n nothing = refl
  goals_same vs inner sign n (also p ps) =
      ap (λ (x : Tokens). x ++ further_goals vs inner sign (goals_on_line n ps)) (goal_same vs inner n p)
      ∙ ap (λ (x : Tokens). goal_tokens vs inner p ++ x) (further_same vs inner sign n ps)

  further_same : (vs : List (List ℕ)) (inner : Bool) (sign : List ℕ) (n : ℕ) (ps : HldsGoals) → further_goals vs inner sign (goals_on_line n ps) ≡ further_goals vs inner sign ps
  further_same vs inner sign n nothing = refl
  further_same vs inner sign n (also p ps) =
      ap (λ (x : Tokens). sign ∷ (x ++ further_goals vs inner sign (goals_on_line n ps))) (goal_same vs inner n p)
      ∙ ap (λ (x : Tokens). sign ∷ (goal_tokens vs inner p ++ x)) (further_same vs inner sign n ps)

types_same : (ts : List HldsTypeDef) → map type_tokens (map (type_definition_on_line 0) ts) ≡ map type_tokens ts
types_same [] = refl
types_same (t ∷ ts) = ap (λ (xs : List Tokens). type_tokens t ∷ xs) (types_same ts)

sentences_same : (p : Procedure) → procedure_sentences (procedure_on_lines 0 0 p) ≡ procedure_sentences p
sentences_same p =
    ap (λ (b : Tokens). declaration_tokens p ∷ (written p.qualifier p.name ∷ (variables_in_parentheses p.vars p.head ++ codes ":-" ∷ b)) ∷ []) (goal_same p.vars false 0 p.body)

procedures_same : (ps : List Procedure) → flat_map procedure_sentences (map (procedure_on_lines 0 0) ps) ≡ flat_map procedure_sentences ps
procedures_same [] = refl
procedures_same (p ∷ ps) =
    ap (λ (xs : List Tokens). xs ++ flat_map procedure_sentences (map (procedure_on_lines 0 0) ps)) (sentences_same p)
    ∙ ap (λ (xs : List Tokens). procedure_sentences p ++ xs) (procedures_same ps)

printed_same : (l : Hlds) → printed (unlined l) ≡ printed l
unfolding printed
printed_same l =
    ap (λ (xs : List Tokens). flat_map sentence (module_tokens l.module_name ∷ (xs ++ flat_map procedure_sentences (map (procedure_on_lines 0 0) l.procedures)))) (types_same l.types)
    ∙ ap (λ (xs : List Tokens). flat_map sentence (module_tokens l.module_name ∷ (map type_tokens l.types ++ xs))) (procedures_same l.procedures)

-- programs that differ in lines alone are printed alike
pub printed_alike : (k l : Hlds) → unlined k ≡ unlined l → printed k ≡ printed l
printed_alike k l e = sym (printed_same k) ∙ ap printed e ∙ printed_same l

-- ---- second declarations

abbrev blank : Declared → Declared
blank d = record d { line = 0 }

abbrev is_none : Option ℕ → Bool
is_none None = true
is_none (Some n) = false

among_same : (d : Declared) (es : List Declared) → is_among (blank d) (map blank es) ≡ is_among d es
among_same d [] = refl
among_same d (e ∷ es) = rw (among_same d es) refl

none_of : (b : Bool) (m n : ℕ) (x y : Option ℕ) → is_none x ≡ is_none y → is_none (cond b (Some m) x) ≡ is_none (cond b (Some n) y)
none_of true m n x y e = refl
none_of false m n x y e = e

second_same : (seen ds : List Declared) → is_none (first_second (map blank seen) (map blank ds)) ≡ is_none (first_second seen ds)
second_same seen [] = refl
second_same seen (d ∷ ds) =
    ap (λ (b : Bool). is_none (cond b (Some 0) (first_second (map blank seen ++ blank d ∷ []) (map blank ds)))) (among_same d seen)
    ∙ none_of (is_among d seen) 0 d.line _ _
    (ap (λ (xs : List Declared). is_none (first_second xs (map blank ds))) (sym (map-append blank seen (d ∷ []))) ∙ second_same (seen ++ d ∷ []) ds)

type_definitions_blank : (ts : List HldsTypeDef) → map declared_type_definition (map (type_definition_on_line 0) ts) ≡ map blank (map declared_type_definition ts)
type_definitions_blank [] = refl
type_definitions_blank (t ∷ ts) = ap (λ (xs : List Declared). blank (declared_type_definition t) ∷ xs) (type_definitions_blank ts)

functors_of_one : (n : ℕ) (fs : List HldsFunctor) → map (declared_functor 0) fs ≡ map blank (map (declared_functor n) fs)
functors_of_one n [] = refl
functors_of_one n (f ∷ fs) = ap (λ (xs : List Declared). declared_functor 0 f ∷ xs) (functors_of_one n fs)

functors_blank : (ts : List HldsTypeDef) → flat_map declared_functors (map (type_definition_on_line 0) ts) ≡ map blank (flat_map declared_functors ts)
functors_blank [] = refl
functors_blank (t ∷ ts) =
    ap (λ (xs : List Declared). xs ++ flat_map declared_functors (map (type_definition_on_line 0) ts)) (functors_of_one t.line t.functors)
    ∙ ap (λ (xs : List Declared). map blank (declared_functors t) ++ xs) (functors_blank ts)
    ∙ sym (map-append blank (declared_functors t) (flat_map declared_functors ts))

procedures_blank : (ps : List Procedure) → map declared_procedure (map (procedure_on_lines 0 0) ps) ≡ map blank (map declared_procedure ps)
procedures_blank [] = refl
procedures_blank (p ∷ ps) = ap (λ (xs : List Declared). blank (declared_procedure p) ∷ xs) (procedures_blank ps)

none_some : (m : ℕ) (b : Option ℕ) → is_none (earlier (Some m) b) ≡ false
none_some m None = refl
none_some m (Some n) = refl

none_earlier : (a b c d : Option ℕ) → is_none a ≡ is_none c → is_none b ≡ is_none d → is_none (earlier a b) ≡ is_none (earlier c d)
none_earlier None b None d e f = f
none_earlier None b (Some n) d e f = absurd (cc)
none_earlier (Some m) b None d e f = absurd (cc)
none_earlier (Some m) b (Some n) d e f = none_some m b ∙ sym (none_some n d)

duplicate_same : (l : Hlds) → is_none (duplicate (unlined l)) ≡ is_none (duplicate l)
unfolding duplicate second_type_definition second_functor second_procedure
duplicate_same l =
    none_earlier _ _ _ _
    (ap (λ (xs : List Declared). is_none (first_second [] xs)) (type_definitions_blank l.types) ∙ second_same [] (map declared_type_definition l.types))
    (none_earlier _ _ _ _
    (ap (λ (xs : List Declared). is_none (first_second [] xs)) (functors_blank l.types) ∙ second_same [] (flat_map declared_functors l.types))
    (ap (λ (xs : List Declared). is_none (first_second [] xs)) (procedures_blank l.procedures) ∙ second_same [] (map declared_procedure l.procedures)))

is_none_none : (o : Option ℕ) → is_none o ≡ true → o ≡ None
is_none_none None h = refl
is_none_none (Some n) h = absurd (cc)

-- programs that differ in lines alone declare something a second time together
pub once_same : (k l : Hlds) → unlined k ≡ unlined l → duplicate l ≡ None → duplicate k ≡ None
once_same k l e h =
    is_none_none (duplicate k)
    (sym (duplicate_same k) ∙ ap (λ (m : Hlds). is_none (duplicate m)) e ∙ duplicate_same l ∙ ap is_none h)
