-- The printed text of a program is spelled by the grammar as that program, but for line numbers.
use Rattle.std.specs.Prelude.{codes, nat_lt}
use Rattle.std.proofs.Common.{◌≡◌, ℕ, ◌+◌, Bool, true, false, not, ◌&&◌, None, List, [], ◌∷◌, ◌++◌, length, map, refl, ap, sym, ◌∙◌, subst, append_assoc}
use Rattle.std.proofs.lemmas.List.{map-append}
use Rattle.std.proofs.lemmas.Grind.{flat_map-append}
use Rattle.std.specs.List.{flat_map}
use Rattle.md_hlds.specs.declared.goal.PredName.{PredName}
use Rattle.md_hlds.specs.Hlds.{HldsTypeDef, Procedure, Hlds}
use Rattle.md_token.specs.declared.kind.Kind.{Kind}
use Rattle.md_token.specs.declared.kind.Kind.TheVariants as kind
use Rattle.md_token.specs.Token.{tokens_of}
use Rattle.md_token.proofs.Spelled as spelled
use Rattle.md_token.proofs.Spelled.{Reads, lexeme}
use Rattle.md_token.proofs.SpelledTokens.{Fine, tokens_fine}
use Rattle.md_reader.specs.Input.{Input, expect, word, variable, token, sees, next, end_clause, take_name}
use Rattle.md_reader.specs.Rules as rule
use Rattle.md_reader.specs.Duplicates.{duplicate}
use Rattle.md_reader.specs.Grammar as g
use Rattle.md_reader.specs.Grammar.{Is, Sign, Listed, Spells}
use Rattle.md_reader.proofs.CompleteTexts.{one_program}
use Rattle.md_reader.proofs.Steps.{bind_ok}
use Rattle.md_printer.specs.Layout.{Tokens, sentence}
use Rattle.md_printer.specs.Printed as print
use Rattle.md_printer.specs.Printed.{type_tokens, procedure_sentences, module_tokens, printed}
use Rattle.md_printer.specs.Lines.{on_line, type_definition_on_line, procedure_on_lines, unlined, SpellsUpToLines, IsSpelled}
use Rattle.md_printer.proofs.Onto.{onto, onto-append, sentence_onto, at, Good, next_good, at_token, known, goals_at}
use Rattle.md_printer.proofs.Moves.{ok_parts, holds, Still, still_on, sign_still, expect_still, word_still, this_name_still, Onward, onward, on_to, from_still, Within, variables_listed, conjunction_onward, type_declaration_still, pred_declaration_still, take_facts}
use Rattle.md_printer.proofs.Takes.{same_itself, token_fine, expect_takes, end_takes, word_takes, token_line, IsPrintable, this_name_takes, end_clause_again}
use Rattle.md_printer.proofs.AgainTypes.{type_again, type_rest, declaration_again, declaration_rest, declared_printable, same_home}
use Rattle.md_printer.proofs.AgainGoals.{sign_again, expect_again, listed_variables, closed_variables}
use Rattle.md_printer.proofs.AgainParts.{body_again}
use Rattle.md_printer.proofs.Unlined.{procedure_again, printed_alike, once_same}

-- ---- clauses

head_onward : (arity : ℕ) (xs : List ℕ) (i j : Input) → g.Head arity xs i j → Onward i j
head_onward _ _ _ _ (g.Head.none i) = record { good = λ a. a; names = λ vs w. w }
head_onward _ _ _ _ (g.Head.some xs i j k l o v new z) = from_still i j l (sign_still kind.Open i j o) (on_to j k l (variables_listed xs j k v) (onward k l (sign_still kind.Close k l z)))

variables_of_head : (vs : List (List ℕ)) (xs : List ℕ) (i j : Input) → Listed (Is (variable [])) kind.Comma xs i j → print.variables_in_parentheses vs xs ≡ codes "(" ∷ closed_variables vs (codes ")") xs
variables_of_head vs _ _ _ (g.Listed.last x i j h) = refl
variables_of_head vs _ _ _ (g.Listed.also x xs i j m n h sg l) = refl

head_again : (vs : List (List ℕ)) (arity : ℕ) (xs : List ℕ) (i j : Input) → g.Head arity xs i j → Good i → Within j.vars vs → (n : ℕ) (s : List ℕ)
    → g.Head arity xs (at n (onto (print.variables_in_parentheses vs xs) s) i) (at n s j)
head_again vs _ _ _ _ (g.Head.none i) a w n s = g.Head.none (at n s i)
head_again vs _ _ _ _ (g.Head.some xs i j k l o v new z) a w n s =
    let wk : Within k.vars vs = (onward k l (sign_still kind.Close k l z)).names vs w in
    let u1 : List ℕ = codes ")" ++ 32 ∷ s in
    let u2 : List ℕ = onto (print.variables vs xs) u1 in
    subst (λ (ts : Tokens). g.Head (length xs) xs (at n (onto ts s) i) (at n s l)) (sym (variables_of_head vs xs j k v))
    (subst (λ (u : List ℕ). g.Head (length xs) xs (at n (codes "(" ++ 32 ∷ u) i) (at n s l)) (sym (onto-append (print.variables vs xs) (codes ")" ∷ []) s))
    (g.Head.some xs (at n (codes "(" ++ 32 ∷ u2) i) (at n u2 j) (at n u1 k) (at n s l)
    (sign_again kind.Open (codes "(") spelled.reads_open i j o n u2)
    (listed_variables vs xs j k v ((sign_still kind.Open i j o).good a) wk n u1)
    new
    (sign_again kind.Close (codes ")") spelled.reads_close k l z n s)))

end_again : (i j : Input) → Sign kind.End i j → (n : ℕ) (s : List ℕ) → Sign kind.End (at n (46 ∷ 10 ∷ s) i) (at (n + 1) s j)
end_again i j h n s = subst (λ (m : Input). Sign kind.End (at n (46 ∷ 10 ∷ s) i) m) ((sign_still kind.End i j h).same (n + 1) s) (end_takes n s i)

append_none : {A : Type 0} (xs : List A) → xs ≡ xs ++ []
append_none [] = refl
append_none (x ∷ xs) = ap (λ ys. x ∷ ys) (append_none xs)

abbrev clause_parts : PredName → rule.Clause → Tokens
clause_parts q c = print.written_name q ∷ (print.variables_in_parentheses c.vars c.head ++ codes ":-" ∷ print.goal_tokens c.vars false c.body)

abbrev clause_on : ℕ → rule.Clause → rule.Clause
clause_on n c = record { line = n; head = c.head; body = on_line n c.body; vars = c.vars }

clause_good : (q : PredName) (arity : ℕ) (c : rule.Clause) (i j : Input) → g.PredClause q arity c i j → Good i → Good j
unfolding end_clause
clause_good q arity _ _ _ (g.PredClause.pred_clause xs p vs i j k l m n o h hd d b e z) a =
    let gk : Good k = (head_onward arity xs j k hd).good ((this_name_still q i j h).good a) in
    let gm : Good m = (conjunction_onward l.limits.goals p l m b).good ((sign_still kind.Declare k l d).good gk) in
    let gn : Good n = (sign_still kind.End m n e).good gm in
    subst Good (ok_parts n.vars vs (record n { vars = [] }) o z).1 gn

clause_again : (q : PredName) (arity : ℕ) (c : rule.Clause) (i j : Input) → g.PredClause q arity c i j → IsPrintable i.home q → Good i → (n : ℕ) (s : List ℕ)
    → g.PredClause q arity (clause_on n c) (at n (onto (clause_parts q c) (46 ∷ 10 ∷ s)) i) (at (n + 1) s j)
clause_again q arity _ _ _ (g.PredClause.pred_clause xs p vs i j k l m n o h hd d b e z) pr a w s =
    let ec = end_clause_again vs n o z in
    let wn : Within n.vars vs = record { more = []; whole = sym ec.0 ∙ append_none n.vars } in
    let wm : Within m.vars vs = (onward m n (sign_still kind.End m n e)).names vs wn in
    let wl : Within l.vars vs = (conjunction_onward l.limits.goals p l m b).names vs wm in
    let wk : Within k.vars vs = (onward k l (sign_still kind.Declare k l d)).names vs wl in
    let gj : Good j = (this_name_still q i j h).good a in
    let gl : Good l = (sign_still kind.Declare k l d).good ((head_onward arity xs j k hd).good gj) in
    let u1 : List ℕ = 46 ∷ 10 ∷ s in
    let u2 : List ℕ = onto (print.goal_tokens vs false p) u1 in
    let u3 : List ℕ = codes ":-" ++ 32 ∷ u2 in
    let u4 : List ℕ = onto (print.variables_in_parentheses vs xs) u3 in
    let start : Input = at w (print.written_name q ++ 32 ∷ u4) i in
    subst (λ (u : List ℕ). g.PredClause q arity (record { line = w; head = xs; body = on_line w p; vars = vs }) (at w (print.written_name q ++ 32 ∷ u) i) (at (w + 1) s o))
    (sym (onto-append (print.variables_in_parentheses vs xs) (codes ":-" ∷ print.goal_tokens vs false p) u1))
    (subst (λ (line : ℕ). g.PredClause q arity (record { line = line; head = xs; body = on_line w p; vars = vs }) start (at (w + 1) s o)) (token_line pr.kind_of_name (print.written_name q) pr.reads w u4 i)
    (g.PredClause.pred_clause xs (on_line w p) vs start (at w u4 j) (at w u3 k) (at w u2 l) (at w u1 m) (at (w + 1) s n) (at (w + 1) s o)
    (subst (λ (y : Input). Is (rule.this_name q) tt start y) ((this_name_still q i j h).same w u4) (this_name_takes q i pr w u4))
    (head_again vs arity xs j k hd gj wk w u3)
    (sign_again kind.Declare (codes ":-") spelled.reads_declare k l d w u2)
    (body_again vs l.limits.goals p l m b (at w u2 l).limits.goals (goals_at w u2 l l gl) gl wm w u1)
    (end_again m n e w s)
    (ec.1 (w + 1) s)))

-- ---- declarations

two_sentences : (a b : Tokens) (s : List ℕ) → flat_map sentence (a ∷ b ∷ []) ++ s ≡ onto a (46 ∷ 10 ∷ onto b (46 ∷ 10 ∷ s))
two_sentences a b s =
    append_assoc (sentence a) (sentence b ++ []) s
    ∙ sentence_onto a ((sentence b ++ []) ++ s)
    ∙ ap (λ (u : List ℕ). onto a (46 ∷ 10 ∷ u)) (append_assoc (sentence b) [] s ∙ sentence_onto b s)

predicate_again : (d : rule.Declaration) (c : rule.Clause) (line : ℕ) (i j k l : Input) → Is (expect kind.Declare) line i j → g.PredDeclaration d j k → g.PredClause d.name (length d.args) c k l → Good i
    → (before : Hlds) (n : ℕ) (s : List ℕ)
    → g.Declared before (rule.with_procedure before (procedure_on_lines n (n + 1) (rule.procedure_from line d c))) (at n (flat_map sentence (procedure_sentences (rule.procedure_from line d c)) ++ s) i) (at (n + 1 + 1) s l)
unfolding rule.procedure_from
predicate_again d c line i j k l e h b a before n s =
    let gj : Good j = (expect_still kind.Declare line i j e).good a in
    let st = pred_declaration_still d j k h in
    let pr : IsPrintable k.home d.name = subst (λ (home : List ℕ). IsPrintable home d.name) (same_home j k st) (declared_printable d j k h gj) in
    let u1 : List ℕ = onto (clause_parts d.name c) (46 ∷ 10 ∷ s) in
    let u2 : List ℕ = onto (declaration_rest d) (46 ∷ 10 ∷ u1) in
    subst (λ (u : List ℕ). g.Declared before (rule.with_procedure before (procedure_on_lines n (n + 1) (rule.procedure_from line d c))) (at n u i) (at (n + 1 + 1) s l))
    (sym (two_sentences (codes ":-" ∷ declaration_rest d) (clause_parts d.name c) s))
    (g.Declared.predicate d (clause_on (n + 1) c) n (at n (codes ":-" ++ 32 ∷ u2) i) (at n u2 j) (at (n + 1) u1 k) (at (n + 1 + 1) s l)
    (expect_again kind.Declare (codes ":-") spelled.reads_declare line i j e n u2)
    (subst (λ (y : Input). g.PredDeclaration d (at n u2 j) y) (st.same (n + 1) u1) (declaration_again d j k h gj n u1))
    (clause_again d.name (length d.args) c k l b pr (st.good gj) (n + 1) s))

type_definition_again : (t : HldsTypeDef) (line : ℕ) (i j k : Input) → Is (expect kind.Declare) line i j → g.TypeDeclaration line t j k → Good i
    → (before : Hlds) (n : ℕ) (s : List ℕ) (m : Input)
    → g.Declared before (rule.with_type_definition before (type_definition_on_line n t)) (at n (sentence (type_tokens t) ++ s) m) (at (n + 1) s m)
type_definition_again t line i j k e h a before n s m =
    let u : List ℕ = onto (type_rest t) (46 ∷ 10 ∷ s) in
    subst (λ (v : List ℕ). g.Declared before (rule.with_type_definition before (type_definition_on_line n t)) (at n v m) (at (n + 1) s m)) (sym (sentence_onto (type_tokens t) s))
    (g.Declared.type (type_definition_on_line n t) n (at n (codes ":-" ++ 32 ∷ u) m) (at n u m) (at (n + 1) s m)
    (expect_takes kind.Declare (codes ":-") spelled.reads_declare n u m)
    (type_again line t j k h ((expect_still kind.Declare line i j e).good a) n s m))

-- a program with these declarations besides, from a line on; and the line past them
abbrev add_types : ℕ → Hlds → List HldsTypeDef → Hlds
add_types n b [] = b
add_types n b (t ∷ ts) = add_types (n + 1) (rule.with_type_definition b (type_definition_on_line n t)) ts

abbrev past_types : ℕ → List HldsTypeDef → ℕ
past_types n [] = n
past_types n (t ∷ ts) = past_types (n + 1) ts

abbrev add_procedures : ℕ → Hlds → List Procedure → Hlds
add_procedures n b [] = b
add_procedures n b (p ∷ ps) = add_procedures (n + 1 + 1) (rule.with_procedure b (procedure_on_lines n (n + 1) p)) ps

abbrev past_procedures : ℕ → List Procedure → ℕ
past_procedures n [] = n
past_procedures n (p ∷ ps) = past_procedures (n + 1 + 1) ps

-- what was declared, and how it is declared again: all types, in any state, and then all predicates
record DeclaredAgain (before after : Hlds) (i j : Input) : Type 0 where
  types : List HldsTypeDef
  procedures : List Procedure
  types_are : after.types ≡ before.types ++ types
  procedures_are : after.procedures ≡ before.procedures ++ procedures
  name_is : after.module_name ≡ before.module_name
  types_again : (b : Hlds) (n : ℕ) (s : List ℕ) (m : Input) → g.Declarations b (add_types n b types) (at n (flat_map sentence (map type_tokens types) ++ s) m) (at (past_types n types) s m)
  procedures_again : (b : Hlds) (n : ℕ) (s : List ℕ) → g.Declarations b (add_procedures n b procedures) (at n (flat_map sentence (flat_map procedure_sentences procedures) ++ s) i) (at (past_procedures n procedures) s j)

no_more : (l : Hlds) (i : Input) → DeclaredAgain l l i i
no_more l i = record {
  types = [];
  procedures = [];
  types_are = append_none l.types;
  procedures_are = append_none l.procedures;
  name_is = refl;
  types_again = λ b n s m. g.Declarations.none b (at n s m);
  procedures_again = λ b n s. g.Declarations.none b (at n s i);
}

type_more : (before after : Hlds) (t : HldsTypeDef) (line : ℕ) (i j k m : Input) → Is (expect kind.Declare) line i j → g.TypeDeclaration line t j k → Good i → DeclaredAgain (rule.with_type_definition before t) after k m → DeclaredAgain before after i m
unfolding rule.with_type_definition
type_more before after t line i j k m e h a r = record {
  types = t ∷ r.types;
  procedures = r.procedures;
  types_are = r.types_are ∙ append_assoc before.types (t ∷ []) r.types;
  procedures_are = r.procedures_are;
  name_is = r.name_is;
  types_again = λ b n s y.
      let u : List ℕ = flat_map sentence (map type_tokens r.types) ++ s in
      subst (λ (v : List ℕ). g.Declarations b (add_types n b (t ∷ r.types)) (at n v y) (at (past_types n (t ∷ r.types)) s y)) (sym (append_assoc (sentence (type_tokens t)) (flat_map sentence (map type_tokens r.types)) s))
      (g.Declarations.also b (rule.with_type_definition b (type_definition_on_line n t)) (add_types n b (t ∷ r.types)) (at n (sentence (type_tokens t) ++ u) y) (at (n + 1) u y) (at (past_types n (t ∷ r.types)) s y)
      (type_definition_again t line i j k e h a b n u y)
      (r.types_again (rule.with_type_definition b (type_definition_on_line n t)) (n + 1) s y));
  procedures_again = λ b n s.
      let st : Still i k = still_on i j k (expect_still kind.Declare line i j e) (type_declaration_still line t j k h) in
      subst (λ (y : Input). g.Declarations b (add_procedures n b r.procedures) y (at (past_procedures n r.procedures) s m)) (sym (st.same n (flat_map sentence (flat_map procedure_sentences r.procedures) ++ s))) (r.procedures_again b n s);
}

predicate_more : (before after : Hlds) (d : rule.Declaration) (c : rule.Clause) (line : ℕ) (i j k l m : Input) → Is (expect kind.Declare) line i j → g.PredDeclaration d j k → g.PredClause d.name (length d.args) c k l → Good i
    → DeclaredAgain (rule.with_procedure before (rule.procedure_from line d c)) after l m → DeclaredAgain before after i m
unfolding rule.with_procedure
predicate_more before after d c line i j k l m e h f a r =
    let p : Procedure = rule.procedure_from line d c in
    record {
      types = r.types;
      procedures = p ∷ r.procedures;
      types_are = r.types_are;
      procedures_are = r.procedures_are ∙ append_assoc before.procedures (p ∷ []) r.procedures;
      name_is = r.name_is;
      types_again = r.types_again;
      procedures_again = λ b n s.
          let u : List ℕ = flat_map sentence (flat_map procedure_sentences r.procedures) ++ s in
          subst (λ (v : List ℕ). g.Declarations b (add_procedures n b (p ∷ r.procedures)) (at n v i) (at (past_procedures n (p ∷ r.procedures)) s m))
          (sym (ap (λ (v : List ℕ). v ++ s) (flat_map-append sentence (procedure_sentences p) (flat_map procedure_sentences r.procedures)) ∙ append_assoc (flat_map sentence (procedure_sentences p)) (flat_map sentence (flat_map procedure_sentences r.procedures)) s))
          (g.Declarations.also b (rule.with_procedure b (procedure_on_lines n (n + 1) p)) (add_procedures n b (p ∷ r.procedures)) (at n (flat_map sentence (procedure_sentences p) ++ u) i) (at (n + 1 + 1) u l) (at (past_procedures n (p ∷ r.procedures)) s m)
          (predicate_again d c line i j k l e h f a b n u)
          (r.procedures_again (rule.with_procedure b (procedure_on_lines n (n + 1) p)) (n + 1 + 1) s));
    }

declarations_again : (before after : Hlds) (i m : Input) → g.Declarations before after i m → Good i → DeclaredAgain before after i m
declarations_again _ _ _ _ (g.Declarations.none l i) a = no_more l i
declarations_again _ _ _ _ (g.Declarations.also before _ after i k m (g.Declared.type t line _ j _ e h) ds) a =
    type_more before after t line i j k m e h a (declarations_again (rule.with_type_definition before t) after k m ds ((type_declaration_still line t j k h).good ((expect_still kind.Declare line i j e).good a)))
declarations_again _ _ _ _ (g.Declarations.also before _ after i l m (g.Declared.predicate d c line _ j k _ e h f) ds) a =
    predicate_more before after d c line i j k l m e h f a
    (declarations_again (rule.with_procedure before (rule.procedure_from line d c)) after l m ds
    (clause_good d.name (length d.args) c k l f ((pred_declaration_still d j k h).good ((expect_still kind.Declare line i j e).good a))))

declarations_joined : (a b c : Hlds) (i j k : Input) → g.Declarations a b i j → g.Declarations b c j k → g.Declarations a c i k
declarations_joined _ _ c _ _ k (g.Declarations.none l i) later = later
declarations_joined _ _ c _ _ k (g.Declarations.also before l after i j m d ds) later = g.Declarations.also before l c i j k d (declarations_joined l after c j m k ds later)

-- ---- lines that were lost

abbrev made : List ℕ → List HldsTypeDef → List Procedure → Hlds
made m ts ps = record { module_name = m; module_line = 0; types = map (type_definition_on_line 0) ts; procedures = map (procedure_on_lines 0 0) ps }

types_added : (n : ℕ) (b : Hlds) (ts : List HldsTypeDef) → unlined (add_types n b ts) ≡ made b.module_name (b.types ++ ts) b.procedures
unfolding rule.with_type_definition
types_added n b [] = ap (λ (ts : List HldsTypeDef). made b.module_name ts b.procedures) (append_none b.types)
types_added n b (t ∷ ts) =
    types_added (n + 1) (rule.with_type_definition b (type_definition_on_line n t)) ts
    ∙ ap (λ (xs : List HldsTypeDef). record { module_name = b.module_name; module_line = 0; types = xs; procedures = map (procedure_on_lines 0 0) b.procedures })
    (ap (map (type_definition_on_line 0)) (append_assoc b.types (type_definition_on_line n t ∷ []) ts) ∙ map-append (type_definition_on_line 0) b.types (type_definition_on_line n t ∷ ts) ∙ sym (map-append (type_definition_on_line 0) b.types (t ∷ ts)))

procedures_added : (n : ℕ) (b : Hlds) (ps : List Procedure) → unlined (add_procedures n b ps) ≡ made b.module_name b.types (b.procedures ++ ps)
unfolding rule.with_procedure
procedures_added n b [] = ap (λ (ps : List Procedure). made b.module_name b.types ps) (append_none b.procedures)
procedures_added n b (p ∷ ps) =
    procedures_added (n + 1 + 1) (rule.with_procedure b (procedure_on_lines n (n + 1) p)) ps
    ∙ ap (λ (xs : List Procedure). record { module_name = b.module_name; module_line = 0; types = map (type_definition_on_line 0) b.types; procedures = xs })
    (ap (map (procedure_on_lines 0 0)) (append_assoc b.procedures (procedure_on_lines n (n + 1) p ∷ []) ps)
    ∙ map-append (procedure_on_lines 0 0) b.procedures (procedure_on_lines n (n + 1) p ∷ ps)
    ∙ ap (λ (q : Procedure). map (procedure_on_lines 0 0) b.procedures ++ q ∷ map (procedure_on_lines 0 0) ps) (procedure_again n (n + 1) p)
    ∙ sym (map-append (procedure_on_lines 0 0) b.procedures (p ∷ ps)))

-- ---- programs

name_kind_reads : (k : Kind) (t : List ℕ) → rule.is_name k ≡ true → Fine k t → Reads k t
name_kind_reads kind.Name t h f = f
name_kind_reads kind.True t h f = f
name_kind_reads kind.Fail t h f = f
name_kind_reads kind.Not t h f = f
name_kind_reads kind.Some t h f = f
name_kind_reads kind.Call t h f = f
name_kind_reads kind.Is t h f = f
name_kind_reads kind.Pred t h f = f
name_kind_reads _ t h f = absurd (cc)

-- the name of a module, which its declaration gives
record IsModule (m : List ℕ) (i j : Input) : Type 0 where
  allowed : (rule.is_name (token i).kind && not (rule.is_library m)) ≡ true
  short : nat_lt i.limits.items (length m) ≡ false
  here : (token i).text ≡ m
  on : record (next i) { home = m } ≡ j

module_facts : (m : List ℕ) (i j : Input) → Is rule.module_name m i j → IsModule m i j
unfolding rule.module_name
module_facts m i j h =
    let t = (token i).text in
    let a = holds (rule.is_name (token i).kind && not (rule.is_library t)) _ _ _ h in
    let b = bind_ok (take_name t i) _ _ a.1 in
    let f = take_facts t b.0.0 i b.0.1 b.1 in
    let c = ok_parts b.0.0 m (record b.0.1 { home = t }) j b.2 in
    let e : t ≡ m = f.1 ∙ c.0 in
    record {
      allowed = subst (λ (x : List ℕ). (rule.is_name (token i).kind && not (rule.is_library x)) ≡ true) e a.0;
      short = subst (λ (x : List ℕ). nat_lt i.limits.items (length x) ≡ false) e f.0;
      here = e;
      on = ap (λ (x : List ℕ). record (next i) { home = x }) (sym e) ∙ ap (λ (y : Input). record y { home = t }) f.2 ∙ c.1;
    }

and_first : (a b : Bool) → (a && b) ≡ true → a ≡ true
and_first true b h = refl
and_first false b h = absurd (cc)

module_reads : (m : List ℕ) (i j : Input) → IsModule m i j → Good i → Reads (token i).kind m
module_reads m i j f a = name_kind_reads (token i).kind m (and_first _ _ f.allowed) (subst (Fine (token i).kind) f.here (token_fine i a))

module_good : (m : List ℕ) (i j : Input) → IsModule m i j → Good i → Good j
module_good m i j f a = subst Good f.on (next_good i a)

module_takes : (m : List ℕ) (i j : Input) → IsModule m i j → Good i → (n : ℕ) (s : List ℕ) → Is rule.module_name m (at n (m ++ 32 ∷ s) i) (at n s j)
unfolding rule.module_name take_name token next at
module_takes m i j f a n s =
    subst (λ (y : Input). Is rule.module_name m (at n (m ++ 32 ∷ s) i) (at n s y)) f.on
    (subst (λ (y : Input). Is rule.module_name m y (at n s (record (next i) { home = m }))) (sym (at_token (token i).kind m (module_reads m i j f a) n s i)) (rw (f.allowed, known (λ l. l.items) i a (λ k. nat_lt k (length m) ≡ false) f.short) refl))

abbrev heading : ℕ → List ℕ → Hlds
heading line m = record { module_name = m; module_line = line; types = []; procedures = [] }

at_start : (s : List ℕ) (i : Input) → i.home ≡ [] → i.vars ≡ [] → i.sites ≡ 0 → rule.start (tokens_of s) ≡ at 1 s i
unfolding tokens_of at
at_start s i h v z = rw (h, v, z) refl

at_stop_sees : (n : ℕ) (i : Input) → sees kind.Stop (at n [] i) ≡ true
unfolding sees token at
at_stop_sees n i = same_itself kind.Stop

text_is : (l : Hlds) (m : List ℕ) (ts : List HldsTypeDef) (ps : List Procedure) → l.module_name ≡ m → l.types ≡ ts → l.procedures ≡ ps
    → printed l ≡ onto (module_tokens m) (46 ∷ 10 ∷ (flat_map sentence (map type_tokens ts) ++ (flat_map sentence (flat_map procedure_sentences ps) ++ [])))
unfolding printed
text_is l m ts ps n t p =
    let us : List ℕ = flat_map sentence (map type_tokens ts) in
    let vs : List ℕ = flat_map sentence (flat_map procedure_sentences ps) in
    rw (n, t, p)
    (ap (λ (x : List ℕ). sentence (module_tokens m) ++ x) (flat_map-append sentence (map type_tokens ts) (flat_map procedure_sentences ps) ∙ ap (λ (x : List ℕ). us ++ x) (append_none vs))
    ∙ sentence_onto (module_tokens m) (us ++ (vs ++ [])))

lines_lost : (b l : Hlds) (m : List ℕ) (ts : List HldsTypeDef) (ps : List Procedure) → unlined b ≡ made m ([] ++ ts) [] → l.types ≡ [] ++ ts → l.procedures ≡ [] ++ ps → l.module_name ≡ m
    → made b.module_name b.types (b.procedures ++ ps) ≡ unlined l
lines_lost b l m ts ps e t p n =
    let names : b.module_name ≡ m = ap (λ (x : Hlds). x.module_name) e in
    let types : map (type_definition_on_line 0) b.types ≡ map (type_definition_on_line 0) ts = ap (λ (x : Hlds). x.types) e in
    let none : map (procedure_on_lines 0 0) b.procedures ≡ [] = ap (λ (x : Hlds). x.procedures) e in
    let all : map (procedure_on_lines 0 0) (b.procedures ++ ps) ≡ map (procedure_on_lines 0 0) ps = map-append (procedure_on_lines 0 0) b.procedures ps ∙ ap (λ (xs : List Procedure). xs ++ map (procedure_on_lines 0 0) ps) none in
    rw (names, types, all, t, p, n) refl

-- the declaration of the module, and what follows
program_again : (l : Hlds) (i p : Input) → g.Program l i p → Good i → i.home ≡ [] → i.vars ≡ [] → i.sites ≡ 0 → duplicate l ≡ None → SpellsUpToLines (printed l) l
program_again _ _ _ (g.Program.program m line at' l i j k n o p e w mn z ds) a h v st once =
    let gj : Good j = (expect_still kind.Declare line i j e).good a in
    let gk : Good k = (word_still (codes "module") at' j k w).good gj in
    let f = module_facts m k n mn in
    let go : Good o = (sign_still kind.End n o z).good (module_good m k n f gk) in
    let r = declarations_again (heading line m) l o p ds go in
    let b1 : Hlds = heading 1 m in
    let b2 : Hlds = add_types 2 b1 r.types in
    let n2 : ℕ = past_types 2 r.types in
    let b3 : Hlds = add_procedures n2 b2 r.procedures in
    let n3 : ℕ = past_procedures n2 r.procedures in
    let ts : List ℕ = flat_map sentence (map type_tokens r.types) in
    let ps : List ℕ = flat_map sentence (flat_map procedure_sentences r.procedures) in
    let u1 : List ℕ = ts ++ (ps ++ []) in
    let u2 : List ℕ = m ++ 32 ∷ (46 ∷ 10 ∷ u1) in
    let u3 : List ℕ = codes "module" ++ 32 ∷ u2 in
    let whole : List ℕ = codes ":-" ++ 32 ∷ u3 in
    let text : printed l ≡ whole = text_is l m r.types r.procedures r.name_is r.types_are r.procedures_are in
    let last : Input = at n3 [] p in
    let same : unlined b3 ≡ unlined l =
    procedures_added n2 b2 r.procedures
    ∙ lines_lost b2 l m r.types r.procedures (types_added 2 b1 r.types) r.types_are r.procedures_are r.name_is in
    let program : g.Program b3 (at 1 whole i) last =
    g.Program.program m 1 1 b3 (at 1 whole i) (at 1 u3 j) (at 1 u2 k) (at 1 (46 ∷ 10 ∷ u1) n) (at 2 u1 o) last
    (expect_again kind.Declare (codes ":-") spelled.reads_declare line i j e 1 u3)
    (subst (λ (y : Input). Is (word (codes "module")) 1 (at 1 u3 j) y) ((word_still (codes "module") at' j k w).same 1 u2) (word_takes (codes "module") spelled.reads_word_module 1 u2 j))
    (module_takes m k n f gk 1 (46 ∷ 10 ∷ u1))
    (end_again n o z 1 u1)
    (declarations_joined b1 b2 b3 (at 2 u1 o) (at n2 (ps ++ []) o) last (r.types_again b1 2 (ps ++ []) o) (r.procedures_again b2 n2 [])) in
    subst (λ (t : List ℕ). SpellsUpToLines t l) (sym text) (record {
      listing = b3;
      spelled = record {
        end = last;
        program = subst (λ (y : Input). g.Program b3 y last) (sym (at_start whole i h v st)) program;
        whole = at_stop_sees n3 p;
        once = once_same b3 l same once;
      };
      same = same;
    })

spelled_again : (text : List ℕ) (l : Hlds) → Spells text l → SpellsUpToLines (printed l) l
spelled_again text l q = program_again l (rule.start (tokens_of text)) q.end q.program (tokens_fine text, refl) refl refl refl q.once

-- what some text spells, up to line numbers, its printed text spells, up to line numbers
pub round_trip : (l : Hlds) → IsSpelled l → SpellsUpToLines (printed l) l
round_trip l q =
    let k = q.spelled.listing in
    let r = spelled_again q.text k q.spelled.spelled in
    let e : printed k ≡ printed l = printed_alike k l q.spelled.same in
    record {
      listing = r.listing;
      spelled = subst (λ (t : List ℕ). Spells t r.listing) e r.spelled;
      same = r.same ∙ q.spelled.same;
    }

-- the printed text spells no other program
pub no_other : (l : Hlds) → IsSpelled l → (k : Hlds) → Spells (printed l) k → unlined k ≡ unlined l
no_other l q k h =
    let r = round_trip l q in
    ap unlined (one_program (printed l) k r.listing h r.spelled) ∙ r.same
