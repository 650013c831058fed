-- What a rule took can be filled up: declarations of predicates and their clauses.
use Rattle.std.proofs.Common.{◌≡◌, ℕ, zero, suc, List, [], ◌∷◌, ◌++◌, length, refl, Ok, Err, sym, subst}
use Rattle.md_hlds.specs.declared.goal.PredName.{PredName}
use Rattle.md_hlds.specs.Hlds.{Procedure}
use Rattle.md_token.specs.declared.kind.Kind.TheVariants as kind
use Rattle.md_token.specs.Token.{Lexeme}
use Rattle.md_reader.specs.Input.{Input, Parser, Outcome, ◌>>=◌, ◌>>◌, and_then, pure, expect, variable, end_clause, token, kind_at}
use Rattle.md_reader.specs.Rules as rule
use Rattle.md_reader.proofs.Fills.{upon, Every, Never, State, Law, Fills, bind_at, sequel, given, restated}
use Rattle.md_reader.proofs.FillsTokens.{expects, expect_at, Home, Seen}
use Rattle.md_reader.proofs.FillsNames.{variables, clause_ends, Declared, declared_names, this_line, this_lines}
use Rattle.md_reader.proofs.FillsLists.{law_like, fill_like}
use Rattle.md_reader.proofs.FillsTypes.{determinisms}
use Rattle.md_reader.proofs.FillsGoals.{BehindGoals, conjunctions}
use Rattle.md_reader.proofs.FillsPredicates.{IsIs, closing, declared_arguments}

-- ---- declarations

declared_determinisms : (S : State) (K : Lexeme → Type 0) → Fills S (λ _. S) IsIs K rule.declared_determinism (λ n. rule.declared_determinism)
unfolding rule.declared_determinism
declared_determinisms S K =
    sequel S (λ _. S) (λ _. S) IsIs Every K (expect kind.Is) _ (expects S IsIs Every kind.Is refl (λ i. refl))
    (λ _. sequel S (λ _. S) (λ _. S) Every Every K rule.determinism (λ d. expect kind.End >> pure d) (determinisms S Every)
    (λ d. closing S Every K kind.End d refl (λ i. tt)))

abbrev declares : PredName → Parser rule.Declaration
declares q = rule.declared_arguments >>= (λ as'. rule.declared_determinism >>= (λ d. pure (record { name = q; args = as'; det = d })))

declare_rest : (h : List ℕ) (K : Lexeme → Type 0) (q : PredName) → Fills (Declared h q) (λ (d : rule.Declaration). Declared h d.name) IsIs K (declares q) (λ n. declares q)
declare_rest h K q =
    sequel (Declared h q) (λ _. Declared h q) (λ (d : rule.Declaration). Declared h d.name) IsIs IsIs K rule.declared_arguments _ (declared_arguments (Declared h q))
    (λ as'. sequel (Declared h q) (λ _. Declared h q) (λ (d : rule.Declaration). Declared h d.name) IsIs K K rule.declared_determinism _ (declared_determinisms (Declared h q) K)
    (λ d. given (Declared h q) (λ (d : rule.Declaration). Declared h d.name) K (record { name = q; args = as'; det = d }) (λ home vars s. s)))

abbrev NamedRest : Parser rule.Declaration
NamedRest = rule.declared_name >>= declares

named_rest : (h : List ℕ) (K : Lexeme → Type 0) → Fills (Home h) (λ (d : rule.Declaration). Declared h d.name) Every K NamedRest (λ n. NamedRest)
named_rest h K = sequel (Home h) (Declared h) (λ (d : rule.Declaration). Declared h d.name) Every IsIs K rule.declared_name declares (declared_names h IsIs) (λ q. declare_rest h K q)

declaration_at : (h : List ℕ) (K : Lexeme → Type 0) (i : Input) → kind_at i ≡ kind.Pred → Home h i.home i.vars → Law (λ (d : rule.Declaration). Declared h d.name) Never K (λ n. rule.declaration) i (rule.declaration i)
unfolding rule.declaration
declaration_at h K i e s =
    bind_at (λ _. Home h) (λ (d : rule.Declaration). Declared h d.name) Never Every K (λ n. expect kind.Pred) (λ _ n. NamedRest) i (expect kind.Pred i) (λ _. NamedRest) (expect_at (Home h) Never Every kind.Pred i refl e s)
    (λ x j r q. (named_rest h K).law j q) (λ x j q. (named_rest h K).fill j q)

-- ---- heads

heads_from : (h : List ℕ) (n : ℕ) (found : List ℕ) → Fills (Seen h found) (λ _. Home h) Every Every (rule.head_from n found) (λ m. rule.head_from n found)
unfolding rule.head_from
heads_from h zero found =
    sequel (Seen h found) (λ x. Seen h (found ++ x ∷ [])) (λ _. Home h) Every Every Every (variable found) _ (variables h Every Every found (λ i. tt))
    (λ x. restated (Seen h (found ++ x ∷ [])) (Seen h (found ++ x ∷ [])) (λ _. Seen h (found ++ x ∷ [])) (λ _. Home h) Every Every (expect kind.Close >> pure (found ++ x ∷ [])) (λ n. expect kind.Close >> pure (found ++ x ∷ [])) (λ home vars s. s) (λ xs home vars s. s.0) (closing (Seen h (found ++ x ∷ [])) Every Every kind.Close (found ++ x ∷ []) refl (λ i. tt)))
heads_from h (suc n) found =
    sequel (Seen h found) (λ x. Seen h (found ++ x ∷ [])) (λ _. Home h) Every Every Every (variable found) _ (variables h Every Every found (λ i. tt))
    (λ x. sequel (Seen h (found ++ x ∷ [])) (λ _. Seen h (found ++ x ∷ [])) (λ _. Home h) Every Every Every (expect kind.Comma) (λ _. rule.head_from n (found ++ x ∷ [])) (expects (Seen h (found ++ x ∷ [])) Every Every kind.Comma refl (λ i. tt)) (λ _. heads_from h n (found ++ x ∷ [])))

heads : (h : List ℕ) (arity : ℕ) → Fills (Home h) (λ _. Home h) Every Every (rule.head arity) (λ m. rule.head arity)
unfolding rule.head
heads h zero = given (Home h) (λ _. Home h) Every [] (λ home vars s. s)
heads h (suc n) =
    sequel (Home h) (λ _. Home h) (λ _. Home h) Every Every Every (expect kind.Open) (λ _. rule.head_from n []) (expects (Home h) Every Every kind.Open refl (λ i. tt))
    (λ _. restated (Seen h []) (Home h) (λ _. Home h) (λ _. Home h) Every Every (rule.head_from n []) (λ m. rule.head_from n []) (λ home vars s. (s, tt)) (λ xs home vars s. s) (heads_from h n []))

-- ---- clauses

bodies : (h : List ℕ) (K : Lexeme → Type 0) → Fills (Home h) (λ _. Home h) Every K rule.body (λ n. rule.body)
unfolding rule.body
bodies h K =
    sequel (Home h) (λ _. Home h) (λ _. Home h) Every Every K (expect kind.Declare) _ (expects (Home h) Every Every kind.Declare refl (λ i. tt))
    (λ _. sequel (Home h) (λ _. Home h) (λ _. Home h) Every BehindGoals K rule.conjunction_at_most (λ g. expect kind.End >> pure g) (conjunctions h) (λ g. closing (Home h) BehindGoals K kind.End g refl (λ i. refl)))

-- a clause behind its name, whose line is this one
abbrev clause_rest : (arity line : ℕ) → Parser rule.Clause
clause_rest arity line = rule.head arity >>= (λ xs. rule.body >>= (λ g. end_clause >>= (λ vs. pure (record { line = line; head = xs; body = g; vars = vs }))))

clause_rests : (h : List ℕ) (K : Lexeme → Type 0) (arity line : ℕ) → Fills (Home h) (λ _. Home h) Every K (clause_rest arity line) (λ n. clause_rest arity line)
clause_rests h K arity line =
    sequel (Home h) (λ _. Home h) (λ _. Home h) Every Every K (rule.head arity) _ (heads h arity)
    (λ xs. sequel (Home h) (λ _. Home h) (λ _. Home h) Every K K rule.body _ (bodies h K)
    (λ g. sequel (Home h) (λ _. Home h) (λ _. Home h) K K K end_clause (λ vs. pure (record { line = line; head = xs; body = g; vars = vs })) (clause_ends h K)
    (λ vs. given (Home h) (λ _. Home h) K (record { line = line; head = xs; body = g; vars = vs }) (λ home vars s. s))))

line_same : {B : Type 0} (r : Outcome (Unit {0})) (line : ℕ) (f : ℕ → Parser B) → and_then r (λ _. f line) ≡ and_then (and_then r (λ x j. Ok (line, j))) f
line_same (Ok p) line f = refl
line_same (Err e) line f = refl

clause_is : (q : PredName) (arity : ℕ) (i : Input) → rule.clause q arity i ≡ (this_line q >>= clause_rest arity) i
unfolding rule.clause
clause_is q arity i = line_same (rule.this_name q i) (token i).line (clause_rest arity)

clauses : (h : List ℕ) (K : Lexeme → Type 0) (q : PredName) (arity : ℕ) → Fills (Declared h q) (λ _. Home h) Every K (rule.clause q arity) (λ n. rule.clause q arity)
clauses h K q arity =
    let f = sequel (Declared h q) (λ _. Home h) (λ _. Home h) Every Every K (this_line q) (clause_rest arity) (this_lines h Every q) (λ line. clause_rests h K arity line) in
    record {
      law = λ i s. law_like (λ _. Home h) Every K (λ n. rule.clause q arity) (λ n. this_line q >>= clause_rest arity) i 0 (rule.clause q arity i) (λ n ts le fit. clause_is q arity (upon n ts i))
          (subst (λ (r : Outcome rule.Clause). Law (λ _. Home h) Every K (λ n. this_line q >>= clause_rest arity) i r) (sym (clause_is q arity i)) (f.law i s));
      fill = λ i s. fill_like (λ _. Home h) Every K (λ n. rule.clause q arity) (λ n. this_line q >>= clause_rest arity) i 0 (λ n ts le fit. clause_is q arity (upon n ts i)) (f.fill i s);
    }

-- ---- a declaration and its clause

abbrev procedure_rest : (line : ℕ) → rule.Declaration → Parser Procedure
procedure_rest line d = rule.clause d.name (length d.args) >>= (λ c. pure (rule.procedure_from line d c))

procedure_rests : (h : List ℕ) (K : Lexeme → Type 0) (line : ℕ) (d : rule.Declaration) → Fills (Declared h d.name) (λ _. Home h) Every K (procedure_rest line d) (λ n. procedure_rest line d)
procedure_rests h K line d =
    sequel (Declared h d.name) (λ _. Home h) (λ _. Home h) Every K K (rule.clause d.name (length d.args)) (λ c. pure (rule.procedure_from line d c)) (clauses h K d.name (length d.args)) (λ c. given (Home h) (λ _. Home h) K (rule.procedure_from line d c) (λ home vars s. s))

pub procedure_at : (h : List ℕ) (K : Lexeme → Type 0) (line : ℕ) (i : Input) → kind_at i ≡ kind.Pred → Home h i.home i.vars → Law (λ _. Home h) Never K (λ n. rule.procedure line) i (rule.procedure line i)
unfolding rule.procedure
procedure_at h K line i e s =
    bind_at (λ (d : rule.Declaration). Declared h d.name) (λ _. Home h) Never Every K (λ n. rule.declaration) (λ d n. procedure_rest line d) i (rule.declaration i) (procedure_rest line) (declaration_at h Every i e s)
    (λ d j r q. (procedure_rests h K line d).law j q) (λ d j q. (procedure_rests h K line d).fill j q)
