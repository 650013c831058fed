-- The grammar, as a definite clause grammar: each symbol relates the place before its tokens to the place after them.
-- What one token stands for is given by the words of `Input` and `Rules` that take one token.
use Rattle.std.specs.Prelude.{⊤, ◌==◌, ◌≡◌, ℕ, suc, ◌<◌, ◌≤◌, true as yes, false, List, [], ◌∷◌, ◌++◌, length, Some, None, Ok, codes}
use Rattle.std.specs.List.{list_any}
use Rattle.md_hlds.specs.declared.types.Mode.{Mode}
use Rattle.md_hlds.specs.declared.types.Det.{Det}
use Rattle.md_hlds.specs.declared.goal.PredName.{PredName}
use Rattle.md_hlds.specs.declared.goal.Term.TheVariants as term
use Rattle.md_hlds.specs.declared.goal.Op.{Op}
use Rattle.md_hlds.specs.declared.goal.Cmp.{Cmp}
use Rattle.md_hlds.specs.HldsGoal.{HldsGoal, At, GoalExpr, SimpleGoal, CallGoal, HoCallGoal, DisjGoal, IfGoal, NotGoal, SomeGoal, gathered, Succeeds, Fails, Unifies, Computes, Compares}
use Rattle.md_hlds.specs.Hlds.{HldsType, closure, gathered_types, HldsFunctor, HldsTypeDef, Hlds}
use Rattle.md_token.specs.declared.kind.Kind.{Kind}
use Rattle.md_token.specs.declared.kind.Kind.TheVariants as kind
use Rattle.md_token.specs.Token.{tokens_of}
use Rattle.md_reader.specs.Input.{Input, Parser, expect, name, word, variable, site, token, kind_at, sees, end_clause}
use Rattle.md_reader.specs.Rules as rule
use Rattle.md_reader.specs.Duplicates.{duplicate}

-- from i to j, a token or none stands for x
abbrev pub Is : {A : Type 0} → Parser A → A → Input → Input → Type 0
Is p x i j = p i ≡ Ok (x, j)

-- a sign or a word of this kind
pub data Sign (k : Kind) : Input → Input → Type 0 where
  sign : (line : ℕ) (i j : Input) → Is (expect k) line i j → Sign k i j

-- one or more, with a sign between them
pub data Listed {A : Type 0} (item : A → Input → Input → Type 0) (between : Kind) : List A → Input → Input → Type 0 where
  last : (x : A) (i j : Input) → item x i j → Listed item between (x ∷ []) i j
  also : (x : A) (xs : List A) (i j k m : Input) → item x i j → Sign between j k → Listed item between xs k m → Listed item between (x ∷ xs) i m

-- no more than a list may have, and the closing sign
pub data Enclosed {A : Type 0} (item : A → Input → Input → Type 0) (closing : Kind) : List A → Input → Input → Type 0 where
  enclosed : (xs : List A) (i j k : Input) → Listed item kind.Comma xs i j → length xs ≤ i.limits.items → Sign closing j k → Enclosed item closing xs i k

-- ---- variables

-- each of these is none of those before it
abbrev pub AreNew : (before : List ℕ) → List ℕ → Type 0
AreNew before [] = ⊤
AreNew before (x ∷ xs) = (list_any (λ y. y == x) before ≡ false) × AreNew (before ++ x ∷ []) xs

-- pairwise different variables, which differ from those before them too, and the closing sign
pub data Variables (closing : Kind) (before : List ℕ) : List ℕ → Input → Input → Type 0 where
  variables : (xs : List ℕ) (i j : Input) → Enclosed (Is (variable [])) closing xs i j → AreNew before xs → Variables closing before xs i j

-- nothing, or variables in parentheses
pub data Arguments (before : List ℕ) : List ℕ → Input → Input → Type 0 where
  none : (i : Input) → Arguments before [] i i
  some : (xs : List ℕ) (i j k : Input) → Sign kind.Open i j → Variables kind.Close before xs j k → Arguments before xs i k

-- after `[`: any number of variables, and `]`
pub data Quantified : List ℕ → Input → Input → Type 0 where
  none : (i j : Input) → Sign kind.CloseList i j → Quantified [] i j
  some : (xs : List ℕ) (i j : Input) → Variables kind.CloseList [] xs i j → Quantified xs i j

-- ---- terms

pub data Operator (o : Op) : Input → Input → Type 0 where
  operator : (k : Kind) (i j : Input) → rule.operator k ≡ Some o → Sign k i j → Operator o i j

pub data Comparison (c : Cmp) : Input → Input → Type 0 where
  comparison : (k : Kind) (i j : Input) → rule.comparison k ≡ Some c → Sign k i j → Comparison c i j

-- what stands after `X =`, with the goal that it makes
pub data Term (x : ℕ) : GoalExpr → Input → Input → Type 0 where
  same : (y : ℕ) (i j : Input) → Is (variable (x ∷ [])) y i j → Term x (SimpleGoal (Unifies x (term.Var y))) i j
  arithmetic : (y z : ℕ) (o : Op) (i j k m : Input) → Is (variable (x ∷ [])) y i j → Operator o j k → Is (variable (x ∷ y ∷ [])) z k m → Term x (SimpleGoal (Computes x y o z)) i m
  positive : (t : GoalExpr) (i j : Input) → kind_at i ≡ kind.Integer → Is (rule.positive x) t i j → Term x t i j
  negative : (t : GoalExpr) (i j k : Input) → Sign kind.Minus i j → Is (rule.negated x) t j k → Term x t i k
  literal : (t : GoalExpr) (i j : Input) → kind_at i ≡ kind.Text → Is (rule.literal x) t i j → Term x t i j
  application : (f : PredName) (ys : List ℕ) (i j k : Input) → Is rule.pred_name f i j → Arguments (x ∷ []) ys j k → Term x (SimpleGoal (Unifies x (term.Name f ys))) i k

-- ---- goals

-- a goal that begins with a variable
pub data Relation : GoalExpr → Input → Input → Type 0 where
  unification : (x : ℕ) (t : GoalExpr) (i j k m : Input) → Is (variable []) x i j → Sign kind.Equals j k → Term x t k m → Relation t i m
  comparison : (x y : ℕ) (c : Cmp) (i j k m : Input) → Is (variable []) x i j → Comparison c j k → Is (variable (x ∷ [])) y k m → Relation (SimpleGoal (Compares x c y)) i m

-- a builtin goal, or else a call at the next site
pub data Call : GoalExpr → Input → Input → Type 0 where
  builtin : (q : PredName) (ys : List ℕ) (t : GoalExpr) (i j k : Input) → Is rule.pred_name q i j → Arguments [] ys j k → rule.builtin q ys ≡ Some t → Call t i k
  call : (q : PredName) (ys : List ℕ) (s : ℕ) (i j k m : Input) → Is rule.pred_name q i j → Arguments [] ys j k → rule.builtin q ys ≡ None → Is site s k m → Call (CallGoal s q ys) i m

pub data ClosureCall : GoalExpr → Input → Input → Type 0 where
  closure_call : (f : ℕ) (ys : List ℕ) (s : ℕ) (i j k m n : Input) → Sign kind.Call i j → Sign kind.Open j k → Variables kind.Close [] (f ∷ ys) k m → Is site s m n → ClosureCall (HoCallGoal s f ys) i n

-- Within `room` more goals that may be opened. The line of a goal is that of its first token.
mutual
  pub data Goal : (room : ℕ) → HldsGoal → Input → Input → Type 0 where
    true : (room line : ℕ) (i j : Input) → Is (expect kind.True) line i j → Goal room (At line (SimpleGoal Succeeds)) i j
    fail : (room line : ℕ) (i j : Input) → Is (expect kind.Fail) line i j → Goal room (At line (SimpleGoal Fails)) i j
    relation : (room : ℕ) (t : GoalExpr) (i j : Input) → Relation t i j → Goal room (At (token i).line t) i j
    call : (room : ℕ) (t : GoalExpr) (i j : Input) → Call t i j → Goal room (At (token i).line t) i j
    closure_call : (room : ℕ) (t : GoalExpr) (i j : Input) → ClosureCall t i j → Goal room (At (token i).line t) i j
    -- parentheses around a conjunction leave it as it is
    parentheses : (room : ℕ) (p : HldsGoal) (i j k m : Input) → Sign kind.Open i j → Conjunction room p j k → Sign kind.Close k m → Goal (suc room) p i m
    disjunction : (room line : ℕ) (p : HldsGoal) (ps : List HldsGoal) (i j k m n o : Input) → Is (expect kind.Open) line i j → Conjunction room p j k → Sign kind.Semicolon k m → Arms room ps m n → Sign kind.Close n o → Goal (suc room) (At line (DisjGoal (gathered (p ∷ ps)))) i o
    choice : (room line : ℕ) (c t e : HldsGoal) (i j k m n o p q : Input) → Is (expect kind.Open) line i j → Conjunction room c j k → Sign kind.Then k m → Conjunction room t m n → Sign kind.Semicolon n o → Conjunction room e o p → Sign kind.Close p q → Goal (suc room) (At line (IfGoal c t e)) i q
    negation : (room line : ℕ) (c : HldsGoal) (i j k m n : Input) → Is (expect kind.Not) line i j → Sign kind.Open j k → Conjunction room c k m → Sign kind.Close m n → Goal (suc room) (At line (NotGoal c)) i n
    quantification : (room line : ℕ) (vs : List ℕ) (c : HldsGoal) (i j k m n o p : Input) → Is (expect kind.Some) line i j → Sign kind.OpenList j k → Quantified vs k m → Sign kind.Open m n → Conjunction room c n o → Sign kind.Close o p → Goal (suc room) (At line (SomeGoal vs c)) i p

  -- units with commas between them
  pub data Units : (room : ℕ) → List HldsGoal → Input → Input → Type 0 where
    last : (room : ℕ) (p : HldsGoal) (i j : Input) → Goal room p i j → Units room (p ∷ []) i j
    also : (room : ℕ) (p : HldsGoal) (ps : List HldsGoal) (i j k m : Input) → Goal room p i j → Sign kind.Comma j k → Units room ps k m → Units room (p ∷ ps) i m

  -- one unit is itself
  pub data Conjunction : (room : ℕ) → HldsGoal → Input → Input → Type 0 where
    conjunction : (room : ℕ) (ps : List HldsGoal) (i j : Input) → Units room ps i j → Conjunction room (rule.joined ps) i j

  -- conjunctions with `;` between them
  pub data Arms : (room : ℕ) → List HldsGoal → Input → Input → Type 0 where
    last_arm : (room : ℕ) (p : HldsGoal) (i j : Input) → Conjunction room p i j → Arms room (p ∷ []) i j
    also_arm : (room : ℕ) (p : HldsGoal) (ps : List HldsGoal) (i j k m : Input) → Conjunction room p i j → Sign kind.Semicolon j k → Arms room ps k m → Arms room (p ∷ ps) i m

-- ---- types

pub data FunctorArguments : List HldsType → Input → Input → Type 0 where
  none : (i : Input) → FunctorArguments [] i i
  some : (ts : List HldsType) (i j k : Input) → Sign kind.Open i j → Enclosed (Is rule.simple_type) kind.Close ts j k → FunctorArguments ts i k

pub data Functor : HldsFunctor → Input → Input → Type 0 where
  functor : (f : List ℕ) (ts : List HldsType) (i j k : Input) → Is name f i j → FunctorArguments ts j k → Functor (record { name = f; args = ts }) i k

-- a type's declaration from `type` on
pub data TypeDeclaration (line : ℕ) : HldsTypeDef → Input → Input → Type 0 where
  type_declaration : (t : List ℕ) (fs : List HldsFunctor) (at : ℕ) (i j k m n o : Input) → Is (word (codes "type")) at i j → Is rule.type_name t j k → Sign kind.Yields k m → Listed Functor kind.Semicolon fs m n → Sign kind.End n o → TypeDeclaration line (record { name = t; line = line; functors = fs }) i o

-- ---- predicates

-- `(pred(M1, ..) is D)`
pub data Inst : List Mode → Det → Input → Input → Type 0 where
  inst : (ms : List Mode) (d : Det) (i j k l m n o p : Input) → Sign kind.Open i j → Sign kind.Pred j k → Sign kind.Open k l → Enclosed (Is rule.mode_word) kind.Close ms l m → Sign kind.Is m n → Is rule.determinism d n o → Sign kind.Close o p → Inst ms d i p

pub data Argument : HldsType × Mode → Input → Input → Type 0 where
  plain : (t : HldsType) (m : Mode) (i j k l : Input) → Is rule.simple_type t i j → Sign kind.HasMode j k → Is rule.mode_word m k l → Argument (t, m) i l
  higher_order : (ts : List HldsType) (m : Mode) (ms : List Mode) (d : Det) (i j k l n o p : Input) → Sign kind.Pred i j → Sign kind.Open j k → Enclosed (Is rule.simple_type) kind.Close ts k l → Sign kind.HasMode l n → Is rule.ho_mode m n o → Inst ms d o p → Argument (closure (gathered_types ts) ms d, m) i p

pub data DeclaredArguments : List (HldsType × Mode) → Input → Input → Type 0 where
  none : (i : Input) → DeclaredArguments [] i i
  some : (as' : List (HldsType × Mode)) (i j k : Input) → Sign kind.Open i j → Enclosed Argument kind.Close as' j k → DeclaredArguments as' i k

-- `pred`, and the declaration after it
pub data PredDeclaration : rule.Declaration → Input → Input → Type 0 where
  pred_declaration : (q : PredName) (as' : List (HldsType × Mode)) (d : Det) (i j k l m n o : Input) → Sign kind.Pred i j → Is rule.declared_name q j k → DeclaredArguments as' k l → Sign kind.Is l m → Is rule.determinism d m n → Sign kind.End n o → PredDeclaration (record { name = q; args = as'; det = d }) i o

-- the head's variables, in parentheses where there are any
pub data Head : (arity : ℕ) → List ℕ → Input → Input → Type 0 where
  none : (i : Input) → Head 0 [] i i
  some : (xs : List ℕ) (i j k l : Input) → Sign kind.Open i j → Listed (Is (variable [])) kind.Comma xs j k → AreNew [] xs → Sign kind.Close k l → Head (length xs) xs i l

-- the clause of a predicate of this name and arity
pub data PredClause (q : PredName) (arity : ℕ) : rule.Clause → Input → Input → Type 0 where
  pred_clause : (xs : List ℕ) (p : HldsGoal) (vs : List (List ℕ)) (i j k l m n o : Input) → Is (rule.this_name q) tt i j → Head arity xs j k → Sign kind.Declare k l → Conjunction l.limits.goals p l m → Sign kind.End m n → Is end_clause vs n o → PredClause q arity (record { line = (token i).line; head = xs; body = p; vars = vs }) i o

-- ---- programs

-- a declaration of a type, or of a predicate with its clause, which is the next of the program's
pub data Declared (before : Hlds) : Hlds → Input → Input → Type 0 where
  type : (t : HldsTypeDef) (line : ℕ) (i j k : Input) → Is (expect kind.Declare) line i j → TypeDeclaration line t j k → Declared before (rule.with_type_definition before t) i k
  predicate : (d : rule.Declaration) (c : rule.Clause) (line : ℕ) (i j k l : Input) → Is (expect kind.Declare) line i j → PredDeclaration d j k → PredClause d.name (length d.args) c k l → Declared before (rule.with_procedure before (rule.procedure_from line d c)) i l

pub data Declarations : (before after : Hlds) → Input → Input → Type 0 where
  none : (l : Hlds) (i : Input) → Declarations l l i i
  also : (before l after : Hlds) (i j k : Input) → Declared before l i j → Declarations l after j k → Declarations before after i k

pub data Program : Hlds → Input → Input → Type 0 where
  program : (m : List ℕ) (line at : ℕ) (l : Hlds) (i j k n o p : Input) → Is (expect kind.Declare) line i j → Is (word (codes "module")) at j k → Is rule.module_name m k n → Sign kind.End n o → Declarations (record { module_name = m; module_line = line; types = []; procedures = [] }) l o p → Program l i p

-- The text spells the program: its tokens, all of them, are the program's, within the limits, and nothing is declared
-- a second time.
pub record Spells (text : List ℕ) (l : Hlds) : Type 0 where
  pub end : Input
  pub program : Program l (rule.start (tokens_of text)) end
  pub whole : sees kind.Stop end ≡ yes
  pub once : duplicate l ≡ None

-- a text spells the program, and is short enough to be read
pub record IsOfText (l : Hlds) : Type 0 where
  pub text : List ℕ
  pub short : length text < 4294967295
  pub spells : Spells text l

-- The tokens of the text, all of them, are a program's by the grammar, within the limits, but something is declared a
-- second time, first at this line.
pub record Repeats (text : List ℕ) (line : ℕ) : Type 0 where
  pub listing : Hlds
  pub end : Input
  pub program : Program listing (rule.start (tokens_of text)) end
  pub whole : sees kind.Stop end ≡ yes
  pub second : duplicate listing ≡ Some line
