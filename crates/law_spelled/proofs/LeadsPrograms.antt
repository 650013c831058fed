-- Declarations, clauses and programs: their call sites have the numbers from 0 on, their lines count from 1, and their names
-- and lists of arguments are within the limits.
use Rattle.std.specs.Prelude.{⊤}
use Rattle.std.proofs.Common.{false, All, IfSome, ◌≡◌, refl, sym, ap, ◌∙◌, subst, ℕ, zero, suc, ◌+◌, ◌<◌, ◌≤◌, List, [], ◌∷◌, ◌++◌, length, arith, append-nil, append_assoc, length-append}
use Rattle.md_hlds.specs.declared.types.Mode.{Mode}
use Rattle.md_hlds.specs.declared.types.Det.{Det}
use Rattle.md_hlds.specs.HldsGoal.{goals_within}
use Rattle.md_hlds.specs.Hlds.{Hlds, HldsType, HldsFunctor, HldsTypeDef, Procedure, clause_goals}
use Rattle.md_token.specs.declared.kind.Kind.{Kind}
use Rattle.md_token.specs.declared.kind.Kind.TheVariants as kind
use Rattle.md_token.specs.Kinds.{same_kind}
use Rattle.md_reader.specs.Input.{expect, Input, Limits, standard, variable, end_clause}
use Rattle.md_reader.specs.Rules as rule
use Rattle.md_reader.specs.Grammar as g
use Rattle.md_reader.specs.Grammar.{Is, Sign, Listed, last, also, Enclosed, FunctorArguments, Functor, functor, TypeDeclaration, type_declaration, Inst, inst, Argument, DeclaredArguments, PredDeclaration, pred_declaration, Head, PredClause, pred_clause, Declared, Declarations, Program, program}
use Rattle.md_reader.proofs.Steps.{ok_input, ok_value}
use Rattle.md_reader.proofs.Sizes.{next_fewer}
use Rattle.md_reader.proofs.Taking.{expected}
use Rattle.law_events.specs.Table.{AreNumberedFrom, goal_sites, clause_sites}
use Rattle.law_spelled.specs.Bounds.{IsShortFunctor, IsShortType, IsShort}
use Rattle.law_spelled.proofs.Names.{IsName, AreNames}
use Rattle.law_spelled.proofs.Leads.{declared_name_names, AreSound, AreLined, lined_append, numbered_append, Leads, Steady, after, before, to_same, sign_steady, expect_steady, word_steady, name_is, declared_name_is, this_name_is, variable_is, variable_steady, mode_steady, ho_mode_steady, determinism_steady}
use Rattle.law_spelled.proofs.LeadsTerms.{module_name_name, simple_type_steady, type_name_is, module_name_is, listed_steady, enclosed_steady}
use Rattle.law_spelled.proofs.LeadsGoals.{line_expected, named_line, conjunction_is}

-- ---- lists

-- each has the property
abbrev pub Every : {A : Type 0} → (A → Type 0) → List A → Type 0
Every P [] = ⊤
Every P (x ∷ xs) = P x × Every P xs

pub all_of : {A : Type 0} (P : A → Type 0) (xs : List A) → Every P xs → All P xs
all_of P [] e k d below = absurd (omega (arith, below))
all_of P (x ∷ xs) e zero d below = e.0
all_of P (x ∷ xs) e (suc k) d below = all_of P xs e.1 k d (omega (arith, below))

pub every_append : {A : Type 0} (P : A → Type 0) (xs ys : List A) → Every P xs → Every P ys → Every P (xs ++ ys)
every_append P [] ys a b = b
every_append P (x ∷ xs) ys a b = (a.0, every_append P xs ys a.1 b)

-- what holds of each item under the limits
listed_every : {A : Type 0} (item : A → Input → Input → Type 0) (between : Kind) (P : Limits → A → Type 0) → ((x : A) (i j : Input) → item x i j → Steady i j × P i.limits x)
    → (xs : List A) (i j : Input) → Listed item between xs i j → Every (P i.limits) xs
listed_every item between P each _ _ _ (last x i j is) = ((each x i j is).1, tt)
listed_every item between P each _ _ _ (also x xs i j k m is mark rest) =
    let e = each x i j is in
    (e.1, subst (λ (l : Limits). Every (P l) xs) ((sign_steady between j k mark).limits ∙ e.0.limits) (listed_every item between P each xs k m rest))

-- ---- types

functor_arguments_are : (ts : List HldsType) (i j : Input) → FunctorArguments ts i j → Steady i j × (length ts ≤ i.limits.items)
functor_arguments_are _ _ _ (g.FunctorArguments.none i) = (to_same i i refl, omega arith)
functor_arguments_are _ _ _ (g.FunctorArguments.some ts i j k mark is) =
    let e = enclosed_steady (Is rule.simple_type) kind.Close simple_type_steady ts j k is in
    let m = sign_steady kind.Open i j mark in
    (after m e.0, subst (λ (l : Limits). length ts ≤ l.items) m.limits e.1)

abbrev ShortFunctor : Limits → HldsFunctor → Type 0
ShortFunctor l f = (length f.name ≤ l.items) × (length f.args ≤ l.items)

functor_is : (f : HldsFunctor) (i j : Input) → Functor f i j → Steady i j × ShortFunctor i.limits f
functor_is _ _ _ (functor f ts i j k is args) =
    let n = name_is f i j is in
    let a = functor_arguments_are ts j k args in
    (after n.0 a.0, (n.1, subst (λ (l : Limits). length ts ≤ l.items) n.0.limits a.1))

short_functors : (fs : List HldsFunctor) → Every (ShortFunctor standard) fs → Every IsShortFunctor fs
short_functors [] e = tt
short_functors (f ∷ fs) e = (record { name = e.0.0; args = e.0.1 }, short_functors fs e.1)

-- a type's declaration
type_is : (line : ℕ) (t : HldsTypeDef) (i j : Input) → i.limits ≡ standard → TypeDeclaration line t i j → Steady i j × (t.line ≡ line) × IsShortType t
type_is line _ _ _ limits (type_declaration t fs at i j k m n o word' is yields listed end) =
    let a = word_steady _ at i j word' in
    let b = type_name_is t j k is in
    let c = sign_steady kind.Yields k m yields in
    let d = listed_steady Functor kind.Semicolon (λ x i j is. (functor_is x i j is).0) fs m n listed in
    let at_name : j.limits ≡ standard = a.limits ∙ limits in
    let at_functors : m.limits ≡ standard = c.limits ∙ b.0.limits ∙ at_name in (
      after a (after b.0 (after c (after d (sign_steady kind.End n o end)))),
      refl,
      record {
        name = subst (λ (l : Limits). length t ≤ l.items) at_name b.1;
        functors = all_of IsShortFunctor fs (short_functors fs (subst (λ (l : Limits). Every (ShortFunctor l) fs) at_functors (listed_every Functor kind.Semicolon ShortFunctor functor_is fs m n listed)));
      },
    )

-- ---- predicates

inst_steady : (ms : List Mode) (d : Det) (i j : Input) → Inst ms d i j → Steady i j
inst_steady _ _ _ _ (inst ms d i j k l m n o p opening pred second modes is' det closing) =
    after (sign_steady kind.Open i j opening)
    (after (sign_steady kind.Pred j k pred)
    (after (sign_steady kind.Open k l second)
    (after (enclosed_steady (Is rule.mode_word) kind.Close mode_steady ms l m modes).0
    (after (sign_steady kind.Is m n is') (after (determinism_steady d n o det) (sign_steady kind.Close o p closing))))))

argument_steady : (a : HldsType × Mode) (i j : Input) → Argument a i j → Steady i j
argument_steady _ _ _ (g.Argument.plain t m i j k l is mark mode) = after (simple_type_steady t i j is) (after (sign_steady kind.HasMode j k mark) (mode_steady m k l mode))
argument_steady _ _ _ (g.Argument.higher_order ts m ms d i j k l n o p pred opening is mark mode how) =
    after (sign_steady kind.Pred i j pred)
    (after (sign_steady kind.Open j k opening)
    (after (enclosed_steady (Is rule.simple_type) kind.Close simple_type_steady ts k l is).0
    (after (sign_steady kind.HasMode l n mark) (after (ho_mode_steady m n o mode) (inst_steady ms d o p how)))))

declared_arguments_are : (args : List (HldsType × Mode)) (i j : Input) → DeclaredArguments args i j → Steady i j × (length args ≤ i.limits.items)
declared_arguments_are _ _ _ (g.DeclaredArguments.none i) = (to_same i i refl, omega arith)
declared_arguments_are _ _ _ (g.DeclaredArguments.some args i j k mark is) =
    let e = enclosed_steady Argument kind.Close argument_steady args j k is in
    let m = sign_steady kind.Open i j mark in
    (after m e.0, subst (λ (l : Limits). length args ≤ l.items) m.limits e.1)

record ShortDeclaration (d : rule.Declaration) : Type 0 where
  name : length d.name.name ≤ 255
  qualifier : IfSome d.name.qualifier (λ m. length m ≤ 255)
  args : length d.args ≤ 255
  names : AreNames d.name.name d.name.qualifier

declaration_is : (d : rule.Declaration) (i j : Input) → i.limits ≡ standard → AreSound i.rest → PredDeclaration d i j → Steady i j × ShortDeclaration d
declaration_is _ _ _ limits sound (pred_declaration q args d i j k l m n o pred is declared is' det end) =
    let a = sign_steady kind.Pred i j pred in
    let b = declared_name_is q j k is in
    let c = declared_arguments_are args k l declared in
    let at_name : j.limits ≡ standard = a.limits ∙ limits in
    let at_args : k.limits ≡ standard = b.0.limits ∙ at_name in (
      after a (after b.0 (after c.0 (after (sign_steady kind.Is l m is') (after (determinism_steady d m n det) (sign_steady kind.End n o end))))),
      record {
        name = subst (λ (x : Limits). length q.name ≤ x.items) at_name b.1.0;
        qualifier = subst (λ (x : Limits). IfSome q.qualifier (λ m. length m ≤ x.items)) at_name b.1.1;
        args = subst (λ (x : Limits). length args ≤ x.items) at_args c.1;
        names = declared_name_names q j k is (a.lines sound);
      },
    )

-- ---- clauses

some_listed : (xs : List ℕ) (i j : Input) → Listed (Is (variable [])) kind.Comma xs i j → 0 < length j.vars
some_listed _ _ _ (last x i j is) = (variable_is [] x i j is).1
some_listed _ _ _ (also x xs i j k m is mark rest) = some_listed xs k m rest

-- the head of a clause has a variable for each argument
head_is : (arity : ℕ) (xs : List ℕ) (i j : Input) → Head arity xs i j → Steady i j × (length xs ≡ arity) × (0 < arity → 0 < length j.vars)
head_is _ _ _ _ (g.Head.none i) = (to_same i i refl, refl, λ some. absurd (omega (arith, some)))
head_is _ _ _ _ (g.Head.some xs i j k l opening is new closing) =
    let c = sign_steady kind.Close k l closing in (
      after (sign_steady kind.Open i j opening) (after (listed_steady (Is (variable [])) kind.Comma (variable_steady []) xs j k is) c),
      refl,
      λ some. c.vars (some_listed xs j k is),
    )

-- a clause: its goals up to a place, behind which the next clause begins without variables
record ReadsClause (s : Hlds) (owner arity : ℕ) (c : rule.Clause) (i j : Input) : Type 0 where
  end : Input
  leads : Leads i end (goal_sites s owner c.body) (goals_within c.body)
  behind : j ≡ record end { vars = [] }
  head : length c.head ≡ arity
  line : AreSound i.rest → 1 ≤ c.line
  vars : 0 < arity → 0 < length c.vars

clause_is : (s : Hlds) (owner : ℕ) (q : _) (arity : ℕ) (c : rule.Clause) (i j : Input) → PredClause q arity c i j → ReadsClause s owner arity c i j
unfolding end_clause
clause_is s owner q arity _ _ _ (pred_clause xs p vs i j k l m n o is head declare body end vars) =
    let a = this_name_is q i j is in
    let b = head_is arity xs j k head in
    let c = sign_steady kind.Declare k l declare in
    let d = conjunction_is s owner l.limits.goals p l m body in
    let e = sign_steady kind.End m n end in
    record {
      end = n;
      leads = after a.0 (after b.0 (after c (before d e)));
      behind = sym (ok_input n.vars vs (record n { vars = [] }) o vars);
      head = b.1;
      line = named_line i a.1;
      vars = λ some. subst (λ (ws : List (List ℕ)). 0 < length ws) (ok_value n.vars vs (record n { vars = [] }) o vars) (e.vars (d.vars (c.vars (b.2 some))));
    }

-- ---- programs

expect_fewer : (k : Kind) (line : ℕ) (i j : Input) → Is (expect k) line i j → same_kind k kind.Stop ≡ false → length j.rest < length i.rest
expect_fewer k line i j is not_stop = let t = expected k line i j is in next_fewer k i j t.is not_stop t.behind

-- the sites and the goals of one clause more
clause_sites_push : (s : Hlds) (n m : ℕ) (ps : List Procedure) (p : Procedure) → m ≡ n + length ps → clause_sites s n (ps ++ p ∷ []) ≡ clause_sites s n ps ++ goal_sites s m p.body
clause_sites_push s n m [] p is = let same : m ≡ n = omega (arith, is) in append-nil (goal_sites s n p.body) ∙ ap (λ k. goal_sites s k p.body) (sym same)
clause_sites_push s n m (x ∷ ps) p is =
    ap (λ xs. goal_sites s n x.body ++ xs) (clause_sites_push s (suc n) m ps p (omega (arith, is)))
    ∙ sym (append_assoc (goal_sites s n x.body) (clause_sites s (suc n) ps) (goal_sites s m p.body))

clause_goals_push : (ps : List Procedure) (p : Procedure) → clause_goals (ps ++ p ∷ []) ≡ clause_goals ps ++ goals_within p.body
clause_goals_push [] p = append-nil (goals_within p.body)
clause_goals_push (x ∷ ps) p =
    ap (λ gs. goals_within x.body ++ gs) (clause_goals_push ps p) ∙ sym (append_assoc (goals_within x.body) (clause_goals ps) (goals_within p.body))

pub record IsGoodType (t : HldsTypeDef) : Type 0 where
  pub line : 1 ≤ t.line
  pub short : IsShortType t

pub record IsGoodProcedure (p : Procedure) : Type 0 where
  pub line : 1 ≤ p.line
  pub clause_line : 1 ≤ p.clause_line
  pub short : IsShort p
  pub vars : 0 < length p.args → 0 < length p.vars
  pub names : AreNames p.name p.qualifier

-- A place up to which a program was read from so many tokens; s is any program. Each declaration and each call site had a
-- token of its own.
pub record Stands (s l : Hlds) (total : ℕ) (i : Input) : Type 0 where
  pub limits : i.limits ≡ standard
  pub lines : AreSound i.rest
  pub numbers : AreNumberedFrom 0 (clause_sites s 0 l.procedures)
  pub sites : i.sites ≡ length (clause_sites s 0 l.procedures)
  pub goals : AreLined (clause_goals l.procedures)
  pub types : Every IsGoodType l.types
  pub procedures : Every IsGoodProcedure l.procedures
  pub module_line : 1 ≤ l.module_line
  pub module_name : length l.module_name ≤ 255
  pub module_is : IsName l.module_name
  pub few : length i.rest + (length (clause_sites s 0 l.procedures) + (length l.procedures + length l.types)) < total

declared_is : (s before' l : Hlds) (total : ℕ) (i j : Input) → Declared before' l i j → Stands s before' total i → Stands s l total j
unfolding rule.with_type_definition rule.with_procedure rule.procedure_from same_kind
declared_is s before' _ total _ _ (g.Declared.type t line i j k is read) h =
    let a = expect_steady kind.Declare line i j is in
    let b = type_is line t j k (a.limits ∙ h.limits) read in
    record {
      limits = b.0.limits ∙ a.limits ∙ h.limits;
      lines = b.0.lines (a.lines h.lines);
      numbers = h.numbers;
      sites = omega (arith, b.0.sites, a.sites, h.sites);
      goals = h.goals;
      types = every_append IsGoodType before'.types (t ∷ []) h.types (record { line = rw b.1 (line_expected kind.Declare line i j is refl h.lines); short = b.2 }, tt);
      procedures = h.procedures;
      module_line = h.module_line;
      module_name = h.module_name;
      module_is = h.module_is;
      few = omega (arith, h.few, expect_fewer kind.Declare line i j is refl, b.0.fewer, length-append before'.types (t ∷ []));
    }
declared_is s before' _ total _ _ (g.Declared.predicate d c line i j k l is declaration clause) h =
    let owner = length before'.procedures in
    let p = rule.procedure_from line d c in
    let a = expect_steady kind.Declare line i j is in
    let b = declaration_is d j k (a.limits ∙ h.limits) (a.lines h.lines) declaration in
    let e = clause_is s owner d.name (length d.args) c k l clause in
    let at_clause : k.sites ≡ i.sites = omega (arith, b.0.sites, a.sites) in
    let lines_clause : AreSound k.rest = b.0.lines (a.lines h.lines) in
    let xs = clause_sites s 0 before'.procedures in
    let ys = goal_sites s owner c.body in
    let pushed : clause_sites s 0 (before'.procedures ++ p ∷ []) ≡ xs ++ ys = clause_sites_push s 0 owner before'.procedures p (omega arith) in
    record {
      limits = rw e.behind (e.leads.limits ∙ b.0.limits ∙ a.limits ∙ h.limits);
      lines = rw e.behind (e.leads.lines lines_clause);
      numbers = rw pushed (numbered_append 0 k.sites xs ys (omega (arith, at_clause, h.sites)) h.numbers e.leads.numbers);
      sites = rw (e.behind, pushed) (omega (arith, e.leads.sites, at_clause, h.sites, length-append xs ys));
      goals = rw (clause_goals_push before'.procedures p) (lined_append (clause_goals before'.procedures) (goals_within c.body) h.goals (e.leads.goals lines_clause));
      types = h.types;
      procedures = every_append IsGoodProcedure before'.procedures (p ∷ []) h.procedures (
        record {
          line = line_expected kind.Declare line i j is refl h.lines;
          clause_line = e.line lines_clause;
          short = record { qualifier = b.1.qualifier; name = b.1.name; args = b.1.args; head = e.head };
          vars = e.vars;
          names = b.1.names;
        },
        tt,
      );
      module_line = h.module_line;
      module_name = h.module_name;
      module_is = h.module_is;
      few =
          rw (e.behind, pushed)
          (omega (
            arith,
            h.few,
            expect_fewer kind.Declare line i j is refl,
            b.0.fewer,
            e.leads.fewer,
            length-append before'.procedures (p ∷ []),
            length-append xs ys,
          ));
    }

declarations_are : (s before' l : Hlds) (total : ℕ) (i j : Input) → Declarations before' l i j → Stands s before' total i → Stands s l total j
declarations_are s _ _ total _ _ (g.Declarations.none l i) h = h
declarations_are s _ _ total _ _ (g.Declarations.also before' l after' i j k is rest) h = declarations_are s l after' total j k rest (declared_is s before' l total i j is h)

pub program_is : (s l : Hlds) (i j : Input) → i.limits ≡ standard → AreSound i.rest → i.sites ≡ 0 → Program l i j → Stands s l (length i.rest) j
unfolding same_kind
program_is s _ _ _ limits lines none (program m line at l i j k n o p is word' name' end rest) =
    let a = expect_steady kind.Declare line i j is in
    let b = word_steady _ at j k word' in
    let c = module_name_is m k n name' in
    let d = sign_steady kind.End n o end in
    let whole = after a (after b (after c.0 d)) in
    declarations_are s (record { module_name = m; module_line = line; types = []; procedures = [] }) l (length i.rest) o p rest
    (record {
      limits = whole.limits ∙ limits;
      lines = whole.lines lines;
      numbers = tt;
      sites = omega (arith, whole.sites, none);
      goals = tt;
      types = tt;
      procedures = tt;
      module_line = line_expected kind.Declare line i j is refl lines;
      module_name = subst (λ (x : Limits). length m ≤ x.items) (b.limits ∙ a.limits ∙ limits) c.1;
      module_is = module_name_name m k n name' (b.lines (a.lines lines));
      few = omega (arith, expect_fewer kind.Declare line i j is refl, b.fewer, c.0.fewer, d.fewer);
    })
