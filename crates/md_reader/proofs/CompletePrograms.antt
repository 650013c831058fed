-- What the grammar spells, the rules read: predicates and programs.
use Rattle.std.proofs.Common.{◌≡◌, ℕ, zero, suc, ◌+◌, ◌-◌, ◌<◌, List, [], ◌∷◌, ◌++◌, length, refl, true, false, Ok, sym, ap, ◌∙◌, arith, append_assoc, subst}
use Rattle.std.specs.Prelude.{codes}
use Rattle.md_hlds.specs.declared.types.Mode.{Mode}
use Rattle.md_hlds.specs.declared.types.Det.{Det}
use Rattle.md_hlds.specs.declared.goal.PredName.{PredName}
use Rattle.md_hlds.specs.HldsGoal.{HldsGoal}
use Rattle.md_hlds.specs.Hlds.{HldsType, HldsTypeDef, Hlds}
use Rattle.md_token.specs.declared.kind.Kind.TheVariants as kind
use Rattle.md_token.specs.Kinds.{same_kind}
use Rattle.md_reader.specs.Input.{Input, pure, sees, after, kind_at, variable, word}
use Rattle.md_reader.specs.Rules as rule
use Rattle.md_reader.specs.Grammar as g
use Rattle.md_reader.specs.Grammar.{Is, Sign, sign, Listed, last, also, Enclosed, enclosed, AreNew}
use Rattle.md_reader.proofs.SteadyRules.{word_steady, type_name_steady, functors_steady, declared_name_steady}
use Rattle.md_reader.proofs.SteadyPrograms.{declared_arguments_steady, determinism_steady, clause_steady}
use Rattle.md_reader.proofs.Taking.{signed, expected, shut, stepped, eats, passes, unlike, simple_type_kind, word_kind, variable_among}
use Rattle.md_reader.proofs.Complete.{stays, sign_fewer, seen_sign, listed_complete, simple_types_complete, functors_complete, type_definition_complete}
use Rattle.md_reader.proofs.CompleteGoals.{conjunction_complete}

-- ---- predicates

modes_complete : (ms : List Mode) (i j : Input) → Enclosed (Is rule.mode_word) kind.Close ms i j → rule.modes_at_most i ≡ Ok (ms, j)
unfolding rule.modes_from same_kind
modes_complete _ _ _ (enclosed ms i k j l few c) = listed_complete (Is rule.mode_word) rule.mode_word kind.Comma kind.Close refl (λ x i j m h _. h) rule.modes_from (λ n found i. refl) i.limits.items [] ms i k j l few c

inst_modes_complete : (ms : List Mode) (i j k m : Input) → Sign kind.Pred i j → Sign kind.Open j k → Enclosed (Is rule.mode_word) kind.Close ms k m → rule.inst_modes i ≡ Ok (ms, m)
unfolding rule.inst_modes
inst_modes_complete ms i j k m p o e = stepped kind.Pred _ i j p ∙ (stepped kind.Open _ j k o ∙ modes_complete ms k m e)

inst_complete : (ms : List Mode) (d : Det) (i j : Input) → g.Inst ms d i j → rule.inst i ≡ Ok ((ms, d), j)
unfolding rule.inst
inst_complete _ _ _ _ (g.Inst.inst ms d i j k l m n o p a b c e s h z) =
    stepped kind.Open _ i j a ∙ rw (inst_modes_complete ms j k l m b c e) (stepped kind.Is _ m n s ∙ rw h (shut kind.Close (ms, d) o p z))

ho_types_complete : (ts : List HldsType) (i j k l m : Input) → Sign kind.Pred i j → Sign kind.Open j k → Enclosed (Is rule.simple_type) kind.Close ts k l → Sign kind.HasMode l m → rule.ho_types i ≡ Ok (ts, m)
unfolding rule.ho_types
ho_types_complete ts i j k l m p o e s = stepped kind.Pred _ i j p ∙ (stepped kind.Open _ j k o ∙ rw (simple_types_complete ts k l e) (shut kind.HasMode ts l m s))

argument_complete : (x : HldsType × Mode) (i j : Input) → g.Argument x i j → rule.argument i ≡ Ok (x, j)
unfolding rule.argument rule.plain_argument rule.ho_argument same_kind
argument_complete _ _ _ (g.Argument.plain t m i j k l s h w) =
    rw (unlike kind.Name kind.Pred i (simple_type_kind t i j s) refl, s) (stepped kind.HasMode _ j k h ∙ rw w refl)
argument_complete _ _ _ (g.Argument.higher_order ts m ms d i j k l n o p a b e h w x) =
    rw (seen_sign kind.Pred i j a, ho_types_complete ts i j k l n a b e h, w, inst_complete ms d o p x) refl

arguments_complete : (xs : List (HldsType × Mode)) (i j : Input) → Enclosed g.Argument kind.Close xs i j → rule.arguments_at_most i ≡ Ok (xs, j)
unfolding rule.arguments_from same_kind
arguments_complete _ _ _ (enclosed xs i k j l few c) = listed_complete g.Argument rule.argument kind.Comma kind.Close refl (λ x i j m h _. argument_complete x i j h) rule.arguments_from (λ n found i. refl) i.limits.items [] xs i k j l few c

declared_arguments_complete : (xs : List (HldsType × Mode)) (i j : Input) → g.DeclaredArguments xs i j → sees kind.Open j ≡ false → rule.declared_arguments i ≡ Ok (xs, j)
unfolding rule.declared_arguments
declared_arguments_complete _ _ _ (g.DeclaredArguments.none i) e = passes kind.Open rule.arguments_at_most (pure []) i e
declared_arguments_complete _ _ _ (g.DeclaredArguments.some xs i j k s l) e = eats kind.Open rule.arguments_at_most (pure []) i j s ∙ arguments_complete xs j k l

before_is : (xs : List (HldsType × Mode)) (i j k : Input) → g.DeclaredArguments xs i j → Sign kind.Is j k → rule.declared_arguments i ≡ Ok (xs, j)
unfolding same_kind
before_is xs i j k a s = declared_arguments_complete xs i j a (unlike kind.Is kind.Open j (signed kind.Is j k s).is refl)

determined : (d : Det) (i j k m : Input) → Sign kind.Is i j → Is rule.determinism d j k → Sign kind.End k m → rule.declared_determinism i ≡ Ok (d, m)
unfolding rule.declared_determinism
determined d _ _ k m (sign a i j s) h z = rw (s, h) (shut kind.End d k m z)

declaration_complete : (x : rule.Declaration) (i j : Input) → g.PredDeclaration x i j → rule.declaration i ≡ Ok (x, j)
unfolding rule.declaration
declaration_complete _ _ _ (g.PredDeclaration.pred_declaration q as' d i j k l m n o a b c s h z) =
    stepped kind.Pred _ i j a ∙ rw (b, before_is as' k l m c s, determined d l m n o s h z) refl

listed_some : (xs : List ℕ) (i k : Input) → Listed (Is (variable [])) kind.Comma xs i k → 0 < length xs
listed_some _ _ _ (last x i k r) = omega arith
listed_some _ _ _ (also x xs i k m o r s rest) = omega arith

head_from_complete : (n : ℕ) (found xs : List ℕ) (i k j : Input) → Listed (Is (variable [])) kind.Comma xs i k → length xs ≡ suc n → AreNew found xs → Sign kind.Close k j → rule.head_from n found i ≡ Ok (found ++ xs, j)
unfolding rule.head_from
head_from_complete zero found _ _ _ j (last x i k r) count new c = rw (variable_among found x i k r new.0) (shut kind.Close (found ++ x ∷ []) k j c)
head_from_complete zero found _ _ _ j (also x xs i k m o r s rest) count new c = let l = listed_some xs m o rest in absurd (omega (arith, count, l))
head_from_complete (suc n) found _ _ _ j (last x i k r) count new c = absurd (omega (arith, count))
head_from_complete (suc n) found _ _ _ j (also x xs i k m o r s rest) count new c =
    let more : length xs ≡ suc n = omega (arith, count) in
    rw (variable_among found x i k r new.0) (stepped kind.Comma _ k m s ∙ (head_from_complete n (found ++ x ∷ []) xs m o j rest more new.1 c ∙ ap (λ (ys : List ℕ). Ok (ys, j)) (append_assoc found (x ∷ []) xs)))

head_opened : (n : ℕ) (xs : List ℕ) (i j k l : Input) → length xs ≡ suc n → Sign kind.Open i j → Listed (Is (variable [])) kind.Comma xs j k → AreNew [] xs → Sign kind.Close k l → rule.head (suc n) i ≡ Ok (xs, l)
unfolding rule.head
head_opened n xs _ j k l count (sign a i _ o) h new c = rw o (head_from_complete n [] xs j k l h count new c)

head_complete : (arity : ℕ) (xs : List ℕ) (i j : Input) → g.Head arity xs i j → rule.head arity i ≡ Ok (xs, j)
unfolding rule.head
head_complete _ _ _ _ (g.Head.none i) = refl
head_complete _ _ _ _ (g.Head.some xs i j k l s h new c) =
    let some = listed_some xs j k h in
    let count : length xs ≡ suc (length xs - 1) = omega (arith, some) in
    subst (λ (n : ℕ). rule.head n i ≡ Ok (xs, l)) (sym count) (head_opened (length xs - 1) xs i j k l count s h new c)

body_complete : (p : HldsGoal) (i j k m : Input) → Sign kind.Declare i j → g.Conjunction j.limits.goals p j k → Sign kind.End k m → rule.body i ≡ Ok (p, m)
unfolding rule.body
body_complete p _ j k m (sign a i _ s) c z =
    rw (s, conjunction_complete j.limits.goals p j k c (rw (signed kind.End k m z).is refl)) (shut kind.End p k m z)

clause_complete : (q : PredName) (n : ℕ) (c : rule.Clause) (i j : Input) → g.PredClause q n c i j → rule.clause q n i ≡ Ok (c, j)
unfolding rule.clause
clause_complete q n _ _ _ (g.PredClause.pred_clause xs p vs i j k l m o z a h s c e w) =
    rw (a, head_complete n xs j k h, body_complete p k l m o s c e, w) refl

-- ---- declarations

pub type_fewer : (line : ℕ) (t : HldsTypeDef) (i j : Input) → g.TypeDeclaration line t i j → length j.rest < length i.rest
unfolding same_kind
type_fewer line _ _ _ (g.TypeDeclaration.type_declaration t fs at i j k m n o w y s l c) =
    let a = stays (word (codes "type")) (word_steady 0 [] (codes "type")) at i j w in
    let b = stays rule.type_name (type_name_steady 0 []) t j k y in
    let d = sign_fewer kind.Yields k m s refl in
    let e = stays rule.functors (functors_steady 0 []) fs m o (functors_complete fs m n o l c) in
    omega (arith, a, b, d, e)

pub pred_fewer : (x : rule.Declaration) (i j : Input) → g.PredDeclaration x i j → length j.rest < length i.rest
unfolding same_kind
pred_fewer _ _ _ (g.PredDeclaration.pred_declaration q as' d i j k l m n o a b c s h z) =
    let e = sign_fewer kind.Pred i j a refl in
    let f = stays rule.declared_name (declared_name_steady 0 []) q j k b in
    let u = stays rule.declared_arguments (declared_arguments_steady 0 []) as' k l (before_is as' k l m c s) in
    let v = sign_fewer kind.Is l m s refl in
    let w = stays rule.determinism (determinism_steady 0 []) d m n h in
    let x = sign_fewer kind.End n o z refl in
    omega (arith, e, f, u, v, w, x)

type_first : (line : ℕ) (t : HldsTypeDef) (i j : Input) → g.TypeDeclaration line t i j → kind_at i ≡ kind.Name
type_first line _ _ _ (g.TypeDeclaration.type_declaration t fs at i j k m n o w y s l c) = word_kind (codes "type") at i j w

pred_first : (x : rule.Declaration) (i j : Input) → g.PredDeclaration x i j → sees kind.Pred i ≡ true
pred_first _ _ _ (g.PredDeclaration.pred_declaration q as' d i j k l m n o a b c s h z) = seen_sign kind.Pred i j a

declared_complete : (before after : Hlds) (i j : Input) → g.Declared before after i j → rule.declared before i ≡ Ok (after, j)
unfolding rule.declared rule.declared_procedure rule.declared_type_definition rule.procedure same_kind
declared_complete before _ _ _ (g.Declared.type t line i j k h d) = rw (h, unlike kind.Name kind.Pred j (type_first line t j k d) refl, type_definition_complete line t j k d) refl
declared_complete before _ _ _ (g.Declared.predicate d c line i j k l h p q) = rw (h, pred_first d j k p, declaration_complete d j k p, clause_complete d.name (length d.args) c k l q) refl

-- a declaration has more than one token
pub declared_fewer : (before after : Hlds) (i j : Input) → g.Declared before after i j → length j.rest + 1 < length i.rest
unfolding same_kind
declared_fewer before _ _ _ (g.Declared.type t line i j k h d) = let a = sign_fewer kind.Declare i j (sign line i j h) refl in let b = type_fewer line t j k d in omega (arith, a, b)
declared_fewer before _ _ _ (g.Declared.predicate d c line i j k l h p q) =
    let a = sign_fewer kind.Declare i j (sign line i j h) refl in
    let b = pred_fewer d j k p in
    let e = stays (rule.clause d.name (length d.args)) (clause_steady 0 [] d.name (length d.args)) c k l (clause_complete d.name (length d.args) c k l q) in
    omega (arith, a, b, e)

declared_first : (before after : Hlds) (i j : Input) → g.Declared before after i j → kind_at i ≡ kind.Declare
declared_first before _ _ _ (g.Declared.type t line i j k h d) = (expected kind.Declare line i j h).is
declared_first before _ _ _ (g.Declared.predicate d c line i j k l h p q) = (expected kind.Declare line i j h).is

pub declarations_complete : (n : ℕ) (before after : Hlds) (i j : Input) → g.Declarations before after i j → sees kind.Stop j ≡ true → length i.rest < n + n → rule.declarations_from n before i ≡ Ok (after, j)
unfolding rule.declarations_from same_kind
declarations_complete zero _ _ _ _ (g.Declarations.none l i) e few = absurd (omega arith)
declarations_complete zero _ _ _ _ (g.Declarations.also before l after i j k d rest) e few = absurd (omega arith)
declarations_complete (suc n) _ _ _ _ (g.Declarations.none l i) e few = rw e refl
declarations_complete (suc n) _ _ _ _ (g.Declarations.also before l after i j k d rest) e few =
    let f = declared_fewer before l i j d in
    rw (unlike kind.Declare kind.Stop i (declared_first before l i j d) refl, declared_complete before l i j d)
    (declarations_complete n l after j k rest e (omega (arith, f, few)))
