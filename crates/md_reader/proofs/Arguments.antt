-- Each argument of a functor has a token of its own, and each token a byte: so a functor has fewer arguments than its text has bytes.
use Rattle.std.specs.Prelude.{codes}
use Rattle.std.proofs.Common.{refl, ℕ, suc, ◌<◌, ◌≤◌, List, [], ◌∷◌, length, All, arith}
use Rattle.std.specs.List.{AllByRecursion}
use Rattle.std.proofs.lemmas.List.Elements.{All-append, All-cons, All-from_recursion, All-nil}
use Rattle.md_hlds.specs.Hlds.{HldsType, HldsFunctor, HldsTypeDef, Hlds}
use Rattle.md_token.specs.declared.kind.Kind.TheVariants as kind
use Rattle.md_token.specs.Kinds.{same_kind}
use Rattle.md_token.specs.Token.{tokens_of}
use Rattle.md_token.proofs.Few.{few_tokens}
use Rattle.md_reader.specs.Arguments.{HaveFewArguments}
use Rattle.md_reader.specs.Input.{Input, name, word}
use Rattle.md_reader.specs.Rules as rule
use Rattle.md_reader.specs.Grammar as g
use Rattle.md_reader.specs.Grammar.{Is, sign, Listed, last, also, enclosed, Spells}
use Rattle.md_reader.proofs.Complete.{stays, sign_fewer, listed_few, simple_types_complete}
use Rattle.md_reader.proofs.CompletePrograms.{declared_fewer}
use Rattle.md_reader.proofs.SteadyRules.{name_steady, word_steady, simple_type_steady, simple_types_steady, type_name_steady}
use Rattle.md_reader.proofs.SteadyPrograms.{module_name_steady}

-- what is read has no more items than there are tokens, and ends no earlier than it begins
record AreFew (ts : List HldsType) (i k : Input) : Type 0 where
  few : length ts ≤ length i.rest
  stays : length k.rest ≤ length i.rest

arguments_few : (ts : List HldsType) (i k : Input) → g.FunctorArguments ts i k → AreFew ts i k
unfolding same_kind
arguments_few _ _ _ (g.FunctorArguments.none i) = record { few = omega arith; stays = omega arith }
arguments_few _ _ _ (g.FunctorArguments.some ts i j k s (enclosed _ _ m _ listed few c)) =
    let a = sign_fewer kind.Open i j s refl in
    let b = listed_few (Is rule.simple_type) rule.simple_type kind.Comma kind.Close refl (λ x i j m h _. h) (simple_type_steady 0 []) refl refl ts j m k listed c in
    let d = stays rule.simple_types (simple_types_steady 0 []) ts j k (simple_types_complete ts j k (enclosed ts j m k listed few c)) in
    record { few = omega (arith, a, b); stays = omega (arith, a, d) }

functor_few : (f : HldsFunctor) (i k : Input) → g.Functor f i k → AreFew f.args i k
functor_few _ _ _ (g.Functor.functor f ts i j k n arguments) =
    let a = stays name (name_steady 0 []) f i j n in
    let few = (arguments_few ts j k arguments).few in
    let behind = (arguments_few ts j k arguments).stays in
    record { few = omega (arith, a, few); stays = omega (arith, a, behind) }

functors_few : (most : ℕ) (fs : List HldsFunctor) (i k : Input) → Listed g.Functor kind.Semicolon fs i k → length i.rest < most → AllByRecursion (λ f. length f.args < most) fs
unfolding same_kind
functors_few most _ _ _ (last f i k h) lt = let few = (functor_few f i k h).few in (omega (arith, few, lt), tt)
functors_few most _ _ _ (also f fs i j k m h s rest) lt =
    let few = (functor_few f i j h).few in
    let behind = (functor_few f i j h).stays in
    let a = sign_fewer kind.Semicolon j k s refl in
    (omega (arith, few, lt), functors_few most fs k m rest (omega (arith, behind, a, lt)))

type_few : (most line : ℕ) (t : HldsTypeDef) (i o : Input) → g.TypeDeclaration line t i o → length i.rest < most → All (λ f. length f.args < most) t.functors
unfolding same_kind
type_few most line _ _ _ (g.TypeDeclaration.type_declaration t fs at i j k m n o w y s listed c) lt =
    let a = stays (word (codes "type")) (word_steady 0 [] (codes "type")) at i j w in
    let b = stays rule.type_name (type_name_steady 0 []) t j k y in
    let d = sign_fewer kind.Yields k m s refl in
    All-from_recursion (λ (f : HldsFunctor). length f.args < most) fs (functors_few most fs m n listed (omega (arith, a, b, d, lt)))

declared_few : (most : ℕ) (before' after' : Hlds) (i j : Input) → g.Declared before' after' i j → length i.rest < most → HaveFewArguments most before'.types → HaveFewArguments most after'.types
unfolding rule.with_type_definition rule.with_procedure same_kind
declared_few most before' _ _ _ (g.Declared.type t line i j k h d) lt have =
    let a = sign_fewer kind.Declare i j (sign line i j h) refl in
    let each = λ (u : HldsTypeDef). All (λ f. length f.args < most) u.functors in
    All-append each before'.types (t ∷ []) have (All-cons each t [] (type_few most line t j k d (omega (arith, a, lt))) (All-nil each))
declared_few most before' _ _ _ (g.Declared.predicate d c line i j k l h p q) lt have = have

declarations_few : (most : ℕ) (before' after' : Hlds) (i j : Input) → g.Declarations before' after' i j → length i.rest < most → HaveFewArguments most before'.types → HaveFewArguments most after'.types
declarations_few most _ _ _ _ (g.Declarations.none l i) lt have = have
declarations_few most _ _ _ _ (g.Declarations.also before' l after' i j k d rest) lt have =
    let a = declared_fewer before' l i j d in
    declarations_few most l after' j k rest (omega (arith, a, lt)) (declared_few most before' l i j d lt have)

program_few : (most : ℕ) (l : Hlds) (i p : Input) → g.Program l i p → length i.rest < suc (suc most) → HaveFewArguments most l.types
unfolding same_kind
program_few most _ _ _ (g.Program.program m line at l i j k n o p h w y s rest) lt =
    let a = sign_fewer kind.Declare i j (sign line i j h) refl in
    let b = stays (word (codes "module")) (word_steady 0 [] (codes "module")) at j k w in
    let c = stays rule.module_name (module_name_steady 0 []) m k n y in
    let d = sign_fewer kind.End n o s refl in
    let each = λ (u : HldsTypeDef). All (λ f. length f.args < most) u.functors in
    declarations_few most (record { module_name = m; module_line = line; types = []; procedures = [] }) l o p rest (omega (arith, a, b, c, d, lt)) (All-nil each)

tokens_few : (text : List ℕ) → length (tokens_of text) < suc (suc (length text))
tokens_few text = let a = few_tokens text in omega (arith, a)

-- the arguments of a functor are fewer than the bytes of its text
pub few_arguments : (text : List ℕ) (p : Hlds) → Spells text p → HaveFewArguments (length text) p.types
few_arguments text p t = program_few (length text) p (rule.start (tokens_of text)) t.end t.program (tokens_few text)
