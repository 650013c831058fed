-- A name that is a functor has as many arguments as the functor is declared with.
use Rattle.std.proofs.Common.{◌≡◌, refl, arith, ℕ, ◌<◌, ◌≤◌, Bool, true, false, ◌&&◌, cond, nat_eq, List, [], ◌∷◌, length, Option, Some, None, All}
use Rattle.std.specs.List.{AllByRecursion}
use Rattle.std.specs.Str.{bytes_eq}
use Rattle.std.proofs.lemmas.Bool.{eqb-true, and_parts}
use Rattle.std.proofs.lemmas.List.Elements.{recursion_from_All}
use Rattle.md_hlds.specs.declared.goal.PredName.{PredName}
use Rattle.md_hlds.specs.Hlds.{HldsFunctor, HldsTypeDef, Hlds}
use Rattle.md_names.specs.Named.{construct_among, found_in, functor_found}
use Rattle.md_inst.specs.Named.{Functor, functor_of, if_unqualified, functor_called}
use Rattle.md_reader.specs.Arguments.{HaveFewArguments}

abbrev IsShort : ℕ → HldsFunctor → Type 0
IsShort most f = length f.args < most

-- ---- among the functors of a type

by_test : (most arity : ℕ) (b : Bool) (g f : HldsFunctor) (rest : Option HldsFunctor) → (b ≡ true → arity < most) → (rest ≡ Some f → arity < most) → cond b (Some g) rest ≡ Some f → arity < most
by_test most arity true g f rest here later is = here refl
by_test most arity false g f rest here later is = later is

construct_few : (most : ℕ) (name : List ℕ) (arity : ℕ) (fs : List HldsFunctor) (f : HldsFunctor) → AllByRecursion (IsShort most) fs → construct_among name arity fs ≡ Some f → arity < most
construct_few most name arity [] f few is = absurd (cc)
construct_few most name arity (g ∷ fs) f few is =
    by_test most arity (bytes_eq name g.name && nat_eq arity (length g.args)) g f (construct_among name arity fs)
    (λ test.
    let same = eqb-true arity (length g.args) (and_parts (bytes_eq name g.name) (nat_eq arity (length g.args)) test).1 in
    let short = few.0 in
    omega (arith, same, short))
    (construct_few most name arity fs f few.1) is

-- ---- among those of all types

by_type : (most arity : ℕ) (t : HldsTypeDef) (o : Option HldsFunctor) (others : Option (HldsTypeDef × HldsFunctor)) (p : HldsTypeDef × HldsFunctor)
    → ((f : HldsFunctor) → o ≡ Some f → arity < most) → (others ≡ Some p → arity < most) → found_in t o others ≡ Some p → arity < most
by_type most arity t (Some f) others p here later is = here f refl
by_type most arity t None others p here later is = later is

found_few : (most : ℕ) (name : List ℕ) (arity : ℕ) (ts : List HldsTypeDef) (p : HldsTypeDef × HldsFunctor) → AllByRecursion (λ t. All (IsShort most) t.functors) ts → functor_found name arity ts ≡ Some p → arity < most
found_few most name arity [] p few is = absurd (cc)
found_few most name arity (t ∷ ts) p few is =
    by_type most arity t (construct_among name arity t.functors) (functor_found name arity ts) p
    (λ f of. construct_few most name arity t.functors f (recursion_from_All (IsShort most) t.functors few.0) of)
    (found_few most name arity ts p few.1) is

-- ---- by a name

called_by : (most : ℕ) (name : List ℕ) (arity : ℕ) (ts : List HldsTypeDef) (f : Functor) → HaveFewArguments most ts → (o : Option (HldsTypeDef × HldsFunctor)) → functor_found name arity ts ≡ o → functor_of o ≡ Some f → arity < most
called_by most name arity ts f few None found is = absurd (cc)
called_by most name arity ts f few (Some p) found is = found_few most name arity ts p (recursion_from_All (λ (t : HldsTypeDef). All (IsShort most) t.functors) ts few) found

called_as : (most : ℕ) (s : Hlds) (qualifier : Option (List ℕ)) (name : List ℕ) (arity : ℕ) (f : Functor) → HaveFewArguments most s.types → if_unqualified qualifier (functor_of (functor_found name arity s.types)) ≡ Some f → arity < most
called_as most s None name arity f few is = called_by most name arity s.types f few (functor_found name arity s.types) refl is
called_as most s (Some m) name arity f few is = absurd (cc)

pub called_few : (most : ℕ) (s : Hlds) (q : PredName) (arity : ℕ) (f : Functor) → HaveFewArguments most s.types → functor_called s q arity ≡ Some f → arity < most
called_few most s q arity f few is = called_as most s q.qualifier q.name arity f few is

-- fewer than some number are fewer than a greater one
pub fewer_arguments : (most more : ℕ) (ts : List HldsTypeDef) → most ≤ more → HaveFewArguments most ts → HaveFewArguments more ts
fewer_arguments most more ts le few = λ i t there j f within. let short = few i t there j f within in omega (arith, le, short)
