-- The type of a functor, as the definitions of switches and those of look-ups have it.
use Rattle.std.proofs.Common.{◌≡◌, refl, sym, ap, ◌∙◌, ℕ, zero, suc, ◌<◌, ◌≤◌, arith, Bool, true, cond, List, [], ◌∷◌, length, Option, Some, None, nat_eq, get_or, slice_get, Bor}
use Rattle.std.specs.Prelude.{is_some}
use Rattle.std.specs.Slice.{IsGetResult}
use Rattle.md_hlds.specs.declared.goal.PredName.{PredName}
use Rattle.md_hlds.specs.declared.program.Functor.{Functor}
use Rattle.md_hlds.specs.declared.program.TypeDef.{TypeDef}
use Rattle.md_hlds.specs.Hlds.{HldsFunctor, HldsTypeDef, Procedure, Hlds, hlds_functors_of, type_def_of, type_defs_of, is_functor, procedure_called, nth_procedure, numbered}
use Rattle.md_names.specs.declared.named.Named.{Named}
use Rattle.md_names.specs.declared.named.Named.TheVariants as name
use Rattle.md_names.specs.Named.{construct_among, found_in, functor_found, named_call, named_term, is_functor_name}
use Rattle.md_names.proofs.Standing.{family_found, declares_functor-among, functor_named, type_named, call_named, call_missing, call_no_functor}
use Rattle.md_det.specs.Determinism.{call_pair, unsure}
use Rattle.md_det.specs.Judge.{type_of_name, read_call}
use Rattle.md_det.specs.Pairs.{pair_of}
use Rattle.md_det.specs.Switches.{family_with, is_alone}
use Rattle.md_det.specs.Told.{family_told}

family_cond : (t : HldsTypeDef) (r : Option HldsFunctor) (others : Option (HldsTypeDef × HldsFunctor)) (x : Bool) (o : Option HldsTypeDef) → x ≡ is_some r → o ≡ family_found others
    → cond x (Some t) o ≡ family_found (found_in t r others)
family_cond t None others x o e f = rw (e, f) refl
family_cond t (Some g) others x o e f = rw e refl

-- and its type is the one that the look-up finds
pub family_there : (name : List ℕ) (arity : ℕ) (ts : List HldsTypeDef) → family_with name arity ts ≡ family_found (functor_found name arity ts)
family_there name arity [] = refl
family_there name arity (t ∷ ts) =
    family_cond t (construct_among name arity t.functors) (functor_found name arity ts) _ _ (declares_functor-among name arity t.functors) (family_there name arity ts)

-- ---- types and predicates by what a name stands for

type_by : (p : Hlds) (q : PredName) (arity : ℕ) (m : Named) → named_term p q arity ≡ m → is_functor_name m ≡ true → type_of_name p m ≡ family_with q.name arity p.types
type_by p q arity (name.Functor k) e f = type_named p q arity k e ∙ sym (family_there q.name arity p.types)
type_by p q arity (name.Predicate k) e f = absurd (cc)
type_by p q arity name.Nothing e f = absurd (cc)

-- the type of a term that is a functor
pub type_is : (p : Hlds) (q : PredName) (arity : ℕ) → is_functor p q arity ≡ true → type_of_name p (named_term p q arity) ≡ family_with q.name arity p.types
type_is p q arity f = type_by p q arity (named_term p q arity) refl (sym (functor_named p q arity) ∙ f)

call_by : (p : Hlds) (q : PredName) (m : Named) → named_call p q ≡ m → read_call p m ≡ call_pair (procedure_called p q)
call_by p q (name.Functor k) e = absurd (call_no_functor p q k e)
call_by p q (name.Predicate k) e = ap call_pair (call_named p q k e)
call_by p q name.Nothing e = ap call_pair (sym (call_missing p q e))

-- the pair of a call
pub call_is : (p : Hlds) (q : PredName) → read_call p (named_call p q) ≡ call_pair (procedure_called p q)
call_is p q = call_by p q (named_call p q) refl

-- ---- as the code has them

family_at : (ts : List TypeDef) (i : ℕ) (t : TypeDef) → i < length ts → t ≡ get_or ts i t → slice_get (type_defs_of ts) i ≡ Some (type_def_of t)
family_at [] i t lt is = absurd (omega (arith, lt))
family_at (u ∷ ts) zero t lt is = ap (λ (x : TypeDef). Some (type_def_of x)) (sym is)
family_at (u ∷ ts) (suc i) t lt is = family_at ts i t (omega (arith, lt)) is

no_family_at : (ts : List TypeDef) (i : ℕ) → length ts ≤ i → slice_get (type_defs_of ts) i ≡ None
no_family_at [] i lt = refl
no_family_at (u ∷ ts) zero lt = absurd (omega (arith, lt))
no_family_at (u ∷ ts) (suc i) lt = no_family_at ts i (omega (arith, lt))

pub family_got : (ts : List TypeDef) (i : ℕ) (r : Option (Bor TypeDef)) → IsGetResult ts i i r → family_told r ≡ slice_get (type_defs_of ts) i
family_got ts i None got = sym (no_family_at ts i got.3)
family_got ts i (Some t) got = sym (family_at ts i t.now got.3.0 got.1)

length-constructs : (fs : List Functor) → length (hlds_functors_of fs) ≡ length fs
length-constructs [] = refl
length-constructs (f ∷ fs) = ap suc (length-constructs fs)

-- whether a type has one functor
pub alone_counted : (t : TypeDef) (o : Option HldsTypeDef) (n : ℕ) → n ≡ length t.functors.items → Some (type_def_of t) ≡ o → nat_eq n 1 ≡ is_alone o
alone_counted t o n counted e = ap (λ k. nat_eq k 1) (counted ∙ sym (length-constructs t.functors.items)) ∙ ap is_alone e

pub no_procedure : (p : Hlds) (k : ℕ) → length p.procedures ≤ k → unsure ≡ call_pair (nth_procedure p k)
no_procedure p k le = ap (λ o. call_pair (numbered k o)) (sym (past p.procedures k le))
  where
    past : (ps : List Procedure) (i : ℕ) → length ps ≤ i → slice_get ps i ≡ None
    past [] i lt = refl
    past (u ∷ ps) zero lt = absurd (omega (arith, lt))
    past (u ∷ ps) (suc i) lt = past ps i (omega (arith, lt))

pub procedure_pair : (p : Hlds) (k : ℕ) (q : Procedure) → slice_get p.procedures k ≡ Some q → pair_of q.det ≡ call_pair (nth_procedure p k)
procedure_pair p k q e = ap (λ o. call_pair (numbered k o)) (sym e)
