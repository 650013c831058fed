-- Types and functors of a program that declares no name twice.
use Rattle.std.proofs.Common.{◌≡◌, refl, sym, ap, ◌∙◌, subst, inl, inr, ◌⊎◌, ℕ, true, false, List, [], ◌∷◌, ◌++◌, map, Option, Some, None}
use Rattle.std.proofs.lemmas.Bool.{true≢false}
use Rattle.std.specs.Str.{bytes_eq}
use Rattle.std.proofs.lemmas.Slice.Eq.{bytes_eq-Decides}
use Rattle.md_hlds.specs.Hlds.{HldsFunctor, HldsTypeDef, Hlds}
use Rattle.md_names.specs.Named.{construct_among, found_in, functor_found}
use Rattle.md_reader.specs.Duplicates as second
use Rattle.md_reader.specs.Duplicates.{same_declared, is_among, first_second, declared_type_definition, earlier, second_type_definition, duplicate}
use Rattle.law_safety.proofs.OneMain.{seen_not, not_before, among_end}

first_none : (a b : Option ℕ) → earlier a b ≡ None → a ≡ None
first_none None b h = refl
first_none (Some x) None h = absurd (cc h)
first_none (Some x) (Some y) h = absurd (cc h)

no_second : (l : Hlds) → duplicate l ≡ None → first_second [] (map declared_type_definition l.types) ≡ None
unfolding duplicate second_type_definition
no_second l h = first_none _ _ h

-- a type is one of these
abbrev pub IsOneOf : HldsTypeDef → List HldsTypeDef → Type 0
IsOneOf t [] = ⊥
IsOneOf t (u ∷ us) = (t ≡ u) ⊎ IsOneOf t us

same_name : (t u : HldsTypeDef) → t.name ≡ u.name → same_declared (declared_type_definition t) (declared_type_definition u) ≡ true
same_name t u e = let same : bytes_eq t.name u.name ≡ true = (bytes_eq-Decides t.name u.name).1 e in rw same refl

-- one of these isn't among those that were declared before them
fresh : (seen : List second.Declared) (ts : List HldsTypeDef) (u : HldsTypeDef) → first_second seen (map declared_type_definition ts) ≡ None → IsOneOf u ts → is_among (declared_type_definition u) seen ≡ false
fresh seen [] u once h = elim h [ ]
fresh seen (t ∷ ts) u once (inl e) =
    let o = seen_not (is_among (declared_type_definition t) seen) t.line _ once in
    ap (λ (v : HldsTypeDef). is_among (declared_type_definition v) seen) e ∙ o.0
fresh seen (t ∷ ts) u once (inr h) =
    let o = seen_not (is_among (declared_type_definition t) seen) t.line _ once in
    (not_before (declared_type_definition u) (declared_type_definition t) seen (fresh (seen ++ declared_type_definition t ∷ []) ts u o.1 h)).0

clash : (seen : List second.Declared) (ts : List HldsTypeDef) (t u : HldsTypeDef) → first_second (seen ++ declared_type_definition t ∷ []) (map declared_type_definition ts) ≡ None → IsOneOf u ts → u.name ≡ t.name → ⊥
clash seen ts t u once h e = true≢false (sym (among_end (declared_type_definition u) (declared_type_definition t) seen (same_name u t e)) ∙ fresh (seen ++ declared_type_definition t ∷ []) ts u once h)

differ : (seen : List second.Declared) (ts : List HldsTypeDef) (t u : HldsTypeDef) → first_second seen (map declared_type_definition ts) ≡ None → IsOneOf t ts → IsOneOf u ts → t.name ≡ u.name → t ≡ u
differ seen [] t u once h g e = elim h [ ]
differ seen (v ∷ ts) t u once (inl a) (inl b) e = a ∙ sym b
differ seen (v ∷ ts) t u once (inl a) (inr b) e =
    let o = seen_not (is_among (declared_type_definition v) seen) v.line _ once in
    absurd (clash seen ts v u o.1 b (sym e ∙ ap (λ (w : HldsTypeDef). w.name) a))
differ seen (v ∷ ts) t u once (inr a) (inl b) e =
    let o = seen_not (is_among (declared_type_definition v) seen) v.line _ once in
    absurd (clash seen ts v t o.1 a (e ∙ ap (λ (w : HldsTypeDef). w.name) b))
differ seen (v ∷ ts) t u once (inr a) (inr b) e =
    let o = seen_not (is_among (declared_type_definition v) seen) v.line _ once in
    differ (seen ++ declared_type_definition v ∷ []) ts t u o.1 a b e

-- types of one name are one
abbrev pub TypesDiffer : Hlds → Type 0
TypesDiffer s = (t u : HldsTypeDef) → IsOneOf t s.types → IsOneOf u s.types → t.name ≡ u.name → t ≡ u

pub types_differ : (s : Hlds) → duplicate s ≡ None → TypesDiffer s
types_differ s once t u h g e = differ [] s.types t u (no_second s once) h g e

found_step : (name : List ℕ) (arity : ℕ) (t : HldsTypeDef) (ts : List HldsTypeDef) (w : HldsTypeDef × HldsFunctor) (o : Option HldsFunctor) (others : Option (HldsTypeDef × HldsFunctor))
    → construct_among name arity t.functors ≡ o → (others ≡ Some w → IsOneOf w.0 ts × (construct_among name arity w.0.functors ≡ Some w.1)) → found_in t o others ≡ Some w
    → IsOneOf w.0 (t ∷ ts) × (construct_among name arity w.0.functors ≡ Some w.1)
found_step name arity t ts w (Some f) others e rest h =
    let is : ◌≡◌ {A = HldsTypeDef × HldsFunctor} (t, f) w = cc h in
    subst (λ (z : HldsTypeDef × HldsFunctor). IsOneOf z.0 (t ∷ ts) × (construct_among name arity z.0.functors ≡ Some z.1)) is (inl refl, e)
found_step name arity t ts w None others e rest h = let r = rest h in (inr r.0, r.1)

-- what a look-up finds: a type of the program, and a functor of it
pub found_one : (name : List ℕ) (arity : ℕ) (ts : List HldsTypeDef) (w : HldsTypeDef × HldsFunctor) → functor_found name arity ts ≡ Some w
    → IsOneOf w.0 ts × (construct_among name arity w.0.functors ≡ Some w.1)
found_one name arity [] w h = absurd (cc h)
found_one name arity (t ∷ ts) w h = found_step name arity t ts w (construct_among name arity t.functors) (functor_found name arity ts) refl (λ e. found_one name arity ts w e) h
