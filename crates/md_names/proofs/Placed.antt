-- A functor with its type, with and without the type's number.
use Rattle.std.proofs.Common.{◌≡◌, refl, ap, ◌∙◌, sym, ℕ, suc, List, [], ◌∷◌, Option, Some, None}
use Rattle.md_hlds.specs.Hlds.{HldsFunctor, HldsTypeDef, type_def_of, hlds_functor_of}
use Rattle.md_names.specs.declared.functors.Declared.{Declared}
use Rattle.md_names.specs.Named.{construct_among, found_in, functor_found, functor_placed}
use Rattle.md_names.specs.Maps.{functor_told}

abbrev pub without_place : Option ((ℕ × HldsTypeDef) × HldsFunctor) → Option (HldsTypeDef × HldsFunctor)
without_place None = None
without_place (Some f) = Some (f.0.1, f.1)

found_placed : (n : ℕ) (t : HldsTypeDef) (f : Option HldsFunctor) (others : Option (HldsTypeDef × HldsFunctor)) (placed : Option ((ℕ × HldsTypeDef) × HldsFunctor))
    → others ≡ without_place placed → found_in t f others ≡ without_place (found_in (n, t) f placed)
found_placed n t None others placed e = e
found_placed n t (Some f) others placed e = refl

pub without_place_is : (name : List ℕ) (arity n : ℕ) (ts : List HldsTypeDef) → functor_found name arity ts ≡ without_place (functor_placed name arity n ts)
without_place_is name arity n [] = refl
without_place_is name arity n (t ∷ ts) = found_placed n t (construct_among name arity t.functors) _ _ (without_place_is name arity (suc n) ts)

pub functor_missing : (name : List ℕ) (arity : ℕ) (ts : List HldsTypeDef) → functor_told None ≡ functor_placed name arity 0 ts → functor_found name arity ts ≡ None
functor_missing name arity ts e = without_place_is name arity 0 ts ∙ ap without_place (sym e)

pub functor_here : (name : List ℕ) (arity : ℕ) (ts : List HldsTypeDef) (d : Declared) → functor_told (Some d) ≡ functor_placed name arity 0 ts
    → functor_found name arity ts ≡ Some (type_def_of d.family.now, hlds_functor_of d.functor.now)
functor_here name arity ts d e = without_place_is name arity 0 ts ∙ ap without_place (sym e)
