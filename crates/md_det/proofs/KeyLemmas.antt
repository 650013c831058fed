-- The keys of functors.
use Rattle.std.proofs.Common.{◌≡◌, refl, ap, ◌∙◌, sym, ℕ, suc, ◌+◌, ◌<◌, List, [], ◌∷◌, length, drop, get_or, drop-cons, add-one}
use Rattle.md_hlds.specs.declared.program.Functor.{Functor}
use Rattle.md_hlds.specs.declared.types.Ty.{Ty}
use Rattle.md_hlds.specs.Hlds.{hlds_functor_of, hlds_functors_of, hlds_types_of}
use Rattle.md_hlds.specs.Switch.{FunctorKey}
use Rattle.md_det.specs.Switches.{key_of}

length-sorts : (ts : List Ty) → length (hlds_types_of ts) ≡ length ts
length-sorts [] = refl
length-sorts (t ∷ ts) = ap suc (length-sorts ts)

pub constructs-step : (fs : List Functor) (i : ℕ) (f : Functor) → i < length fs → f ≡ get_or fs i f
    → hlds_functors_of (drop i fs) ≡ hlds_functor_of f ∷ hlds_functors_of (drop (i + 1) fs)
constructs-step fs i f lt is = rw add-one (ap hlds_functors_of (drop-cons fs i f lt ∙ ap (λ (h : Functor). h ∷ drop (suc i) fs) (sym is)))

-- a functor's key, as the code has it
pub key_is : (name : List ℕ) (arity : ℕ) (f : Functor) → name ≡ f.name → arity ≡ length f.args.items → FunctorKey name arity ≡ key_of (hlds_functor_of f)
key_is name arity f a b = rw (a, b, length-sorts f.args.items) refl
