-- Maps from what a program names to numbers.
use Rattle.std.specs.Prelude.{ℕ, suc, ◌≡◌, List, [], ◌∷◌, Option, Some, None, cond}
use Rattle.std.specs.Borrow.{Bor}
use Rattle.md_hlds.specs.Hlds.{HldsFunctor}
use Rattle.md_names.specs.declared.key.FunctorKey.{FunctorKey}
use Rattle.md_names.specs.Maps.{is_functor_key}
use Rattle.indexmap.specs.IndexMap.{IndexMap, get_by}
use Rattle.md_code.specs.Tables.{is_named}

-- what a map has at a name and an arity
abbrev pub number_in : {S : Type 0} → IndexMap FunctorKey ℕ S → List ℕ → ℕ → Option ℕ
number_in m name arity = get_by (is_functor_key name arity) m

-- the place of the first functor of that name and arity, counted on from n
abbrev pub place_among : List ℕ → ℕ → ℕ → List HldsFunctor → Option ℕ
place_among name arity n [] = None
place_among name arity n (f ∷ fs) = cond (is_named name arity f) (Some n) (place_among name arity (suc n) fs)

-- a number that was there, or another
abbrev pub first_of : Option ℕ → Option ℕ → Option ℕ
first_of (Some n) other = Some n
first_of None other = other

-- the functors of these names and arities were added that were not there, counted on from n
abbrev pub AddsFunctors : {S R : Type 0} → IndexMap FunctorKey ℕ S → IndexMap FunctorKey ℕ R → ℕ → List HldsFunctor → Type 0
AddsFunctors old new n fs = (name : List ℕ) → (arity : ℕ) → number_in new name arity ≡ first_of (number_in old name arity) (place_among name arity n fs)

-- a map has the place of the first functor of each name and arity
abbrev pub AreNumbers : {S : Type 0} → IndexMap FunctorKey ℕ S → List HldsFunctor → Type 0
AreNumbers m fs = (name : List ℕ) → (arity : ℕ) → number_in m name arity ≡ place_among name arity 0 fs

-- texts as lists of bytes
abbrev pub texts_of : List (Bor (List ℕ)) → List (List ℕ)
texts_of [] = []
texts_of (t ∷ ts) = t.now ∷ texts_of ts
