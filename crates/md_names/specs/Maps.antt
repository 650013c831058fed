-- Maps from names to what they stand for.
use Rattle.std.specs.Prelude.{ℕ, ◌≡◌, Bool, ◌&&◌, ◌||◌, List, Option, Some, None, nat_eq}
use Rattle.std.specs.Borrow.{Bor}
use Rattle.std.specs.Cmp.Lexicographic.{pointwise}
use Rattle.std.specs.Str.{bytes_eq}
use Rattle.md_hlds.specs.declared.program.Pred.{Pred}
use Rattle.md_names.specs.declared.functors.Declared.{Declared}
use Rattle.md_hlds.specs.Hlds.{HldsFunctor, HldsTypeDef, Procedure, hlds_functor_of, type_def_of, procedure_of, find_procedure, same_qualifier}
use Rattle.md_hlds.specs.declared.goal.PredName.{PredName}
use Rattle.md_names.specs.declared.key.FunctorKey.{FunctorKey}
use Rattle.md_names.specs.declared.key.PredicateKey.{PredicateKey}
use Rattle.md_names.specs.Named.{is_type, has_name, some_has_name, functor_placed}
use Rattle.indexmap.specs.IndexMap.{IndexMap, get_by}
use Rattle.indexmap.specs.IndexSet.{IndexSet, contains_by}

-- ---- functors

abbrev pub functor_told : Option Declared → Option ((ℕ × HldsTypeDef) × HldsFunctor)
functor_told None = None
functor_told (Some found) = Some ((found.place, type_def_of found.family.now), hlds_functor_of found.functor.now)

abbrev pub is_functor_key : List ℕ → ℕ → FunctorKey → Bool
is_functor_key name arity k = pointwise nat_eq name k.name.now && nat_eq arity k.arity

-- what a map has at a name and an arity
abbrev pub functor_in : {S : Type 0} → IndexMap FunctorKey Declared S → List ℕ → ℕ → Option ((ℕ × HldsTypeDef) × HldsFunctor)
functor_in m name arity = functor_told (get_by (is_functor_key name arity) m)

-- it is the first functor of each name and arity among those of these types, counted on from n
abbrev pub AreFunctorsFrom : {S : Type 0} → IndexMap FunctorKey Declared S → ℕ → List HldsTypeDef → Type 0
AreFunctorsFrom m n ts = (name : List ℕ) → (arity : ℕ) → functor_in m name arity ≡ functor_placed name arity n ts

abbrev pub AreFunctors : {S : Type 0} → IndexMap FunctorKey Declared S → List HldsTypeDef → Type 0
AreFunctors m ts = AreFunctorsFrom m 0 ts

-- ---- predicates

abbrev pub predicate_told : Option (ℕ × Bor Pred) → Option (ℕ × Procedure)
predicate_told None = None
predicate_told (Some found) = Some (found.0, procedure_of found.1.now)

abbrev pub slice_now : Option (Bor (List ℕ)) → Option (List ℕ)
slice_now None = None
slice_now (Some bytes) = Some bytes.now

abbrev pub is_predicate_key : PredName → PredicateKey → Bool
is_predicate_key q k = same_qualifier q.qualifier (slice_now k.qualifier) && bytes_eq q.name k.name.now

-- what a map has at a name
abbrev pub predicate_in : {S : Type 0} → IndexMap PredicateKey (ℕ × Bor Pred) S → PredName → Option (ℕ × Procedure)
predicate_in m q = predicate_told (get_by (is_predicate_key q) m)

-- it is the first of these procedures, counted on from n, that the name calls
abbrev pub ArePredicatesFrom : {S : Type 0} → IndexMap PredicateKey (ℕ × Bor Pred) S → ℕ → List Procedure → Type 0
ArePredicatesFrom m n ps = (q : PredName) → predicate_in m q ≡ find_procedure q n ps

abbrev pub ArePredicates : {S : Type 0} → IndexMap PredicateKey (ℕ × Bor Pred) S → List Procedure → Type 0
ArePredicates m ps = ArePredicatesFrom m 0 ps

-- ---- sets of names

-- a set has a name
abbrev pub is_in : {S : Type 0} → IndexSet (Bor (List ℕ)) S → List ℕ → Bool
is_in s name = contains_by (λ k. pointwise nat_eq name k.now) s

abbrev pub AreTypeNames : {S : Type 0} → IndexSet (Bor (List ℕ)) S → List HldsTypeDef → Type 0
AreTypeNames s ts = (name : List ℕ) → is_in s name ≡ is_type name ts

abbrev pub AreFunctorNames : {S : Type 0} → IndexSet (Bor (List ℕ)) S → List HldsTypeDef → Type 0
AreFunctorNames s ts = (name : List ℕ) → is_in s name ≡ some_has_name name ts

-- the names of these functors were added
abbrev pub AddsNames : {S R : Type 0} → IndexSet (Bor (List ℕ)) S → IndexSet (Bor (List ℕ)) R → List HldsFunctor → Type 0
AddsNames s r fs = (name : List ℕ) → is_in r name ≡ (has_name name fs || is_in s name)
