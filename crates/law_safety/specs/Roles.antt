-- What each class of unification, and each call of a closure, meets in an environment that fits what is known there.
use Rattle.std.specs.Prelude.{⊤, ◌≡◌, ◌<◌, ◌⊎◌, ℕ, suc, cond, List, [], ◌∷◌, length, Option, Some, None, is_some}
use Rattle.md_hlds.specs.declared.goal.Term.{Term}
use Rattle.md_hlds.specs.declared.goal.Term.TheVariants.{Var, Int, Str, Name}
use Rattle.md_hlds.specs.Hlds.{HldsType, HldsFunctor, HldsTypeDef, Hlds}
use Rattle.md_hlds.specs.Value.{Value, Number, Literal, Built, Env, value_count, value_at, values_at}
use Rattle.md_names.specs.Named.{functor_found}
use Rattle.md_inst.specs.Instantiation.{Instantiation, times}
use Rattle.md_modes.specs.Notes.{Role, constructs, closes, takes_apart, assigns, tests, applies, role_of_closure}
use Rattle.law_safety.specs.Values.{HasType}

-- these variables are among those
abbrev pub AreVariablesOf : List ℕ → List ℕ → Type 0
AreVariablesOf xs vars = (x : ℕ) → 0 < times x xs → 0 < times x vars

-- the variables of a term's arguments
abbrev pub arguments_of : Term → List ℕ
arguments_of (Name q ys) = ys
arguments_of t = []

abbrev pub HasValue : Option Value → Type 0
HasValue o = (v : Value) × (o ≡ Some v)

abbrev pub HaveValues : Env → List ℕ → Type 0
HaveValues e ys = (vs : List Value) × (values_at e ys ≡ Some vs)

-- the places, counted on from n, of the variables that have values
abbrev pub valued_places : ℕ → List ℕ → Env → List ℕ
valued_places n [] e = []
valued_places n (y ∷ ys) e = cond (is_some (value_at e y)) (n ∷ valued_places (suc n) ys e) (valued_places (suc n) ys e)

-- two functors of one type
abbrev pub AreOfOneType : Option (HldsTypeDef × HldsFunctor) → Option (HldsTypeDef × HldsFunctor) → Type 0
AreOfOneType (Some f) (Some g) = f.0.name ≡ g.0.name
AreOfOneType f g = ⊥

-- a value that a term may be compared with: an integer, a literal, or a functor of the type of the term's functor
abbrev pub IsComparable : Hlds → Term → Option Value → Type 0
IsComparable s (Int n) (Some (Number m)) = ⊤
IsComparable s (Str b) (Some (Literal c)) = ⊤
IsComparable s (Name q ys) (Some (Built g parts)) = AreOfOneType (functor_found g (value_count parts) s.types) (functor_found q.name (length ys) s.types)
IsComparable s t o = ⊥

-- one variable has a value, and another has none
abbrev pub IsAssigned : Env → (from to : ℕ) → Type 0
IsAssigned e from to = HasValue (value_at e from) × (value_at e to ≡ None)

abbrev pub other_of : Term → ℕ → ℕ
other_of (Var y) x = y
other_of t x = x

-- What a unification of x with a term meets, by its class: a construction and a closing meet no value of x, and values of
-- all arguments; a deconstruction meets a value that the term may be compared with, and the places that it names are
-- those of the arguments that have values; an assignment meets a value of one variable and none of that which it binds; a
-- test meets two values.
abbrev pub IsMet : Hlds → Env → ℕ → Term → Role → Type 0
IsMet s e x t constructs = (value_at e x ≡ None) × HaveValues e (arguments_of t)
IsMet s e x t closes = (value_at e x ≡ None) × HaveValues e (arguments_of t)
IsMet s e x t (takes_apart bound) = IsComparable s t (value_at e x) × (bound ≡ valued_places 0 (arguments_of t) e)
IsMet s e x t (assigns to) = (IsAssigned e x (other_of t x) × (to ≡ other_of t x)) ⊎ (IsAssigned e (other_of t x) x × (to ≡ x))
IsMet s e x t tests = HasValue (value_at e x) × HasValue (value_at e (other_of t x))
IsMet s e x t (applies u) = ⊥

-- the closure that is called has the type that the checks name
pub record IsClosureCalled (s : Hlds) (k : Instantiation) (o : Option Value) : Type 0 where
  pub type : HldsType
  pub named : role_of_closure k ≡ Some (applies type)
  pub value : Value
  pub is : o ≡ Some value
  pub typed : HasType s value type
