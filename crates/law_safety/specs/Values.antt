-- Values of a type in a program, and environments that fit what is known of a clause's variables.
use Rattle.std.specs.Prelude.{⊤, ◌≡◌, ℕ, ◌<◌, pos, List, [], ◌∷◌, length, Option, Some, None, slice_get}
use Rattle.md_hlds.specs.declared.types.Mode.{Mode}
use Rattle.md_hlds.specs.declared.types.Mode.TheVariants.{In}
use Rattle.md_hlds.specs.Hlds.{HldsType, number, text, world, named, closure, HldsFunctor, HldsTypeDef, Procedure, Hlds}
use Rattle.md_hlds.specs.Value.{Value, Values, Number, Literal, Built, Closure, no_values, also_value, value_count, Env, value_at}
use Rattle.md_names.specs.Named.{functor_found}
use Rattle.md_inst.specs.Instantiation.{Instantiation, free, has, InstMap, known_at, times}
use Rattle.md_inst.specs.Simple.{left_open}

-- a functor that is declared belongs to the type of this name, and its parts have the types of its arguments
abbrev pub IsBuiltOf : Option (HldsTypeDef × HldsFunctor) → List ℕ → (List HldsType → Type 0) → Type 0
IsBuiltOf None t parts = ⊥
IsBuiltOf (Some f) t parts = (f.0.name ≡ t) × parts f.1.args

-- A predicate that has captured values for its first arguments leaves a closure of this type open: the type's arguments
-- and modes are those of its other arguments, and the determinism is its own.
abbrev pub IsClosureOf : Option Procedure → HldsType → (List (HldsType × Mode) → List (HldsType × Mode) → Type 0) → Type 0
IsClosureOf None t held = ⊥
IsClosureOf (Some p) t held = (others : List (HldsType × Mode)) × held p.args others × (left_open others p.det ≡ t)

abbrev mutual
  -- a value is of a type in a program
  pub HasType : Hlds → Value → HldsType → Type 0
  HasType s (Number n) number = ⊤
  HasType s (Number n) world = n ≡ pos 0
  HasType s (Literal bytes) text = ⊤
  HasType s (Built f parts) (named t) = IsBuiltOf (functor_found f (value_count parts) s.types) t (λ ts. HaveTypes s parts ts)
  HasType s (Closure q held) (closure ts ms d) = IsClosureOf (slice_get s.procedures q) (closure ts ms d) (λ args others. AreHeld s held args others)
  HasType s v t = ⊥

  -- as many values as types, each of its own
  pub HaveTypes : Hlds → Values → List HldsType → Type 0
  HaveTypes s no_values [] = ⊤
  HaveTypes s (also_value v vs) (t ∷ ts) = HasType s v t × HaveTypes s vs ts
  HaveTypes s vs ts = ⊥

  -- the first of these arguments have mode `in` and the types of these values, and the others are left
  pub AreHeld : Hlds → Values → List (HldsType × Mode) → List (HldsType × Mode) → Type 0
  AreHeld s no_values args others = args ≡ others
  AreHeld s (also_value v vs) (a ∷ args) others = (a.1 ≡ In) × (HasType s v a.0 × AreHeld s vs args others)
  AreHeld s (also_value v vs) [] others = ⊥

-- a variable has a value exactly where it is known as bound, and then one of its type
abbrev pub Agrees : Hlds → Option Value → Instantiation → Type 0
Agrees s None free = ⊤
Agrees s (Some v) (has t used) = HasType s v t
Agrees s o k = ⊥

-- An environment fits what is known of a clause's variables, as far as these are concerned: exactly those that are known
-- as bound have values, and each has one of its type.
pub record Fits (s : Hlds) (vars : List ℕ) (kn : InstMap) (e : Env) : Type 0 where
  pub size : length e ≡ length kn
  pub each : (x : ℕ) → 0 < times x vars → Agrees s (value_at e x) (known_at kn x)
