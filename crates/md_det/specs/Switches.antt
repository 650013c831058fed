-- Switches: a disjunction that has the shape of one, on a variable that is bound where it stands.
use Rattle.std.specs.Prelude.{ℕ, Bool, true, false, ◌&&◌, List, [], ◌∷◌, length, Option, Some, None, cond, nat_eq}
use Rattle.md_hlds.specs.declared.goal.PredName.{PredName}
use Rattle.md_hlds.specs.HldsGoal.{HldsGoals}
use Rattle.md_hlds.specs.Hlds.{HldsFunctor, HldsTypeDef, Hlds, declares_functor}
use Rattle.md_hlds.specs.Switch.{Key, FunctorKey, has_key, switch_shape}
use Rattle.md_inst.specs.Instantiation.{Instantiation, free, has, InstMap, known_at}
use Rattle.md_det.specs.declared.finding.Switch.{Switch}

-- the type that has a functor of this name and arity
abbrev pub family_with : List ℕ → ℕ → List HldsTypeDef → Option HldsTypeDef
family_with name arity [] = None
family_with name arity (t ∷ ts) = cond (declares_functor name arity t.functors) (Some t) (family_with name arity ts)

abbrev pub key_of : HldsFunctor → Key
key_of f = FunctorKey f.name (length f.args)

-- each functor has its key
abbrev pub all_have_keys : List Key → List HldsFunctor → Bool
all_have_keys ks [] = true
all_have_keys ks (f ∷ fs) = has_key (key_of f) ks && all_have_keys ks fs

abbrev pub no_functor_missing : List Key → Option HldsTypeDef → Bool
no_functor_missing ks None = false
no_functor_missing ks (Some t) = all_have_keys ks t.functors

-- No functor is missing: each functor of the type of the keys' functors has its key. An integer or a string is always
-- missing.
abbrev pub is_whole : Hlds → List Key → Bool
is_whole p (FunctorKey name arity ∷ ks) = no_functor_missing (FunctorKey name arity ∷ ks) (family_with name arity p.types)
is_whole p ks = false

-- the functor of this name and arity is the only one of its type
abbrev pub is_alone : Option HldsTypeDef → Bool
is_alone None = false
is_alone (Some t) = nat_eq (length t.functors) 1

abbrev pub is_only_functor : Hlds → PredName → ℕ → Bool
is_only_functor p q arity = is_alone (family_with q.name arity p.types)

abbrev pub switch_on_known : Hlds → ℕ → List Key → Instantiation → Option Switch
switch_on_known p x ks free = None
switch_on_known p x ks (has t used) = Some (record { var = x; whole = is_whole p ks })

abbrev pub switch_with : Hlds → Option (ℕ × List Key) → InstMap → Option Switch
switch_with p None s = None
switch_with p (Some shape) s = switch_on_known p shape.0 shape.1 (known_at s shape.0)

-- the switch that a disjunction of these arms is where this is known
abbrev pub switch_of : Hlds → HldsGoals → InstMap → Option Switch
switch_of p ps s = switch_with p (switch_shape p ps) s

-- the variable of a switch
abbrev pub variable_of : Option Switch → Option ℕ
variable_of None = None
variable_of (Some w) = Some w.var
