-- The code's keys as the definition of switches has them.
use Rattle.std.specs.Prelude.{ℕ, List, [], ◌∷◌, ◌++◌, Option, Some, None}
use Rattle.md_hlds.specs.Switch as spec
use Rattle.md_hlds.specs.Switch.{IntKey, TextKey, FunctorKey}
use Rattle.indexmap.specs.IndexSet.{IndexSet}
use Rattle.md_switch.specs.declared.key.Key.{Key}
use Rattle.md_switch.specs.declared.shape.Shape.{Shape}
use Rattle.md_switch.specs.declared.key.Key.TheVariants.{Int, Text, Functor}

abbrev pub key_of_code : Key → spec.Key
key_of_code (Int n) = IntKey n
key_of_code (Text bytes) = TextKey bytes.now
key_of_code (Functor name arity) = FunctorKey name.now arity

abbrev pub key_told : Option Key → Option spec.Key
key_told None = None
key_told (Some k) = Some (key_of_code k)

abbrev pub tested_told : Option (ℕ × Key) → Option (ℕ × spec.Key)
tested_told None = None
tested_told (Some t) = Some (t.0, key_of_code t.1)

abbrev pub keys_told : List Key → List spec.Key
keys_told [] = []
keys_told (k ∷ ks) = key_of_code k ∷ keys_told ks

abbrev pub keys_found : {S : Type 0} → Option (IndexSet Key S) → Option (List spec.Key)
keys_found None = None
keys_found (Some keys) = Some (keys_told keys.keys)

-- keys with the variable that they are of
abbrev pub with_variable : ℕ → Option (List spec.Key) → Option (ℕ × List spec.Key)
with_variable x None = None
with_variable x (Some ks) = Some (x, ks)

-- keys, and then others
abbrev pub keys_onto : List spec.Key → Option (List spec.Key) → Option (List spec.Key)
keys_onto js None = None
keys_onto js (Some ks) = Some (js ++ ks)

-- the variable of a shape, and its keys
abbrev pub shape_told : Option Shape → Option (ℕ × List spec.Key)
shape_told None = None
shape_told (Some w) = Some (w.var, keys_told w.keys.keys)
