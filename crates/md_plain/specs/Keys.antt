-- The keys of a switch as those of the definition.
use Rattle.std.specs.Prelude.{ℕ, List, [], ◌∷◌, Option, Some, None}
use denote.Ref.{Bor}
use Rattle.md_hlds.specs.HldsGoal.{Numbered}
use Rattle.md_hlds.specs.Value.{Value, Env, value_at}
use Rattle.md_hlds.specs.Switch.{IntKey, TextKey, FunctorKey, arm_for}
use Rattle.md_hlds.specs.Switch.{Key as Meant}
use Rattle.md_plain.specs.declared.switch.Key.{Key}
use Rattle.md_plain.specs.declared.switch.Key.TheVariants.{Int, Text, Functor}

abbrev pub key_of : Key → Meant
key_of (Int n) = IntKey n
key_of (Text bytes) = TextKey bytes.now
key_of (Functor name arity) = FunctorKey name.now arity

abbrev pub keys_told : List Key → List Meant
keys_told [] = []
keys_told (k ∷ ks) = key_of k ∷ keys_told ks

abbrev pub option_key : Option Key → Option Meant
option_key None = None
option_key (Some k) = Some (key_of k)

abbrev pub option_keys : Option (Bor (List Key)) → Option (List Meant)
option_keys None = None
option_keys (Some ks) = Some (keys_told ks.now)

abbrev pub variable_key_told : Option (ℕ × Key) → Option (ℕ × Meant)
variable_key_told None = None
variable_key_told (Some k) = Some (k.0, key_of k.1)

abbrev pub shape_told : Option (ℕ × Bor (List Key)) → Option (ℕ × List Meant)
shape_told None = None
shape_told (Some s) = Some (s.0, keys_told s.1.now)

-- the arms that are tried, by the value of the variable that a disjunction may be a switch on
abbrev pub one_or_none : Option Numbered → List Numbered
one_or_none None = []
one_or_none (Some p) = p ∷ []

abbrev pub chosen_by : List Numbered → List Meant → Option Value → List Numbered
chosen_by ps keys None = ps
chosen_by ps keys (Some v) = one_or_none (arm_for v keys ps)

abbrev pub chosen : Env → List Numbered → Option (ℕ × List Meant) → List Numbered
chosen e ps None = ps
chosen e ps (Some shape) = chosen_by ps shape.1 (value_at e shape.0)
