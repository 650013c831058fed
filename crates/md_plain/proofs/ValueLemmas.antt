-- Values, place by place.
use Rattle.std.proofs.Common.{◌≡◌, refl, ap, ◌∙◌, sym, arith, ℕ, zero, suc, ◌+◌, ◌<◌, ◌≤◌, List, [], ◌∷◌, length, Option, Some, None, slice_set, get_or}
use Rattle.md_hlds.specs.Value.{Env, value_at, bound, Values, no_values, also_value, listed_values, gathered_values, value_count, Built, Closure}
use Rattle.md_hlds.specs.Simple.{Go, build, close}
use Rattle.md_plain.specs.declared.value.Parts.{Parts}
use Rattle.md_hlds.specs.Value.{Value as Meant}
use Rattle.md_plain.specs.declared.value.Value.{Value}
use Rattle.md_plain.specs.Values.{value_of, values_of, parts_of, option_value, env_of}

abbrev pub Slots : Type 0
Slots = List (Option Value)

-- a write past the end does nothing
pub bound-past : (e : Env) (i : ℕ) (v : Meant) → length e ≤ i → e ≡ bound e i v
bound-past [] i v le = refl
bound-past (x ∷ e) zero v le = absurd (omega (arith, le))
bound-past (x ∷ e) (suc i) v le = ap (λ f. x ∷ f) (bound-past e i v (omega (arith, le)))

pub length-env_of : (vs : Slots) → length (env_of vs) ≡ length vs
length-env_of [] = refl
length-env_of (v ∷ vs) = ap suc (length-env_of vs)

pub env_of-bound : (vs : Slots) (i : ℕ) (v : Value) → i < length vs → env_of (slice_set vs i (Some v)) ≡ bound (env_of vs) i (value_of v)
env_of-bound [] i v lt = absurd (omega (arith, lt))
env_of-bound (x ∷ vs) zero v lt = refl
env_of-bound (x ∷ vs) (suc i) v lt = ap (λ e. option_value x ∷ e) (env_of-bound vs i v (omega (arith, lt)))

pub bound-past_slots : (vs : Slots) (i : ℕ) (v : Meant) → length vs ≤ i → env_of vs ≡ bound (env_of vs) i v
bound-past_slots vs i v le = bound-past (env_of vs) i v (omega (arith, le, length-env_of vs))

pub value_at-env_of : (vs : Slots) (i : ℕ) (v : Option Value) → i < length vs → v ≡ get_or vs i v → option_value v ≡ value_at (env_of vs) i
value_at-env_of [] i v lt is = absurd (omega (arith, lt))
value_at-env_of (x ∷ vs) zero v lt is = ap option_value is
value_at-env_of (x ∷ vs) (suc i) v lt is = value_at-env_of vs i v (omega (arith, lt)) is

pub value_at-past : (vs : Slots) (i : ℕ) → length vs ≤ i → None ≡ value_at (env_of vs) i
value_at-past [] i le = refl
value_at-past (x ∷ vs) zero le = absurd (omega (arith, le))
value_at-past (x ∷ vs) (suc i) le = value_at-past vs i (omega (arith, le))

-- parts as a list and back
pub gathered-listed : (vs : Values) → gathered_values (listed_values vs) ≡ vs
gathered-listed no_values = refl
gathered-listed (also_value v vs) = ap (also_value v) (gathered-listed vs)

pub built : (e new : Env) (x arity : ℕ) (f : List ℕ) (ps : Parts) (vs : Option (List Meant)) → Some (parts_of ps) ≡ vs → new ≡ bound e x (Built f (values_of ps)) → Go new arity arity None ≡ build e x arity f vs
built e new x arity f ps vs is new-is =
    ap (λ env. Go env arity arity None) new-is
    ∙ (ap (λ ws. Go (bound e x (Built f ws)) arity arity None) (sym (gathered-listed (values_of ps)))
    ∙ ap (build e x arity f) is)

pub closed : (e new : Env) (x arity words q : ℕ) (ps : Parts) (vs : Option (List Meant)) → Some (parts_of ps) ≡ vs → new ≡ bound e x (Closure q (values_of ps)) → words ≡ arity + 3 → Go new words words None ≡ close e x arity q vs
closed e new x arity words q ps vs is new-is words-is =
    ap (λ env. Go env words words None) new-is
    ∙ (ap (λ n. Go (bound e x (Closure q (values_of ps))) n n None) words-is
    ∙ (ap (λ ws. Go (bound e x (Closure q ws)) (arity + 3) (arity + 3) None) (sym (gathered-listed (values_of ps)))
    ∙ ap (close e x arity q) is))

pub length_parts : (vs : Values) → length (listed_values vs) ≡ value_count vs
length_parts no_values = refl
length_parts (also_value v vs) = ap suc (length_parts vs)
