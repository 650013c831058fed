-- Inputs and outputs: what a goal asks of a variable, and what it makes of it.
use Rattle.std.specs.Prelude.{ℕ, Bool, false, ◌&&◌, ◌||◌, List, ◌∷◌, Ok, Err, cond}
use Rattle.md_hlds.specs.declared.types.Mode.{Mode}
use Rattle.md_hlds.specs.declared.types.Mode.TheVariants.{In, Out, Di, Uo}
use Rattle.md_hlds.specs.Hlds.{HldsType}
use Rattle.md_inst.specs.declared.fault.ModeFault.TheVariants.{TypeClash, Unbound, BoundTwice, IoUsed}
use Rattle.md_inst.specs.Verdict.{Verdict, ◌>>=◌}
use Rattle.md_inst.specs.HldsTypes.{same_sort, is_world}
use Rattle.md_inst.specs.Instantiation.{Instantiation, free, has, InstMap, known_at, put, hand_on}

-- `strict` holds within a condition, a negation and `some`: there each io state counts as used
abbrev pub is_spent : Bool → HldsType → Bool → Bool
is_spent strict t used = is_world t && (used || strict)

-- an input is bound, is no used io state, and has the type
abbrev pub input_known : Bool → ℕ → HldsType → Instantiation → InstMap → Verdict InstMap
input_known strict l t free s = Err (Unbound l)
input_known strict l t (has u used) s =
    cond (is_spent strict u used) (Err (IoUsed l)) (cond (same_sort u t) (Ok s) (Err (TypeClash l)))

abbrev pub input : Bool → ℕ → HldsType → ℕ → InstMap → Verdict InstMap
input strict l t x s = input_known strict l t (known_at s x) s

-- an output isn't bound, and is then bound with the type
abbrev pub output_known : Bool → ℕ → HldsType → ℕ → Instantiation → InstMap → Verdict InstMap
output_known strict l t x free s = cond (is_world t && strict) (Err (IoUsed l)) (Ok (put s x (has t false)))
output_known strict l t x (has u used) s = Err (BoundTwice l)

abbrev pub output : Bool → ℕ → HldsType → ℕ → InstMap → Verdict InstMap
output strict l t x s = output_known strict l t x (known_at s x) s

-- a variable that is bound has the type, and another is bound with it
abbrev pub given_known : ℕ → HldsType → ℕ → Instantiation → InstMap → Verdict InstMap
given_known l t x free s = Ok (put s x (has t false))
given_known l t x (has u used) s = cond (same_sort u t) (Ok s) (Err (TypeClash l))

abbrev pub given : ℕ → HldsType → ℕ → InstMap → Verdict InstMap
given l t x s = given_known l t x (known_at s x) s

-- an argument by its mode; `di` hands the io state on
abbrev pub argument : Bool → ℕ → HldsType → Mode → ℕ → InstMap → Verdict InstMap
argument strict l t In x s = input strict l t x s
argument strict l t Di x s = input strict l t x s >>= (λ s. Ok (hand_on x s))
argument strict l t Out x s = output strict l t x s
argument strict l t Uo x s = output strict l t x s

-- the arguments of a call, from left to right
abbrev pub arguments : Bool → ℕ → List (HldsType × Mode) → List ℕ → InstMap → Verdict InstMap
arguments strict l (a ∷ args) (x ∷ xs) s = argument strict l a.0 a.1 x s >>= (λ s. arguments strict l args xs s)
arguments strict l args xs s = Ok s

-- variables that are inputs of these types
abbrev pub inputs : Bool → ℕ → List HldsType → List ℕ → InstMap → Verdict InstMap
inputs strict l (t ∷ ts) (x ∷ xs) s = input strict l t x s >>= (λ s. inputs strict l ts xs s)
inputs strict l ts xs s = Ok s

-- variables in the places of a functor's arguments, where it is taken apart
abbrev pub givens : ℕ → List HldsType → List ℕ → InstMap → Verdict InstMap
givens l (t ∷ ts) (x ∷ xs) s = given l t x s >>= (λ s. givens l ts xs s)
givens l ts xs s = Ok s
