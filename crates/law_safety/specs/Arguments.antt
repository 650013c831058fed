-- Arguments of a call.
use Rattle.std.specs.Prelude.{⊤, ℕ, List, [], ◌∷◌, Option, Some, None}
use Rattle.md_hlds.specs.declared.types.Mode.{Mode}
use Rattle.md_hlds.specs.declared.types.Mode.TheVariants.{In, Out, Di, Uo}
use Rattle.md_hlds.specs.Hlds.{HldsType, Hlds}
use Rattle.md_hlds.specs.Value.{Value, Env, value_at}
use Rattle.law_safety.specs.Values.{HasType}

-- an input has a value of its type, and an output has none yet
abbrev pub IsArgument : Hlds → Mode → HldsType → Option Value → Type 0
IsArgument s In t (Some v) = HasType s v t
IsArgument s Di t (Some v) = HasType s v t
IsArgument s Out t None = ⊤
IsArgument s Uo t None = ⊤
IsArgument s m t o = ⊥

abbrev pub AreArguments : Hlds → List (HldsType × Mode) → List (Option Value) → Type 0
AreArguments s [] [] = ⊤
AreArguments s (a ∷ args) (o ∷ os) = IsArgument s a.1 a.0 o × AreArguments s args os
AreArguments s args os = ⊥

-- what these variables have
abbrev pub taken : Env → List ℕ → List (Option Value)
taken e [] = []
taken e (x ∷ xs) = value_at e x ∷ taken e xs

-- in the end an output has a value of its type
abbrev pub IsResult : Hlds → Mode → HldsType → Option Value → Type 0
IsResult s In t o = ⊤
IsResult s Di t o = ⊤
IsResult s Out t (Some v) = HasType s v t
IsResult s Uo t (Some v) = HasType s v t
IsResult s m t None = ⊥

abbrev pub AreResults : Hlds → List (HldsType × Mode) → List ℕ → Env → Type 0
AreResults s (a ∷ args) (h ∷ hs) e = IsResult s a.1 a.0 (value_at e h) × AreResults s args hs e
AreResults s args hs e = ⊤
