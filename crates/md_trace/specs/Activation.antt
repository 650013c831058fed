-- The activations of a history: a history is a list of events, the latest first, and each Call begins an
-- activation. Activations are numbered from 0 in the order of their calls.
use Rattle.std.specs.Prelude.{ℕ, ◌==◌, List, [], ◌∷◌, length, Option, Some, None, if◌then◌else◌, option_and_then}
use Rattle.std.specs.Option.{option_map}
use Rattle.md_trace.specs.declared.event.Event.{Event}
use Rattle.md_trace.specs.declared.event.Event.TheVariants.{Call, Exit, Redo, Fail, Excp, Alloc}

-- one call of a procedure: the activation that called it, and the call site; the main procedure's has neither
pub record Activation : Type 0 where
  pub parent : Option ℕ
  pub site : Option ℕ
  pub procedure : ℕ

-- the activations of a history, the latest first
abbrev pub activations : List Event → List Activation
activations [] = []
activations (Call a p s q ∷ h) = record { parent = p; site = s; procedure = q } ∷ activations h
activations (Exit a ∷ h) = activations h
activations (Redo a ∷ h) = activations h
activations (Fail a ∷ h) = activations h
activations (Excp a ∷ h) = activations h
activations (Alloc a w ∷ h) = activations h

-- the member of number n in a list whose last member has number 0, whose last but one has number 1, and so on
abbrev pub numbered : {A : Type 0} → List A → ℕ → Option A
numbered [] n = None
numbered (x ∷ xs) n = if n == length xs then Some x else numbered xs n

-- who called the activation of number a
abbrev pub parent_of : List Activation → ℕ → Option ℕ
parent_of xs a = option_and_then (λ x. x.parent) (numbered xs a)

-- its procedure
abbrev pub procedure_of : List Activation → ℕ → Option ℕ
procedure_of xs a = option_map (λ x. x.procedure) (numbered xs a)
