-- The run of a program within a budget of steps, what it writes, whether it is finished or thrown, and its events.
use Rattle.std.specs.Prelude.{⊤, ◌≡◌, ℕ, ◌-◌, pos, Bool, true, false, List, [], ◌∷◌, ◌++◌, length, Option, Some, None, is_some, nat_le}
use Rattle.md_hlds.specs.Hlds.{Hlds, Procedure, procedure_called}
use Rattle.md_hlds.specs.declared.goal.PredName.{PredName}
use Rattle.md_hlds.specs.Value.{Number, Env, bound, blank}
use Rattle.md_hlds.specs.Trace.{Turn, Call, Exit, Fail, Out, Throw, Answer, Stuck, Deep, Items, Frame, first, trace, call_weight, body_frame}

-- Items up to the first turn that is heavier than what is left of the budget; that turn isn't made.
abbrev pub cut_turn : ℕ → Option ℕ → ℕ → Items → Bool → Items
cut_turn a g w rest true = Turn a g w ∷ rest
cut_turn a g w rest false = []

abbrev pub cut : ℕ → Items → Items
cut left [] = []
cut left (Turn a g w ∷ xs) = cut_turn a g w (cut (left - w) xs) (nat_le w left)
cut left (x ∷ xs) = x ∷ cut left xs

-- `main`
abbrev pub main_name : PredName
main_name = record { qualifier = None; name = 109 ∷ 97 ∷ 105 ∷ 110 ∷ [] }

-- main's environment as it is called: its first head variable has the io state
abbrev pub main_env : Env → List ℕ → Env
main_env e [] = e
main_env e (h ∷ hs) = bound e h (Number (pos 0))

abbrev pub main_frame : Hlds → ℕ × Procedure → Frame
main_frame s m = body_frame s 0 (main_env (blank (length m.1.vars)) m.1.head) m []

-- the whole run to a depth, before the budget cuts it
abbrev pub main_items : Hlds → ℕ → ℕ × Procedure → Items
main_items s depth m =
    Turn 0 None (call_weight m.1) ∷ Call 0 None None m.0
    ∷ first (trace s depth (main_frame s m) [] 1) 1 (λ e k. Exit 0 ∷ Answer e ∷ []) (λ k. Fail 0 ∷ []) []

abbrev pub run_main : Hlds → ℕ → Option (ℕ × Procedure) → Items
run_main s budget None = []
run_main s budget (Some m) = cut budget (main_items s budget m)

-- The run of a program within a budget. A trace as deep as the budget is deep enough, since each turn weighs 1 or more.
unfoldable pub run : Hlds → ℕ → Items
run s budget = run_main s budget (procedure_called s main_name)

-- what was written
abbrev pub output : Items → List ℕ
output [] = []
output (Out bytes ∷ xs) = bytes ++ output xs
output (x ∷ xs) = output xs

-- a run is finished where it holds its answer
abbrev pub is_finished : Items → Bool
is_finished [] = false
is_finished (Answer e ∷ xs) = true
is_finished (x ∷ xs) = is_finished xs

-- the bytes that were thrown, where a run is thrown
abbrev pub error : Items → Option (List ℕ)
error [] = None
error (Throw bytes ∷ xs) = Some bytes
error (x ∷ xs) = error xs

-- a run is thrown where it holds a Throw
abbrev pub is_thrown : Items → Bool
is_thrown xs = is_some (error xs)

-- the items that are ports or allocations, in order
abbrev pub events : Items → Items
events [] = []
events (Turn a g w ∷ xs) = events xs
events (Out bytes ∷ xs) = events xs
events (Throw bytes ∷ xs) = events xs
events (Answer e ∷ xs) = events xs
events (Stuck ∷ xs) = events xs
events (Deep ∷ xs) = events xs
events (x ∷ xs) = x ∷ events xs

-- no depth was too small
abbrev pub HasNoDeep : Items → Type 0
HasNoDeep [] = ⊤
HasNoDeep (Deep ∷ xs) = ⊥
HasNoDeep (x ∷ xs) = HasNoDeep xs

-- The one run is a front of the other, and the whole of it where it has come to an end: it is finished, or it has thrown.
pub record IsFrontUpToItsEnd (short long : Items) : Type 0 where
  pub rest : Items
  pub front : long ≡ short ++ rest
  pub finished : is_finished short ≡ true → long ≡ short
  pub thrown : is_thrown short ≡ true → long ≡ short
