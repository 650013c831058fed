-- What it means that a machine stands in a run.
use Rattle.std.specs.Prelude.{ℕ, ◌≡◌, ◌≤◌, ◌<◌, ◌-◌, List, [], ◌∷◌, ◌++◌, Some}
use Rattle.md_hlds.specs.Hlds.{Hlds}
use Rattle.md_hlds.specs.Trace.{Turn, Stuck, Items}
use Rattle.md_hlds.specs.Run.{run, cut}
use Rattle.law_steps.specs.State.{Wait, Waits, State, due_doing}
use Rattle.law_steps.specs.Steps.{Step, On, Ends, Unfolded, Turns, Sticks}

-- these entries, each with a depth that is greater than what is left of the budget
abbrev pub AreDeep : ℕ → List Wait → List Waits → Type 0
AreDeep left [] [] = Unit {0}
AreDeep left (w ∷ ws) (d ∷ ds) = (d.what ≡ w) × (left < d.depth) × AreDeep left ws ds
AreDeep left ws ds = ⊥

-- The items of `done` have been made of the run within the budget, and what is due at this state is what is left of it.
-- The depths are those of the definition; a machine has no need of them.
pub record StandsIn (s : Hlds) (budget left : ℕ) (done : Items) (st : State) : Type 0 where
  pub depth : ℕ
  pub waiting : List Waits
  pub deep : AreDeep left st.waits waiting
  pub enough : left < depth
  pub run_is : run s budget ≡ done ++ cut left (due_doing s depth st.now waiting st.next)

-- what a step makes of a machine that stands in the run
abbrev pub AfterIn : Hlds → ℕ → ℕ → Items → Step → Type 0
AfterIn s b left done (On items st) = StandsIn s b left (done ++ items) st
AfterIn s b left done (Ends items) = run s b ≡ done ++ items

-- what a turn of the activation a, at the goal of number g, makes of such a machine
abbrev pub AfterTurnIn : Hlds → ℕ → ℕ → Items → ℕ → ℕ → Unfolded → Type 0
AfterTurnIn s b left done a g (Turns w items st) = (w ≤ left → StandsIn s b (left - w) (done ++ (Turn a (Some g) w ∷ items)) st) × (left < w → run s b ≡ done)
AfterTurnIn s b left done a g (Sticks w) = (w ≤ left → run s b ≡ done ++ (Turn a (Some g) w ∷ Stuck ∷ [])) × (left < w → run s b ≡ done)
