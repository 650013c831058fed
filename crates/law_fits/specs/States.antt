-- What the mode rules know at each place of a state of the abstract machine. By recursion on the goals that are still to do,
-- the callers and the entries that wait; each part is asked of each environment that fits what is known before it.
use Rattle.std.specs.Prelude.{⊤, ◌≡◌, ◌≤◌, ℕ, ◌+◌, Bool, true, List, [], ◌∷◌, ◌++◌, None, Some, Ok, slice_get}
use Rattle.md_hlds.specs.HldsGoal.{Numbered}
use Rattle.md_hlds.specs.Hlds.{Procedure, Hlds}
use Rattle.md_hlds.specs.Value.{Env, value_at}
use Rattle.md_hlds.specs.Trace.{Frame, back}
use Rattle.law_steps.specs.State.{Wait, Others, Again, Over, Condition, Negation, Single, Returning, Doing, Goes, Fails, Throws, State}
use Rattle.law_steps.specs.Steps.{Step, On, Ends, Unfolded, Turns, Sticks}
use Rattle.md_inst.specs.Instantiation.{InstMap, times}
use Rattle.md_modes.specs.Branches.{After}
use Rattle.md_modes.specs.Goals.{variables, clause_variables, goal}
use Rattle.law_safety.specs.Values.{Fits}
use Rattle.law_safety.specs.Turns.{IsTidy}
use Rattle.law_safety.specs.Roles.{AreVariablesOf, HasValue}
use Rattle.law_safety.specs.Known.{place, Begins, switches_on, IsChosen, goals_variables}

-- A goal that is to be done, with these goals of its frame after it. The mode rules come to it in its clause with `known`, and
-- accept it; it is as the grammar has it. The variables of `rest` may still be read after it: those of the goals after it and
-- of the clause's head are among them, and they occur in the clause outside the goal. The environment fits what is known, as
-- far as the goal's variables and `rest` are concerned; and if the goal begins an arm of a switch, that is the arm for the
-- value of the switch's variable.
pub record FitsHere (s : Hlds) (e : Env) (g : Numbered) (goals : List Numbered) : Type 0 where
  pub procedure : ℕ × Procedure
  pub at : slice_get s.procedures procedure.0 ≡ Some procedure.1
  pub strict : Bool
  pub known : InstMap
  pub before : Begins s procedure strict g.number g.goal known
  pub tidy : IsTidy g.goal
  pub after : After
  pub accepted : goal (place s procedure.1 strict) g.goal known ≡ Ok after
  pub rest : List ℕ
  pub room : (x : ℕ) → times x (variables g.goal) + times x rest ≤ times x (clause_variables procedure.1)
  pub come : AreVariablesOf (goals_variables goals ++ procedure.1.head) rest
  pub fits : Fits s (variables g.goal ++ rest) known e
  pub chosen : IsChosen s (switches_on before) g.goal e

-- The goals of a frame, one after the other: each fits in each environment that fits what is known after the one before it.
-- What is asked at their end is `ends`.
abbrev pub FitsGoals : Hlds → Env → List Numbered → (Env → Type 0) → Type 0
FitsGoals s e [] ends = ends e
FitsGoals s e (g ∷ goals) ends =
    (here : FitsHere s e g goals) × ((d : Env) → here.after.reach ≡ true → Fits s here.rest here.after.known d → FitsGoals s d goals ends)

-- What a body gives back: each variable of the caller that has no value gets one.
abbrev pub GivesBack : List (ℕ × ℕ) → (callee caller : Env) → Type 0
GivesBack [] callee caller = ⊤
GivesBack (p ∷ pairs) callee caller = (value_at caller p.1 ≡ None → HasValue (value_at callee p.0)) × GivesBack pairs callee caller

-- the goals of a frame and then those of its callers
abbrev pub FitsJob : Hlds → Env → List Numbered → List (ℕ × ℕ) → List Frame → (Env → Type 0) → Type 0
FitsJob s e goals pairs [] ends = FitsGoals s e goals ends
FitsJob s e goals pairs (c ∷ js) ends = FitsGoals s e goals (λ d. GivesBack pairs d c.env × FitsJob s (back pairs d c.env) c.goals c.pairs js ends)

-- ---- what waits

-- an answer is one that the entries can go on with
abbrev pub FitsAnswer : Hlds → List Wait → Env → Type 0
FitsAnswer s [] e = ⊤
FitsAnswer s (Others f js ps ∷ ws) e = FitsAnswer s ws e
FitsAnswer s (Again a ∷ ws) e = FitsAnswer s ws e
FitsAnswer s (Over a ∷ ws) e = FitsAnswer s ws e
FitsAnswer s (Condition f js t el ∷ ws) e = FitsJob s e (t ∷ f.goals) f.pairs js (λ d. FitsAnswer s ws d)
FitsAnswer s (Negation f js ∷ ws) e = ⊤
FitsAnswer s (Single f js ∷ ws) e = FitsJob s f.env f.goals f.pairs js (λ d. FitsAnswer s ws d)
FitsAnswer s (Returning a pairs f js ∷ ws) e = GivesBack pairs e f.env × FitsJob s (back pairs e f.env) f.goals f.pairs js (λ d. FitsAnswer s ws d)

-- a frame with other goals, and its callers, above these entries
abbrev pub FitsFrame : Hlds → Frame → List Numbered → List Frame → List Wait → Type 0
FitsFrame s f goals js ws = FitsJob s f.env goals f.pairs js (λ d. FitsAnswer s ws d)

-- each arm that is still to be tried
abbrev pub FitArms : Hlds → Frame → List Frame → List Wait → List Numbered → Type 0
FitArms s f js ws [] = ⊤
FitArms s f js ws (p ∷ ps) = FitsFrame s f (p ∷ f.goals) js ws × FitArms s f js ws ps

-- the entries can go on where what is above them has failed
abbrev pub FitWaits : Hlds → List Wait → Type 0
FitWaits s [] = ⊤
FitWaits s (Others f js ps ∷ ws) = FitArms s f js ws ps × FitWaits s ws
FitWaits s (Again a ∷ ws) = FitWaits s ws
FitWaits s (Over a ∷ ws) = FitWaits s ws
FitWaits s (Condition f js t el ∷ ws) = FitsFrame s f (el ∷ f.goals) js ws × FitWaits s ws
FitWaits s (Negation f js ∷ ws) = FitsFrame s f f.goals js ws × FitWaits s ws
FitWaits s (Single f js ∷ ws) = FitWaits s ws
FitWaits s (Returning a pairs f js ∷ ws) = FitWaits s ws

-- ---- states

abbrev pub FitsDoing : Hlds → Doing → List Wait → Type 0
FitsDoing s (Goes f js) ws = FitsFrame s f f.goals js ws × FitWaits s ws
FitsDoing s Fails ws = FitWaits s ws
FitsDoing s (Throws js) ws = ⊤

-- The modes hold at a state: what is still to do is accepted by the mode rules, in environments that fit what they know. An
-- exception leaves nothing to do.
abbrev pub FitsState : Hlds → State → Type 0
FitsState s st = FitsDoing s st.now st.waits

-- what a step leads to fits
abbrev pub FitsStep : Hlds → Step → Type 0
FitsStep s (On items st) = FitsState s st
FitsStep s (Ends items) = ⊤

-- a rule applies at a turn, and what it leads to fits
abbrev pub FitsUnfolded : Hlds → Unfolded → Type 0
FitsUnfolded s (Turns w items st) = FitsState s st
FitsUnfolded s (Sticks w) = ⊥
