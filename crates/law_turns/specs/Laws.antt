-- What holds of the turns of a finished run.
use Rattle.std.specs.Prelude.{◌≡◌, ℕ, ◌+◌, ◌<◌, ◌≤◌, ◌^◌, true, List, None, Some, slice_get}
use Rattle.md_hlds.specs.Hlds.{Procedure, Hlds}
use Rattle.md_hlds.specs.Run.{run, is_finished}
use Rattle.md_reader.specs.Grammar.{Spells}
use Rattle.md_modes.specs.Modes.{mode_fault}
use Rattle.md_det.specs.Faults.{det_fault}
use Rattle.law_events.specs.History.{history}
use Rattle.law_turns.specs.Counts.{turns_of, port_counts}
use Rattle.law_turns.specs.Equations.{Quantity, Entries, Equation, equations, Solution, value, Solves, AreWithin}
use Rattle.law_turns.specs.Derived.{IsDerived}

-- the equations of a procedure, with the plain counts of a run within this budget
abbrev pub run_equations : Hlds → ℕ → ℕ × Procedure → List Equation
run_equations s budget q = equations s (port_counts (history (run s budget))) q

-- There are numbers of how often each goal was left with a solution which, beside the turns of the goals of the run, solve the
-- equations of each procedure. In these no goal has more turns than the budget, nor more of either than the budget and the
-- procedure's own exits.
pub record TurnsSolve (s : Hlds) (budget : ℕ) : Type 0 where
  pub exits : ℕ → ℕ
  pub few : (n : ℕ) → turns_of (run s budget) n ≤ budget
  pub solves : (q : ℕ × Procedure) → slice_get s.procedures q.0 ≡ Some q.1 → Solves (record { entries = turns_of (run s budget); exits = exits }) (run_equations s budget q)
  pub within : (q : ℕ × Procedure) → slice_get s.procedures q.0 ≡ Some q.1
      → AreWithin (budget + (port_counts (history (run s budget))).procedure_exits q.0) (record { entries = turns_of (run s budget); exits = exits }) (run_equations s budget q)

-- so it is of a finished run of an accepted program
abbrev pub TurnsOfRunsSolve : Type 0
TurnsOfRunsSolve =
    (bytes : List ℕ) (program : Hlds) (budget : ℕ) → Spells bytes program → mode_fault program ≡ None → det_fault program ≡ None → budget < 2 ^ 32 → is_finished (run program budget) ≡ true → TurnsSolve program budget

-- two solutions of equations agree on what is derived
abbrev pub DerivedIsDetermined : Type 0
DerivedIsDetermined = (es : List Equation) (x y : Solution) (q : Quantity) → Solves x es → Solves y es → IsDerived es q → value x q ≡ value y q

-- where a goal's entries are derived, any solution has the goal's turns in the run for them
abbrev pub DerivedEntriesAreTurns : Type 0
DerivedEntriesAreTurns =
    (bytes : List ℕ) (program : Hlds) (budget : ℕ) → Spells bytes program → mode_fault program ≡ None → det_fault program ≡ None → budget < 2 ^ 32 → is_finished (run program budget) ≡ true
    → (q : ℕ × Procedure) → slice_get program.procedures q.0 ≡ Some q.1 → (x : Solution) → Solves x (run_equations program budget q) → (n : ℕ) → IsDerived (run_equations program budget q) (Entries n)
    → x.entries n ≡ turns_of (run program budget) n
