-- What the code comes to for a procedure: the equations of its body, what they settle, and the rows of its goals.
use Rattle.std.specs.Prelude.{ℕ, ◌≡◌, ◌<◌, ◌^◌, List, ◌∷◌, All, Option}
use Rattle.md_hlds.specs.HldsGoal.{HldsGoal}
use Rattle.md_det.specs.declared.finding.Finding.{Finding}
use Rattle.md_dynamic.specs.declared.link.LinkRow.{LinkRow}
use Rattle.law_turns.specs.Counts.{PortCounts}
use Rattle.law_turns.specs.Equations as spec
use Rattle.md_cover.specs.declared.coverage.GoalCount.{GoalCount}
use Rattle.md_cover.specs.declared.equation.Equation.{Equation}
use Rattle.md_cover.specs.Told.{equations_of}
use Rattle.md_cover.specs.Known.{value_at, Table, nothing_known, Rounds}

-- the equations of the procedure q, whose body has the number `first`
abbrev pub body_equations : List Finding → PortCounts → (first q : ℕ) → HldsGoal → List spec.Equation
body_equations fs c first q body =
    spec.is_count (spec.Entries first) (c.procedure_calls q) ∷ spec.is_count (spec.Exits first) (c.procedure_exits q) ∷ spec.goal_equations fs c first body

-- what these equations settle of so many goals from number `first` on
pub record IsSolved (es : List spec.Equation) (first count : ℕ) (t : Table) : Type 0 where
  pub equations : List Equation
  pub same : equations_of equations ≡ es
  pub rounds : Rounds equations (nothing_known first count) t

-- a row with what is known of the entries of the goal at its place
abbrev pub with_turns : List (Option ℕ) → GoalCount → GoalCount
with_turns entries g = record { place = g.place; depth = g.depth; line = g.line; kind = g.kind; turns = value_at entries g.place }

-- no link has more exits than a number of 32 bits
abbrev pub HaveFewExits : List LinkRow → Type 0
HaveFewExits links = All (λ r. r.own.exits < 2 ^ 32) links
