-- What a coverage says of a procedure: its goals, and the number of turns of each goal of which the counts of ports give it.
use Rattle.std.specs.Prelude.{ℕ, ◌≡◌, ◌+◌, ◌<◌, ◌^◌, ◌==◌, ◌&&◌, ◌||◌, Bool, true, false, not, List, map, All, Option, Some, None}
use Rattle.std.specs.List.{list_any}
use Rattle.md_base.specs.declared.measure.Counts.{Counts}
use Rattle.md_trace.specs.declared.event.Event.{Event}
use Rattle.md_hlds.specs.Hlds.{Hlds, Procedure, body_number}
use Rattle.md_hlds.specs.Run.{run, is_finished}
use Rattle.law_events.specs.History.{history}
use Rattle.md_dynamic.specs.Profile.{ProfileRows}
use Rattle.md_cost.specs.FileView.{IsFileView}
use Rattle.md_cost.specs.View.{View}
use Rattle.law_turns.specs.Counts.{turns_of, port_counts}
use Rattle.law_turns.specs.Equations.{Entries}
use Rattle.law_turns.specs.Derived.{IsDerived}
use Rattle.law_turns.specs.Laws.{run_equations}
use Rattle.md_cover.specs.declared.coverage.GoalCount.{GoalCount}
use Rattle.md_cover.specs.Covered.{Covered}
use Rattle.md_cover.specs.Rows.{goal_rows}
use Rattle.md_cover.specs.Told.{view_counts}

-- ---- what is asked of a profile

-- one of the seven counts stands at the greatest number that a link keeps
abbrev pub has_full_count : Counts → Bool
has_full_count c =
    c.calls == 4294967295 || c.exits == 4294967295 || c.fails == 4294967295 || c.redos == 4294967295 || c.allocs == 4294967295 || c.words == 4294967295 || c.excps == 4294967295

abbrev pub has_full_link : ProfileRows → Bool
has_full_link f = list_any (λ r. has_full_count r.own) f.links

-- the run has finished, and each count of a link is whole
abbrev pub gives_turns : ProfileRows → Bool
gives_turns f = f.finished && not (has_full_link f)

-- the own calls and exits of each procedure and call site in the view are the plain counts of the history
pub record HasCountsOf (h : List Event) (v : View) : Type 0 where
  pub procedure_calls : (q : ℕ) → (view_counts v).procedure_calls q ≡ (port_counts h).procedure_calls q
  pub procedure_exits : (q : ℕ) → (view_counts v).procedure_exits q ≡ (port_counts h).procedure_exits q
  pub site_calls : (x : ℕ) → (view_counts v).site_calls x ≡ (port_counts h).site_calls x
  pub site_exits : (x : ℕ) → (view_counts v).site_exits x ≡ (port_counts h).site_exits x

-- a profile says of the program's run within this budget whether it is finished, and, where it is and no link is full, its counts
pub record IsCountedIn (s : Hlds) (budget : ℕ) (f : ProfileRows) : Type 0 where
  pub small : budget < 2 ^ 32
  pub finished : is_finished (run s budget) ≡ f.finished
  pub counts : f.finished ≡ true → has_full_link f ≡ false → (v : View) → IsFileView f v → HasCountsOf (history (run s budget)) v

-- ---- what is due

-- a number is there exactly where the goal's entries are derived, and is the number of the goal's turns in the run
abbrev pub HasTurns : Hlds → (budget : ℕ) → ℕ × Procedure → (goal : ℕ) → Option ℕ → Type 0
HasTurns s budget q n None = IsDerived (run_equations s budget q) (Entries n) → ⊥
HasTurns s budget q n (Some k) = IsDerived (run_equations s budget q) (Entries n) × (k ≡ turns_of (run s budget) n)

abbrev pub without_turns : GoalCount → GoalCount
without_turns g = record { place = g.place; depth = g.depth; line = g.line; kind = g.kind; turns = None }

-- the goals of a procedure in text order, with no turns
pub record HasNoTurns (q : ℕ × Procedure) (c : Covered) : Type 0 where
  pub is_of : c.id ≡ q.0
  pub rows : map without_turns c.goals ≡ goal_rows 0 0 q.1.body
  pub none : All (λ g. g.turns ≡ None) c.goals

-- the goals of a procedure in text order, with their turns in the run where the profile gives turns, and else with none
pub record IsCoverageOf (s : Hlds) (budget : ℕ) (f : ProfileRows) (q : ℕ × Procedure) (c : Covered) : Type 0 where
  pub is_of : c.id ≡ q.0
  pub rows : map without_turns c.goals ≡ goal_rows 0 0 q.1.body
  pub known : gives_turns f ≡ true → All (λ g. HasTurns s budget q (body_number s q.0 + g.place) g.turns) c.goals
  pub unknown : gives_turns f ≡ false → All (λ g. g.turns ≡ None) c.goals
