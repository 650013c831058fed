-- Which goals may leave a choice open behind them, by what the checks find.
use Rattle.std.specs.Prelude.{ℕ, suc, ◌+◌, Bool, true, false, ◌||◌, Option, Some, None}
use Rattle.md_hlds.specs.declared.types.Det.{Det}
use Rattle.md_hlds.specs.declared.types.Det.TheVariants.{Multi, Nondet}
use Rattle.md_hlds.specs.HldsGoal.{HldsGoal, At, GoalExpr, SimpleGoal, CallGoal, HoCallGoal, ConjGoal, DisjGoal, IfGoal, NotGoal, SomeGoal, HldsGoals, nothing, also, goal_size}
use Rattle.md_hlds.specs.Hlds.{HldsType, closure, Procedure, Hlds, procedure_called, goal_at}
use Rattle.md_modes.specs.Notes.{Role, applies, program_notes}
use Rattle.md_modes.specs.Classes.{role_at}
use Rattle.md_det.specs.declared.finding.Switch.{Switch}
use Rattle.md_det.specs.Findings.{program_findings, switch_at}

-- more than one answer may come of a procedure of this determinism
abbrev pub has_choices : Det → Bool
has_choices Multi = true
has_choices Nondet = true
has_choices d = false

abbrev pub named_leaves : Option (ℕ × Procedure) → Bool
named_leaves None = false
named_leaves (Some q) = has_choices q.1.det

-- a closure of this type
abbrev pub sort_leaves : HldsType → Bool
sort_leaves (closure ts ms d) = has_choices d
sort_leaves t = false

abbrev pub role_leaves : Option Role → Bool
role_leaves (Some (applies t)) = sort_leaves t
role_leaves r = false

-- the arms of a disjunction that is no switch are tried one after the other
abbrev pub is_tried : Option Switch → Bool
is_tried None = true
is_tried (Some w) = false

-- The goal of number n may leave a choice open: a call whose procedure, or the type of whose closure, may have more than one
-- answer; a conjunction one of whose parts may; a disjunction that is no switch, or one of whose arms may; an if-then-else
-- whose then or else part may. A condition, a negation and a quantified goal are cut at their first answer.
abbrev mutual
  pub leaves : Hlds → ℕ → HldsGoal → Bool
  leaves s n (At l t) = expr_leaves s n t

  pub expr_leaves : Hlds → ℕ → GoalExpr → Bool
  expr_leaves s n (SimpleGoal g) = false
  expr_leaves s n (CallGoal site q ys) = named_leaves (procedure_called s q)
  expr_leaves s n (HoCallGoal site f ys) = role_leaves (role_at (program_notes s) n)
  expr_leaves s n (ConjGoal ps) = parts_leave s (suc n) ps
  expr_leaves s n (DisjGoal ps) = is_tried (switch_at (program_findings s) n) || parts_leave s (suc n) ps
  expr_leaves s n (IfGoal c t e) = leaves s (suc n + goal_size c) t || leaves s (suc n + goal_size c + goal_size t) e
  expr_leaves s n (NotGoal c) = false
  expr_leaves s n (SomeGoal vs c) = false

  -- one of these goals may, the first of which has the number n
  pub parts_leave : Hlds → ℕ → HldsGoals → Bool
  parts_leave s n nothing = false
  parts_leave s n (also p ps) = leaves s n p || parts_leave s (n + goal_size p) ps

abbrev pub found_leaves : Hlds → ℕ → Option HldsGoal → Bool
found_leaves s n None = false
found_leaves s n (Some p) = leaves s n p

-- whether the goal of that number in the program may leave a choice open
abbrev pub leaves_table : Hlds → ℕ → Bool
leaves_table s n = found_leaves s n (goal_at s n)
