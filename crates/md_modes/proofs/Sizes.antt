-- The goals of a program and those within them end where the program ends, or before.
use Rattle.std.proofs.Common.{◌≡◌, refl, sym, subst, arith, ℕ, zero, suc, ◌+◌, ◌≤◌, List, [], ◌∷◌, ◌++◌, length, slice_get}
use Rattle.md_hlds.specs.HldsGoal.{HldsGoal, At, GoalExpr, SimpleGoal, CallGoal, HoCallGoal, ConjGoal, DisjGoal, IfGoal, NotGoal, SomeGoal, HldsGoals, nothing, also, goal_size, parts_size, goals_size, goals_within, goals_below, goals_among}
use Rattle.md_hlds.specs.Hlds.{Procedure, Hlds, clause_goals, goals_before}
use Rattle.md_modes.specs.Classes.{size_of, size_at}

-- goals with numbers from n up to k, each of which ends at the number m or before
abbrev EndBy : (m n k : ℕ) → List HldsGoal → Type 0
EndBy m n k [] = n ≡ k
EndBy m n k (p ∷ ps) = (n + goal_size p ≤ m) × EndBy m (suc n) k ps

ends_append : (m n k j : ℕ) (ps qs : List HldsGoal) → EndBy m n k ps → EndBy m k j qs → EndBy m n j (ps ++ qs)
ends_append m n k j [] qs e f = subst (λ i. EndBy m i j qs) (sym e) f
ends_append m n k j (p ∷ ps) qs e f = (e.0, ends_append m (suc n) k j ps qs e.1 f)

mutual
  ends_within : (m n k : ℕ) (p : HldsGoal) → n + goal_size p ≡ k → k ≤ m → EndBy m n k (goals_within p)
  ends_within m n k (At l t) e le = (omega (arith, e, le), ends_below m (suc n) k t (omega (arith, e)) le)

  ends_below : (m n k : ℕ) (t : GoalExpr) → n + parts_size t ≡ k → k ≤ m → EndBy m n k (goals_below t)
  ends_below m n k (SimpleGoal s) e le = omega (arith, e)
  ends_below m n k (CallGoal site q ys) e le = omega (arith, e)
  ends_below m n k (HoCallGoal site f ys) e le = omega (arith, e)
  ends_below m n k (ConjGoal ps) e le = ends_among m n k ps e le
  ends_below m n k (DisjGoal ps) e le = ends_among m n k ps e le
  ends_below m n k (IfGoal c t p) e le =
      let i = n + goal_size c in
      let j = i + goal_size t in
      ends_append m n i k (goals_within c) (goals_within t ++ goals_within p) (ends_within m n i c refl (omega (arith, e, le)))
      (ends_append m i j k (goals_within t) (goals_within p) (ends_within m i j t refl (omega (arith, e, le))) (ends_within m j k p (omega (arith, e)) le))
  ends_below m n k (NotGoal c) e le = ends_within m n k c e le
  ends_below m n k (SomeGoal vs c) e le = ends_within m n k c e le

  ends_among : (m n k : ℕ) (ps : HldsGoals) → n + goals_size ps ≡ k → k ≤ m → EndBy m n k (goals_among ps)
  ends_among m n k nothing e le = omega (arith, e)
  ends_among m n k (also p ps) e le =
      let i = n + goal_size p in
      ends_append m n i k (goals_within p) (goals_among ps) (ends_within m n i p refl (omega (arith, e, le))) (ends_among m i k ps (omega (arith, e)) le)

ends_clauses : (m n k : ℕ) (ps : List Procedure) → n + goals_before ps (length ps) ≡ k → k ≤ m → EndBy m n k (clause_goals ps)
ends_clauses m n k [] e le = omega (arith, e)
ends_clauses m n k (p ∷ ps) e le =
    let i = n + goal_size p.body in
    ends_append m n i k (goals_within p.body) (clause_goals ps) (ends_within m n i p.body refl (omega (arith, e, le))) (ends_clauses m i k ps (omega (arith, e)) le)

-- the goal at a place of these ends by m; where there is none, its number is that of the place
end_at : (m n k i : ℕ) (ps : List HldsGoal) → EndBy m n k ps → n + i ≤ m → n + i + size_of (slice_get ps i) ≤ m
end_at m n k zero [] e le = omega (arith, le)
end_at m n k (suc i) [] e le = omega (arith, le)
end_at m n k zero (p ∷ ps) e le = omega (arith, e.0)
end_at m n k (suc i) (p ∷ ps) e le = omega (arith, end_at m (suc n) k i ps e.1 (omega (arith, le)))

-- what comes after a goal has a number that is no greater than m, where the goals end by m
pub after_few : (s : Hlds) (n m : ℕ) → goals_before s.procedures (length s.procedures) ≤ m → n ≤ m → n + size_at s n ≤ m
after_few s n m few le =
    let k = goals_before s.procedures (length s.procedures) in
    omega (arith, end_at m 0 k n (clause_goals s.procedures) (ends_clauses m 0 k s.procedures (omega arith) few) (omega (arith, le)))
