-- The rows that the code adds, as those of goals.
use Rattle.std.proofs.Common.{◌≡◌, refl, ap, ◌∙◌, sym, arith, ℕ, suc, ◌+◌, List, ◌++◌, length, length-append, append_assoc}
use Rattle.md_hlds.specs.HldsGoal.{HldsGoal, At, GoalExpr, SimpleGoal, CallGoal, HoCallGoal, ConjGoal, DisjGoal, IfGoal, NotGoal, SomeGoal, HldsGoals, nothing, also, goal_size, parts_size, goals_size}
use Rattle.md_cover.specs.declared.coverage.GoalCount.{GoalCount}
use Rattle.md_cover.specs.Rows.{goal_rows, expr_rows, each_rows}

mutual
  pub rows-size : (n d : ℕ) (p : HldsGoal) → length (goal_rows n d p) ≡ goal_size p
  rows-size n d (At l t) = ap suc (expr-size (suc n) (suc d) t)

  expr-size : (n d : ℕ) (t : GoalExpr) → length (expr_rows n d t) ≡ parts_size t
  expr-size n d (SimpleGoal s) = refl
  expr-size n d (CallGoal site q ys) = refl
  expr-size n d (HoCallGoal site f ys) = refl
  expr-size n d (ConjGoal ps) = each-size n d ps
  expr-size n d (DisjGoal ps) = each-size n d ps
  expr-size n d (IfGoal c t e) =
      let a = length-append (goal_rows n d c) (goal_rows (n + goal_size c) d t ++ goal_rows (n + goal_size c + goal_size t) d e) in
      let b = length-append (goal_rows (n + goal_size c) d t) (goal_rows (n + goal_size c + goal_size t) d e) in
      let x = rows-size n d c in let y = rows-size (n + goal_size c) d t in let z = rows-size (n + goal_size c + goal_size t) d e in
      omega (arith, a, b, x, y, z)
  expr-size n d (NotGoal c) = rows-size n d c
  expr-size n d (SomeGoal vs c) = rows-size n d c

  each-size : (n d : ℕ) (ps : HldsGoals) → length (each_rows n d ps) ≡ goals_size ps
  each-size n d nothing = refl
  each-size n d (also p ps) =
      let a = length-append (goal_rows n d p) (each_rows (n + goal_size p) d ps) in
      let x = rows-size n d p in let y = each-size (n + goal_size p) d ps in omega (arith, a, x, y)

pub rows-long : (olds news : List GoalCount) (d : ℕ) (p : HldsGoal) → news ≡ olds ++ goal_rows (length olds) d p → length news ≡ length olds + goal_size p
rows-long olds news d p is =
    let a = ap (length {A = GoalCount}) is in let b = length-append olds (goal_rows (length olds) d p) in let c = rows-size (length olds) d p in omega (arith, a, b, c)

-- one goal of several
pub each-step : (olds news : List GoalCount) (d : ℕ) (ps rest : HldsGoals) (p : HldsGoal) → ps ≡ also p rest → news ≡ olds ++ goal_rows (length olds) d p
    → news ++ each_rows (length news) d rest ≡ olds ++ each_rows (length olds) d ps
each-step olds news d ps rest p is one =
    ap (λ (k : ℕ). news ++ each_rows k d rest) (rows-long olds news d p one)
    ∙ (ap (λ xs. xs ++ each_rows (length olds + goal_size p) d rest) one
    ∙ (append_assoc olds (goal_rows (length olds) d p) _
    ∙ ap (λ qs. olds ++ each_rows (length olds) d qs) (sym is)))

-- an if-then-else
pub if-rows : (olds first second : List GoalCount) (d : ℕ) (c t e : HldsGoal) → first ≡ olds ++ goal_rows (length olds) d c → second ≡ first ++ goal_rows (length first) d t
    → second ++ goal_rows (length second) d e ≡ olds ++ expr_rows (length olds) d (IfGoal c t e)
if-rows olds first second d c t e one two =
    let n = length olds in
    let m : length first ≡ n + goal_size c = rows-long olds first d c one in
    let k : length second ≡ n + goal_size c + goal_size t = rows-long first second d t two ∙ ap (λ i. i + goal_size t) m in
    ap (λ (i : ℕ). second ++ goal_rows i d e) k
    ∙ (ap (λ xs. xs ++ goal_rows (n + goal_size c + goal_size t) d e) (two ∙ (ap (λ (i : ℕ). first ++ goal_rows i d t) m ∙ ap (λ xs. xs ++ goal_rows (n + goal_size c) d t) one))
    ∙ (append_assoc (olds ++ goal_rows n d c) (goal_rows (n + goal_size c) d t) _
    ∙ append_assoc olds (goal_rows n d c) _))
