-- Rows of goals with what is known of them.
use Rattle.std.proofs.Common.{◌≡◌, refl, sym, ap, ◌∙◌, subst, arith, ℕ, zero, suc, ◌+◌, ◌<◌, List, [], ◌∷◌, ◌++◌, map, length, get_or, take, drop, Option, None, slice_set, add-one}
use Rattle.std.proofs.lemmas.List.{map-append, get_or_read}
use Rattle.std.proofs.lemmas.List.Elements.{All-map}
use Rattle.std.specs.Prelude.{All}
use Rattle.md_hlds.specs.HldsGoal.{HldsGoal, At, GoalExpr, SimpleGoal, CallGoal, HoCallGoal, ConjGoal, DisjGoal, IfGoal, NotGoal, SomeGoal, HldsGoals, nothing, also, goal_size}
use Rattle.md_cover.specs.declared.coverage.GoalCount.{GoalCount}
use Rattle.md_cover.specs.Rows.{kind_of, goal_rows, expr_rows, each_rows}
use Rattle.md_cover.specs.Known.{value_at}
use Rattle.md_cover.specs.Solved.{with_turns}
use Rattle.md_cover.specs.Coverage.{without_turns}

-- ---- one row more is told

pub row-read : (f : GoalCount → GoalCount) (xs : List GoalCount) (i : ℕ) (d : GoalCount) → i < length xs → get_or (map f (take i xs) ++ drop i xs) i d ≡ get_or xs i d
row-read f [] i d lt = absurd (omega (arith, lt))
row-read f (x ∷ xs) zero d lt = refl
row-read f (x ∷ xs) (suc i) d lt = row-read f xs i d (omega (arith, lt))

pub row-told : (f : GoalCount → GoalCount) (xs : List GoalCount) (i : ℕ) (x : GoalCount) → i < length xs → x ≡ get_or xs i x → slice_set (map f (take i xs) ++ drop i xs) i (f x) ≡ map f (take (suc i) xs) ++ drop (suc i) xs
row-told f [] i x lt is = absurd (omega (arith, lt))
row-told f (y ∷ xs) zero x lt is = ap (λ (z : GoalCount). f z ∷ xs) is
row-told f (y ∷ xs) (suc i) x lt is = ap (λ zs. f y ∷ zs) (row-told f xs i x (omega (arith, lt)) is)

pub tell-step : (entries : List (Option ℕ)) (xs items : List GoalCount) (i : ℕ) (m r : GoalCount) (turns : Option ℕ) → i < length xs → items ≡ map (with_turns entries) (take i xs) ++ drop i xs
    → m ≡ get_or items i m → r ≡ get_or items i r → turns ≡ value_at entries r.place
    → slice_set items i (record { place = m.place; depth = m.depth; line = m.line; kind = m.kind; turns = turns }) ≡ map (with_turns entries) (take (i + 1) xs) ++ drop (i + 1) xs
tell-step entries xs items i m r turns lt is written read told =
    let f : GoalCount → GoalCount = with_turns entries in
    let at : (d : GoalCount) → get_or items i d ≡ get_or xs i d = λ d. ap (λ gs. get_or gs i d) is ∙ row-read f xs i d lt in
    let row : m ≡ get_or xs i m = written ∙ at m in
    let same : r ≡ m = get_or_read xs i r lt (read ∙ at r) m ∙ sym row in
    let value : turns ≡ value_at entries m.place = told ∙ ap (λ (g : GoalCount). value_at entries g.place) same in
    rw add-one
    (ap (λ (o : Option ℕ). slice_set items i (record { place = m.place; depth = m.depth; line = m.line; kind = m.kind; turns = o })) value
    ∙ (ap (λ gs. slice_set gs i (f m)) is ∙ row-told f xs i m lt row))

-- ---- rows without what is known

mutual
  pub rows-untold : (n d : ℕ) (p : HldsGoal) → map without_turns (goal_rows n d p) ≡ goal_rows n d p
  rows-untold n d (At l t) = ap (λ rs. record { place = n; depth = d; line = l; kind = kind_of t; turns = None } ∷ rs) (expr-untold (suc n) (suc d) t)

  expr-untold : (n d : ℕ) (t : GoalExpr) → map without_turns (expr_rows n d t) ≡ expr_rows n d t
  expr-untold n d (SimpleGoal s) = refl
  expr-untold n d (CallGoal site q ys) = refl
  expr-untold n d (HoCallGoal site f ys) = refl
  expr-untold n d (ConjGoal ps) = each-untold n d ps
  expr-untold n d (DisjGoal ps) = each-untold n d ps
  expr-untold n d (IfGoal c t e) =
      let a = rows-untold n d c in let b = rows-untold (n + goal_size c) d t in let g = rows-untold (n + goal_size c + goal_size t) d e in
      map-append without_turns (goal_rows n d c) _ ∙ (ap (λ rs. rs ++ map without_turns (goal_rows (n + goal_size c) d t ++ goal_rows (n + goal_size c + goal_size t) d e)) a
      ∙ ap (λ rs. goal_rows n d c ++ rs) (map-append without_turns (goal_rows (n + goal_size c) d t) _
      ∙ (ap (λ rs. rs ++ map without_turns (goal_rows (n + goal_size c + goal_size t) d e)) b ∙ ap (λ rs. goal_rows (n + goal_size c) d t ++ rs) g)))
  expr-untold n d (NotGoal c) = rows-untold n d c
  expr-untold n d (SomeGoal vs c) = rows-untold n d c

  each-untold : (n d : ℕ) (ps : HldsGoals) → map without_turns (each_rows n d ps) ≡ each_rows n d ps
  each-untold n d nothing = refl
  each-untold n d (also p ps) =
      map-append without_turns (goal_rows n d p) _ ∙ (ap (λ rs. rs ++ map without_turns (each_rows (n + goal_size p) d ps)) (rows-untold n d p)
      ∙ ap (λ rs. goal_rows n d p ++ rs) (each-untold (n + goal_size p) d ps))

pub told-untold : (entries : List (Option ℕ)) (gs : List GoalCount) → map without_turns (map (with_turns entries) gs) ≡ map without_turns gs
told-untold entries [] = refl
told-untold entries (g ∷ gs) = ap (λ hs. without_turns g ∷ hs) (told-untold entries gs)

pub none-told : (n d : ℕ) (p : HldsGoal) → All (λ g. g.turns ≡ None) (goal_rows n d p)
none-told n d p = subst (λ (gs : List GoalCount). All (λ g. g.turns ≡ None) gs) (rows-untold n d p) (All-map (λ g. g.turns ≡ None) without_turns (goal_rows n d p) (λ k e lt. refl))
