-- What is read off by the goals' numbers are the call sites that the definition has.
use Rattle.std.proofs.Common.{◌≡◌, refl, ap, ◌∙◌, sym, subst, arith, ℕ, suc, ◌+◌, ◌<◌, List, [], ◌∷◌, ◌++◌, append-nil, Vec, Option, None, Some}
use Rattle.std.specs.declared.alloc.Global.{Global}
use Rattle.md_hlds.specs.declared.goal.Goal.{Goal}
use Rattle.md_hlds.specs.declared.goal.GoalKind.{GoalKind, Conj, Disj}
use Rattle.md_hlds.specs.HldsGoal.{HldsGoal, At, GoalExpr, SimpleGoal, CallGoal, HoCallGoal, ConjGoal, DisjGoal, IfGoal, NotGoal, SomeGoal, HldsGoals, nothing, also, expr_of, goal_of, goals_of, gathered, goal_size, goals_size, parts_size, goals_within, goals_below, goals_among}
use Rattle.md_hlds.specs.Hlds.{Hlds, Procedure, procedure_called, clause_goals}
use Rattle.md_hlds.proofs.Bridge.{expr_of-Conj, expr_of-Disj}
use Rattle.md_names.specs.Named.{named_predicate}
use Rattle.md_switch.proofs.Tells.{Tells, tells-goal, tells-from}
use Rattle.md_static.specs.declared.entry.Site.{Site}
use Rattle.md_ports.specs.Ports.{kind_found, site_at, goal_sites, all_sites, sites_from}
use Rattle.md_ports.specs.Reading.{kind_named, read_goal, read_expr, read_goals, read_clauses}
use Rattle.md_ports.proofs.Lists.{sites-also, sites-parts}

-- ---- goals with parts

pub size-Conj : (g : Goal) (v : Vec Goal Global) → g.kind ≡ Conj v → 1 + goals_size (gathered (goals_of v.items)) ≡ goal_size (goal_of g)
size-Conj g v e =
    let inner : parts_size (expr_of g.kind) ≡ goals_size (gathered (goals_of v.items)) = ap (λ k. parts_size (expr_of k)) e ∙ ap parts_size (expr_of-Conj v) in
    omega (arith, inner)

pub size-Disj : (g : Goal) (v : Vec Goal Global) → g.kind ≡ Disj v → 1 + goals_size (gathered (goals_of v.items)) ≡ goal_size (goal_of g)
size-Disj g v e =
    let inner : parts_size (expr_of g.kind) ≡ goals_size (gathered (goals_of v.items)) = ap (λ k. parts_size (expr_of k)) e ∙ ap parts_size (expr_of-Disj v) in
    omega (arith, inner)

-- where the numbers of a goal and of those within it are below m, so are the numbers of its parts
pub few-Conj : (g : Goal) (v : Vec Goal Global) (gs : List Goal) (n m : ℕ) → gs ≡ v.items → g.kind ≡ Conj v → n + goal_size (goal_of g) < m → n + 1 + goals_size (gathered (goals_of gs)) < m
few-Conj g v gs n m same is few =
    let items : goals_size (gathered (goals_of gs)) ≡ goals_size (gathered (goals_of v.items)) = ap (λ (hs : List Goal). goals_size (gathered (goals_of hs))) same in
    omega (arith, items, size-Conj g v is, few)

pub few-Disj : (g : Goal) (v : Vec Goal Global) (gs : List Goal) (n m : ℕ) → gs ≡ v.items → g.kind ≡ Disj v → n + goal_size (goal_of g) < m → n + 1 + goals_size (gathered (goals_of gs)) < m
few-Disj g v gs n m same is few =
    let items : goals_size (gathered (goals_of gs)) ≡ goals_size (gathered (goals_of v.items)) = ap (λ (hs : List Goal). goals_size (gathered (goals_of hs))) same in
    omega (arith, items, size-Disj g v is, few)

pub read-Conj : (s : Hlds) (owner line n : ℕ) (k : GoalKind) (v : Vec Goal Global) → k ≡ Conj v → read_expr s owner line n (expr_of k) ≡ read_goals s owner (n + 1) (gathered (goals_of v.items))
read-Conj s owner line n k v e = ap (λ j. read_expr s owner line n (expr_of j)) e ∙ ap (read_expr s owner line n) (expr_of-Conj v)

pub read-Disj : (s : Hlds) (owner line n : ℕ) (k : GoalKind) (v : Vec Goal Global) → k ≡ Disj v → read_expr s owner line n (expr_of k) ≡ read_goals s owner (n + 1) (gathered (goals_of v.items))
read-Disj s owner line n k v e = ap (λ j. read_expr s owner line n (expr_of j)) e ∙ ap (read_expr s owner line n) (expr_of-Disj v)

-- ---- the names in the goals are those that their numbers tell

kind_is : (o : Option (ℕ × Procedure)) → kind_named (named_predicate o) ≡ kind_found o
kind_is None = refl
kind_is (Some q) = refl

both : (xs ys zs ws : List Site) → xs ≡ zs → ys ≡ ws → xs ++ ys ≡ zs ++ ws
both xs ys zs ws e f = rw (e, f) refl

tells_below : (s : Hlds) (n l : ℕ) (t : GoalExpr) → Tells s n (goals_within (At l t)) → Tells s (n + 1) (goals_below t)
tells_below s n l t h = let next : suc n ≡ n + 1 = omega arith in subst (λ (k : ℕ). Tells s k (goals_below t)) next h.2

mutual
  goal_is : (s : Hlds) (owner n : ℕ) (p : HldsGoal) → Tells s n (goals_within p) → read_goal s owner n p ≡ goal_sites s owner p
  goal_is s owner n (At l (SimpleGoal g)) h = refl
  goal_is s owner n (At l (CallGoal site q ys)) h =
      ap (λ m. site_at owner l (kind_named m) ∷ []) h.0 ∙ ap (λ k. site_at owner l k ∷ []) (kind_is (procedure_called s q))
  goal_is s owner n (At l (HoCallGoal site f ys)) h = ap (λ m. site_at owner l (kind_named m) ∷ []) h.0
  goal_is s owner n (At l (ConjGoal ps)) h = goals_are s owner (n + 1) ps (tells_below s n l (ConjGoal ps) h)
  goal_is s owner n (At l (DisjGoal ps)) h = goals_are s owner (n + 1) ps (tells_below s n l (DisjGoal ps) h)
  goal_is s owner n (At l (IfGoal c t e)) h =
      let one = tells-goal s (n + 1) c (goals_within t ++ goals_within e) (tells_below s n l (IfGoal c t e) h) in
      let two = tells-goal s (n + 1 + goal_size c) t (goals_within e) one.1 in
      both _ _ (goal_sites s owner c) (goal_sites s owner t ++ goal_sites s owner e) (goal_is s owner (n + 1) c one.0)
      (both _ _ (goal_sites s owner t) (goal_sites s owner e) (goal_is s owner (n + 1 + goal_size c) t two.0) (goal_is s owner (n + 1 + goal_size c + goal_size t) e two.1))
      ∙ sym (sites-parts s owner c t e)
  goal_is s owner n (At l (NotGoal c)) h = goal_is s owner (n + 1) c (tells_below s n l (NotGoal c) h)
  goal_is s owner n (At l (SomeGoal vs c)) h = goal_is s owner (n + 1) c (tells_below s n l (SomeGoal vs c) h)

  goals_are : (s : Hlds) (owner n : ℕ) (ps : HldsGoals) → Tells s n (goals_among ps) → read_goals s owner n ps ≡ all_sites s owner ps
  goals_are s owner n nothing h = refl
  goals_are s owner n (also p ps) h =
      let parts = tells-goal s n p (goals_among ps) h in
      both _ _ (goal_sites s owner p) (all_sites s owner ps) (goal_is s owner n p parts.0) (goals_are s owner (n + goal_size p) ps parts.1) ∙ sym (sites-also s owner p ps)

clauses_are : (s : Hlds) (owner n : ℕ) (ps : List Procedure) → Tells s n (clause_goals ps) → read_clauses s owner n ps ≡ sites_from s owner ps
clauses_are s owner n [] h = refl
clauses_are s owner n (p ∷ ps) h =
    let parts = tells-goal s n p.body (clause_goals ps) h in
    both _ _ (goal_sites s owner p.body) (sites_from s (suc owner) ps) (goal_is s owner n p.body parts.0) (clauses_are s (suc owner) (n + goal_size p.body) ps parts.1)

-- those of a program
pub program_is : (s : Hlds) → read_clauses s 0 0 s.procedures ≡ sites_from s 0 s.procedures
program_is s = clauses_are s 0 0 s.procedures (tells-from s 0 (clause_goals s.procedures) [] (sym (append-nil (clause_goals s.procedures))))

-- with no site yet, and all clauses to come
pub start : (s : Hlds) (ps : List Procedure) (xs : List Site) → s.procedures ≡ ps → xs ≡ [] → sites_from s 0 ps ≡ xs ++ read_clauses s 0 0 ps
start s ps xs same none =
    subst (λ (ys : List Site). sites_from s 0 ps ≡ ys ++ read_clauses s 0 0 ps) (sym none)
    (subst (λ (qs : List Procedure). sites_from s 0 qs ≡ read_clauses s 0 0 qs) same (sym (program_is s)))
