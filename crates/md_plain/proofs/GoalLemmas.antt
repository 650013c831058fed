-- The sizes and the call sites of goals one after the other.
use Rattle.std.proofs.Common.{◌≡◌, refl, ap, ◌∙◌, sym, arith, ℕ, zero, suc, ◌+◌, ◌<◌, List, [], ◌∷◌, length, take, drop, Vec, get_or, length-append}
use Rattle.std.proofs.lemmas.List.{drop_more}
use Rattle.md_plain.specs.declared.goal.Numbered.{Numbered}
use Rattle.md_plain.specs.Goals.{numbered_of, numbereds_of}
use Rattle.std.specs.declared.alloc.Global.{Global}
use Rattle.md_hlds.specs.declared.types.Ty.{Ty}
use Rattle.md_hlds.specs.declared.goal.Goal.{Goal}
use Rattle.md_hlds.specs.declared.goal.GoalKind.{GoalKind, Conj, Disj}
use Rattle.md_hlds.specs.HldsGoal.{ConjGoal, DisjGoal, gathered, goal_of, goals_of, expr_of, expr_lines, goals_lines, site_lines}
use Rattle.md_hlds.specs.Hlds.{hlds_types_of}
use Rattle.md_hlds.proofs.Bridge.{expr_of-Conj, expr_of-Disj}

pub length_types : (ts : List Ty) → length (hlds_types_of ts) ≡ length ts
length_types [] = refl
length_types (t ∷ ts) = ap suc (length_types ts)

pub expr_lines-Conj : (l : ℕ) (k : GoalKind) (v : Vec Goal Global) → k ≡ Conj v → length (expr_lines l (expr_of k)) ≡ length (goals_lines (gathered (goals_of v.items)))
expr_lines-Conj l k v e = ap (λ j. length (expr_lines l (expr_of j))) e ∙ ap (λ t. length (expr_lines l t)) (expr_of-Conj v)

pub expr_lines-Disj : (l : ℕ) (k : GoalKind) (v : Vec Goal Global) → k ≡ Disj v → length (expr_lines l (expr_of k)) ≡ length (goals_lines (gathered (goals_of v.items)))
expr_lines-Disj l k v e = ap (λ j. length (expr_lines l (expr_of j))) e ∙ ap (λ t. length (expr_lines l t)) (expr_of-Disj v)

-- the sites of one goal more
pub lines-more : (gs : List Goal) (i : ℕ) (g : Goal) → i < length gs → g ≡ get_or gs i g
    → length (goals_lines (gathered (goals_of (take i gs)))) + length (site_lines (goal_of g)) ≡ length (goals_lines (gathered (goals_of (take (suc i) gs))))
lines-more [] i g lt is = absurd (omega (arith, lt))
lines-more (h ∷ gs) zero g lt is =
    rw (ap (λ (k : Goal). length (site_lines (goal_of k))) is) (omega (arith, length-append (site_lines (goal_of h)) []))
lines-more (h ∷ gs) (suc i) g lt is =
    omega (
      arith,
      lines-more gs i g (omega (arith, lt)) is,
      length-append (site_lines (goal_of h)) (goals_lines (gathered (goals_of (take (suc i) gs)))),
      length-append (site_lines (goal_of h)) (goals_lines (gathered (goals_of (take i gs)))),
    )

-- a conjunction and a disjunction are those of their goals
pub conj_of : (k : GoalKind) (v : Vec Goal Global) (gs : List Goal) → k ≡ Conj v → gs ≡ v.items → ConjGoal (gathered (goals_of gs)) ≡ expr_of k
conj_of k v gs e is = ap (λ hs. ConjGoal (gathered (goals_of hs))) is ∙ (sym (expr_of-Conj v) ∙ sym (ap expr_of e))

pub disj_of : (k : GoalKind) (v : Vec Goal Global) (gs : List Goal) → k ≡ Disj v → gs ≡ v.items → DisjGoal (gathered (goals_of gs)) ≡ expr_of k
disj_of k v gs e is = ap (λ hs. DisjGoal (gathered (goals_of hs))) is ∙ (sym (expr_of-Disj v) ∙ sym (ap expr_of e))

-- the goals from a place on
pub numbereds_of-more : (ps : List Numbered) (i : ℕ) (p : Numbered) → i < length ps → p ≡ get_or ps i p → numbereds_of (drop i ps) ≡ numbered_of p ∷ numbereds_of (drop (i + 1) ps)
numbereds_of-more ps i p lt is = ap numbereds_of (drop_more ps i p lt) ∙ ap (λ q. numbered_of q ∷ numbereds_of (drop (i + 1) ps)) (sym is)
