-- The goals of a vector inside a goal, and the types of a vector inside a type, as plain data.
use Rattle.std.proofs.Common.{◌≡◌, refl, ap, ◌∙◌, List, [], ◌∷◌, ◌++◌, Vec}
use Rattle.std.specs.declared.alloc.Global.{Global}
use Rattle.md_hlds.specs.declared.goal.Goal.{Goal}
use Rattle.md_hlds.specs.declared.goal.GoalKind.{Conj, Disj, Row_of-Goal, end_of-Goal, more_of-Goal, items-the_row-Goal, items_hidden-the_row-Goal-0}
use Rattle.md_hlds.specs.declared.goal.GoalKind.TheBlock.{hidden-the_row-Goal-0}
use Rattle.md_hlds.specs.declared.types.Ty.{Ho, Row_of-Ty, end_of-Ty, more_of-Ty, items-the_row-Ty, items_hidden-the_row-Ty-0}
use Rattle.md_hlds.specs.declared.types.Ty.TheBlock.{hidden-the_row-Ty-0}
use Rattle.md_hlds.specs.declared.types.HoTy.{HoTy}
use Rattle.md_hlds.specs.HldsGoal.{HldsGoal, At, ConjGoal, DisjGoal, HldsGoals, nothing, also, listed, gathered, expr_of, row_goals, goal_of, goals_of}
use Rattle.md_hlds.specs.Hlds.{HldsType, closure, also_type, listed_types, gathered_types, hlds_type_of, row_types, hlds_types_of}

row_goals-gathered : {n : _} (row : Row_of-Goal n) → row_goals row ≡ gathered (goals_of (items-the_row-Goal n row))
row_goals-gathered end_of-Goal = refl
row_goals-gathered (more_of-Goal l k rest) = ap (also (At l (expr_of k))) (row_goals-gathered rest)

row_goals-hidden : (v : Vec Goal Global) → row_goals (hidden-the_row-Goal-0 v) ≡ gathered (goals_of v.items)
row_goals-hidden v = row_goals-gathered (hidden-the_row-Goal-0 v) ∙ ap (λ gs. gathered (goals_of gs)) (items_hidden-the_row-Goal-0 v)

-- a conjunction is that of its vector's goals
pub expr_of-Conj : (v : Vec Goal Global) → expr_of (Conj v) ≡ ConjGoal (gathered (goals_of v.items))
expr_of-Conj v = ap ConjGoal (row_goals-hidden v)

-- a disjunction is that of its vector's goals
pub expr_of-Disj : (v : Vec Goal Global) → expr_of (Disj v) ≡ DisjGoal (gathered (goals_of v.items))
expr_of-Disj v = ap DisjGoal (row_goals-hidden v)

row_types-gathered : {n : _} (row : Row_of-Ty n) → row_types row ≡ gathered_types (hlds_types_of (items-the_row-Ty n row))
row_types-gathered end_of-Ty = refl
row_types-gathered (more_of-Ty t rest) = ap (also_type (hlds_type_of t)) (row_types-gathered rest)

-- a higher-order type is that of its vectors' types and modes
pub hlds_type_of-Ho : (h : HoTy) → hlds_type_of (Ho h) ≡ closure (gathered_types (hlds_types_of h.types.items)) h.modes.items h.det
hlds_type_of-Ho h = ap (λ ts. closure ts h.modes.items h.det)
    (row_types-gathered (hidden-the_row-Ty-0 h.types) ∙ ap (λ ts. gathered_types (hlds_types_of ts)) (items_hidden-the_row-Ty-0 h.types))

-- lists of parts and parts are the same
pub listed-gathered : (ps : List HldsGoal) → listed (gathered ps) ≡ ps
listed-gathered [] = refl
listed-gathered (p ∷ ps) = ap (λ qs. p ∷ qs) (listed-gathered ps)

pub gathered-listed : (ps : HldsGoals) → gathered (listed ps) ≡ ps
gathered-listed nothing = refl
gathered-listed (also p ps) = ap (also p) (gathered-listed ps)

pub listed_types-gathered : (ts : List HldsType) → listed_types (gathered_types ts) ≡ ts
listed_types-gathered [] = refl
listed_types-gathered (t ∷ ts) = ap (λ us. t ∷ us) (listed_types-gathered ts)

pub goals_of-append : (gs hs : List Goal) → goals_of (gs ++ hs) ≡ goals_of gs ++ goals_of hs
goals_of-append [] hs = refl
goals_of-append (g ∷ gs) hs = ap (λ ps. goal_of g ∷ ps) (goals_of-append gs hs)
