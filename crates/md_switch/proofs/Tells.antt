-- What is read off by the goals' numbers is the shape that the definition has.
use Rattle.std.proofs.Common.{◌≡◌, refl, ap, sym, ◌∙◌, arith, ℕ, zero, suc, ◌+◌, cond, List, [], ◌∷◌, ◌++◌, length, drop, Option, Some, None, slice_get, length-append}
use Rattle.std.specs.Prelude.{⊤}
use Rattle.md_hlds.specs.declared.goal.Term.{Term}
use Rattle.md_hlds.specs.declared.goal.Term.TheVariants.{Var, Int, Str, Name}
use Rattle.md_hlds.specs.HldsGoal.{Unifies, HldsGoal, At, GoalExpr, SimpleGoal, CallGoal, HoCallGoal, ConjGoal, DisjGoal, IfGoal, NotGoal, SomeGoal, HldsGoals, nothing, also, goal_size, parts_size, goals_size, goals_within, goals_below, goals_among}
use Rattle.md_hlds.specs.Hlds.{Hlds, clause_goals, goal_at}
use Rattle.md_hlds.specs.Switch.{Key, FunctorKey, term_key, variable_key, goal_key, arm_key, prepend_key, keys_of, if_different, switch_on, switch_shape}
use Rattle.md_names.specs.Named.{term_name, goal_name, name_of, name_at}
use Rattle.md_names.proofs.Standing.{functor_named}
use Rattle.md_modes.specs.Classes.{size_of, size_at}
use Rattle.md_switch.specs.Reading.{named_key, read_goal_key, read_arm_key, read_keys, read_on, read_shape}

-- by the program's goals of the numbers from n on, these goals have their names and their sizes
abbrev pub Tells : Hlds → ℕ → List HldsGoal → Type 0
Tells s n [] = ⊤
Tells s n (g ∷ gs) = (name_at s n ≡ goal_name s g) × (size_at s n ≡ goal_size g) × Tells s (suc n) gs

pub tells-split : (s : Hlds) (n m : ℕ) (gs hs : List HldsGoal) → m ≡ n + length gs → Tells s n (gs ++ hs) → Tells s n gs × Tells s m hs
tells-split s n m [] hs at h = let same : m ≡ n = omega (arith, at) in (tt, rw same h)
tells-split s n m (g ∷ gs) hs at h =
    let rest = tells-split s (suc n) m gs hs (omega (arith, at)) h.2 in
    ((h.0, h.1, rest.0), rest.1)

mutual
  pub length-within : (p : HldsGoal) → length (goals_within p) ≡ goal_size p
  length-within (At l t) = ap suc (length-below t)

  length-below : (t : GoalExpr) → length (goals_below t) ≡ parts_size t
  length-below (SimpleGoal g) = refl
  length-below (CallGoal site q ys) = refl
  length-below (HoCallGoal site p ys) = refl
  length-below (ConjGoal ps) = length-among ps
  length-below (DisjGoal ps) = length-among ps
  length-below (IfGoal c t e) =
      omega (
        arith,
        length-append (goals_within c) (goals_within t ++ goals_within e),
        length-append (goals_within t) (goals_within e),
        length-within c,
        length-within t,
        length-within e,
      )
  length-below (NotGoal c) = length-within c
  length-below (SomeGoal vs c) = length-within c

  length-among : (ps : HldsGoals) → length (goals_among ps) ≡ goals_size ps
  length-among nothing = refl
  length-among (also p ps) = omega (arith, length-append (goals_within p) (goals_among ps), length-within p, length-among ps)

-- a goal, and then others
pub tells-goal : (s : Hlds) (n : ℕ) (p : HldsGoal) (gs : List HldsGoal) → Tells s n (goals_within p ++ gs) → Tells s n (goals_within p) × Tells s (n + goal_size p) gs
tells-goal s n p gs h = tells-split s n (n + goal_size p) (goals_within p) gs (ap (λ k. n + k) (sym (length-within p))) h

-- the goal's own name and size
pub tells-own : (s : Hlds) (n : ℕ) (p : HldsGoal) → Tells s n (goals_within p) → (name_at s n ≡ goal_name s p) × (size_at s n ≡ goal_size p)
tells-own s n (At l t) h = (h.0, h.1)

-- the goals of a program, from one of their numbers on
at_drop : (gs : List HldsGoal) (n : ℕ) (g : HldsGoal) (hs : List HldsGoal) → drop n gs ≡ g ∷ hs → slice_get gs n ≡ Some g
at_drop [] zero g hs e = absurd (cc)
at_drop [] (suc n) g hs e = absurd (cc)
at_drop (k ∷ gs) zero g hs e = cc
at_drop (k ∷ gs) (suc n) g hs e = at_drop gs n g hs e

drop_one : (gs : List HldsGoal) (n : ℕ) (g : HldsGoal) (hs : List HldsGoal) → drop n gs ≡ g ∷ hs → drop (suc n) gs ≡ hs
drop_one [] zero g hs e = absurd (cc)
drop_one [] (suc n) g hs e = absurd (cc)
drop_one (k ∷ gs) zero g hs e = cc
drop_one (k ∷ gs) (suc n) g hs e = drop_one gs n g hs e

pub tells-from : (s : Hlds) (n : ℕ) (gs rest : List HldsGoal) → drop n (clause_goals s.procedures) ≡ gs ++ rest → Tells s n gs
tells-from s n [] rest e = tt
tells-from s n (g ∷ gs) rest e =
    let here : goal_at s n ≡ Some g = at_drop (clause_goals s.procedures) n g (gs ++ rest) e in
    (ap (name_of s) here, ap size_of here, tells-from s (suc n) gs rest (drop_one (clause_goals s.procedures) n g (gs ++ rest) e))

-- ---- keys

key_is : (s : Hlds) (t : Term) → named_key (term_name s t) t ≡ term_key s t
key_is s (Var y) = refl
key_is s (Int n) = refl
key_is s (Str bytes) = refl
key_is s (Name q ys) = ap (λ b. cond b (Some (FunctorKey q.name (length ys))) None) (sym (functor_named s q (length ys)))

goal_key_is : (s : Hlds) (n : ℕ) (p : HldsGoal) → name_at s n ≡ goal_name s p → read_goal_key s n p ≡ goal_key s p
goal_key_is s n (At l (SimpleGoal (Unifies x t))) e = ap (λ m. variable_key x (named_key m t)) e ∙ ap (variable_key x) (key_is s t)
goal_key_is s n (At l t) e = refl

arm_key_is : (s : Hlds) (n : ℕ) (p : HldsGoal) → Tells s n (goals_within p) → read_arm_key s n p ≡ arm_key s p
arm_key_is s n (At l (SimpleGoal g)) h = goal_key_is s n (At l (SimpleGoal g)) h.0
arm_key_is s n (At l (ConjGoal (also p ps))) h =
    goal_key_is s (suc n) p (tells-own s (suc n) p (tells-goal s (suc n) p (goals_among ps) h.2).0).0
arm_key_is s n (At l t) h = refl

keys_are : (s : Hlds) (x n : ℕ) (ps : HldsGoals) → Tells s n (goals_among ps) → read_keys s x n ps ≡ keys_of s x ps
keys_are s x n nothing h = refl
keys_are s x n (also p ps) h =
    let parts = tells-goal s n p (goals_among ps) h in
    let size : n + size_at s n ≡ n + goal_size p = ap (λ k. n + k) (tells-own s n p parts.0).1 in
    ap (λ k. prepend_key x k (read_keys s x (n + size_at s n) ps)) (arm_key_is s n p parts.0)
    ∙ (ap (λ m. prepend_key x (arm_key s p) (read_keys s x m ps)) size
    ∙ ap (prepend_key x (arm_key s p)) (keys_are s x (n + goal_size p) ps parts.1))

shape_on : (s : Hlds) (n : ℕ) (k : Option (ℕ × Key)) (ps : HldsGoals) → Tells s n (goals_among ps) → read_on s n k ps ≡ switch_on s k ps
shape_on s n None ps h = refl
shape_on s n (Some k) ps h = ap (if_different k.0) (keys_are s k.0 n ps h)

-- the shape that is read off is that of the definition
pub shape_is : (s : Hlds) (n : ℕ) (ps : HldsGoals) → Tells s n (goals_among ps) → read_shape s n ps ≡ switch_shape s ps
shape_is s n nothing h = refl
shape_is s n (also p ps) h =
    ap (λ k. read_on s n k (also p ps)) (arm_key_is s n p (tells-goal s n p (goals_among ps) h).0)
    ∙ shape_on s n (arm_key s p) (also p ps) h
