-- A goal leaves alone all that isn't a variable of it.
use Rattle.std.proofs.Common.{◌≡◌, ◌∙◌, subst, ℕ, Bool, true, false, not, ◌&&◌, List, [], ◌∷◌, ◌++◌, Ok, Err, cond}
use Rattle.std.specs.Prelude.{⊤}
use Rattle.md_hlds.specs.HldsGoal.{HldsGoal, At, GoalExpr, SimpleGoal, CallGoal, HoCallGoal, ConjGoal, DisjGoal, IfGoal, NotGoal, SomeGoal, HldsGoals, nothing, also}
use Rattle.md_inst.specs.declared.fault.ModeFault.{ModeFault}
use Rattle.md_inst.specs.declared.fault.ModeFault.TheVariants.{TypeClash, BranchBinds}
use Rattle.md_inst.specs.Verdict.{Verdict, ◌>>=◌, ◌>>◌, fault_unless}
use Rattle.md_inst.specs.Instantiation.{InstMap, known_at, times}
use Rattle.md_inst.specs.Simple.{atomic}
use Rattle.md_modes.specs.Branches.{After, after, outside, some_of, in_common, all_have, some_differ, clash, reachable, joined_ends, joined}
use Rattle.md_modes.specs.Goals.{Scope, within, reached, goes_on_after, binds_inside, variables, expr_variables, parts_variables, goal, expr, each, arms}
use Rattle.md_modes.specs.Views.{Leaves, AllLeave}
use Rattle.md_modes.proofs.InstantiationLemmas.{common_same, length-in_common, known_at-in_common, Among, among_self, among_left, among_right}
use Rattle.md_modes.proofs.Leaving.{leaves_self, leaves_then, leaves_among, CheckLeaves, atomic_leaves}

-- ---- arms

pub all_leave_among : (vs ws : List ℕ) (s : InstMap) (ends : List After) → ((x : ℕ) → times x ws ≡ 0 → times x vs ≡ 0) → AllLeave vs s ends → AllLeave ws s ends
all_leave_among vs ws s [] among h = tt
all_leave_among vs ws s (a ∷ ends) among h = (leaves_among vs ws s a.known among h.0, all_leave_among vs ws s ends among h.1)

-- the same of what is known at the ends
abbrev pub EachLeaves : List ℕ → InstMap → List InstMap → Type 0
EachLeaves vs s [] = ⊤
EachLeaves vs s (r ∷ rs) = Leaves vs s r × EachLeaves vs s rs

kept_leaves : (vs : List ℕ) (s r : InstMap) (rs : List InstMap) (b : Bool) → Leaves vs s r → EachLeaves vs s rs → EachLeaves vs s (cond b (r ∷ rs) rs)
kept_leaves vs s r rs true h hs = (h, hs)
kept_leaves vs s r rs false h hs = hs

pub reachable_leave : (vs : List ℕ) (s : InstMap) (ends : List After) → AllLeave vs s ends → EachLeaves vs s (reachable ends)
reachable_leave vs s [] h = tt
reachable_leave vs s (a ∷ ends) h = kept_leaves vs s a.known (reachable ends) a.reach h.0 (reachable_leave vs s ends h.1)

in_common_leaves : (vs : List ℕ) (s r q : InstMap) → Leaves vs s r → Leaves vs s q → Leaves vs s (in_common r q)
in_common_leaves vs s r q h g = record {
  size = length-in_common r q ∙ h.size;
  same = λ x none. known_at-in_common r q x ∙ rw (h.same x none, g.same x none) (common_same (known_at s x));
}

pub all_have_leaves : (vs : List ℕ) (s r : InstMap) (qs : List InstMap) → Leaves vs s r → EachLeaves vs s qs → Leaves vs s (all_have r qs)
all_have_leaves vs s r [] h hs = h
all_have_leaves vs s r (q ∷ qs) h hs = all_have_leaves vs s (in_common r q) qs (in_common_leaves vs s r q h hs.0) hs.1

-- ---- goals

-- a goal without a fault leaves all but these variables as they were
abbrev pub GoalLeaves : List ℕ → InstMap → Verdict After → Type 0
GoalLeaves vs s (Ok a) = Leaves vs s a.known
GoalLeaves vs s (Err e) = ⊤

abbrev pub ArmsLeave : List ℕ → InstMap → Verdict (List After) → Type 0
ArmsLeave vs s (Ok ends) = AllLeave vs s ends
ArmsLeave vs s (Err e) = ⊤

fault_leaves : (vs : List ℕ) (s : InstMap) (b : Bool) (e : ModeFault) (v : Verdict After) → GoalLeaves vs s v → GoalLeaves vs s (cond b (Err e) v)
fault_leaves vs s true e v h = tt
fault_leaves vs s false e v h = h

ends_leave : (vs : List ℕ) (l : ℕ) (p : ℕ → Bool) (s : InstMap) (rs : List InstMap) → EachLeaves vs s rs → GoalLeaves vs s (joined_ends l p s rs)
ends_leave vs l p s [] h = leaves_self vs s
ends_leave vs l p s (r ∷ qs) h =
    fault_leaves vs s (some_differ p s r qs) (BranchBinds l) (cond (clash s (all_have r qs) r qs) (Err (TypeClash l)) (Ok (after (all_have r qs) true)))
    (fault_leaves vs s (clash s (all_have r qs) r qs) (TypeClash l) (Ok (after (all_have r qs) true)) (all_have_leaves vs s r qs h.0 h.1))

pub joined_leaves : (vs : List ℕ) (l : ℕ) (p : ℕ → Bool) (s : InstMap) (ends : List After) → AllLeave vs s ends → GoalLeaves vs s (joined l p s ends)
joined_leaves vs l p s ends h = ends_leave vs l p s (reachable ends) (reachable_leave vs s ends h)

joined_after : (vs : List ℕ) (l : ℕ) (p : ℕ → Bool) (s : InstMap) (v : Verdict (List After)) → ArmsLeave vs s v → GoalLeaves vs s (v >>= (λ ends. joined l p s ends))
joined_after vs l p s (Ok ends) h = joined_leaves vs l p s ends h
joined_after vs l p s (Err e) h = tt

reached_leaves : (vs : List ℕ) (s : InstMap) (b : Bool) (v : Verdict InstMap) → CheckLeaves vs s v → GoalLeaves vs s (reached b v)
reached_leaves vs s b (Ok r) h = h
reached_leaves vs s b (Err e) h = tt

goal_among : (vs ws : List ℕ) (s : InstMap) (v : Verdict After) → Among vs ws → GoalLeaves vs s v → GoalLeaves ws s v
goal_among vs ws s (Ok a) among h = leaves_among vs ws s a.known among h
goal_among vs ws s (Err e) among h = tt

goal_then : (vs ws : List ℕ) (s : InstMap) (v : Verdict After) (f : After → Verdict After) → Among vs ws → GoalLeaves vs s v
    → ((a : After) → Leaves ws s a.known → GoalLeaves ws s (f a)) → GoalLeaves ws s (v >>= f)
goal_then vs ws s (Ok a) f among h g = g a (leaves_among vs ws s a.known among h)
goal_then vs ws s (Err e) f among h g = tt

goal_later : (vs ws : List ℕ) (s r : InstMap) (v : Verdict After) → Among vs ws → Leaves ws s r → GoalLeaves vs r v → GoalLeaves ws s v
goal_later vs ws s r (Ok a) among h g = leaves_then ws s r a.known h (leaves_among vs ws r a.known among g)
goal_later vs ws s r (Err e) among h g = tt

goal_tested : (vs : List ℕ) (s : InstMap) (v : Verdict (Unit {0})) (w : Verdict After) → GoalLeaves vs s w → GoalLeaves vs s (v >> w)
goal_tested vs s (Ok u) w h = h
goal_tested vs s (Err e) w h = tt

with_reach : (vs : List ℕ) (s : InstMap) (b : Bool) (v : Verdict After) → GoalLeaves vs s v → GoalLeaves vs s (v >>= (λ rest. Ok (after rest.known (b && rest.reach))))
with_reach vs s b (Ok a) h = h
with_reach vs s b (Err e) h = tt

arms_then : (vs : List ℕ) (s : InstMap) (v : Verdict After) (w : Verdict (List After)) → GoalLeaves vs s v → ArmsLeave vs s w
    → ArmsLeave vs s (v >>= (λ a. w >>= (λ ends. Ok (a ∷ ends))))
arms_then vs s (Ok a) (Ok ends) h hs = (h, hs)
arms_then vs s (Ok a) (Err e) h hs = tt
arms_then vs s (Err e) w h hs = tt

arms_among : (vs ws : List ℕ) (s : InstMap) (v : Verdict (List After)) → Among vs ws → ArmsLeave vs s v → ArmsLeave ws s v
arms_among vs ws s (Ok ends) among h = all_leave_among vs ws s ends among h
arms_among vs ws s (Err e) among h = tt

-- a condition binds nothing beside its variables, and what is known after the branch is what was known at entry
cut_leaves : (vs : List ℕ) (s : InstMap) (v : Verdict After) (f : After → Verdict (Unit {0})) → GoalLeaves vs s (v >>= (λ a. f a >> Ok (after s true)))
cut_leaves vs s (Ok a) f = goal_tested vs s (f a) (Ok (after s true)) (leaves_self vs s)
cut_leaves vs s (Err e) f = tt

cut_twice : (vs : List ℕ) (s : InstMap) (v : Verdict After) (f : After → Verdict (Unit {0})) (w : Verdict (Unit {0})) → GoalLeaves vs s (v >>= (λ a. f a >> (w >> Ok (after s true))))
cut_twice vs s (Ok a) f w = goal_tested vs s (f a) (w >> Ok (after s true)) (goal_tested vs s w (Ok (after s true)) (leaves_self vs s))
cut_twice vs s (Err e) f w = tt

-- the variables of an if-then-else
abbrev three : (p t e : HldsGoal) → List ℕ
three p t e = variables p ++ (variables t ++ variables e)

among_third : (us vs ws : List ℕ) → Among ws (us ++ (vs ++ ws))
among_third us vs ws x none = among_right vs ws x (among_right us (vs ++ ws) x none)

among_second : (us vs ws : List ℕ) → Among vs (us ++ (vs ++ ws))
among_second us vs ws x none = among_left vs ws x (among_right us (vs ++ ws) x none)

-- the then part and the else part, after the condition
parts_frame : (c : Scope) (l : ℕ) (p t e : HldsGoal) (s r : InstMap) → Leaves (three p t e) s r → GoalLeaves (variables t) r (goal c t r) → GoalLeaves (variables e) s (goal c e s)
    → GoalLeaves (three p t e) s (goal c t r >>= (λ b. goal c e s >>= (λ d. joined l (outside c.all (three p t e)) s (b ∷ d ∷ []))))
parts_frame c l p t e s r h g i =
    goal_then (three p t e) (three p t e) s (goal c t r) (λ b. goal c e s >>= (λ d. joined l (outside c.all (three p t e)) s (b ∷ d ∷ [])))
    (among_self (three p t e))
    (goal_later (variables t) (three p t e) s r (goal c t r) (among_second (variables p) (variables t) (variables e)) h g)
    (λ b hb. goal_then (variables e) (three p t e) s (goal c e s) (λ d. joined l (outside c.all (three p t e)) s (b ∷ d ∷ []))
    (among_third (variables p) (variables t) (variables e)) i
    (λ d hd. joined_leaves (three p t e) l (outside c.all (three p t e)) s (b ∷ d ∷ []) (hb, (hd, tt))))

choose_frame : (c : Scope) (l : ℕ) (p t e : HldsGoal) (s : InstMap) → GoalLeaves (variables p) s (goal (within c) p s)
    → ((r : InstMap) → GoalLeaves (variables t) r (goal c t r)) → GoalLeaves (variables e) s (goal c e s) → GoalLeaves (three p t e) s (expr c l (IfGoal p t e) s)
choose_frame c l p t e s h g i =
    goal_then (variables p) (three p t e) s (goal (within c) p s)
    (λ a. binds_inside l (outside c.all (three p t e)) s a >> (goal c t a.known >>= (λ b. goal c e s >>= (λ d. joined l (outside c.all (three p t e)) s (b ∷ d ∷ [])))))
    (among_left (variables p) (variables t ++ variables e)) h
    (λ a ha. goal_tested (three p t e) s (binds_inside l (outside c.all (three p t e)) s a) (goal c t a.known >>= (λ b. goal c e s >>= (λ d. joined l (outside c.all (three p t e)) s (b ∷ d ∷ []))))
    (parts_frame c l p t e s a.known ha (g a.known) i))

once_frame : (c : Scope) (l : ℕ) (vs : List ℕ) (p : HldsGoal) (s : InstMap) → GoalLeaves (vs ++ variables p) s (expr c l (SomeGoal vs p) s)
once_frame c l vs p s = cut_twice (vs ++ variables p) s (goal (within c) p s) (λ a. binds_inside l (outside c.all (vs ++ variables p)) s a)
    (fault_unless (not (some_of (outside c.all (vs ++ variables p)) vs)) (BranchBinds l))

mutual
  goal_frame : (c : Scope) (p : HldsGoal) (s : InstMap) → GoalLeaves (variables p) s (goal c p s)
  goal_frame c (At l t) s = expr_frame c l t s

  expr_frame : (c : Scope) (l : ℕ) (t : GoalExpr) (s : InstMap) → GoalLeaves (expr_variables t) s (expr c l t s)
  expr_frame c l (SimpleGoal g) s = reached_leaves (expr_variables (SimpleGoal g)) s (goes_on_after (SimpleGoal g)) (atomic c.program c.strict l (SimpleGoal g) s) (atomic_leaves c.program c.strict l (SimpleGoal g) s)
  expr_frame c l (CallGoal site q ys) s = reached_leaves ys s true (atomic c.program c.strict l (CallGoal site q ys) s) (atomic_leaves c.program c.strict l (CallGoal site q ys) s)
  expr_frame c l (HoCallGoal site f ys) s = reached_leaves (f ∷ ys) s true (atomic c.program c.strict l (HoCallGoal site f ys) s) (atomic_leaves c.program c.strict l (HoCallGoal site f ys) s)
  expr_frame c l (ConjGoal ps) s = each_frame c ps s
  expr_frame c l (DisjGoal ps) s = joined_after (parts_variables ps) l (outside c.all (parts_variables ps)) s (arms c ps s) (arms_frame c ps s)
  expr_frame c l (IfGoal p t e) s = choose_frame c l p t e s (goal_frame (within c) p s) (λ r. goal_frame c t r) (goal_frame c e s)
  expr_frame c l (NotGoal p) s = cut_leaves (variables p) s (goal (within c) p s) (λ a. binds_inside l (outside c.all (variables p)) s a)
  expr_frame c l (SomeGoal vs p) s = once_frame c l vs p s

  each_frame : (c : Scope) (ps : HldsGoals) (s : InstMap) → GoalLeaves (parts_variables ps) s (each c ps s)
  each_frame c nothing s = leaves_self [] s
  each_frame c (also p ps) s =
      goal_then (variables p) (variables p ++ parts_variables ps) s (goal c p s) (λ a. each c ps a.known >>= (λ rest. Ok (after rest.known (a.reach && rest.reach))))
      (among_left (variables p) (parts_variables ps)) (goal_frame c p s)
      (λ a h. with_reach (variables p ++ parts_variables ps) s a.reach (each c ps a.known)
      (goal_later (parts_variables ps) (variables p ++ parts_variables ps) s a.known (each c ps a.known) (among_right (variables p) (parts_variables ps)) h (each_frame c ps a.known)))

  arms_frame : (c : Scope) (ps : HldsGoals) (s : InstMap) → ArmsLeave (parts_variables ps) s (arms c ps s)
  arms_frame c nothing s = tt
  arms_frame c (also p ps) s =
      arms_then (variables p ++ parts_variables ps) s (goal c p s) (arms c ps s)
      (goal_among (variables p) (variables p ++ parts_variables ps) s (goal c p s) (among_left (variables p) (parts_variables ps)) (goal_frame c p s))
      (arms_among (parts_variables ps) (variables p ++ parts_variables ps) s (arms c ps s) (among_right (variables p) (parts_variables ps)) (arms_frame c ps s))

-- ---- the same of a goal's outcome

pub goal_leaves : (c : Scope) (p : HldsGoal) (s : InstMap) (a : After) → goal c p s ≡ Ok a → Leaves (variables p) s a.known
goal_leaves c p s a is = subst (λ (v : Verdict After). GoalLeaves (variables p) s v) is (goal_frame c p s)

pub expr_leaves : (c : Scope) (l : ℕ) (t : GoalExpr) (s : InstMap) (a : After) → expr c l t s ≡ Ok a → Leaves (expr_variables t) s a.known
expr_leaves c l t s a is = subst (λ (v : Verdict After). GoalLeaves (expr_variables t) s v) is (expr_frame c l t s)

pub each_leaves : (c : Scope) (ps : HldsGoals) (s : InstMap) (a : After) → each c ps s ≡ Ok a → Leaves (parts_variables ps) s a.known
each_leaves c ps s a is = subst (λ (v : Verdict After). GoalLeaves (parts_variables ps) s v) is (each_frame c ps s)

pub arms_leave : (c : Scope) (ps : HldsGoals) (s : InstMap) (ends : List After) → arms c ps s ≡ Ok ends → AllLeave (parts_variables ps) s ends
arms_leave c ps s ends is = subst (λ (v : Verdict (List After)). ArmsLeave (parts_variables ps) s v) is (arms_frame c ps s)
