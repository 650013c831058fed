-- The code's view of a goal's variables.
use Rattle.std.proofs.Common.{◌≡◌, refl, sym, ap, ◌∙◌, subst, arith, ℕ, zero, suc, ◌+◌, ◌<◌, Bool, cond, ◌||◌, List, [], ◌∷◌, ◌++◌, length, get_or, slice_index, Option, Result, Ok, Err}
use Rattle.md_hlds.specs.declared.goal.Goal.{Goal}
use Rattle.md_hlds.specs.HldsGoal.{HldsGoal, GoalExpr, At, SimpleGoal, CallGoal, HoCallGoal, ConjGoal, DisjGoal, IfGoal, NotGoal, SomeGoal, goal_of, goal_size}
use Rattle.md_names.specs.declared.named.Named.{Named}
use Rattle.md_names.specs.Named.{expr_name}
use Rattle.md_inst.specs.declared.fault.ModeFault.{ModeFault}
use Rattle.md_inst.specs.Verdict.{Verdict}
use Rattle.md_inst.specs.Instantiation.{InstMap, known_at}
use Rattle.md_inst.specs.Kinds.{inst_map_of}
use Rattle.md_modes.specs.declared.clause.Clause.{Clause}
use Rattle.md_modes.specs.declared.nonlocals.View.{View}
use Rattle.md_modes.specs.declared.joined.Joined.{Joined}
use Rattle.md_modes.specs.Branches.{After, after, outside, binds_some, some_of, joined}
use Rattle.md_modes.specs.Goals.{Scope, variables, expr_variables, goal, expr}
use Rattle.md_modes.specs.Notes.{Note, Role, is_state, binds, names_state, known_after}
use Rattle.md_modes.specs.Tally.{IsLocal, AreCounts}
use Rattle.md_modes.specs.Views.{Leaves, AllLeave, seen, put_all, put_verdict, seen_ends, picked, some_state, names_seen}
use Rattle.md_modes.specs.Joins.{occurs, Ends, IsArm, Reaches, ReachesExactly}
use Rattle.md_modes.specs.Clauses.{scope_at}
use Rattle.md_modes.specs.Inside.{IsViewOf, AreAmong}
use Rattle.md_modes.proofs.Counts.{times-append}
use Rattle.md_modes.proofs.Listed.{goals_variables}
use Rattle.md_modes.proofs.Leaving.{leaves_among, leaves_then}
use Rattle.md_modes.proofs.Frames.{goal_leaves, expr_leaves}
use Rattle.md_modes.proofs.Views.{restored, binds_seen, joined_seen, newly_seen, some_of_members, states_seen}

abbrev pub places_of : View → List ℕ
places_of view = view.outside.local.now.places.items

-- what occurs outside, by the code's counts
pub occurs_is : (k : Clause) (view : View) (vars : List ℕ) (s : InstMap) (strict : Bool) → IsViewOf k view vars s
    → (i : ℕ) → i < length (places_of view) → occurs view.outside i ≡ outside (scope_at k strict).all vars (slice_index (places_of view) i)
occurs_is k view vars s strict h i lt = rw (h.local.counted i lt, h.all, k.counted (slice_index (places_of view) i)) refl

-- ---- what a goal within leaves alone

pub view_leaves : (k : Clause) (view : View) (vars : List ℕ) (s : InstMap) (c : Scope) (p : HldsGoal) (a : After) → IsViewOf k view vars s → AreAmong (variables p) vars
    → goal c p s ≡ Ok a → Leaves (places_of view) s a.known
view_leaves k view vars s c p a h among is = leaves_among (variables p) (places_of view) s a.known (λ x e. among x (h.local.all x e)) (goal_leaves c p s a is)

-- two goals within, one after the other
pub views_leave : (k : Clause) (view : View) (vars : List ℕ) (s : InstMap) (c d : Scope) (p t : HldsGoal) (a b : After) → IsViewOf k view vars s
    → AreAmong (variables p) vars → AreAmong (variables t) vars → goal c p s ≡ Ok a → goal d t a.known ≡ Ok b → Leaves (places_of view) s b.known
views_leave k view vars s c d p t a b h first second is then' =
    leaves_then (places_of view) s a.known b.known (view_leaves k view vars s c p a h first is)
    (leaves_among (variables t) (places_of view) a.known b.known (λ x e. second x (h.local.all x e)) (goal_leaves d t a.known b then'))

-- what was known before is put back
pub put_back : (k : Clause) (view : View) (vars : List ℕ) (s r now : InstMap) → IsViewOf k view vars s → Leaves (places_of view) s r
    → now ≡ put_all (places_of view) (inst_map_of view.before.now) r → now ≡ s
put_back k view vars s r now h leaves is = is ∙ (ap (λ ks. put_all (places_of view) ks r) h.before ∙ restored (places_of view) s r leaves)

-- the variables of an arm, of which what was known before is put back
pub put_own : (own : List ℕ) (s r b now : InstMap) → b ≡ seen own s → Leaves own s r → now ≡ put_all own b r → now ≡ s
put_own own s r b now before leaves is = is ∙ (ap (λ ks. put_all own ks r) before ∙ restored own s r leaves)

-- an arm leaves alone all but its own variables
pub own_leaves : (own counts : List ℕ) (s : InstMap) (c : Scope) (p : HldsGoal) (a : After) → IsLocal own counts (variables p) → goal c p s ≡ Ok a → Leaves own s a.known
own_leaves own counts s c p a h is = leaves_among (variables p) own s a.known (λ x e. h.all x e) (goal_leaves c p s a is)

pub is_arm : (k : Clause) (view : View) (vars own : List ℕ) (s r : InstMap) → IsViewOf k view vars s → Leaves own s r → IsArm view own s r
is_arm k view vars own s r h leaves = record { before = h.before; rising = h.local.rising; leaves = leaves }

-- ---- variables among others

sum_zero : (a b c : ℕ) → a ≡ b + c → a ≡ 0 → (b ≡ 0) × (c ≡ 0)
sum_zero a b c e f = (omega (arith, e, f), omega (arith, e, f))

pub among_first : (vs ws : List ℕ) → AreAmong vs (vs ++ ws)
among_first vs ws x e = (sum_zero _ _ _ (times-append x vs ws) e).0

pub among_others : (vs ws xs : List ℕ) → AreAmong vs ws → AreAmong vs (xs ++ ws)
among_others vs ws xs h x e = h x (sum_zero _ _ _ (times-append x xs ws) e).1

pub among_itself : (vs : List ℕ) → AreAmong vs vs
among_itself vs x e = e

pub among_second : (p t e : HldsGoal) → AreAmong (variables t) (variables p ++ (variables t ++ variables e))
among_second p t e = among_others (variables t) (variables t ++ variables e) (variables p) (among_first (variables t) (variables e))

pub among_third : (p t e : HldsGoal) → AreAmong (variables e) (variables p ++ (variables t ++ variables e))
among_third p t e =
    among_others (variables e) (variables t ++ variables e) (variables p) (among_others (variables e) (variables e) (variables t) (among_itself (variables e)))

pub among_goals : (gs : List Goal) (i : ℕ) (g : Goal) → i < length gs → g ≡ get_or gs i g → AreAmong (variables (goal_of g)) (goals_variables gs)
among_goals [] i g lt is = absurd (omega (arith, lt))
among_goals (h ∷ gs) zero g lt is = rw is (among_first (variables (goal_of h)) (goals_variables gs))
among_goals (h ∷ gs) (suc i) g lt is = among_others (variables (goal_of g)) (goals_variables gs) (variables (goal_of h)) (among_goals gs i g (omega (arith, lt)) is)

-- ---- what is bound, and the end of a branch

pub binds_by : (k : Clause) (view : View) (vars : List ℕ) (s r : InstMap) (strict b : Bool) → IsViewOf k view vars s → Leaves (places_of view) s r
    → binds_some (occurs view.outside) (inst_map_of view.before.now) (seen (places_of view) r) ≡ b → binds_some (outside (scope_at k strict).all vars) s r ≡ b
binds_by k view vars s r strict b h leaves e =
    binds_seen (places_of view) s r (outside (scope_at k strict).all vars) (occurs view.outside) (occurs_is k view vars s strict h) leaves
    ∙ (ap (λ ks. binds_some (occurs view.outside) ks (seen (places_of view) r)) (sym h.before) ∙ e)

-- what is so exactly is so unless memory is refused
unless_refused : (r : Result Bool ModeFault) (now : InstMap) (v : Verdict After) → ReachesExactly r now v → Reaches r now v
unless_refused (Ok reach) now v h = h
unless_refused (Err e) now v h = λ _. h

-- the code's end of a branch is that of the definition
pub branch_end : (k : Clause) (view : View) (vars : List ℕ) (s now : InstMap) (strict : Bool) (l : ℕ) (ends : List After) (r : Result Bool ModeFault) (v : Verdict After)
    → IsViewOf k view vars s → AllLeave (places_of view) s ends → v ≡ joined l (outside (scope_at k strict).all vars) s ends
    → ReachesExactly r now (put_verdict (places_of view) s (joined l (occurs view.outside) (inst_map_of view.before.now) (seen_ends (places_of view) ends)))
    → Reaches r now v
branch_end k view vars s now strict l ends r v h leave is e =
    let whole : v ≡ put_verdict (places_of view) s (joined l (occurs view.outside) (seen (places_of view) s) (seen_ends (places_of view) ends)) =
    is ∙ joined_seen l (places_of view) s ends (outside (scope_at k strict).all vars) (occurs view.outside) h.local.rising (occurs_is k view vars s strict h) leave in
    unless_refused r now v (subst (λ (w : Verdict After). ReachesExactly r now w)
    (ap (λ ks. put_verdict (places_of view) s (joined l (occurs view.outside) ks (seen_ends (places_of view) ends))) h.before ∙ sym whole) e)

-- ---- a goal's own note

state_by : (places counts vars : List ℕ) (s r : InstMap) → IsLocal places counts vars
    → some_state (seen places s) (seen places r) ≡ some_of (λ x. is_state (known_at s x) || is_state (known_at r x)) vars
state_by places counts vars s r h =
    sym (states_seen places s r) ∙ some_of_members (λ x. is_state (known_at s x) || is_state (known_at r x)) places vars (λ x e. h.only x e) (λ x e. h.all x e)

names_by : (t : GoalExpr) (places counts : List ℕ) (s r : InstMap) → IsLocal places counts (expr_variables t) → names_seen t (seen places s) (seen places r) ≡ names_state t s r
names_by (SimpleGoal g) places counts s r h = state_by places counts _ s r h
names_by (CallGoal site q ys) places counts s r h = state_by places counts _ s r h
names_by (HoCallGoal site f ys) places counts s r h = state_by places counts _ s r h
names_by (ConjGoal ps) places counts s r h = refl
names_by (DisjGoal ps) places counts s r h = refl
names_by (IfGoal p t e) places counts s r h = refl
names_by (NotGoal p) places counts s r h = state_by places counts _ s r h
names_by (SomeGoal vs p) places counts s r h = state_by places counts _ s r h

abbrev pub note_with : Option Role → List ℕ → Bool → Named → ℕ → Bool → Note
note_with role bound state named size outside = record { role = role; binds = bound; state = state; named = named; size = size; outside = outside }

-- the note of a goal, from what the code finds before and after it
pub own_note : (c : Scope) (l : ℕ) (t : GoalExpr) (places counts xs : List ℕ) (s r b a : InstMap) (reach : Bool) (role own : Option Role) (bound : List ℕ) (state out : Bool)
    (name : Named) (size : ℕ)
    → IsLocal places counts (expr_variables t) → xs ≡ places → expr c l t s ≡ Ok (after r reach) → b ≡ seen places s → a ≡ seen places r → role ≡ own
    → bound ≡ cond reach (picked xs b a) [] → state ≡ names_seen t b a → name ≡ expr_name c.program t → size ≡ goal_size (At l t)
    → out ≡ some_of (outside c.all (expr_variables t)) bound
    → note_with role bound state name size out
    ≡ note_with own (binds s (goal c (At l t) s)) (names_state t s (known_after s (goal c (At l t) s))) (expr_name c.program t) (goal_size (At l t))
    (some_of (outside c.all (expr_variables t)) (binds s (goal c (At l t) s)))
own_note c l t places counts xs s r b a reach role own bound state out name size h same is before after' roles bound-is state-is name-is size-is out-is =
    let leaves : Leaves places s r = leaves_among (expr_variables t) places s r (λ x e. h.all x e) (expr_leaves c l t s (after r reach) is) in
    let all : bound ≡ binds s (goal c (At l t) s) = bound-is ∙ rw (same, before, after', is, newly_seen places s r h.rising leaves) refl in
    let states : state ≡ names_state t s (known_after s (goal c (At l t) s)) = state-is ∙ rw (before, after', is, names_by t places counts s r h) refl in
    rw (roles, states, name-is, size-is, out-is, all) refl

-- the counts of a clause, as the view has them
pub view_counts : (k : Clause) (view : View) (vars : List ℕ) (s : InstMap) (strict : Bool) → IsViewOf k view vars s → AreCounts view.outside.all.now (scope_at k strict).all
view_counts k view vars s strict h = subst (λ (cs : List ℕ). AreCounts cs (scope_at k strict).all) (sym h.all) k.counted

-- a view of variables that are those of a goal
pub view_along : (k : Clause) (view : View) (vs ws : List ℕ) (s : InstMap) → vs ≡ ws → IsViewOf k view vs s → IsViewOf k view ws s
view_along k view vs ws s e h = subst (λ (vars : List ℕ). IsViewOf k view vars s) e h

-- the arms so far, by what is known before the branch and by the code's view of that
pub ends_seen : (k : Clause) (view : View) (vars : List ℕ) (s : InstMap) (p : ℕ → Bool) (j : Option Joined) (ends : List After) → IsViewOf k view vars s
    → Ends p (inst_map_of view.before.now) j ends → Ends p (seen (places_of view) s) j ends
ends_seen k view vars s p j ends h e = subst (λ (b : InstMap). Ends p b j ends) h.before e

pub ends_viewed : (k : Clause) (view : View) (vars : List ℕ) (s : InstMap) (p : ℕ → Bool) (j : Option Joined) (ends : List After) → IsViewOf k view vars s
    → Ends p (seen (places_of view) s) j ends → Ends p (inst_map_of view.before.now) j ends
ends_viewed k view vars s p j ends h e = subst (λ (b : InstMap). Ends p b j ends) (sym h.before) e

-- what is known at the end of a branch, where what is known before it has been put back
pub reaches_from : (r : Result Bool ModeFault) (now b s : InstMap) (xs : List ℕ) (v : Verdict After) → b ≡ s → ReachesExactly r now (put_verdict xs b v) → ReachesExactly r now (put_verdict xs s v)
reaches_from r now b s xs v e h = subst (λ (k : InstMap). ReachesExactly r now (put_verdict xs k v)) e h
