-- Each text in a goal of a program, and each by which a switch goes on, is one of the program's literals.
use Rattle.std.proofs.Common.{◌≡◌, refl, sym, subst, arith, ℕ, zero, suc, ◌+◌, Bool, true, false, cond, List, [], ◌∷◌, ◌++◌, length, Option, Some, None, slice_get}
use Rattle.md_hlds.specs.declared.goal.Term.{Term}
use Rattle.md_hlds.specs.declared.goal.Term.TheVariants.{Var, Int, Str, Name}
use Rattle.md_hlds.specs.HldsGoal.{Simple, Succeeds, Fails, Unifies, Computes, Compares, WritesInt, WritesText, EndsLine, Raises, HldsGoal, At, GoalExpr, SimpleGoal, CallGoal, HoCallGoal, ConjGoal, DisjGoal, IfGoal, NotGoal, SomeGoal, HldsGoals, nothing, also, goal_size, goals_within, goals_below, goals_among}
use Rattle.md_hlds.specs.Hlds.{Procedure, Hlds, clause_goals, is_functor}
use Rattle.md_hlds.specs.Switch.{Key, IntKey, TextKey, FunctorKey, term_key, keys_of, switch_shape}
use Rattle.md_switch.proofs.Tells.{length-within}
use Rattle.law_safety.proofs.SwitchLemmas as switches
use Rattle.law_safety.proofs.SwitchLemmas.{first_keys}
use Rattle.md_code.specs.Tables.{with_goal, with_expr, with_goals, with_clauses}
use Rattle.md_code.specs.Blocks.{keys_of_shape, shape_keys}
use Rattle.law_flat.specs.Flat.{StandsFrom}
use Rattle.law_flat.specs.Keyed.{IsLiteral, HasLiterals, AreLiterals}
use Rattle.law_flat.proofs.Lists.{stands_left, stands_right}
use Rattle.law_flat.proofs.Literals.{IsAmong, among_with, among_more, goal_keeps, goals_keep, clauses_keep}
use Rattle.law_flat.proofs.Keys.{IsTest, BeginsWith, alone, first, arm_begins}

-- ---- the texts of these goals are among these literals

abbrev AreAmong : List HldsGoal → List (List ℕ) → Type 0
AreAmong gs ls = (i l x : ℕ) (b : List ℕ) → slice_get gs i ≡ Some (At l (SimpleGoal (Unifies x (Str b)))) → IsAmong b ls

among_both : (gs hs : List HldsGoal) (ls : List (List ℕ)) → AreAmong gs ls → AreAmong hs ls → AreAmong (gs ++ hs) ls
among_both [] hs ls left right i l x b h = right i l x b h
among_both (g ∷ gs) hs ls left right zero l x b h = left 0 l x b h
among_both (g ∷ gs) hs ls left right (suc i) l x b h = among_both gs hs ls (λ j. left (suc j)) right i l x b h

among_front : (g : HldsGoal) (gs : List HldsGoal) (ls : List (List ℕ)) → ((l x : ℕ) (b : List ℕ) → g ≡ At l (SimpleGoal (Unifies x (Str b))) → IsAmong b ls) → AreAmong gs ls → AreAmong (g ∷ gs) ls
among_front g gs ls own rest zero l x b h = own l x b (cc h)
among_front g gs ls own rest (suc i) l x b h = rest i l x b h

-- more literals, of a goal or of several
behind_goal : (gs : List HldsGoal) (ls : List (List ℕ)) (g : HldsGoal) → AreAmong gs ls → AreAmong gs (with_goal ls g)
behind_goal gs ls g h i l x b is = goal_keeps (λ ms. IsAmong b ms) (among_more b) ls g (h i l x b is)

behind_goals : (gs : List HldsGoal) (ls : List (List ℕ)) (ps : HldsGoals) → AreAmong gs ls → AreAmong gs (with_goals ls ps)
behind_goals gs ls ps h i l x b is = goals_keep (λ ms. IsAmong b ms) (among_more b) ls ps (h i l x b is)

text_among : (ls : List (List ℕ)) (k : ℕ) (t : GoalExpr) (l x : ℕ) (b : List ℕ) → At k t ≡ At l (SimpleGoal (Unifies x (Str b))) → IsAmong b (with_expr ls t)
text_among ls k t l x b h = let e : t ≡ SimpleGoal (Unifies x (Str b)) = cc h in subst (λ (u : GoalExpr). IsAmong b (with_expr ls u)) (sym e) (among_with ls b)

mutual
  goal_among : (ls : List (List ℕ)) (g : HldsGoal) → AreAmong (goals_within g) (with_goal ls g)
  goal_among ls (At l t) = among_front (At l t) (goals_below t) (with_expr ls t) (text_among ls l t) (below_among ls t)

  below_among : (ls : List (List ℕ)) (t : GoalExpr) → AreAmong (goals_below t) (with_expr ls t)
  below_among ls (SimpleGoal g) = λ i l x b h. absurd (cc h)
  below_among ls (CallGoal site q ys) = λ i l x b h. absurd (cc h)
  below_among ls (HoCallGoal site f ys) = λ i l x b h. absurd (cc h)
  below_among ls (ConjGoal ps) = goals_are_among ls ps
  below_among ls (DisjGoal ps) = goals_are_among ls ps
  below_among ls (IfGoal c t e) =
      let one = with_goal ls c in
      let two = with_goal one t in
      among_both (goals_within c) (goals_within t ++ goals_within e) (with_goal two e) (behind_goal (goals_within c) two e (behind_goal (goals_within c) one t (goal_among ls c)))
      (among_both (goals_within t) (goals_within e) (with_goal two e) (behind_goal (goals_within t) two e (goal_among one t)) (goal_among two e))
  below_among ls (NotGoal c) = goal_among ls c
  below_among ls (SomeGoal vs c) = goal_among ls c

  goals_are_among : (ls : List (List ℕ)) (ps : HldsGoals) → AreAmong (goals_among ps) (with_goals ls ps)
  goals_are_among ls nothing = λ i l x b h. absurd (cc h)
  goals_are_among ls (also p ps) =
      among_both (goals_within p) (goals_among ps) (with_goals (with_goal ls p) ps) (behind_goals (goals_within p) (with_goal ls p) ps (goal_among ls p)) (goals_are_among (with_goal ls p) ps)

clauses_among : (ls : List (List ℕ)) (ps : List Procedure) → AreAmong (clause_goals ps) (with_clauses ls ps)
clauses_among ls [] = λ i l x b h. absurd (cc h)
clauses_among ls (p ∷ ps) =
    among_both (goals_within p.body) (clause_goals ps) (with_clauses (with_goal ls p.body) ps)
    (λ i l x b h. clauses_keep (λ ms. IsAmong b ms) (among_more b) (with_goal ls p.body) ps (goal_among ls p.body i l x b h)) (clauses_among (with_goal ls p.body) ps)

text_there : (s : Hlds) (n l x : ℕ) (b : List ℕ) → slice_get (clause_goals s.procedures) n ≡ Some (At l (SimpleGoal (Unifies x (Str b)))) → IsLiteral s b
text_there s n l x b h = clauses_among [] s.procedures n l x b h

-- ---- a simple goal

pub simple_literals : (s : Hlds) (n l : ℕ) (g : Simple) → slice_get (clause_goals s.procedures) n ≡ Some (At l (SimpleGoal g)) → HasLiterals s g
simple_literals s n l (Unifies x (Var y)) h = tt
simple_literals s n l (Unifies x (Int i)) h = tt
simple_literals s n l (Unifies x (Str b)) h = text_there s n l x b h
simple_literals s n l (Unifies x (Name q ys)) h = tt
simple_literals s n l Succeeds h = tt
simple_literals s n l Fails h = tt
simple_literals s n l (Computes z a op b) h = tt
simple_literals s n l (Compares a c b) h = tt
simple_literals s n l (WritesInt y a b) h = tt
simple_literals s n l (WritesText y a b) h = tt
simple_literals s n l (EndsLine a b) h = tt
simple_literals s n l (Raises y) h = tt

-- ---- the keys of a switch

with_key : (s : Hlds) (k : Key) (ks : List Key) → ((b : List ℕ) → k ≡ TextKey b → IsLiteral s b) → AreLiterals s ks → AreLiterals s (k ∷ ks)
with_key s (IntKey i) ks own rest = rest
with_key s (TextKey b) ks own rest = (own b refl, rest)
with_key s (FunctorKey f arity) ks own rest = rest

term_text : (s : Hlds) (n l x : ℕ) (t : Term) (b : List ℕ) → slice_get (clause_goals s.procedures) n ≡ Some (At l (SimpleGoal (Unifies x t))) → term_key s t ≡ Some (TextKey b) → IsLiteral s b
term_text s n l x (Var y) b h k = absurd (cc k)
term_text s n l x (Int i) b h k = absurd (cc k)
term_text s n l x (Str c) b h k = let e : c ≡ b = cc k in subst (λ (d : List ℕ). IsLiteral s d) e (text_there s n l x c h)
term_text s n l x (Name q ys) b h k = no_text (is_functor s q (length ys)) k
  where
    no_text : (f : Bool) → cond f (Some (FunctorKey q.name (length ys))) None ≡ Some (TextKey b) → IsLiteral s b
    no_text true e = absurd (cc e)
    no_text false e = absurd (cc e)

-- the unification with which an arm begins is one of the program
test_text : (s : Hlds) (n : ℕ) (p : HldsGoal) (x : ℕ) (k : Key) (b : List ℕ) → StandsFrom (clause_goals s.procedures) n (goals_within p) → IsTest s p x k → k ≡ TextKey b → IsLiteral s b
test_text s n p x k b h t e =
    let there = subst (λ (g : HldsGoal). StandsFrom (clause_goals s.procedures) n (goals_within g)) t.is h in
    term_text s n t.line x t.term b there.0 (subst (λ (j : Key). term_key s t.term ≡ Some j) e t.key)

arm_text : (s : Hlds) (n : ℕ) (p : HldsGoal) (x : ℕ) (k : Key) (b : List ℕ) → StandsFrom (clause_goals s.procedures) n (goals_within p) → BeginsWith s p x k → k ≡ TextKey b → IsLiteral s b
arm_text s n p x k b h (alone t) e = test_text s n p x k b h t e
arm_text s n p x k b h (first line part others is t) e =
    let there = subst (λ (g : HldsGoal). StandsFrom (clause_goals s.procedures) n (goals_within g)) is h in
    test_text s (suc n) part x k b (stands_left _ (suc n) (goals_within part) (goals_among others) there.1) t e

arms_texts : (s : Hlds) (n x : ℕ) (ps : HldsGoals) (keys : List Key) → StandsFrom (clause_goals s.procedures) n (goals_among ps) → keys_of s x ps ≡ Some keys → AreLiterals s keys
arms_texts s n x nothing keys h is = let none : [] ≡ keys = cc is in subst (λ (ks : List Key). AreLiterals s ks) none tt
arms_texts s n x (also p ps) keys h is =
    let r = first_keys s x p ps keys is in
    let size = length-within p in
    subst (λ (ks : List Key). AreLiterals s ks) (sym r.is)
    (with_key s r.first r.rest (λ b e. arm_text s n p x r.first b (stands_left _ n (goals_within p) (goals_among ps) h) (arm_begins s p x r.first r.arm) e)
    (arms_texts s (n + goal_size p) x ps r.rest (stands_right _ n (n + goal_size p) (goals_within p) (goals_among ps) (omega (arith, size)) h) r.others))

pub switch_literals : (s : Hlds) (n : ℕ) (ps : HldsGoals) → StandsFrom (clause_goals s.procedures) n (goals_among ps) → AreLiterals s (shape_keys s ps)
switch_literals s n ps h = by_shape (switch_shape s ps) refl
  where
    by_shape : (o : Option (ℕ × List Key)) → switch_shape s ps ≡ o → AreLiterals s (keys_of_shape o)
    by_shape None is = tt
    by_shape (Some k) is = arms_texts s n k.0 ps k.1 h (switches.shape_keys s ps k.0 k.1 is)
