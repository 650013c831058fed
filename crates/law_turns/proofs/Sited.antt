-- The goal of a call stands where its site is looked up, since the goals of a program name its sites in text order.
use Rattle.std.proofs.Common.{◌≡◌, refl, sym, ap, ◌∙◌, subst, arith, ℕ, zero, suc, ◌+◌, ◌≤◌, true, false, nat_eq, List, [], ◌∷◌, ◌++◌, map, Option, Some, slice_get, append_assoc}
use Rattle.std.proofs.lemmas.Bool.{eqb-true, ne_eqb}
use Rattle.std.specs.Prelude.{⊤}
use Rattle.md_hlds.specs.HldsGoal.{HldsGoal, At, GoalExpr, SimpleGoal, CallGoal, HoCallGoal, ConjGoal, DisjGoal, IfGoal, NotGoal, SomeGoal, HldsGoals, nothing, also, goal_size, goals_within, goals_below, goals_among}
use Rattle.md_hlds.specs.Hlds.{Procedure, Hlds, clause_goals}
use Rattle.md_trace.specs.PortHistory.{CallSite}
use Rattle.md_det.specs.declared.finding.Finding.{Finding}
use Rattle.md_det.specs.Findings.{program_findings, switch_at}
use Rattle.law_events.specs.Table.{goal_sites, expr_sites, goals_sites, clause_sites, program_sites, AreNumberedFrom, HasSites}
use Rattle.law_turns.proofs.Spots.{Cause, ByTurn, ByEnd, ByChoice, ByCall, Effect, Begins, Ends, Picks, ExitsOf, Spot, How, how_of, later, arm_begun, part_ended, spots_in, spots_below, part_spots, arm_spots, clause_spots, spots, spot, spot_is}
use Rattle.law_turns.proofs.Flow.{is_at_site, find_site}
use Rattle.law_turns.proofs.TraceFlow.{AreSited}

-- ---- the goals of the table

abbrev goal_in : Spot → HldsGoal
goal_in x = x.goal

goals_append : (xs ys : List Spot) → map goal_in (xs ++ ys) ≡ map goal_in xs ++ map goal_in ys
goals_append [] ys = refl
goals_append (x ∷ xs) ys = ap (λ zs. x.goal ∷ zs) (goals_append xs ys)

two_lists : {A : Type 0} (a b c d : List A) → a ≡ c → b ≡ d → a ++ b ≡ c ++ d
two_lists a b c d e f = rw (e, f) refl

mutual
  goals_in : (fs : List Finding) (n : ℕ) (b : List Cause) (e : List Effect) (p : HldsGoal) → map goal_in (spots_in fs n b e p) ≡ goals_within p
  goals_in fs n b e (At l t) = ap (λ zs. At l t ∷ zs) (goals_in_expr fs n t)

  goals_in_expr : (fs : List Finding) (n : ℕ) (t : GoalExpr) → map goal_in (spots_below fs n t) ≡ goals_below t
  goals_in_expr fs n (SimpleGoal g) = refl
  goals_in_expr fs n (CallGoal site q ys) = refl
  goals_in_expr fs n (HoCallGoal site f ys) = refl
  goals_in_expr fs n (ConjGoal ps) = goals_in_parts fs n (ByTurn n) (suc n) ps
  goals_in_expr fs n (DisjGoal ps) = goals_in_arms fs n (how_of (switch_at fs n)) (suc n) ps
  goals_in_expr fs n (IfGoal c t e) =
      let m : ℕ = suc n + goal_size c in let k : ℕ = suc n + goal_size c + goal_size t in
      let xs : List Spot = spots_in fs (suc n) (ByTurn n ∷ []) (Begins m ∷ []) c in
      let ys : List Spot = spots_in fs m (ByEnd (suc n) ∷ ByChoice n m ∷ []) (Ends n m ∷ []) t in
      let zs : List Spot = spots_in fs k (ByChoice n k ∷ []) (Ends n k ∷ []) e in
      goals_append xs (ys ++ zs)
      ∙ two_lists (map goal_in xs) (map goal_in (ys ++ zs)) (goals_within c) (goals_within t ++ goals_within e)
      (goals_in fs (suc n) (ByTurn n ∷ []) (Begins m ∷ []) c)
      (goals_append ys zs ∙ two_lists (map goal_in ys) (map goal_in zs) (goals_within t) (goals_within e)
      (goals_in fs m (ByEnd (suc n) ∷ ByChoice n m ∷ []) (Ends n m ∷ []) t) (goals_in fs k (ByChoice n k ∷ []) (Ends n k ∷ []) e))
  goals_in_expr fs n (NotGoal c) = goals_in fs (suc n) (ByTurn n ∷ []) (Picks n (suc n) ∷ []) c
  goals_in_expr fs n (SomeGoal vs c) = goals_in fs (suc n) (ByTurn n ∷ []) (Ends n (suc n) ∷ []) c

  goals_in_parts : (fs : List Finding) (n : ℕ) (by : Cause) (m : ℕ) (ps : HldsGoals) → map goal_in (part_spots fs n by m ps) ≡ goals_among ps
  goals_in_parts fs n by m nothing = refl
  goals_in_parts fs n by m (also p ps) =
      let xs : List Spot = spots_in fs m (by ∷ []) (part_ended n m (m + goal_size p) ps) p in
      let ys : List Spot = part_spots fs n (ByEnd m) (m + goal_size p) ps in
      goals_append xs ys ∙ two_lists (map goal_in xs) (map goal_in ys) (goals_within p) (goals_among ps)
      (goals_in fs m (by ∷ []) (part_ended n m (m + goal_size p) ps) p) (goals_in_parts fs n (ByEnd m) (m + goal_size p) ps)

  goals_in_arms : (fs : List Finding) (n : ℕ) (how : How) (m : ℕ) (ps : HldsGoals) → map goal_in (arm_spots fs n how m ps) ≡ goals_among ps
  goals_in_arms fs n how m nothing = refl
  goals_in_arms fs n how m (also p ps) =
      let xs : List Spot = spots_in fs m (arm_begun n m how) (Ends n m ∷ []) p in
      let ys : List Spot = arm_spots fs n (later how) (m + goal_size p) ps in
      goals_append xs ys ∙ two_lists (map goal_in xs) (map goal_in ys) (goals_within p) (goals_among ps)
      (goals_in fs m (arm_begun n m how) (Ends n m ∷ []) p) (goals_in_arms fs n (later how) (m + goal_size p) ps)

goals_in_clauses : (fs : List Finding) (q n : ℕ) (ps : List Procedure) → map goal_in (clause_spots fs q n ps) ≡ clause_goals ps
goals_in_clauses fs q n [] = refl
goals_in_clauses fs q n (p ∷ ps) =
    let xs : List Spot = spots_in fs n (ByCall q ∷ []) (ExitsOf q ∷ []) p.body in
    let ys : List Spot = clause_spots fs (suc q) (n + goal_size p.body) ps in
    goals_append xs ys ∙ two_lists (map goal_in xs) (map goal_in ys) (goals_within p.body) (clause_goals ps)
    (goals_in fs n (ByCall q ∷ []) (ExitsOf q ∷ []) p.body) (goals_in_clauses fs (suc q) (n + goal_size p.body) ps)

-- ---- their sites

abbrev own_sites : GoalExpr → List ℕ
own_sites (CallGoal site q ys) = site ∷ []
own_sites (HoCallGoal site f ys) = site ∷ []
own_sites t = []

abbrev sites_among : List HldsGoal → List ℕ
sites_among [] = []
sites_among (At l t ∷ gs) = own_sites t ++ sites_among gs

abbrev site_in : ℕ × CallSite → ℕ
site_in x = x.0

sites_append : (gs hs : List HldsGoal) → sites_among (gs ++ hs) ≡ sites_among gs ++ sites_among hs
sites_append [] hs = refl
sites_append (At l t ∷ gs) hs = ap (λ zs. own_sites t ++ zs) (sites_append gs hs) ∙ sym (append_assoc (own_sites t) (sites_among gs) (sites_among hs))

firsts_append : (xs ys : List (ℕ × CallSite)) → map site_in (xs ++ ys) ≡ map site_in xs ++ map site_in ys
firsts_append [] ys = refl
firsts_append (x ∷ xs) ys = ap (λ zs. x.0 ∷ zs) (firsts_append xs ys)

-- the sites of two lists of goals
both_sites : (gs hs : List HldsGoal) (xs ys : List (ℕ × CallSite)) → sites_among gs ≡ map site_in xs → sites_among hs ≡ map site_in ys → sites_among (gs ++ hs) ≡ map site_in (xs ++ ys)
both_sites gs hs xs ys a b = sites_append gs hs ∙ (two_lists (sites_among gs) (sites_among hs) (map site_in xs) (map site_in ys) a b ∙ sym (firsts_append xs ys))

mutual
  sites_in : (s : Hlds) (q : ℕ) (p : HldsGoal) → sites_among (goals_within p) ≡ map site_in (goal_sites s q p)
  sites_in s q (At l t) = sites_in_expr s q t

  sites_in_expr : (s : Hlds) (q : ℕ) (t : GoalExpr) → own_sites t ++ sites_among (goals_below t) ≡ map site_in (expr_sites s q t)
  sites_in_expr s q (SimpleGoal g) = refl
  sites_in_expr s q (CallGoal site name ys) = refl
  sites_in_expr s q (HoCallGoal site f ys) = refl
  sites_in_expr s q (ConjGoal ps) = sites_in_goals s q ps
  sites_in_expr s q (DisjGoal ps) = sites_in_goals s q ps
  sites_in_expr s q (IfGoal c t e) =
      both_sites (goals_within c) (goals_within t ++ goals_within e) (goal_sites s q c) (goal_sites s q t ++ goal_sites s q e) (sites_in s q c)
      (both_sites (goals_within t) (goals_within e) (goal_sites s q t) (goal_sites s q e) (sites_in s q t) (sites_in s q e))
  sites_in_expr s q (NotGoal c) = sites_in s q c
  sites_in_expr s q (SomeGoal vs c) = sites_in s q c

  sites_in_goals : (s : Hlds) (q : ℕ) (ps : HldsGoals) → sites_among (goals_among ps) ≡ map site_in (goals_sites s q ps)
  sites_in_goals s q nothing = refl
  sites_in_goals s q (also p ps) = both_sites (goals_within p) (goals_among ps) (goal_sites s q p) (goals_sites s q ps) (sites_in s q p) (sites_in_goals s q ps)

sites_in_clauses : (s : Hlds) (q : ℕ) (ps : List Procedure) → sites_among (clause_goals ps) ≡ map site_in (clause_sites s q ps)
sites_in_clauses s q [] = refl
sites_in_clauses s q (p ∷ ps) = both_sites (goals_within p.body) (clause_goals ps) (goal_sites s q p.body) (clause_sites s (suc q) ps) (sites_in s q p.body) (sites_in_clauses s (suc q) ps)

-- ---- in order

abbrev InOrder : ℕ → List ℕ → Type 0
InOrder n [] = ⊤
InOrder n (x ∷ xs) = (x ≡ n) × InOrder (suc n) xs

in_order : (n : ℕ) (xs : List (ℕ × CallSite)) → AreNumberedFrom n xs → InOrder n (map site_in xs)
in_order n [] h = tt
in_order n (x ∷ xs) h = (h.0, in_order (suc n) xs h.1)

same_expr : (k l : ℕ) (u t : GoalExpr) (x : ℕ) → ◌≡◌ {A = Option HldsGoal} (Some (At k u)) (Some (At l t)) → is_at_site x t ≡ true → is_at_site x u ≡ true
same_expr k l u t x at is = let same : u ≡ t = cc at in rw same is

-- no goal's site is below the first
not_before : (n : ℕ) (gs : List HldsGoal) (i l : ℕ) (t : GoalExpr) (x : ℕ) → InOrder n (sites_among gs) → slice_get gs i ≡ Some (At l t) → is_at_site x t ≡ true → n ≤ x
not_before n [] i l t x order at is = absurd (cc at)
not_before n (At k (CallGoal site q ys) ∷ gs) zero l t x order at is =
    let here : is_at_site x (CallGoal site q ys) ≡ true = same_expr k l (CallGoal site q ys) t x at is in
    let number : site ≡ x = eqb-true site x here in
    let first : site ≡ n = order.0 in omega (arith, number, first)
not_before n (At k (HoCallGoal site f ys) ∷ gs) zero l t x order at is =
    let here : is_at_site x (HoCallGoal site f ys) ≡ true = same_expr k l (HoCallGoal site f ys) t x at is in
    let number : site ≡ x = eqb-true site x here in
    let first : site ≡ n = order.0 in omega (arith, number, first)
not_before n (At k u ∷ gs) zero l t x order at is =
    let here = same_expr k l u t x at is in
    absurd (cc here)
not_before n (At k (CallGoal site q ys) ∷ gs) (suc i) l t x order at is = let more = not_before (suc n) gs i l t x order.1 at is in omega (arith, more)
not_before n (At k (HoCallGoal site f ys) ∷ gs) (suc i) l t x order at is = let more = not_before (suc n) gs i l t x order.1 at is in omega (arith, more)
not_before n (At k u ∷ gs) (suc i) l t x order at is = not_before n gs i l t x order at is

found_there : (n m : ℕ) (gs : List HldsGoal) (i l : ℕ) (t : GoalExpr) (x : ℕ) → InOrder n (sites_among gs) → slice_get gs i ≡ Some (At l t) → is_at_site x t ≡ true → find_site x m gs ≡ m + i
found_there n m [] i l t x order at is = absurd (cc at)
found_there n m (At k u ∷ gs) zero l t x order at is =
    let here : is_at_site x u ≡ true = same_expr k l u t x at is in
    rw here (omega arith)
found_there n m (At k (CallGoal site q ys) ∷ gs) (suc i) l t x order at is =
    let after = not_before (suc n) gs i l t x order.1 at is in
    let first : site ≡ n = order.0 in
    let other : nat_eq site x ≡ false = ne_eqb site x (λ e. absurd (omega (arith, e, after, first))) in
    let more = found_there (suc n) (suc m) gs i l t x order.1 at is in
    rw (other, more) (omega arith)
found_there n m (At k (HoCallGoal site f ys) ∷ gs) (suc i) l t x order at is =
    let after = not_before (suc n) gs i l t x order.1 at is in
    let first : site ≡ n = order.0 in
    let other : nat_eq site x ≡ false = ne_eqb site x (λ e. absurd (omega (arith, e, after, first))) in
    let more = found_there (suc n) (suc m) gs i l t x order.1 at is in
    rw (other, more) (omega arith)
found_there n m (At k u ∷ gs) (suc i) l t x order at is = let more = found_there n (suc m) gs i l t x order at is in omega (arith, more)

goal_mapped : (xs : List Spot) (i : ℕ) (x : Spot) → slice_get xs i ≡ Some x → slice_get (map goal_in xs) i ≡ Some x.goal
goal_mapped [] i x is = absurd (cc is)
goal_mapped (y ∷ xs) zero x is = let same : y ≡ x = cc is in ap (λ (z : Spot). Some z.goal) same
goal_mapped (y ∷ xs) (suc i) x is = goal_mapped xs i x is

pub are_sited : (s : Hlds) → HasSites s → AreSited s
are_sited s has n l b d t x at is =
    let here : slice_get (clause_goals s.procedures) n ≡ Some (At l t) =
    subst (λ (gs : List HldsGoal). slice_get gs n ≡ Some (At l t)) (goals_in_clauses (program_findings s) 0 0 s.procedures) (goal_mapped (spots s) n (spot b d (At l t)) (spot_is s n b d (At l t) at)) in
    let order : InOrder 0 (sites_among (clause_goals s.procedures)) =
    subst (λ (xs : List ℕ). InOrder 0 xs) (sym (sites_in_clauses s 0 s.procedures)) (in_order 0 (program_sites s) has) in
    let found = found_there 0 0 (clause_goals s.procedures) n l t x order here is in
    omega (arith, found)
