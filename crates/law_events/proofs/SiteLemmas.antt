-- A program's site table: each site stands under the number that its goal names, and names procedures of the program.
use Rattle.std.specs.Prelude.{⊤}
use Rattle.std.proofs.Common.{All, IfSome, ◌≡◌, refl, sym, ap, ◌∙◌, subst, ℕ, zero, suc, ◌+◌, ◌<◌, ◌≤◌, Bool, true, false, cond, List, [], ◌∷◌, ◌++◌, length, map, Option, Some, None, slice_get, arith}
use Rattle.md_hlds.specs.declared.goal.PredName.{PredName}
use Rattle.md_hlds.specs.HldsGoal.{HldsGoal, At, GoalExpr, SimpleGoal, CallGoal, HoCallGoal, ConjGoal, DisjGoal, IfGoal, NotGoal, SomeGoal, HldsGoals, nothing, also, site_lines, expr_lines, goals_lines}
use Rattle.md_hlds.specs.Hlds.{Hlds, Procedure, is_called, find_procedure, procedure_called, numbered, nth_procedure, owned_by, sites_from}
use Rattle.md_hlds.specs.Run.{main_name}
use Rattle.md_trace.specs.PortHistory.{CallSite, SiteTable}
use Rattle.md_trace.proofs.Lists.{get-within}
use Rattle.law_events.specs.Table.{number_of, goal_sites, expr_sites, goals_sites, clause_sites, program_sites, number_or_zero, site_alone, site_table, AreNumberedFrom, HasSites, HasMain}
use Rattle.law_events.specs.Laws.{ProgramsHaveTables, OwnersAgree, owner_of_site, owner_of_pair}
use Rattle.law_events.proofs.Callers.{ArePlaced, placed_first, placed_second}
use Rattle.law_events.proofs.TraceLaw.{IsTableOf}

-- ---- procedures that are looked up

-- a procedure with its number stands at its place in the list, the first of which has the number n
abbrev StandsIn : ℕ → List Procedure → ℕ × Procedure → Type 0
StandsIn n ps r = (i : ℕ) × (r.0 ≡ n + i) × (slice_get ps i ≡ Some r.1)

found_choice : (here : Bool) (n : ℕ) (p : Procedure) (ps : List Procedure) (later : Option (ℕ × Procedure)) (r : ℕ × Procedure)
    → (later ≡ Some r → StandsIn (suc n) ps r) → cond here (Some (n, p)) later ≡ Some r → StandsIn n (p ∷ ps) r
found_choice true n p ps later r rest is =
    let same : r ≡ (n, p) = cc in
    (0, omega (arith, ap (λ (x : ℕ × Procedure). x.0) same), ap (λ (x : ℕ × Procedure). Some x.1) (sym same))
found_choice false n p ps later r rest is = let found = rest is in (suc found.0, omega (arith, found.1), found.2)

found_in : (q : PredName) (n : ℕ) (ps : List Procedure) (r : ℕ × Procedure) → find_procedure q n ps ≡ Some r → StandsIn n ps r
found_in q n [] r is = absurd (cc)
found_in q n (p ∷ ps) r is = found_choice (is_called q p) n p ps (find_procedure q (suc n) ps) r (λ later. found_in q (suc n) ps r later) is

-- a procedure that is called by a name, or named by a number, stands under its number
pub found_by_name : (s : Hlds) (q : PredName) (r : ℕ × Procedure) → procedure_called s q ≡ Some r → slice_get s.procedures r.0 ≡ Some r.1
found_by_name s q r is = let found = found_in q 0 s.procedures r is in let same : r.0 ≡ found.0 = omega (arith, found.1) in rw same found.2

found_at : (n : ℕ) (o : Option Procedure) (r : ℕ × Procedure) → numbered n o ≡ Some r → (r.0 ≡ n) × (o ≡ Some r.1)
found_at n None r is = absurd (cc)
found_at n (Some p) r is = let same : r ≡ (n, p) = cc in (ap (λ (x : ℕ × Procedure). x.0) same, ap (λ (x : ℕ × Procedure). Some x.1) (sym same))

pub found_by_number : (s : Hlds) (n : ℕ) (r : ℕ × Procedure) → nth_procedure s n ≡ Some r → slice_get s.procedures r.0 ≡ Some r.1
found_by_number s n r is = let found = found_at n (slice_get s.procedures n) r is in rw found.0 found.1

-- ---- places

-- sites that are numbered from n on, where a table has them from n on
placed_from : (t : SiteTable) (n : ℕ) (xs : List (ℕ × CallSite)) → AreNumberedFrom n xs → ((i m : ℕ) → m ≡ n + i → slice_get t.sites m ≡ slice_get (map site_alone xs) i) → ArePlaced t xs
placed_from t n [] counted at = tt
placed_from t n (x ∷ xs) counted at = (at 0 x.0 (omega (arith, counted.0)), placed_from t (suc n) xs counted.1 (λ i m is. at (suc i) m (omega (arith, is))))

placed_program : (s : Hlds) → HasSites s → ArePlaced (site_table s) (program_sites s)
placed_program s has = placed_from (site_table s) 0 (program_sites s) has (λ i m is. let same : m ≡ i = omega (arith, is) in rw same refl)

-- the sites of one clause are among those of all
placed_clause : (s : Hlds) (t : SiteTable) (m i n : ℕ) (ps : List Procedure) (p : Procedure) → n ≡ m + i → slice_get ps i ≡ Some p → ArePlaced t (clause_sites s m ps) → ArePlaced t (goal_sites s n p.body)
placed_clause s t m i n [] p at is placed = absurd (cc)
placed_clause s t m zero n (x ∷ ps) p at is placed =
    let same : x ≡ p = cc in
    let here : n ≡ m = omega (arith, at) in
    rw here (subst (λ (y : Procedure). ArePlaced t (goal_sites s m y.body)) same (placed_first t (goal_sites s m x.body) (clause_sites s (suc m) ps) placed))
placed_clause s t m (suc i) n (x ∷ ps) p at is placed =
    placed_clause s t (suc m) i n ps p (omega (arith, at)) is (placed_second t (goal_sites s m x.body) (clause_sites s (suc m) ps) placed)

pub table_of : (s : Hlds) → HasSites s → IsTableOf s (site_table s)
table_of s has = record {
  clauses = λ n p is. placed_clause s (site_table s) 0 n n s.procedures p (omega arith) is (placed_program s has);
  below = λ n p is. get-within s.procedures n p is;
  found = λ name q is. found_by_name s name q is;
  nth = λ n q is. found_by_number s n q is;
}

-- ---- a site table

-- each of these sites names procedures below n
abbrev AreBelow : ℕ → List (ℕ × CallSite) → Type 0
AreBelow n [] = ⊤
AreBelow n (x ∷ xs) = (x.1.owner < n) × IfSome x.1.callee (λ q. q < n) × AreBelow n xs

below_append : (n : ℕ) (xs ys : List (ℕ × CallSite)) → AreBelow n xs → AreBelow n ys → AreBelow n (xs ++ ys)
below_append n [] ys a b = b
below_append n (x ∷ xs) ys a b = (a.0, a.1, below_append n xs ys a.2 b)

called_below : (n : ℕ) (o : Option (ℕ × Procedure)) → ((r : ℕ × Procedure) → o ≡ Some r → r.0 < n) → IfSome (number_of o) (λ q. q < n)
called_below n None below = tt
called_below n (Some r) below = below r refl

mutual
  below_goal : (s : Hlds) (owner : ℕ) (g : HldsGoal) → owner < length s.procedures → AreBelow (length s.procedures) (goal_sites s owner g)
  below_goal s owner (At line x) lt = below_expr s owner x lt

  below_expr : (s : Hlds) (owner : ℕ) (x : GoalExpr) → owner < length s.procedures → AreBelow (length s.procedures) (expr_sites s owner x)
  below_expr s owner (SimpleGoal g) lt = tt
  below_expr s owner (CallGoal site q ys) lt = (lt, called_below (length s.procedures) (procedure_called s q) (λ r is. get-within s.procedures r.0 r.1 (found_by_name s q r is)), tt)
  below_expr s owner (HoCallGoal site f ys) lt = (lt, tt, tt)
  below_expr s owner (ConjGoal ps) lt = below_goals s owner ps lt
  below_expr s owner (DisjGoal ps) lt = below_goals s owner ps lt
  below_expr s owner (IfGoal c t e) lt =
      below_append (length s.procedures) (goal_sites s owner c) (goal_sites s owner t ++ goal_sites s owner e) (below_goal s owner c lt)
      (below_append (length s.procedures) (goal_sites s owner t) (goal_sites s owner e) (below_goal s owner t lt) (below_goal s owner e lt))
  below_expr s owner (NotGoal c) lt = below_goal s owner c lt
  below_expr s owner (SomeGoal vs c) lt = below_goal s owner c lt

  below_goals : (s : Hlds) (owner : ℕ) (ps : HldsGoals) → owner < length s.procedures → AreBelow (length s.procedures) (goals_sites s owner ps)
  below_goals s owner nothing lt = tt
  below_goals s owner (also p ps) lt = below_append (length s.procedures) (goal_sites s owner p) (goals_sites s owner ps) (below_goal s owner p lt) (below_goals s owner ps lt)

below_clauses : (s : Hlds) (n : ℕ) (ps : List Procedure) → n + length ps ≤ length s.procedures → AreBelow (length s.procedures) (clause_sites s n ps)
below_clauses s n [] le = tt
below_clauses s n (p ∷ ps) le =
    below_append (length s.procedures) (goal_sites s n p.body) (clause_sites s (suc n) ps) (below_goal s n p.body (omega (arith, le))) (below_clauses s (suc n) ps (omega (arith, le)))

owners_below : (n : ℕ) (xs : List (ℕ × CallSite)) → AreBelow n xs → All (λ x. x.owner < n) (map site_alone xs)
owners_below n [] below k d lt = absurd (omega (arith, lt))
owners_below n (x ∷ xs) below zero d lt = below.0
owners_below n (x ∷ xs) below (suc k) d lt = owners_below n xs below.2 k d (omega (arith, lt))

callees_below : (n : ℕ) (xs : List (ℕ × CallSite)) → AreBelow n xs → All (λ x. IfSome x.callee (λ q. q < n)) (map site_alone xs)
callees_below n [] below k d lt = absurd (omega (arith, lt))
callees_below n (x ∷ xs) below zero d lt = below.1
callees_below n (x ∷ xs) below (suc k) d lt = callees_below n xs below.2 k d (omega (arith, lt))

-- ---- owners

-- so many of these
abbrev copies : ℕ → List ℕ → List ℕ
copies owner [] = []
copies owner (line ∷ lines) = owner ∷ copies owner lines

copies_append : (owner : ℕ) (xs ys : List ℕ) → copies owner (xs ++ ys) ≡ copies owner xs ++ copies owner ys
copies_append owner [] ys = refl
copies_append owner (x ∷ xs) ys = ap (λ zs. owner ∷ zs) (copies_append owner xs ys)

copies_owned : (owner : ℕ) (lines : List ℕ) → map owner_of_pair (map (owned_by owner) lines) ≡ copies owner lines
copies_owned owner [] = refl
copies_owned owner (line ∷ lines) = ap (λ zs. owner ∷ zs) (copies_owned owner lines)

-- the owners of sites that are named
abbrev owners : List (ℕ × CallSite) → List ℕ
owners xs = map owner_of_site (map site_alone xs)

owners_append : (xs ys : List (ℕ × CallSite)) → owners (xs ++ ys) ≡ owners xs ++ owners ys
owners_append [] ys = refl
owners_append (x ∷ xs) ys = ap (λ zs. x.1.owner ∷ zs) (owners_append xs ys)

both_owned : (owner : ℕ) (xs ys : List (ℕ × CallSite)) (us vs : List ℕ) → owners xs ≡ copies owner us → owners ys ≡ copies owner vs → owners (xs ++ ys) ≡ copies owner (us ++ vs)
both_owned owner xs ys us vs p q = owners_append xs ys ∙ rw (p, q) (sym (copies_append owner us vs))

mutual
  owned_goal : (s : Hlds) (owner : ℕ) (g : HldsGoal) → owners (goal_sites s owner g) ≡ copies owner (site_lines g)
  owned_goal s owner (At line x) = owned_expr s owner line x

  owned_expr : (s : Hlds) (owner line : ℕ) (x : GoalExpr) → owners (expr_sites s owner x) ≡ copies owner (expr_lines line x)
  owned_expr s owner line (SimpleGoal g) = refl
  owned_expr s owner line (CallGoal site q ys) = refl
  owned_expr s owner line (HoCallGoal site f ys) = refl
  owned_expr s owner line (ConjGoal ps) = owned_goals s owner ps
  owned_expr s owner line (DisjGoal ps) = owned_goals s owner ps
  owned_expr s owner line (IfGoal c t e) =
      both_owned owner (goal_sites s owner c) (goal_sites s owner t ++ goal_sites s owner e) (site_lines c) (site_lines t ++ site_lines e) (owned_goal s owner c)
      (both_owned owner (goal_sites s owner t) (goal_sites s owner e) (site_lines t) (site_lines e) (owned_goal s owner t) (owned_goal s owner e))
  owned_expr s owner line (NotGoal c) = owned_goal s owner c
  owned_expr s owner line (SomeGoal vs c) = owned_goal s owner c

  owned_goals : (s : Hlds) (owner : ℕ) (ps : HldsGoals) → owners (goals_sites s owner ps) ≡ copies owner (goals_lines ps)
  owned_goals s owner nothing = refl
  owned_goals s owner (also p ps) = both_owned owner (goal_sites s owner p) (goals_sites s owner ps) (site_lines p) (goals_lines ps) (owned_goal s owner p) (owned_goals s owner ps)

pairs_append : (xs ys : List (ℕ × ℕ)) → map owner_of_pair (xs ++ ys) ≡ map owner_of_pair xs ++ map owner_of_pair ys
pairs_append [] ys = refl
pairs_append (x ∷ xs) ys = ap (λ zs. x.0 ∷ zs) (pairs_append xs ys)

owned_clauses : (s : Hlds) (n : ℕ) (ps : List Procedure) → owners (clause_sites s n ps) ≡ map owner_of_pair (sites_from n ps)
owned_clauses s n [] = refl
owned_clauses s n (p ∷ ps) =
    owners_append (goal_sites s n p.body) (clause_sites s (suc n) ps)
    ∙ rw (owned_goal s n p.body, owned_clauses s (suc n) ps)
    (rw (pairs_append (map (owned_by n) (site_lines p.body)) (sites_from (suc n) ps), copies_owned n (site_lines p.body)) refl)

pub owners_agree : OwnersAgree
owners_agree s = owned_clauses s 0 s.procedures

-- main's number in the table
pub main_in_table : (s : Hlds) (main : HasMain s) → (site_table s).main ≡ main.number
main_in_table s main = ap (λ o. number_or_zero (number_of o)) main.called

pub programs_have_tables : ProgramsHaveTables
programs_have_tables s main =
    let below = below_clauses s 0 s.procedures (omega arith) in
    record {
      main_is_one = rw (main_in_table s main) (get-within s.procedures main.number main.procedure (found_by_name s main_name (main.number, main.procedure) main.called));
      owners_are = owners_below (length s.procedures) (program_sites s) below;
      callees_are = callees_below (length s.procedures) (program_sites s) below;
    }
