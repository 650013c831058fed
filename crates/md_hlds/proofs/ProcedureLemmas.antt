-- The procedures of a program's predicates, and their call sites.
use Rattle.std.proofs.Common.{◌≡◌, refl, ap, ◌∙◌, sym, subst, arith, ℕ, zero, suc, ◌+◌, ◌<◌, ◌≤◌, List, [], ◌∷◌, length, take, map, Option, Some, None, MatchOption, slice_get, get_or, length-append, option_map, Bor}
use Rattle.std.specs.Slice.{IsGetResult}
use Rattle.md_hlds.specs.declared.program.Pred.{Pred}
use Rattle.md_hlds.specs.HldsGoal.{goal_of, site_lines}
use Rattle.md_hlds.specs.Hlds.{procedure_of, procedures_of, owned_by, sites_from}
use Rattle.md_hlds.proofs.SiteLemmas.{found_in_first, found_in_second}

pub length-procedures_of : (ps : List Pred) → length (procedures_of ps) ≡ length ps
length-procedures_of [] = refl
length-procedures_of (p ∷ ps) = ap suc (length-procedures_of ps)

-- the procedure at a predicate's place
pub procedure_at : (ps : List Pred) (i : ℕ) (p : Pred) → i < length ps → p ≡ get_or ps i p → slice_get (procedures_of ps) i ≡ Some (procedure_of p)
procedure_at [] i p lt is = absurd (omega (arith, lt))
procedure_at (q ∷ ps) zero p lt is = ap (λ (x : Pred). Some (procedure_of x)) (sym is)
procedure_at (q ∷ ps) (suc i) p lt is = procedure_at ps i p (omega (arith, lt)) is

-- what a look-up by number finds
pub procedure_looked_up : (ps : List Pred) (i : ℕ) (r : Option (Bor Pred)) → IsGetResult ps i i r
    → MatchOption r (length (procedures_of ps) ≤ i) (λ p. slice_get (procedures_of ps) i ≡ Some (procedure_of p.now))
procedure_looked_up ps i None got = omega (arith, length-procedures_of ps, got.3)
procedure_looked_up ps i (Some p) got = procedure_at ps i p.now got.3.0 got.1

-- a call site and its owner
owned : (n : ℕ) (lines : List ℕ) (i line : ℕ) → slice_get lines i ≡ Some line → slice_get (map (owned_by n) lines) i ≡ Some (n, line)
owned n [] i line found = cc
owned n (l ∷ lines) zero line found = ap (λ o. option_map (owned_by n) o) found
owned n (l ∷ lines) (suc i) line found = owned n lines i line found

length-owned : (n : ℕ) (lines : List ℕ) → length (map (owned_by n) lines) ≡ length lines
length-owned n [] = refl
length-owned n (l ∷ lines) = ap suc (length-owned n lines)

-- a site found in the clause at a place, with the sites of the clauses before it passed by
pub site_at : (ps : List Pred) (n i m : ℕ) (p : Pred) (before total line : ℕ) → m ≡ n + i → i < length ps → p ≡ get_or ps i p
    → length (sites_from n (procedures_of (take i ps))) + before ≡ total → slice_get (site_lines (goal_of p.body)) before ≡ Some line
    → slice_get (sites_from n (procedures_of ps)) total ≡ Some (m, line)
site_at [] n i m p before total line at lt is e found = absurd (omega (arith, lt))
site_at (q ∷ ps) n zero m p before total line at lt is e found =
    let same : total ≡ before = omega (arith, e) in
    let owner : m ≡ n = omega (arith, at) in
    rw (owner, same)
    (found_in_first (map (owned_by n) (site_lines (goal_of q.body))) (sites_from (suc n) (procedures_of ps)) before (n, line)
    (owned n (site_lines (goal_of q.body)) before line
    (subst (λ (k : Pred). slice_get (site_lines (goal_of k.body)) before ≡ Some line) is found)))
site_at (q ∷ ps) n (suc i) m p before total line at lt is e found =
    found_in_second (map (owned_by n) (site_lines (goal_of q.body))) (sites_from (suc n) (procedures_of ps))
    (length (sites_from (suc n) (procedures_of (take i ps))) + before) total (m, line)
    (omega (arith, e, length-append (map (owned_by n) (site_lines (goal_of q.body))) (sites_from (suc n) (procedures_of (take i ps)))))
    (site_at ps (suc n) i m p before (length (sites_from (suc n) (procedures_of (take i ps))) + before) line (omega (arith, at)) (omega (arith, lt)) is refl found)

-- the sites of one clause more
pub length-sites_more : (ps : List Pred) (n i : ℕ) (p : Pred) → i < length ps → p ≡ get_or ps i p
    → length (sites_from n (procedures_of (take (suc i) ps))) ≡ length (sites_from n (procedures_of (take i ps))) + length (site_lines (goal_of p.body))
length-sites_more [] n i p lt is = absurd (omega (arith, lt))
length-sites_more (q ∷ ps) n zero p lt is =
    length-append (map (owned_by n) (site_lines (goal_of q.body))) []
    ∙ rw (ap (λ (k : Pred). length (site_lines (goal_of k.body))) is)
    (omega (arith, length-owned n (site_lines (goal_of q.body))))
length-sites_more (q ∷ ps) n (suc i) p lt is =
    omega (
      arith,
      length-sites_more ps (suc n) i p (omega (arith, lt)) is,
      length-append (map (owned_by n) (site_lines (goal_of q.body))) (sites_from (suc n) (procedures_of (take (suc i) ps))),
      length-append (map (owned_by n) (site_lines (goal_of q.body))) (sites_from (suc n) (procedures_of (take i ps))),
    )
