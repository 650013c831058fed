-- Call sites of goals one after the other.
use Rattle.std.proofs.Common.{◌≡◌, refl, ap, ◌∙◌, sym, subst, arith, ℕ, zero, suc, ◌+◌, ◌<◌, List, [], ◌∷◌, ◌++◌, length, take, Vec, Box, Option, Some, None, slice_get, get_or, length-append}
use Rattle.std.specs.declared.alloc.Global.{Global}
use Rattle.md_hlds.specs.declared.goal.Goal.{Goal}
use Rattle.md_hlds.specs.declared.goal.GoalKind.{GoalKind, Conj, Disj, If}
use Rattle.md_hlds.specs.HldsGoal.{gathered, goal_of, goals_of, expr_of, expr_lines, goals_lines, site_lines}
use Rattle.md_hlds.specs.Sites.{FindsSite}
use Rattle.md_hlds.proofs.Bridge.{expr_of-Conj, expr_of-Disj}

-- the lines of these goals' sites
abbrev pub lines_of : List Goal → List ℕ
lines_of gs = goals_lines (gathered (goals_of gs))

-- a fact of a search may be said of an equal list
pub finds_along : (xs ys : List ℕ) (before after : ℕ) (r : Option ℕ) → xs ≡ ys → FindsSite ys before after r → FindsSite xs before after r
finds_along xs ys before after r e found = subst (λ (lines : List ℕ). FindsSite lines before after r) (sym e) found

pub expr_lines-Conj : (l : ℕ) (k : GoalKind) (v : Vec Goal Global) → k ≡ Conj v → expr_lines l (expr_of k) ≡ lines_of v.items
expr_lines-Conj l k v e = ap (λ j. expr_lines l (expr_of j)) e ∙ ap (expr_lines l) (expr_of-Conj v)

pub expr_lines-Disj : (l : ℕ) (k : GoalKind) (v : Vec Goal Global) → k ≡ Disj v → expr_lines l (expr_of k) ≡ lines_of v.items
expr_lines-Disj l k v e = ap (λ j. expr_lines l (expr_of j)) e ∙ ap (expr_lines l) (expr_of-Disj v)

-- what a list has at a place, the list with more behind it has there
pub found_in_first : {A : Type 0} (xs ys : List A) (n : ℕ) (line : A) → slice_get xs n ≡ Some line → slice_get (xs ++ ys) n ≡ Some line
found_in_first [] ys n line found = cc
found_in_first (x ∷ xs) ys zero line found = found
found_in_first (x ∷ xs) ys (suc n) line found = found_in_first xs ys n line found

-- and with more in front of it, so much later
pub found_in_second : {A : Type 0} (xs ys : List A) (n m : ℕ) (line : A) → m ≡ length xs + n → slice_get ys n ≡ Some line → slice_get (xs ++ ys) m ≡ Some line
found_in_second [] ys n m line e found = let same : m ≡ n = omega (arith, e) in rw same found
found_in_second (x ∷ xs) ys n zero line e found = absurd (omega (arith, e))
found_in_second (x ∷ xs) ys n (suc m) line e found = found_in_second xs ys n m line (omega (arith, e)) found

-- a site found in the goal at a place, with the sites of the goals before it passed by
pub found_at : (gs : List Goal) (i : ℕ) (g : Goal) (before total line : ℕ) → i < length gs → g ≡ get_or gs i g
    → length (lines_of (take i gs)) + before ≡ total → slice_get (site_lines (goal_of g)) before ≡ Some line
    → slice_get (lines_of gs) total ≡ Some line
found_at [] i g before total line lt is e found = absurd (omega (arith, lt))
found_at (h ∷ gs) zero g before total line lt is e found =
    let same : total ≡ before = omega (arith, e) in
    found_in_first (site_lines (goal_of h)) (lines_of gs) total line
    (rw same (subst (λ (k : Goal). slice_get (site_lines (goal_of k)) before ≡ Some line) is found))
found_at (h ∷ gs) (suc i) g before total line lt is e found =
    found_in_second (site_lines (goal_of h)) (lines_of gs) (length (lines_of (take i gs)) + before) total line
    (omega (arith, e, length-append (site_lines (goal_of h)) (lines_of (take i gs))))
    (found_at gs i g before (length (lines_of (take i gs)) + before) line (omega (arith, lt)) is refl found)

-- the sites of one goal more
pub length-lines_more : (gs : List Goal) (i : ℕ) (g : Goal) → i < length gs → g ≡ get_or gs i g
    → length (lines_of (take (suc i) gs)) ≡ length (lines_of (take i gs)) + length (site_lines (goal_of g))
length-lines_more [] i g lt is = absurd (omega (arith, lt))
length-lines_more (h ∷ gs) zero g lt is =
    length-append (site_lines (goal_of h)) [] ∙ rw (ap (λ (k : Goal). length (site_lines (goal_of k))) is) (omega arith)
length-lines_more (h ∷ gs) (suc i) g lt is =
    omega (
      arith,
      length-lines_more gs i g (omega (arith, lt)) is,
      length-append (site_lines (goal_of h)) (lines_of (take (suc i) gs)),
      length-append (site_lines (goal_of h)) (lines_of (take i gs)),
    )

-- a search that has passed by the sites of two lists and goes on in a third
pub third_of_three : (xs ys zs : List ℕ) (before second third after : ℕ) (r : Option ℕ)
    → length xs + second ≡ before → length ys + third ≡ second → FindsSite zs third after r → FindsSite (xs ++ (ys ++ zs)) before after r
third_of_three xs ys zs before second third after None e f found =
    omega (arith, e, f, found, length-append xs (ys ++ zs), length-append ys zs)
third_of_three xs ys zs before second third after (Some line) e f found =
    found_in_second xs (ys ++ zs) second before line (sym e) (found_in_second ys zs third second line (sym f) found)

pub expr_lines-If : (l : ℕ) (k : GoalKind) (c t e : Box Goal Global) (g h j : Goal) → k ≡ If c t e
    → g ≡ c.value → h ≡ t.value → j ≡ e.value
    → expr_lines l (expr_of k) ≡ site_lines (goal_of g) ++ (site_lines (goal_of h) ++ site_lines (goal_of j))
expr_lines-If l k c t e g h j is gs hs js =
    ap (λ j. expr_lines l (expr_of j)) is
    ∙ rw (gs, hs, js) refl
