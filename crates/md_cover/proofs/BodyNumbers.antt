-- Where the bodies of clauses stand among the goals of a program.
use Rattle.std.proofs.Common.{◌≡◌, refl, ap, ◌∙◌, sym, arith, ℕ, zero, suc, ◌+◌, ◌<◌, ◌≤◌, List, [], ◌∷◌, length, Some, slice_get, min}
use Rattle.md_hlds.specs.HldsGoal.{HldsGoal, At, goal_size, goals_within}
use Rattle.md_hlds.specs.Hlds.{Hlds, Procedure, clause_goals, goals_before}
use Rattle.md_hlds.proofs.SiteLemmas.{found_in_first, found_in_second}
use Rattle.md_modes.specs.Classes.{size_of, size_at}
use Rattle.md_switch.proofs.Tells.{length-within}

some_is : (x y : Procedure) → Some x ≡ Some y → x ≡ y
some_is x y e = cc

there : (ps : List Procedure) (q : ℕ) → q < length ps → (p : Procedure) × (slice_get ps q ≡ Some p)
there [] q lt = absurd (omega (arith, lt))
there (x ∷ xs) zero lt = (x, refl)
there (x ∷ xs) (suc q) lt = there xs q (omega (arith, lt))

-- a goal is the first of those within it
own : (g : HldsGoal) → slice_get (goals_within g) 0 ≡ Some g
own (At l t) = refl

pub none-before : (ps : List Procedure) → goals_before ps 0 ≡ 0
none-before [] = refl
none-before (p ∷ ps) = refl

body-there : (ps : List Procedure) (q : ℕ) (p : Procedure) → slice_get ps q ≡ Some p → slice_get (clause_goals ps) (goals_before ps q) ≡ Some p.body
body-there [] q p at = absurd (cc)
body-there (x ∷ xs) zero p at =
    found_in_first (goals_within x.body) (clause_goals xs) 0 x.body (own x.body) ∙ ap (λ (r : Procedure). Some r.body) (some_is x p at)
body-there (x ∷ xs) (suc q) p at =
    found_in_second (goals_within x.body) (clause_goals xs) (goals_before xs q) (goal_size x.body + goals_before xs q) p.body (omega (arith, length-within x.body)) (body-there xs q p at)

-- the goals before the next clause
before-next : (ps : List Procedure) (q : ℕ) (p : Procedure) → slice_get ps q ≡ Some p → goals_before ps (suc q) ≡ goals_before ps q + goal_size p.body
before-next [] q p at = absurd (cc)
before-next (x ∷ xs) zero p at =
    let same : goal_size x.body ≡ goal_size p.body = ap (λ (r : Procedure). goal_size r.body) (some_is x p at) in
    omega (arith, same, none-before xs)
before-next (x ∷ xs) (suc q) p at = omega (arith, before-next xs q p at)

-- the body of a clause is no more than what all clauses have
pub body-within : (ps : List Procedure) (q : ℕ) (p : Procedure) → slice_get ps q ≡ Some p → goals_before ps q + goal_size p.body ≤ goals_before ps (length ps)
body-within [] q p at = absurd (cc)
body-within (x ∷ xs) zero p at =
    let same : goal_size x.body ≡ goal_size p.body = ap (λ (r : Procedure). goal_size r.body) (some_is x p at) in
    omega (arith, same)
body-within (x ∷ xs) (suc q) p at = omega (arith, body-within xs q p at)

-- the number of the next body is that of a body and of its goals together
pub next-body : (s : Hlds) (q : ℕ) → q < length s.procedures → goals_before s.procedures (q + 1) ≡ goals_before s.procedures q + size_at s (goals_before s.procedures q)
next-body s q lt =
    let found = there s.procedures q lt in
    let p = found.0 in
    let size : size_at s (goals_before s.procedures q) ≡ goal_size p.body = ap size_of (body-there s.procedures q p found.1) in
    let more : q + 1 ≡ suc q = omega arith in
    ap (goals_before s.procedures) more ∙ (before-next s.procedures q p found.1 ∙ ap (λ n. goals_before s.procedures q + n) (sym size))

-- behind the last clause there is none
pub at-most-all : (ps : List Procedure) (n : ℕ) → goals_before ps (min (length ps) n) ≡ goals_before ps n
at-most-all [] n = refl
at-most-all (p ∷ ps) zero = let none : min (suc (length ps)) 0 ≡ 0 = omega arith in ap (goals_before (p ∷ ps)) none
at-most-all (p ∷ ps) (suc n) =
    let one : min (suc (length ps)) (suc n) ≡ suc (min (length ps) n) = omega arith in
    ap (goals_before (p ∷ ps)) one ∙ ap (λ k. goal_size p.body + k) (at-most-all ps n)
