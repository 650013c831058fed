-- Counts of variables.
use Rattle.std.proofs.Common.{◌≡◌, refl, ap, ◌∙◌, arith, ℕ, zero, suc, ◌+◌, ◌<◌, ◌≤◌, Bool, true, false, cond, nat_eq, List, [], ◌∷◌, ◌++◌, length, take, get_or, add-one}
use Rattle.md_inst.specs.Instantiation.{times}
use Rattle.md_modes.specs.Tally.{Adds, AreCounts}

times_cond : (b : Bool) (m n : ℕ) → cond b (suc (m + n)) (m + n) ≡ cond b (suc m) m + n
times_cond true m n = omega arith
times_cond false m n = refl

pub times-append : (x : ℕ) (ys zs : List ℕ) → times x (ys ++ zs) ≡ times x ys + times x zs
times-append x [] zs = omega arith
times-append x (y ∷ ys) zs = ap (λ n. cond (nat_eq x y) (suc n) n) (times-append x ys zs) ∙ times_cond (nat_eq x y) (times x ys) (times x zs)

-- nothing is counted
pub adds_nothing : (counts : List ℕ) → Adds counts counts []
adds_nothing counts x = omega arith

-- some variables and then others
pub adds_more : (a b c ys zs : List ℕ) → Adds a b ys → Adds b c zs → Adds a c (ys ++ zs)
adds_more a b c ys zs f g x = omega (arith, f x, g x, times-append x ys zs)

-- one variable more
more_places : (x : ℕ) (ys : List ℕ) (i : ℕ) → i < length ys → times x (take (suc i) ys) ≡ times x (take i ys) + times x (get_or ys i 0 ∷ [])
more_places x [] i lt = absurd (omega (arith, lt))
more_places x (y ∷ ys) zero lt = omega arith
more_places x (y ∷ ys) (suc i) lt =
    ap (λ n. cond (nat_eq x y) (suc n) n) (more_places x ys i (omega (arith, lt)))
    ∙ times_cond (nat_eq x y) (times x (take i ys)) (times x (get_or ys i 0 ∷ []))

pub counts_place : (a b ys : List ℕ) (i : ℕ) → i < length ys → AreCounts a (take i ys) → Adds a b (get_or ys i 0 ∷ []) → AreCounts b (take (i + 1) ys)
counts_place a b ys i lt f h x = rw add-one (omega (arith, more_places x ys i lt, f x, h x))

-- a variable is counted no more often than there are places
counted_more : (b : Bool) (m n : ℕ) → m ≤ n → cond b (suc m) m ≤ suc n
counted_more true m n le = omega (arith, le)
counted_more false m n le = omega (arith, le)

pub times-take : (x : ℕ) (ys : List ℕ) (i : ℕ) → times x (take i ys) ≤ i
times-take x [] zero = omega arith
times-take x [] (suc i) = omega arith
times-take x (y ∷ ys) zero = omega arith
times-take x (y ∷ ys) (suc i) = counted_more (nat_eq x y) (times x (take i ys)) i (times-take x ys i)
