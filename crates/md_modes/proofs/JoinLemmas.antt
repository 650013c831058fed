-- One arm more.
use Rattle.std.proofs.Common.{◌≡◌, refl, ap, ◌∙◌, ℕ, Bool, true, false, not, ◌||◌, List, [], ◌∷◌, ◌++◌, cond}
use Rattle.std.proofs.Math.Bool.{or-false}
use Rattle.md_inst.specs.Instantiation.{Instantiation, InstMap, known_at}
use Rattle.md_inst.specs.Common.{is_alike}
use Rattle.md_modes.specs.Branches.{After, in_common, all_have, some_unlike, differ, some_differ, reachable}

or_again : (a b c : Bool) → (a || (b || c)) ≡ ((a || b) || c)
or_again true b c = refl
or_again false b c = refl

pub all_have-more : (r q : InstMap) (qs : List InstMap) → all_have r (qs ++ q ∷ []) ≡ in_common (all_have r qs) q
all_have-more r q [] = refl
all_have-more r q (p ∷ qs) = all_have-more (in_common r p) q qs

pub some_unlike-more : (k : Instantiation) (x : ℕ) (q : InstMap) (qs : List InstMap) → some_unlike k x (qs ++ q ∷ []) ≡ (some_unlike k x qs || not (is_alike k (known_at q x)))
some_unlike-more k x q [] = or-false (not (is_alike k (known_at q x)))
some_unlike-more k x q (p ∷ qs) =
    ap (λ b. not (is_alike k (known_at p x)) || b) (some_unlike-more k x q qs)
    ∙ or_again (not (is_alike k (known_at p x))) (some_unlike k x qs) (not (is_alike k (known_at q x)))

pub some_differ-more : (p : ℕ → Bool) (s r q : InstMap) (qs : List InstMap) → some_differ p s r (qs ++ q ∷ []) ≡ (some_differ p s r qs || differ p s r q)
some_differ-more p s r q [] = or-false (differ p s r q)
some_differ-more p s r q (j ∷ qs) =
    ap (λ b. differ p s r j || b) (some_differ-more p s r q qs) ∙ or_again (differ p s r j) (some_differ p s r qs) (differ p s r q)

chosen : (b : Bool) (k : InstMap) (rs qs : List InstMap) (ts : List InstMap) → rs ≡ qs ++ ts → cond b (k ∷ rs) rs ≡ cond b (k ∷ qs) qs ++ ts
chosen true k rs qs ts e = ap (λ ks. k ∷ ks) e
chosen false k rs qs ts e = e

pub reachable-more : (a : After) (ends : List After) → reachable (ends ++ a ∷ []) ≡ reachable ends ++ reachable (a ∷ [])
reachable-more a [] = refl
reachable-more a (e ∷ ends) = chosen e.reach e.known (reachable (ends ++ a ∷ [])) (reachable ends) (reachable (a ∷ [])) (reachable-more a ends)
