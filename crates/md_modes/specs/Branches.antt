-- Branches: what is known after several arms, and what a branch may bind.
use Rattle.std.specs.Prelude.{ℕ, Bool, true, false, not, ◌&&◌, ◌||◌, List, [], ◌∷◌, length, Ok, Err, cond, nat_lt}
use Rattle.md_inst.specs.declared.fault.ModeFault.TheVariants.{TypeClash, BranchBinds}
use Rattle.md_inst.specs.Verdict.{Verdict}
use Rattle.md_inst.specs.Instantiation.{Instantiation, free, InstMap, known_at, is_bound, is_newly_bound, some_below, times}
use Rattle.md_inst.specs.Common.{disagree, common, is_alike}

-- what is known after a goal, and whether the place after it is reachable
pub record After : Type 0 where
  pub known : InstMap
  pub reach : Bool

abbrev pub after : InstMap → Bool → After
after s reach = record { known = s; reach = reach }

-- a variable occurs outside a goal with the variables `inner`, in a clause with the variables `all`
abbrev pub outside : (all inner : List ℕ) → ℕ → Bool
outside all inner x = nat_lt (times x inner) (times x all)

-- some variable with the property is free before and bound after
abbrev pub binds_some : (ℕ → Bool) → InstMap → InstMap → Bool
binds_some p s r = some_below (length s) (λ x. p x && is_newly_bound (known_at s x) (known_at r x))

-- some variable of the list has the property
abbrev pub some_of : (ℕ → Bool) → List ℕ → Bool
some_of p [] = false
some_of p (x ∷ xs) = p x || some_of p xs

-- the knowledge at the end of each arm whose end is reachable
abbrev pub reachable : List After → List InstMap
reachable [] = []
reachable (a ∷ ends) = cond a.reach (a.known ∷ reachable ends) (reachable ends)

-- some variable with the property is free before, and bound by one of two arms and not by the other
abbrev pub differ : (ℕ → Bool) → InstMap → InstMap → InstMap → Bool
differ p s r q = some_below (length s) (λ x. p x && (not (is_bound (known_at s x)) && disagree (known_at r x) (known_at q x)))

abbrev pub some_differ : (ℕ → Bool) → InstMap → InstMap → List InstMap → Bool
some_differ p s r [] = false
some_differ p s r (q ∷ qs) = differ p s r q || some_differ p s r qs

abbrev pub in_common : InstMap → InstMap → InstMap
in_common [] q = []
in_common (k ∷ r) [] = free ∷ in_common r []
in_common (k ∷ r) (j ∷ q) = common k j ∷ in_common r q

abbrev pub all_have : InstMap → List InstMap → InstMap
all_have r [] = r
all_have r (q ∷ qs) = all_have (in_common r q) qs

abbrev pub some_unlike : Instantiation → ℕ → List InstMap → Bool
some_unlike k x [] = false
some_unlike k x (q ∷ qs) = not (is_alike k (known_at q x)) || some_unlike k x qs

-- some variable that is free before and that all arms bind has in one of them another type than in the first
abbrev pub clash : (s all r : InstMap) → List InstMap → Bool
clash s all r qs = some_below (length all) (λ x. is_newly_bound (known_at s x) (known_at all x) && some_unlike (known_at r x) x qs)

-- What is known after arms that end so and began with `s`; the variables with the property occur outside the branch.
-- Where no end is reachable, it is what was known at entry.
abbrev pub joined_ends : ℕ → (ℕ → Bool) → InstMap → List InstMap → Verdict After
joined_ends l p s [] = Ok (after s false)
joined_ends l p s (r ∷ qs) =
    cond (some_differ p s r qs) (Err (BranchBinds l))
    (cond (clash s (all_have r qs) r qs) (Err (TypeClash l)) (Ok (after (all_have r qs) true)))

abbrev pub joined : ℕ → (ℕ → Bool) → InstMap → List After → Verdict After
joined l p s ends = joined_ends l p s (reachable ends)
