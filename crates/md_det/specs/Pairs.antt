-- Determinisms as pairs: whether a goal may fail, and the bound on how many solutions it has.
use Rattle.std.specs.Prelude.{Bool, true, false, not, ◌&&◌, ◌||◌, List, [], ◌∷◌}
use Rattle.md_hlds.specs.declared.types.Det.{Det}
use Rattle.md_hlds.specs.declared.types.Det.TheVariants as det
use Rattle.md_det.specs.declared.pair.Bound.{Bound}
use Rattle.md_det.specs.declared.pair.Bound.TheVariants.{Zero, One, Many}
use Rattle.md_det.specs.declared.pair.Pair.{Pair}
use Rattle.md_det.specs.Bounds.{product, sum, greatest, at_most_one, exceeds}

abbrev pub pair : Bool → Bound → Pair
pair may_fail bound = record { may_fail = may_fail; bound = bound }

-- what a determinism says
abbrev pub pair_of : Det → Pair
pair_of det.Det = pair false One
pair_of det.Semidet = pair true One
pair_of det.Multi = pair false Many
pair_of det.Nondet = pair true Many
pair_of det.Failure = pair true Zero

-- the determinism of a pair
abbrev pub det_of : Bool → Bound → Det
det_of may_fail Zero = det.Failure
det_of false One = det.Det
det_of true One = det.Semidet
det_of false Many = det.Multi
det_of true Many = det.Nondet

-- two goals in turn
abbrev pub in_turn : Pair → Pair → Pair
in_turn p q = pair (p.may_fail || q.may_fail) (product p.bound q.bound)

-- two goals that are tried one after the other
abbrev pub alternatives : Pair → Pair → Pair
alternatives p q = pair (p.may_fail && q.may_fail) (sum p.bound q.bound)

-- two goals of which only one runs
abbrev pub one_of_two : Pair → Pair → Pair
one_of_two p q = pair (p.may_fail || q.may_fail) (greatest p.bound q.bound)

-- a goal that is cut at its first solution
abbrev pub cut : Pair → Pair
cut p = pair p.may_fail (at_most_one p.bound)

-- any number of goals that are tried one after the other; none of them fails
abbrev pub all_alternatives : List Pair → Pair
all_alternatives [] = pair true Zero
all_alternatives (p ∷ ps) = alternatives p (all_alternatives ps)

-- any number of goals of which only one runs
abbrev pub one_of_all : List Pair → Pair
one_of_all [] = pair false Zero
one_of_all (p ∷ ps) = one_of_two p (one_of_all ps)

-- a goal that fails where no arm of a switch is for the value
abbrev pub with_missing : Bool → Pair → Pair
with_missing whole p = pair (p.may_fail || not whole) p.bound

-- a body does no more than its declaration says: it doesn't fail where it may not, and has no more solutions
abbrev pub allows : (declared body : Pair) → Bool
allows declared body = (declared.may_fail || not body.may_fail) && not (exceeds body.bound declared.bound)
