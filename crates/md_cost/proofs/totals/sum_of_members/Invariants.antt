use Rattle.std.proofs.Common.{◌≡◌, get_or, take}
use Rattle.std.specs.List.{sum_by}
use Rattle.md_base.specs.declared.measure.Measure.{Measure}
use Rattle.md_clique.specs.Cliques.{members_of}
use Rattle.md_cost.specs.SumOf.{sum_of, zero_sums}
use Rattle.md_cost.proofs.totals.sum_of_members.Given as goal

abbrev pub invariant-loop-member : goal.invariant-loop-member
invariant-loop-member l = (m : Measure) → sum_of l.sum m ≡ sum_by (λ c. sum_of (get_or l.sums c zero_sums) m) (take l.member-index (members_of l.cliques l.clique))
