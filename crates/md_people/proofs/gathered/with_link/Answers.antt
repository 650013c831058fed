use Rattle.std.proofs.Common.{ℕ, ◌+◌, [], ◌∷◌, Option, sym, ap, ◌∙◌}
use Rattle.std.specs.Prelude.{unwrap_or}
use Rattle.md_cost.specs.SumOf.{sum_of}
use Rattle.md_people.specs.Callers.{sum_some}
use Rattle.md_people.specs.Counts.{own_counts}
use Rattle.md_cost.specs.View.{OfLink}
use Rattle.md_people.proofs.GatheredSteps.{gathered_same}
use Rattle.md_people.proofs.gathered.with_link.Goals as goal

pub returns-in-Some-clause-sums : goal.returns-in-Some-clause-sums
returns-in-Some-clause-sums c v is =
    let g = c.in-Some.sum in
    rw c.in-Some.is (gathered_same c.both.result (sum_some (g.total ∷ v.total (OfLink c.args.link) c.args.by ∷ [])) c.plus.result (λ m. sum_of g.own m + own_counts v (OfLink c.args.link) m)
    (c.both.ensures ∙ ap (λ (o : Option ℕ). sum_some (g.total ∷ o ∷ [])) (c.total_of-total.ensures.total v is))
    (λ m. c.plus.ensures m ∙ ap (λ (o : Option ℕ). sum_of g.own m + unwrap_or o 0) (sym (c.own_of-own.ensures.own v m is))))
