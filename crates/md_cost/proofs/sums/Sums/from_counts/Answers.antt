use Rattle.std.proofs.Common.{◌≡◌, ◌<◌, refl, rules}
use Rattle.md_base.specs.declared.measure.Measure.{Measure}
use Rattle.md_base.specs.Counts.{count_of}
use Rattle.md_cost.specs.declared.sums.Sums.{Sums}
use Rattle.md_cost.specs.SumOf.{sum_of}
use Rattle.md_cost.proofs.Measures.{each_measure}
use Rattle.md_cost.proofs.sums.Sums.from_counts.Goals as goal

pub returns-clause-value : goal.returns-clause-value
returns-clause-value c =
    let sums : Sums = record { calls = c.args.counts.calls; exits = c.args.counts.exits; fails = c.args.counts.fails; redos = c.args.counts.redos; allocs = c.args.counts.allocs; words = c.args.counts.words; excps = c.args.counts.excps } in
    each_measure (λ (m : Measure). sum_of sums m ≡ count_of c.args.counts m) refl refl refl refl refl refl refl

pub returns-clause-small : goal.returns-clause-small
returns-clause-small c =
    let sums : Sums = record { calls = c.args.counts.calls; exits = c.args.counts.exits; fails = c.args.counts.fails; redos = c.args.counts.redos; allocs = c.args.counts.allocs; words = c.args.counts.words; excps = c.args.counts.excps } in
    each_measure (λ (m : Measure). sum_of sums m < 4294967296) (search rules) (search rules) (search rules) (search rules) (search rules) (search rules) (search rules)
