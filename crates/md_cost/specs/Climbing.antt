-- What holds while totals climb from the last clique up to clique 0.
use Rattle.std.specs.Prelude.{ℕ, ◌≡◌, ◌<◌, ◌≤◌, ◌*◌, List, length, slice_index_or, sum_by}
use Rattle.md_base.specs.declared.measure.Measure.{Measure}
use Rattle.md_base.specs.Counts.{count_of}
use Rattle.md_dynamic.specs.declared.link.LinkRow.{LinkRow}
use Rattle.md_clique.specs.Cliques.{members_of}
use Rattle.md_cost.specs.declared.sums.Sums.{Sums}
use Rattle.md_cost.specs.SumOf.{sum_of, zero_sums}
use Rattle.md_cost.specs.Totals.{context_own, context_total}

-- each context has the sum of the links that lead to it
pub record AreOwn (cliques : List ℕ) (rows : List LinkRow) (nodes : List Sums) : Type 0 where
  pub each_node : length nodes ≡ length cliques
  pub of_node : (c : ℕ) (m : Measure) → c < length cliques → sum_of (slice_index_or nodes c zero_sums) m ≡ context_own rows c m

-- the counts of all links together are no more than so many full ones
abbrev pub AreSmall : List LinkRow → Type 0
AreSmall rows = (m : Measure) → sum_by (λ r. count_of r.own m) rows ≤ length rows * 4294967295

-- each context has its total
pub record AreTotals (cliques found : List ℕ) (rows : List LinkRow) (nodes : List Sums) : Type 0 where
  pub each_node : length nodes ≡ length cliques
  pub of_node : (c : ℕ) (m : Measure) → c < length cliques → sum_of (slice_index_or nodes c zero_sums) m ≡ context_total cliques found rows c m

-- the sum over the contexts of a clique
abbrev pub member_sum : List ℕ → List Sums → ℕ → Measure → ℕ
member_sum cliques nodes k m = sum_by (λ c. sum_of (slice_index_or nodes c zero_sums) m) (members_of cliques k)
