-- What a profile says of links and contexts: own counts over the links that lead there, and totals over the links whose
-- path up meets them.
use Rattle.std.specs.Prelude.{ℕ, ◌==◌, Bool, List, Option, Some, None, slice_get, if◌then◌else◌, sum_by}
use Rattle.std.specs.List.{list_any}
use Rattle.md_base.specs.declared.measure.Measure.{Measure}
use Rattle.md_base.specs.Counts.{count_of}
use Rattle.md_dynamic.specs.declared.link.LinkRow.{LinkRow}
use Rattle.md_cost.specs.Paths.{path_of}

-- the sum of a measure over the links that pass a test
abbrev pub sum_where : (LinkRow → Bool) → Measure → List LinkRow → ℕ
sum_where test m rows = sum_by (λ r. if test r then count_of r.own m else 0) rows

-- the counts of a link
abbrev pub count_at : Option LinkRow → Measure → ℕ
count_at None m = 0
count_at (Some r) m = count_of r.own m

abbrev pub link_own : List LinkRow → ℕ → Measure → ℕ
link_own rows p m = count_at (slice_get rows p) m

-- own counts: over the links that lead to the context
abbrev pub context_own : List LinkRow → ℕ → Measure → ℕ
context_own rows c m = sum_where (λ r. r.callee == c) m rows

-- totals: over the links whose path up has the context
abbrev pub context_total : List ℕ → List ℕ → List LinkRow → ℕ → Measure → ℕ
context_total cliques found rows c m = sum_where (λ r. list_any (λ d. d == c) (path_of cliques found rows r.callee)) m rows

-- the sum over the links whose path up has a context that passes a test
abbrev pub path_total : List ℕ → List ℕ → List LinkRow → (ℕ → Bool) → Measure → ℕ
path_total cliques found rows test m = sum_where (λ r. list_any test (path_of cliques found rows r.callee)) m rows
