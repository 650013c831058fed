-- Sums by key.
use Rattle.std.specs.Prelude.{ℕ, zero, suc, ◌≡◌, ◌+◌, ◌^◌, ◌<◌, List, length, Option, Some, IfSome, slice_index_or, if◌then◌else◌}
use Rattle.md_base.specs.declared.measure.Measure.{Measure}
use Rattle.md_trace.specs.Context.{same_option}
use Rattle.md_dynamic.specs.declared.link.LinkRow.{LinkRow}
use Rattle.md_cost.specs.declared.sums.Sums.{Sums}
use Rattle.md_cost.specs.SumOf.{sum_of, zero_sums}
use Rattle.md_cost.specs.Totals.{path_total, sum_where}

-- the sum of those of the first i values that have key q
abbrev pub key_sum : (ℕ → Option ℕ) → List Sums → ℕ → ℕ → Measure → ℕ
key_sum key values zero q m = 0
key_sum key values (suc i) q m =
    key_sum key values i q m + (if same_option (Some q) (key i) then sum_of (slice_index_or values i zero_sums) m else 0)

-- there is room for more at the key, where there is one
abbrev pub HasRoom : List Sums → Option ℕ → Sums → Type 0
HasRoom sums key more = IfSome key (λ q. (q < length sums) × ((m : Measure) → sum_of (slice_index_or sums q zero_sums) m + sum_of more m < 2 ^ 64))

-- the sum at the key has grown by so much
pub record IsAdded (old : List Sums) (key : Option ℕ) (more : Sums) (new : List Sums) : Type 0 where
  pub each : length new ≡ length old
  pub is : (q : ℕ) (m : Measure) → q < length old → sum_of (slice_index_or new q zero_sums) m ≡ sum_of (slice_index_or old q zero_sums) m + (if same_option (Some q) key then sum_of more m else 0)

-- by number, the own counts of the links with this key
pub record AreOwnBy (key : LinkRow → Option ℕ) (rows : List LinkRow) (count : ℕ) (sums : List Sums) : Type 0 where
  pub each : length sums ≡ count
  pub is : (q : ℕ) (m : Measure) → q < count → sum_of (slice_index_or sums q zero_sums) m ≡ sum_where (λ r. same_option (Some q) (key r)) m rows

-- by number, the own counts of the links whose path has a context with this key
pub record AreTotalsBy (cliques found : List ℕ) (rows : List LinkRow) (key : ℕ → Option ℕ) (count : ℕ) (sums : List Sums) : Type 0 where
  pub each : length sums ≡ count
  pub is : (q : ℕ) (m : Measure) → q < count → sum_of (slice_index_or sums q zero_sums) m ≡ path_total cliques found rows (λ d. same_option (Some q) (key d)) m
