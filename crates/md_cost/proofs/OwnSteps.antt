-- The sum of one context more.
use Rattle.std.proofs.Common.{◌≡◌, ℕ, ◌+◌, ◌<◌, ◌≤◌, Bool, cond, List, [], ◌∷◌, ◌++◌, length, get_or, replicate, refl, inl, inr, arith}
use Rattle.std.specs.List.{sum_by}
use Rattle.std.proofs.lemmas.Bool.{cases_Bool, cases_lt}
use Rattle.std.proofs.lemmas.List.{get_or_append_left, get_or_push, length_push, get_or_past, get_or-replicate, length-replicate}
use Rattle.std.proofs.lemmas.List.Sums.{sum_by-le-sum_by}
use Rattle.md_base.specs.declared.measure.Measure.{Measure}
use Rattle.md_base.specs.Counts.{count_of}
use Rattle.md_dynamic.specs.declared.link.LinkRow.{LinkRow}
use Rattle.md_cost.specs.declared.sums.Sums.{Sums}
use Rattle.md_cost.specs.SumOf.{sum_of, zero_sums}
use Rattle.md_cost.proofs.Measures.{each_measure}
use Rattle.md_cost.specs.Totals.{sum_where, context_own}
use Rattle.md_cost.specs.Climbing.{AreOwn}

-- a part of the links counts no more than all of them
pub part_le : (test : LinkRow → Bool) (m : Measure) (rows : List LinkRow) → sum_where test m rows ≤ sum_by (λ r. count_of r.own m) rows
part_le test m rows = sum_by-le-sum_by (λ r. cond (test r) (count_of r.own m) 0) (λ r. count_of r.own m) rows (λ r. elim (cases_Bool (test r)) [
  | inl holds ↦ rw holds (omega arith)
  | inr fails ↦ rw fails (omega arith)
])

pub no_sum : (m : Measure) → sum_of zero_sums m ≡ 0
no_sum = each_measure (λ (m : Measure). sum_of zero_sums m ≡ 0) refl refl refl refl refl refl refl

pub zeros : (n v : ℕ) (m : Measure) → sum_of (get_or (replicate n zero_sums) v zero_sums) m ≡ 0
zeros n v m = elim (cases_lt v n) [
  | inl l ↦ rw (get_or-replicate n v zero_sums zero_sums l) (no_sum m)
  | inr g ↦ rw (get_or_past (replicate n zero_sums) v zero_sums (rw length-replicate g)) (no_sum m)
]

-- the sums of the first i contexts
pub record Owning (rows : List LinkRow) (i : ℕ) (nodes : List Sums) : Type 0 where
  pub each_node : length nodes ≡ i
  pub of_node : (c : ℕ) (m : Measure) → c < i → sum_of (get_or nodes c zero_sums) m ≡ context_own rows c m

pub owning_none : (rows : List LinkRow) → Owning rows 0 []
owning_none rows = record { each_node = refl; of_node = λ c m lt. absurd (omega arith) }

pub owning_more : (rows : List LinkRow) (i : ℕ) (nodes : List Sums) → Owning rows i nodes → (sum : Sums) → ((m : Measure) → sum_of sum m ≡ context_own rows i m) → Owning rows (i + 1) (nodes ++ sum ∷ [])
owning_more rows i nodes is sum its = record {
  each_node = (let size = is.each_node in let more = length_push nodes sum in omega arith);
  of_node = λ c m lt. elim (cases_lt c i) [
    | inl old ↦ (let size = is.each_node in rw (get_or_append_left nodes (sum ∷ []) zero_sums c (omega arith)) (is.of_node c m old))
    | inr new ↦ (let same : c ≡ i = omega arith in rw (same, get_or_push nodes sum zero_sums i is.each_node) (its m))
  ];
}

pub owning_all : (cliques : List ℕ) (rows : List LinkRow) (nodes : List Sums) → Owning rows (length cliques) nodes → AreOwn cliques rows nodes
owning_all cliques rows nodes is = record { each_node = is.each_node; of_node = is.of_node }
