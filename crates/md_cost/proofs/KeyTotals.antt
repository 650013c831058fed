-- Totals by key, from those of contexts.
use Rattle.std.proofs.Common.{◌≡◌, ℕ, suc, ◌^◌, ◌<◌, Bool, ◌&&◌, ltb, cond, List, length, get_or, All, Option, Some, None, refl, true, false, ap, ◌∙◌, subst, arith}
use Rattle.std.specs.List.{list_any, slice_get}
use Rattle.md_base.specs.declared.measure.Measure.{Measure}
use Rattle.md_base.specs.Counts.{count_of}
use Rattle.md_trace.specs.Context.{same_option}
use Rattle.md_dynamic.specs.declared.link.LinkRow.{LinkRow}
use Rattle.md_cost.specs.declared.sums.Sums.{Sums}
use Rattle.md_cost.specs.SumOf.{sum_of, zero_sums}
use Rattle.md_cost.specs.Paths.{EntriesRise, path_of, start_of}
use Rattle.md_cost.specs.Totals.{sum_where, path_total, context_total}
use Rattle.md_cost.specs.Climbing.{AreSmall, AreTotals}
use Rattle.md_cost.specs.Keys.{AreTotalsBy, HasRoom, key_sum}
use Rattle.md_cost.specs.Walking.{AreMarks, marked}
use Rattle.md_cost.proofs.SumSteps.{sum_same}
use Rattle.md_cost.proofs.OwnSteps.{part_le}
use Rattle.md_cost.proofs.ClimbSteps.{entries_rise, start_there, ends_at}
use Rattle.md_cost.proofs.WalkSteps.{up_there}
use Rattle.md_cost.proofs.KeySteps.{Grouped, grouped_room}
use Rattle.md_cost.proofs.Exchange.{upto}
use Rattle.md_cost.proofs.MarkSteps.{AllMarked, marked_any, marked_alone, marked_up}

module _ (cliques : List ℕ) (rows : List LinkRow) (ends : All (λ r. r.callee < length cliques) rows) where
  -- the totals of the outermost contexts of a key are those of the links whose path has one of the key
  pub total_by_key : (entries : List ℕ) → EntriesRise cliques entries rows → (key : ℕ → Option ℕ) (flags : List Bool) → AreMarks cliques (start_of rows entries) key flags → (nodes : List Sums)
      → ((c : ℕ) (m : Measure) → c < length cliques → sum_of (get_or nodes c zero_sums) m ≡ context_total cliques entries rows c m)
      → (q : ℕ) (m : Measure) → key_sum (marked key flags) nodes (length cliques) q m ≡ path_total cliques entries rows (λ d. same_option (Some q) (key d)) m
  total_by_key entries rise key flags are nodes totals q m =
      upto rows (λ r. path_of cliques entries rows r.callee) (marked key flags) nodes (length cliques) totals
      (λ i r at q d e hd he od oe. marked_alone (length cliques) key (marked key flags) q d e (path_of cliques entries rows r.callee) (on_path i r at) hd he od oe)
      (length cliques) q m (omega arith)
      ∙ sum_same (λ r. cond (list_any (λ e. ltb e (length cliques) && same_option (Some q) (marked key flags e)) (path_of cliques entries rows r.callee)) (count_of r.own m) 0) (λ r. cond (list_any (λ e. same_option (Some q) (key e)) (path_of cliques entries rows r.callee)) (count_of r.own m) 0) rows
      (λ i r at. ap (λ (b : Bool). cond b (count_of r.own m) 0) (marked_any (length cliques) key (marked key flags) q (path_of cliques entries rows r.callee) (on_path i r at)))
    where
      starts : ℕ → ℕ
      starts k = start_of rows entries k

      on_path : (i : ℕ) (r : LinkRow) → slice_get rows i ≡ Some r → AllMarked (length cliques) key (marked key flags) (path_of cliques entries rows r.callee)
      on_path i r at =
          let lt = ends_at cliques rows ends i r at in
          let rises = entries_rise cliques entries rows rise in
          let there = start_there cliques entries rows rise in
          subst (λ (xs : List ℕ). AllMarked (length cliques) key (marked key flags) xs) (up_there cliques (start_of rows entries) rises there r.callee lt)
          (marked_up cliques (start_of rows entries) rises there key flags are (suc (get_or cliques r.callee 0)) r.callee (omega arith) lt)

-- each of these sums has room
pub room_by_key : (rows : List LinkRow) → length rows < 4294967296 → AreSmall rows → (test : LinkRow → Bool) (m : Measure) → sum_where test m rows < 2 ^ 64
room_by_key rows few small test m = let part = part_le test m rows in let all = small m in omega arith

-- the sums of the outermost contexts of each key are totals by key
pub totals_by : (cliques found : List ℕ) (rows : List LinkRow) → All (λ r. r.callee < length cliques) rows → EntriesRise cliques found rows → (key : ℕ → Option ℕ) (flags : List Bool) → AreMarks cliques (start_of rows found) key flags
    → (nodes : List Sums) → AreTotals cliques found rows nodes → (count : ℕ) (sums : List Sums) → Grouped (marked key flags) nodes count (length nodes) sums → AreTotalsBy cliques found rows key count sums
totals_by cliques found rows ends rise key flags are nodes totals count sums is = record {
  each = is.each;
  is = λ q m lt. is.is q m lt ∙ ap (λ (n : ℕ). key_sum (marked key flags) nodes n q m) totals.each_node ∙ total_by_key cliques rows ends found rise key flags are nodes totals.of_node q m;
}

-- the key of a context that is flagged is one of its keys
marked_below : (b : Bool) (o : Option ℕ) (count q : ℕ) → ((p : ℕ) → o ≡ Some p → p < count) → cond b o None ≡ Some q → q < count
marked_below true o count q below e = below q e
marked_below false o count q below e = cc

-- so there is room for one more
pub totals_room : (cliques found : List ℕ) (rows : List LinkRow) → All (λ r. r.callee < length cliques) rows → EntriesRise cliques found rows → length rows < 4294967296 → AreSmall rows
    → (key : ℕ → Option ℕ) (flags : List Bool) → AreMarks cliques (start_of rows found) key flags → (count : ℕ) → ((d q : ℕ) → key d ≡ Some q → q < count)
    → (nodes : List Sums) → AreTotals cliques found rows nodes → (i : ℕ) (sums : List Sums) → Grouped (marked key flags) nodes count i sums → i < length nodes → HasRoom sums (marked key flags i) (get_or nodes i zero_sums)
totals_room cliques found rows ends rise few small key flags are count below nodes totals i sums is lt =
    grouped_room (marked key flags) nodes count i sums is (length cliques) (let size = totals.each_node in omega arith)
    (λ d q there e. marked_below (get_or flags d false) (key d) count q (below d) e)
    (λ q m. rw (total_by_key cliques rows ends found rise key flags are nodes totals.of_node q m) (room_by_key rows few small (λ r. list_any (λ d. same_option (Some q) (key d)) (path_of cliques found rows r.callee)) m))
    (marked key flags i) refl
