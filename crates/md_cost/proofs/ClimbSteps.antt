-- Totals climb one clique further.
use Rattle.std.proofs.Common.{◌≡◌, ℕ, suc, ◌+◌, ◌^◌, ◌<◌, ◌≤◌, Bool, true, false, ◌&&◌, ◌||◌, eqb, cond, List, length, get_or, set, All, Some, refl, sym, ap, ◌∙◌, inl, inr, arith}
use Rattle.std.specs.List.{list_any, slice_get}
use Rattle.std.proofs.lemmas.Bool.{cases_eq, eq-eqb, ne_eqb, eqb-true}
use Rattle.std.proofs.lemmas.List.{get_or-set_same, get_or-set_other, length-set}
use Rattle.std.proofs.lemmas.Option.{slice_get_within, get_or_from_slice_get}
use Rattle.md_base.specs.declared.measure.Measure.{Measure}
use Rattle.md_base.specs.Counts.{count_of}
use Rattle.md_dynamic.specs.declared.link.LinkRow.{LinkRow}
use Rattle.md_clique.specs.Cliques.{clique_count}
use Rattle.md_clique.proofs.Naming.{lt_clique_count}
use Rattle.md_cost.specs.declared.sums.Sums.{Sums}
use Rattle.md_cost.specs.SumOf.{sum_of, zero_sums}
use Rattle.md_cost.specs.Paths.{path_to, start_of, DoRise, EntriesRise}
use Rattle.md_cost.specs.Totals.{sum_where}
use Rattle.md_cost.specs.Climbing.{AreOwn, AreSmall, AreTotals}
use Rattle.md_cost.proofs.PathSteps.{any_one, path_stops, one_further, not_before}
use Rattle.md_cost.proofs.SumSteps.{sum_of_both, sum_same}
use Rattle.md_cost.proofs.OwnSteps.{part_le}

-- over the links whose path down to clique q passes a test
abbrev pub climbed : List ℕ → (ℕ → ℕ) → List LinkRow → ℕ → (ℕ → Bool) → Measure → ℕ
climbed cliques starts rows q test m = sum_where (λ r. list_any test (path_to cliques starts q (get_or cliques r.callee 0) r.callee)) m rows

-- what is kept while the cliques above q are done
pub record Climbed (cliques : List ℕ) (starts : ℕ → ℕ) (rows : List LinkRow) (q : ℕ) (nodes : List Sums) : Type 0 where
  pub each_node : length nodes ≡ length cliques
  pub of_node : (c : ℕ) (m : Measure) → c < length cliques → sum_of (get_or nodes c zero_sums) m ≡ climbed cliques starts rows q (λ d. eqb d c) m

-- a link counts once, before or now
counts_once : (b d p : Bool) (x : ℕ) → d ≡ (b || (p && true)) → (p ≡ true → b ≡ false) → cond d x 0 ≡ cond b x 0 + cond p x 0
counts_once true d true x e apart = let q : true ≡ false = apart refl in cc
counts_once true d false x e apart = rw e (omega arith)
counts_once false d true x e apart = rw e (omega arith)
counts_once false d false x e apart = rw e (omega arith)

counts_as_before : (b d p : Bool) → d ≡ (b || (p && false)) → d ≡ b
counts_as_before true d p e = e
counts_as_before false d true e = e
counts_as_before false d false e = e

module _ (cliques : List ℕ) (starts : ℕ → ℕ) (rows : List LinkRow) (rises : (k : ℕ) → 0 < k → k < clique_count cliques → get_or cliques (starts k) 0 < k) (ends : (i : ℕ) (r : LinkRow) → slice_get rows i ≡ Some r → r.callee < length cliques) where
  pub climbed_more : (q : ℕ) (test : ℕ → Bool) (m : Measure) → suc q < clique_count cliques → test (starts (suc q)) ≡ true → ((d : ℕ) → test d ≡ true → get_or cliques d 0 ≡ get_or cliques (starts (suc q)) 0) → climbed cliques starts rows q test m ≡ climbed cliques starts rows (suc q) test m + climbed cliques starts rows (suc q) (λ d. eqb (get_or cliques d 0) (suc q)) m
  climbed_more q test m few at_start same = sum_of_both
      (λ r. cond (list_any test (path_to cliques starts q (get_or cliques r.callee 0) r.callee)) (count_of r.own m) 0)
      (λ r. cond (list_any test (path_to cliques starts (suc q) (get_or cliques r.callee 0) r.callee)) (count_of r.own m) 0)
      (λ r. cond (list_any (λ d. eqb (get_or cliques d 0) (suc q)) (path_to cliques starts (suc q) (get_or cliques r.callee 0) r.callee)) (count_of r.own m) 0)
      rows
      (λ i r at.
      let below = lt_clique_count cliques r.callee (ends i r at) in
      let further = one_further cliques starts (clique_count cliques) rises q test few (get_or cliques r.callee 0) r.callee (omega arith) below in
      counts_once
      (list_any test (path_to cliques starts (suc q) (get_or cliques r.callee 0) r.callee))
      (list_any test (path_to cliques starts q (get_or cliques r.callee 0) r.callee))
      (list_any (λ d. eqb (get_or cliques d 0) (suc q)) (path_to cliques starts (suc q) (get_or cliques r.callee 0) r.callee))
      (count_of r.own m)
      (rw at_start at further)
      (not_before cliques starts (clique_count cliques) rises q test few at_start same (get_or cliques r.callee 0) r.callee (omega arith) below))

  pub climbed_same : (q : ℕ) (test : ℕ → Bool) (m : Measure) → suc q < clique_count cliques → test (starts (suc q)) ≡ false → climbed cliques starts rows q test m ≡ climbed cliques starts rows (suc q) test m
  climbed_same q test m few outside = sum_same
      (λ r. cond (list_any test (path_to cliques starts q (get_or cliques r.callee 0) r.callee)) (count_of r.own m) 0)
      (λ r. cond (list_any test (path_to cliques starts (suc q) (get_or cliques r.callee 0) r.callee)) (count_of r.own m) 0)
      rows
      (λ i r at.
      let below = lt_clique_count cliques r.callee (ends i r at) in
      let further = one_further cliques starts (clique_count cliques) rises q test few (get_or cliques r.callee 0) r.callee (omega arith) below in
      let same = counts_as_before (list_any test (path_to cliques starts (suc q) (get_or cliques r.callee 0) r.callee)) (list_any test (path_to cliques starts q (get_or cliques r.callee 0) r.callee)) (list_any (λ d. eqb (get_or cliques d 0) (suc q)) (path_to cliques starts (suc q) (get_or cliques r.callee 0) r.callee)) (rw outside at further) in
      rw same refl)

  -- in the last clique no path has gone anywhere
  pub climbed_none : (q : ℕ) (test : ℕ → Bool) (m : Measure) → clique_count cliques ≤ q + 1 → climbed cliques starts rows q test m ≡ sum_where (λ r. test r.callee) m rows
  climbed_none q test m last = sum_same
      (λ r. cond (list_any test (path_to cliques starts q (get_or cliques r.callee 0) r.callee)) (count_of r.own m) 0)
      (λ r. cond (test r.callee) (count_of r.own m) 0)
      rows
      (λ i r at.
      let below = lt_clique_count cliques r.callee (ends i r at) in
      let stops = path_stops cliques starts q (get_or cliques r.callee 0) r.callee (omega arith) in
      rw (stops, any_one) refl)

  pub climbed_own : (nodes : List Sums) → AreOwn cliques rows nodes → (q : ℕ) → clique_count cliques ≤ q + 1 → Climbed cliques starts rows q nodes
  climbed_own nodes own q last = record {
    each_node = own.each_node;
    of_node = λ c m lt. own.of_node c m lt ∙ sym (climbed_none q (λ d. eqb d c) m last);
  }

  module _ (q : ℕ) (nodes : List Sums) (is : Climbed cliques starts rows (suc q) nodes) (few : suc q < clique_count cliques) (there : starts (suc q) < length cliques) (total : Sums) (total_is : (m : Measure) → sum_of total m ≡ climbed cliques starts rows (suc q) (λ d. eqb (get_or cliques d 0) (suc q)) m) where
    node_total : (c : ℕ) (m : Measure) → c ≡ starts (suc q) → climbed cliques starts rows q (λ d. eqb d c) m ≡ climbed cliques starts rows (suc q) (λ d. eqb d c) m + sum_of total m
    node_total c m e = climbed_more q (λ d. eqb d c) m few (eq-eqb (starts (suc q)) c (sym e)) (λ d is_c. ap (λ (x : ℕ). get_or cliques x 0) (eqb-true d c is_c ∙ e)) ∙ (rw (total_is m) refl)

    -- there is room for the total
    pub room_above : length rows < 4294967296 → AreSmall rows → (m : Measure) → sum_of (get_or nodes (starts (suc q)) zero_sums) m + sum_of total m < 2 ^ 64
    room_above short small m =
        let old = is.of_node (starts (suc q)) m there in
        let new = node_total (starts (suc q)) m refl in
        let p = part_le (λ r. list_any (λ d. eqb d (starts (suc q))) (path_to cliques starts q (get_or cliques r.callee 0) r.callee)) m rows in
        let s = small m in
        omega arith

    pub climbed_next : (node_sum : Sums) → ((m : Measure) → sum_of node_sum m ≡ sum_of (get_or nodes (starts (suc q)) zero_sums) m + sum_of total m) → Climbed cliques starts rows q (set nodes (starts (suc q)) node_sum)
    climbed_next node_sum node_is = record {
      each_node = length-set nodes (starts (suc q)) node_sum ∙ is.each_node;
      of_node = λ c m lt. let size = is.each_node in elim (cases_eq c (starts (suc q))) [
        | inl e ↦ (
            let at : get_or (set nodes (starts (suc q)) node_sum) c zero_sums ≡ node_sum = rw e (get_or-set_same nodes (starts (suc q)) node_sum zero_sums (omega arith)) in
            let old = is.of_node c m lt in
            let was : sum_of (get_or nodes (starts (suc q)) zero_sums) m ≡ climbed cliques starts rows (suc q) (λ d. eqb d c) m = rw (← e) old in
            let new = node_total c m e in
            let sum = node_is m in
            rw at (omega arith))
        | inr ne ↦ (
            let out = climbed_same q (λ d. eqb d c) m few (ne_eqb (starts (suc q)) c (λ (r : starts (suc q) ≡ c). ne (sym r))) in
            rw (get_or-set_other nodes (starts (suc q)) c node_sum zero_sums ne) (is.of_node c m lt ∙ sym out))
      ];
    }

-- the start of an entering link, by what is known of it
pub start_is : (cliques found : List ℕ) (rows : List LinkRow) (k : ℕ) → (rise : DoRise cliques found rows k) → start_of rows found k ≡ rise.start
start_is cliques found rows k rise = rw (rise.there, rise.caller) refl

pub entries_rise : (cliques found : List ℕ) (rows : List LinkRow) → EntriesRise cliques found rows → (k : ℕ) → 0 < k → k < clique_count cliques → get_or cliques (start_of rows found k) 0 < k
entries_rise cliques found rows rise k some few = let r = rise k some few in rw (start_is cliques found rows k r) r.lower

pub start_there : (cliques found : List ℕ) (rows : List LinkRow) → EntriesRise cliques found rows → (k : ℕ) → 0 < k → k < clique_count cliques → start_of rows found k < length cliques
start_there cliques found rows rise k some few = let r = rise k some few in rw (start_is cliques found rows k r) r.below

pub ends_at : (cliques : List ℕ) (rows : List LinkRow) → All (λ r. r.callee < length cliques) rows → (i : ℕ) (r : LinkRow) → slice_get rows i ≡ Some r → r.callee < length cliques
ends_at cliques rows all i r at =
    let within = slice_get_within rows i r at in
    let is : get_or rows i r ≡ r = get_or_from_slice_get rows i r r at in
    rw is at (all i r within)

-- in clique 0 each path has come to its end
pub climbed_all : (cliques found : List ℕ) (rows : List LinkRow) (nodes : List Sums) → Climbed cliques (start_of rows found) rows 0 nodes → AreTotals cliques found rows nodes
climbed_all cliques found rows nodes is = record { each_node = is.each_node; of_node = is.of_node }
