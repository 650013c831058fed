-- One link more is threaded, and one link less is left of a thread.
use Rattle.std.proofs.Common.{◌≡◌, ℕ, suc, ◌+◌, ◌<◌, ◌≤◌, ◌^◌, eqb, cond, List, [], ◌∷◌, ◌++◌, length, take, get_or, set, replicate, Some, refl, sym, ap, ◌∙◌, inl, inr, subst, arith}
use Rattle.std.specs.List.{slice_get}
use Rattle.std.proofs.lemmas.Bool.{cases_eq, eq-eqb, ne_eqb}
use Rattle.std.proofs.lemmas.List.{get_or-set_same, get_or-set_other, length-set, get_or-replicate, length-replicate, get_or_append_left, get_or_push, length_push, take_all, take_more}
use Rattle.std.proofs.lemmas.List.Sums.{sum_by_push}
use Rattle.std.proofs.lemmas.Option.{slice_get_within, get_or_from_slice_get}
use Rattle.md_base.specs.declared.measure.Measure.{Measure}
use Rattle.md_base.specs.Counts.{count_of}
use Rattle.md_dynamic.specs.declared.link.LinkRow.{LinkRow}
use Rattle.md_cost.specs.declared.sums.Sums.{Sums}
use Rattle.md_cost.specs.SumOf.{sum_of, zero_sums}
use Rattle.md_cost.specs.Climbing.{AreSmall}
use Rattle.md_cost.specs.Incoming.{AreIncoming, IsBound}
use Rattle.md_cost.specs.Totals.{context_own}
use Rattle.md_cost.proofs.OwnSteps.{part_le, no_sum}

same_row : (a b : LinkRow) → Some a ≡ Some b → a ≡ b
same_row a b e = cc

module _ (rows : List LinkRow) where
  -- one link more
  one_link : (p : ℕ) (row : LinkRow) → slice_get rows p ≡ Some row → (c : ℕ) (m : Measure) → context_own (take (p + 1) rows) c m ≡ context_own (take p rows) c m + cond (eqb row.callee c) (count_of row.own m) 0
  one_link p row at c m =
      let next : take (p + 1) rows ≡ take p rows ++ row ∷ [] = take_more rows p row (slice_get_within rows p row at) ∙ ap (λ (r : LinkRow). take p rows ++ r ∷ []) (get_or_from_slice_get rows p row row at) in
      rw next (sum_by_push (λ (r : LinkRow). cond (eqb r.callee c) (count_of r.own m) 0) (take p rows) row)

  -- the first i links are threaded
  pub record Threaded (n i : ℕ) (last before : List ℕ) : Type 0 where
    pub each_last : length last ≡ n
    pub each_before : length before ≡ i
    pub lasts : (c : ℕ) → c < n → IsBound rows c i (get_or last c 0)
    pub befores : (p : ℕ) (r : LinkRow) → p < i → slice_get rows p ≡ Some r → IsBound rows r.callee p (get_or before p 0)

  pub threaded_none : (n : ℕ) → Threaded n 0 (replicate n 0) []
  threaded_none n = record {
    each_last = length-replicate n 0;
    each_before = refl;
    lasts = λ c lt. subst (λ (b : ℕ). IsBound rows c 0 b) (sym (get_or-replicate n c 0 0 lt)) (record { within = omega arith; leads = λ p r e there. absurd (omega arith); same = λ m. refl });
    befores = λ p r lt there. absurd (omega arith);
  }

  at_last : (i p : ℕ) (row r : LinkRow) → slice_get rows i ≡ Some row → i + 1 ≡ suc p → slice_get rows p ≡ Some r → r.callee ≡ row.callee
  at_last i p row r at e there =
      let same : p ≡ i = omega arith in
      let is : r ≡ row = same_row r row (sym there ∙ ap (slice_get rows) same ∙ at) in
      ap (λ (x : LinkRow). x.callee) is

  pub threaded_more : (n i : ℕ) (last before : List ℕ) → Threaded n i last before → (row : LinkRow) → slice_get rows i ≡ Some row → row.callee < n
      → Threaded n (i + 1) (set last row.callee (i + 1)) (before ++ get_or last row.callee 0 ∷ [])
  threaded_more n i last before is row at lt = record {
    each_last = length-set last row.callee (i + 1) ∙ is.each_last;
    each_before = (let size = is.each_before in let more = length_push before (get_or last row.callee 0) in omega arith);
    lasts = λ c there. (let size = is.each_last in elim (cases_eq c row.callee) [
      | inl same ↦ (
          let it : get_or (set last row.callee (i + 1)) c 0 ≡ i + 1 = rw same (get_or-set_same last row.callee (i + 1) 0 (omega arith)) in
          subst (λ (b : ℕ). IsBound rows c (i + 1) b) (sym it) (record { within = omega arith; leads = λ p r e on. at_last i p row r at e on ∙ sym same; same = λ m. refl }))
      | inr other ↦ (
          let it : get_or (set last row.callee (i + 1)) c 0 ≡ get_or last c 0 = get_or-set_other last row.callee c (i + 1) 0 other in
          let old = is.lasts c there in
          subst (λ (b : ℕ). IsBound rows c (i + 1) b) (sym it) (record {
            within = (let le = old.within in omega arith);
            leads = old.leads;
            same = λ m. (let one : context_own (take (i + 1) rows) c m ≡ context_own (take i rows) c m + 0 = one_link i row at c m ∙ (rw (ne_eqb row.callee c (λ (e : row.callee ≡ c). other (sym e))) refl) in let before_it = old.same m in omega arith);
          }))
    ]);
    befores = λ p r below there. (let size = is.each_before in elim (cases_eq p i) [
      | inl same ↦ (
          let it : get_or (before ++ get_or last row.callee 0 ∷ []) p 0 ≡ get_or last row.callee 0 = get_or_push before (get_or last row.callee 0) 0 p (omega arith) in
          let is_row : r ≡ row = same_row r row (sym there ∙ ap (slice_get rows) same ∙ at) in
          rw (it, is_row, same) (is.lasts row.callee lt))
      | inr other ↦ rw (get_or_append_left before (get_or last row.callee 0 ∷ []) 0 p (omega arith)) (is.befores p r (omega arith) there)
    ]);
  }

  pub threaded_all : (n : ℕ) (last before : List ℕ) → Threaded n (length rows) last before → AreIncoming n rows last before
  threaded_all n last before is = record { each_last = is.each_last; each_before = is.each_before; lasts = is.lasts; befores = λ p r there. is.befores p r (slice_get_within rows p r there) there }

  -- the links of a context from the bound on are added
  pub record Adding (c : ℕ) (sum : Sums) (bound : ℕ) : Type 0 where
    pub within : bound ≤ length rows
    pub leads : (p : ℕ) (r : LinkRow) → bound ≡ suc p → slice_get rows p ≡ Some r → r.callee ≡ c
    pub with_rest : (m : Measure) → sum_of sum m + context_own (take bound rows) c m ≡ context_own rows c m

  pub adding_none : (c bound : ℕ) → IsBound rows c (length rows) bound → Adding c zero_sums bound
  adding_none c bound is = record {
    within = is.within;
    leads = is.leads;
    with_rest = λ m. (let none = no_sum m in let rest = is.same m in let all : context_own (take (length rows) rows) c m ≡ context_own rows c m = ap (λ (xs : List LinkRow). context_own xs c m) (take_all (length rows) rows (omega arith)) in omega arith);
  }

  module _ (c : ℕ) (sum : Sums) (p : ℕ) (is : Adding c sum (p + 1)) (row : LinkRow) (at : slice_get rows p ≡ Some row) (own : Sums) (own_is : (m : Measure) → sum_of own m ≡ count_of row.own m) where
    callee_is : row.callee ≡ c
    callee_is = is.leads p row (omega arith) at

    with_one : (m : Measure) → context_own (take (p + 1) rows) c m ≡ context_own (take p rows) c m + sum_of own m
    with_one m = one_link p row at c m ∙ (rw (eq-eqb row.callee c callee_is, own_is m) refl)

    pub adding_room : length rows < 4294967296 → AreSmall rows → (m : Measure) → sum_of sum m + sum_of own m < 2 ^ 64
    adding_room few small m =
        let one = with_one m in
        let rest = is.with_rest m in
        let part = part_le (λ r. eqb r.callee c) m rows in
        let all = small m in
        omega arith

    pub adding_more : (now : Sums) → ((m : Measure) → sum_of now m ≡ sum_of sum m + sum_of own m) → (b : ℕ) → IsBound rows row.callee p b → Adding c now b
    adding_more now now_is b bound =
        let of_c : IsBound rows c p b = subst (λ (x : ℕ). IsBound rows x p b) callee_is bound in
        record {
          within = (let le = of_c.within in let top = is.within in omega arith);
          leads = of_c.leads;
          with_rest = λ m. (let one = with_one m in let rest = is.with_rest m in let new = now_is m in let same = of_c.same m in omega arith);
        }

  pub adding_all : (c : ℕ) (sum : Sums) (bound : ℕ) → Adding c sum bound → bound ≡ 0 → (m : Measure) → sum_of sum m ≡ context_own rows c m
  adding_all c sum bound is none m =
      let rest = is.with_rest m in
      let nothing : context_own (take bound rows) c m ≡ 0 = rw none refl in
      omega arith
