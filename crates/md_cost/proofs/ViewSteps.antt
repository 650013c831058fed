-- The view of a file in terms of the path that a context has in so many steps.
use Rattle.std.proofs.Common.{◌≡◌, ℕ, zero, suc, ◌-◌, ◌<◌, Bool, true, eqb, cond, List, [], ◌∷◌, length, get_or, Option, Some, None, refl, sym, ap, ◌∙◌, inl, inr, subst, arith}
use Rattle.std.specs.List.{list_any, slice_get}
use Rattle.std.specs.Prelude.{if◌then◌else◌}
use Rattle.std.proofs.lemmas.Bool.{cases_eq, cases_lt, eq-eqb, ne_eqb}
use Rattle.std.proofs.lemmas.List.{ext_get_or}
use Rattle.std.proofs.lemmas.Option.{slice_get_within, get_or_from_slice_get}
use Rattle.md_base.specs.declared.measure.Measure.{Measure}
use Rattle.md_base.specs.Counts.{count_of}
use Rattle.md_trace.specs.Cliques.{leaves}
use Rattle.md_dynamic.specs.declared.link.LinkRow.{LinkRow}
use Rattle.md_dynamic.specs.Profile.{ProfileRows}
use Rattle.md_clique.specs.Cliques.{clique_count}
use Rattle.md_clique.specs.Entries.{AreEntries, edges_of, enters}
use Rattle.md_clique.specs.OneEntry.{BeginsWith, IsPathUp, StartsEntry}
use Rattle.md_clique.proofs.OneNumbering.{one_numbering}
use Rattle.md_clique.proofs.EnteredOnce.{its_place, only_place, enters_parts}
use Rattle.md_clique.proofs.Naming.{lt_clique_count}
use Rattle.md_cost.specs.Paths.{ends, EntriesRise, path_of, path_to, start_of}
use Rattle.md_cost.specs.Totals.{path_total}
use Rattle.md_cost.specs.Sound.{AreSound}
use Rattle.md_cost.specs.Tree.{IsTree}
use Rattle.md_cost.specs.View.{Row, View, OfLink, OfContext, OfClique, OfProcedure, OfSite, OfModule}
use Rattle.md_cost.specs.FileView.{ArePaths, IsFileView, path_sum, file_own, total_by, total_by_link, total_from}
use Rattle.md_cost.proofs.PathSteps.{path_stops, path_goes}
use Rattle.md_cost.proofs.EntrySteps.{entry_there}
use Rattle.md_cost.proofs.SumSteps.{sum_same}
use Rattle.md_cost.proofs.ClimbSteps.{entries_rise, start_there}
use Rattle.md_cost.proofs.TreeSteps.{rises, ends_at as end_at, row_at, callees_there}
use Rattle.md_cost.proofs.WalkSteps.{path_enough, up_there, up_goes, up_ends, parent_there, parent_lower}
use Rattle.md_cost.specs.Walking.{above, upward}

-- where tests agree below n, they agree on lists of such numbers
abbrev pub AllBelow : ℕ → List ℕ → Type 0
AllBelow n [] = Unit {0}
AllBelow n (x ∷ xs) = (x < n) × AllBelow n xs

pub any_below : (n : ℕ) (p q : ℕ → Bool) (xs : List ℕ) → AllBelow n xs → ((e : ℕ) → e < n → p e ≡ q e) → list_any p xs ≡ list_any q xs
any_below n p q [] all same = refl
any_below n p q (x ∷ xs) all same = rw (same x all.0, any_below n p q xs all.1 same) refl

list_head : (c d : ℕ) (xs : List ℕ) → slice_get (d ∷ xs) 0 ≡ Some c → d ≡ c
list_head c d xs at = cc

-- there is one such pair of lists
pub one_entries : (cliques : List ℕ) (links : List (Option ℕ × ℕ)) (xs ys : List ℕ) → AreEntries cliques links xs → AreEntries cliques links ys → xs ≡ ys
one_entries cliques links xs ys are also = ext_get_or 0 xs ys (are.each ∙ sym also.each) (λ k lt.
    let size = are.each in
    let both : get_or xs k 0 ∷ [] ≡ get_or ys k 0 ∷ [] = sym (are.one k (omega arith)) ∙ also.one k (omega arith) in
    cc)

module _ (f : ProfileRows) (sound : AreSound (length f.nodes) f.links) (cliques found : List ℕ) (tree : IsTree (length f.nodes) f.links cliques found) where
  abbrev n : ℕ
  n = length f.nodes

  rise : EntriesRise cliques found f.links
  rise = rises (length f.nodes) f.links sound cliques found tree.cliques_are tree.entries_are

  pub lower : (k : ℕ) → 0 < k → k < clique_count cliques → get_or cliques (start_of f.links found k) 0 < k
  lower = entries_rise cliques found f.links rise

  pub started : (k : ℕ) → 0 < k → k < clique_count cliques → start_of f.links found k < length cliques
  started = start_there cliques found f.links rise

  pub all_below : (k d : ℕ) → get_or cliques d 0 < k → d < length cliques → AllBelow (length cliques) (upward cliques (start_of f.links found) d)
  all_below zero d low lt = absurd (omega arith)
  all_below (suc k) d low lt =
      rw (up_goes cliques (start_of f.links found) lower started d lt) (
        lt,
        elim (cases_lt (above cliques (start_of f.links found) d) (length cliques)) [
          | inl inside ↦ (let less = parent_lower cliques (start_of f.links found) lower started d lt inside in all_below k (above cliques (start_of f.links found) d) (omega arith) inside)
          | inr outside ↦ (let le = parent_there cliques (start_of f.links found) lower started d lt in let top : above cliques (start_of f.links found) d ≡ length cliques = omega arith in rw (top, up_ends cliques (start_of f.links found) lower started) tt)
        ],
      )

  pub path_below : (d : ℕ) → d < length cliques → AllBelow (length cliques) (path_of cliques found f.links d)
  path_below d lt = subst (λ (xs : List ℕ). AllBelow (length cliques) xs) (up_there cliques (start_of f.links found) lower started d lt) (all_below (suc (get_or cliques d 0)) d (omega arith) lt)

  pub callee_there : (i : ℕ) (r : LinkRow) → slice_get f.links i ≡ Some r → r.callee < length cliques
  callee_there i r at =
      let size = tree.cliques_are.each in
      let within = slice_get_within f.links i r at in
      let is : get_or f.links i r ≡ r = get_or_from_slice_get f.links i r r at in
      let below = rw is at (callees_there (length f.nodes) f.links sound i r within) in
      omega arith

  -- tests that agree on contexts give one total
  pub total_same : (p q : ℕ → Bool) (m : Measure) → ((e : ℕ) → e < length cliques → p e ≡ q e) → path_total cliques found f.links p m ≡ path_total cliques found f.links q m
  total_same p q m same = sum_same
      (λ (r : LinkRow). cond (list_any p (path_of cliques found f.links r.callee)) (count_of r.own m) 0)
      (λ (r : LinkRow). cond (list_any q (path_of cliques found f.links r.callee)) (count_of r.own m) 0)
      f.links
      (λ i r at. ap (λ (b : Bool). cond b (count_of r.own m) 0) (any_below (length cliques) p q (path_of cliques found f.links r.callee) (path_below r.callee (callee_there i r at)) same))

  -- a link that enters a clique is its entry
  pub entry_of : (p k : ℕ) (o : Option ℕ) (b : ℕ) → slice_get (ends f.links) p ≡ Some (o, b) → enters cliques k (o, b) ≡ true → k < clique_count cliques → get_or found k 0 ≡ p
  entry_of p k o b at enter lt =
      let its = its_place (enters cliques k) 0 (ends f.links) p (o, b) at enter in
      only_place its.0 (get_or found k 0) p (rw (tree.entries_are.one k lt) at its.1)

  root_at : slice_get (ends f.links) 0 ≡ Some (None, 0)
  root_at = end_at f.links 0 sound.root_row sound.root_there ∙ (rw (sound.root.caller, sound.root.callee) refl)

  first_clique : get_or cliques 0 0 ≡ 0
  first_clique = elim (cases_lt 0 (get_or cliques 0 0)) [
    | inl more ↦ (let w = tree.cliques_are.in_order 0 0 sound.some_contexts more in let none : w.0 < 0 = w.1 in absurd (omega arith))
    | inr none ↦ omega arith
  ]

  pub some_cliques : 0 < clique_count cliques
  some_cliques = let size = tree.cliques_are.each in let some = sound.some_contexts in let lt = lt_clique_count cliques 0 (omega arith) in omega arith

  root_entry : get_or found 0 0 ≡ 0
  root_entry = entry_of 0 0 None 0 root_at (rw first_clique refl) some_cliques

  -- what starts the entry of a clique
  entry_start : (k d : ℕ) → k < clique_count cliques → StartsEntry cliques (ends f.links) k d → (start_of f.links found k ≡ d) × (0 < k)
  entry_start k d lt starts =
      let same : get_or found k 0 ≡ starts.place = (let both : get_or found k 0 ∷ [] ≡ starts.place ∷ [] = sym (tree.entries_are.one k lt) ∙ starts.only in cc) in
      let row = row_at f.links starts.place (Some d) starts.to starts.link in (
        rw (same, row.1, row.2) refl,
        elim (cases_lt 0 k) [
          | inl some ↦ some
          | inr none ↦ (
              let zero_k : k ≡ 0 = omega arith in
              let place : starts.place ≡ 0 = sym same ∙ (rw zero_k root_entry) in
              let e : Some (None, 0) ≡ Some (Some d, starts.to) = sym root_at ∙ (rw place at starts.link) in
              let f : None ≡ Some d = ap (λ (o : Option (Option ℕ × ℕ)). start_in o) e in
              absurd (none_some d f))
        ],
      )
    where
      start_in : Option (Option ℕ × ℕ) → Option ℕ
      start_in None = None
      start_in (Some p) = p.0

      none_some : (x : ℕ) → None ≡ Some x → ⊥
      none_some x e = cc

  -- a path up is the one in so many steps
  pub path_is : (xs : List ℕ) (c : ℕ) → c < length cliques → BeginsWith c xs → IsPathUp cliques (ends f.links) xs → xs ≡ path_of cliques found f.links c
  path_is [] c lt begin up = absurd up
  path_is (x ∷ []) c lt begin up =
      let same = list_head c x [] begin in
      let zero_c : get_or cliques c 0 ≡ 0 = rw same at up in
      rw same (sym (path_stops cliques (start_of f.links found) 0 (get_or cliques c 0) c (omega arith)))
  path_is (x ∷ d ∷ ds) c lt begin up =
      let same = list_head c x (d ∷ ds) begin in
      let below = lt_clique_count cliques c lt in
      let starts : StartsEntry cliques (ends f.links) (get_or cliques c 0) d = rw same at up.0 in
      let from = entry_start (get_or cliques c 0) d below starts in
      let d_lower : get_or cliques d 0 < get_or cliques c 0 = rw from.0 at (lower (get_or cliques c 0) from.1 below) in
      let d_there : d < length cliques = rw from.0 at (started (get_or cliques c 0) from.1 below) in
      let rest = path_is (d ∷ ds) d d_there refl up.1 in
      let steps : get_or cliques c 0 ≡ suc (get_or cliques c 0 - 1) = omega (arith, from.1) in
      rw same (ap (λ (ys : List ℕ). c ∷ ys) rest
      ∙ ap (λ (ys : List ℕ). c ∷ ys) (path_enough cliques (start_of f.links found) lower started (get_or cliques d 0) (get_or cliques c 0 - 1) d (omega arith) (omega arith) (omega arith))
      ∙ ap (λ (e : ℕ). c ∷ path_to cliques (start_of f.links found) 0 (get_or cliques c 0 - 1) e) (sym from.0)
      ∙ sym (path_goes cliques (start_of f.links found) 0 (get_or cliques c 0 - 1) c from.1)
      ∙ ap (λ (i : ℕ). path_to cliques (start_of f.links found) 0 i c) (sym steps))

  -- so sums over paths are those in so many steps
  pub path_sum_is : (paths : List (List ℕ)) → ArePaths cliques (ends f.links) paths → (test : ℕ → Bool) (m : Measure) → path_sum paths f.links test m ≡ path_total cliques found f.links test m
  path_sum_is paths are test m = sum_same
      (λ (r : LinkRow). cond (list_any test (get_or paths r.callee [])) (count_of r.own m) 0)
      (λ (r : LinkRow). cond (list_any test (path_of cliques found f.links r.callee)) (count_of r.own m) 0)
      f.links
      (λ i r at. let lt = callee_there i r at in ap (λ (xs : List ℕ). cond (list_any test xs) (count_of r.own m) 0) (path_is (get_or paths r.callee []) r.callee lt (are.begin r.callee lt) (are.up r.callee lt)))

  module _ (over also : (ℕ → Bool) → Measure → ℕ) (same : (test : ℕ → Bool) (m : Measure) → over test m ≡ also test m) where
    from_same : (p : ℕ) (o : Option ℕ) (to : ℕ) (m : Measure) → total_from over cliques found p o to m ≡ total_from also cliques found p o to m
    from_same p None to m = ap (λ (s : ℕ). Some s) (same (λ d. eqb (get_or cliques d 0) 0) m)
    from_same p (Some from) to m = ap (λ (s : ℕ). if leaves cliques (Some from) to then Some s else None) (same (λ d. eqb (get_or found (get_or cliques d 0) 0) p) m)

    link_same : (p : ℕ) (o : Option LinkRow) (m : Measure) → total_by_link over cliques found p o m ≡ total_by_link also cliques found p o m
    link_same p None m = refl
    link_same p (Some r) m = from_same p r.caller r.callee m

    pub by_same : (row : Row) (m : Measure) → total_by over f cliques found row m ≡ total_by also f cliques found row m
    by_same (OfLink p) m = link_same p (slice_get f.links p) m
    by_same (OfContext c) m = ap (λ (s : ℕ). Some s) (same _ m)
    by_same (OfClique k) m = ap (λ (s : ℕ). Some s) (same _ m)
    by_same (OfProcedure q) m = ap (λ (s : ℕ). Some s) (same _ m)
    by_same (OfSite s) m = ap (λ (x : ℕ). Some x) (same _ m)
    by_same (OfModule k) m = ap (λ (s : ℕ). Some s) (same _ m)

  -- every view has these cliques and entries, and so these numbers
  pub view_cliques : (v : View) → IsFileView f v → v.cliques ≡ cliques
  view_cliques v is = one_numbering (length f.nodes) (edges_of (ends f.links)) v.cliques cliques is.tree.cliques_are tree.cliques_are

  pub view_entries : (v : View) → IsFileView f v → v.entries ≡ found
  view_entries v is = one_entries cliques (ends f.links) v.entries found (subst (λ (ks : List ℕ). AreEntries ks (ends f.links) v.entries) (view_cliques v is) is.tree.entries_are) tree.entries_are

  pub view_own : (v : View) → IsFileView f v → (row : Row) (m : Measure) → v.own row m ≡ file_own f row m
  view_own v is row m = ap (λ (w : View). w.own row m) is.is

  pub view_total : (v : View) → IsFileView f v → (row : Row) (m : Measure) → v.total row m ≡ total_by (path_total cliques found f.links) f cliques found row m
  view_total v is row m =
      let paths : ArePaths cliques (ends f.links) is.paths = subst (λ (ks : List ℕ). ArePaths ks (ends f.links) is.paths) (view_cliques v is) is.paths_are in
      ap (λ (w : View). w.total row m) is.is
      ∙ ap (λ (ks : List ℕ). total_by (path_sum is.paths f.links) f ks v.entries row m) (view_cliques v is)
      ∙ ap (λ (es : List ℕ). total_by (path_sum is.paths f.links) f cliques es row m) (view_entries v is)
      ∙ by_same (path_sum is.paths f.links) (path_total cliques found f.links) (path_sum_is is.paths paths) row m

  -- the root link has the total of clique 0
  pub link_root : (v : View) → IsFileView f v → (p : ℕ) (row : LinkRow) (m : Measure) → slice_get f.links p ≡ Some row → row.caller ≡ None → v.total (OfLink p) m ≡ v.total (OfClique 0) m
  link_root v is p row m at none = view_total v is (OfLink p) m ∙ (rw (at, none) refl) ∙ sym (view_total v is (OfClique 0) m)

  pub link_inside : (v : View) → IsFileView f v → (p from : ℕ) (row : LinkRow) (m : Measure) → slice_get f.links p ≡ Some row → row.caller ≡ Some from → get_or cliques from 0 ≡ get_or cliques row.callee 0 → v.total (OfLink p) m ≡ None
  link_inside v is p from row m at some same = view_total v is (OfLink p) m ∙ (rw (at, some, eq-eqb (get_or cliques from 0) (get_or cliques row.callee 0) same) refl)

  -- a link that leaves is the entry of the clique where it ends, and of no other
  entry_alone : (p from : ℕ) (row : LinkRow) → slice_get f.links p ≡ Some row → row.caller ≡ Some from → (get_or cliques from 0 ≡ get_or cliques row.callee 0 → ⊥)
      → (d : ℕ) → d < length cliques → eqb (get_or found (get_or cliques d 0) 0) p ≡ eqb (get_or cliques d 0) (get_or cliques row.callee 0)
  entry_alone p from row at some out d lt =
      let end : slice_get (ends f.links) p ≡ Some (Some from, row.callee) = end_at f.links p row at ∙ ap (λ (o : Option ℕ). Some (o, row.callee)) some in
      let there = callee_there p row at in
      let enter : enters cliques (get_or cliques row.callee 0) (Some from, row.callee) ≡ true = rw (eq-eqb (get_or cliques row.callee 0) (get_or cliques row.callee 0) refl, ne_eqb (get_or cliques from 0) (get_or cliques row.callee 0) out) refl in
      elim (cases_eq (get_or cliques d 0) (get_or cliques row.callee 0)) [
        | inl same ↦ (
            let entry = entry_of p (get_or cliques row.callee 0) (Some from) row.callee end enter (lt_clique_count cliques row.callee there) in
            rw same (rw (eq-eqb (get_or found (get_or cliques row.callee 0) 0) p entry, eq-eqb (get_or cliques row.callee 0) (get_or cliques row.callee 0) refl) refl))
        | inr other ↦ (
            let apart : get_or found (get_or cliques d 0) 0 ≡ p → ⊥ = λ e.
            (let its = entry_there cliques (ends f.links) found tree.entries_are (get_or cliques d 0) (lt_clique_count cliques d lt) in
            let link : Some its.link ≡ Some (Some from, row.callee) = sym (rw e at its.there) ∙ end in
            let is : its.link ≡ (Some from, row.callee) = cc in
            let parts = enters_parts cliques (get_or cliques d 0) (Some from) row.callee (ap (enters cliques (get_or cliques d 0)) (sym is) ∙ its.enters_it) in
            other (sym parts.0)) in
            rw (ne_eqb (get_or found (get_or cliques d 0) 0) p apart, ne_eqb (get_or cliques d 0) (get_or cliques row.callee 0) other) refl)
      ]

  pub link_leaving : (v : View) → IsFileView f v → (p from : ℕ) (row : LinkRow) (m : Measure) → slice_get f.links p ≡ Some row → row.caller ≡ Some from → (get_or cliques from 0 ≡ get_or cliques row.callee 0 → ⊥) → v.total (OfLink p) m ≡ v.total (OfClique (get_or cliques row.callee 0)) m
  link_leaving v is p from row m at some out =
      view_total v is (OfLink p) m
      ∙ (rw (at, some, ne_eqb (get_or cliques from 0) (get_or cliques row.callee 0) out) refl)
      ∙ ap (λ (s : ℕ). Some s) (total_same (λ d. eqb (get_or found (get_or cliques d 0) 0) p) (λ d. eqb (get_or cliques d 0) (get_or cliques row.callee 0)) m (entry_alone p from row at some out))
      ∙ sym (view_total v is (OfClique (get_or cliques row.callee 0)) m)
