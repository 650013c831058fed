-- Totals of a run and of its profile, row kind by row kind.
use Rattle.std.proofs.Common.{◌≡◌, ℕ, ◌<◌, Bool, true, false, ◌&&◌, eqb, List, ◌∷◌, length, map, get_or, Option, Some, None, refl, sym, ap, ◌∙◌, inl, inr, subst}
use Rattle.std.specs.List.{list_any, slice_get}
use Rattle.std.specs.Option.{option_map}
use Rattle.std.specs.Prelude.{option_and_then}
use Rattle.std.proofs.lemmas.Bool.{cases_Bool, eq-eqb, ne_eqb, false≢true}
use Rattle.md_base.specs.declared.measure.Measure.{Measure}
use Rattle.md_trace.specs.declared.event.Event.{Event}
use Rattle.md_trace.specs.Activation.{activations, numbered}
use Rattle.md_trace.specs.PortHistory.{SiteTable, IsPortHistory}
use Rattle.md_trace.specs.Context.{Placed, chain, placed_of, same_option, has_link, same_link}
use Rattle.md_trace.specs.Links.{Leading}
use Rattle.md_trace.specs.Cliques.{leaves}
use Rattle.md_trace.specs.Count.{count_over}
use Rattle.md_trace.specs.Totals.{stations, in_context, in_procedure, at_site, in_module, in_clique, is_entering}
use Rattle.md_trace.proofs.LinkFacts.{are-calls, leading, links-distinct}
use Rattle.md_static.specs.Tables.{Static}
use Rattle.md_dynamic.specs.declared.link.LinkRow.{LinkRow}
use Rattle.md_dynamic.specs.OfHistory.{IsProfileOf, row_of}
use Rattle.md_dynamic.specs.Profile.{ProfileRows}
use Rattle.md_dynamic.specs.Valid.{IsValid}
use Rattle.md_clique.specs.Entries.{is_outside}
use Rattle.md_clique.specs.OneEntry.{IsPathUp, links_of}
use Rattle.md_clique.proofs.Coming.{called, well}
use Rattle.md_clique.proofs.Growing.{chain_head, same_link_eq, same_link_refl}
use Rattle.md_clique.proofs.Naming.{lt_clique_count}
use Rattle.md_clique.proofs.StationPaths.{path_up}
use Rattle.md_cost.specs.Paths.{path_of}
use Rattle.md_cost.specs.Totals.{sum_where as rows_where, path_total}
use Rattle.md_cost.specs.Tree.{IsTree}
use Rattle.md_cost.specs.View.{Row, OfLink, OfContext, OfClique, OfProcedure, OfSite, OfModule}
use Rattle.md_cost.specs.FileView.{module_at, procedure_at, site_above, total_by, total_by_link, total_from}
use Rattle.md_cost.proofs.RunRows.{cliques_of, ends_are}
use Rattle.md_cost.proofs.TreeSteps.{ends_at as end_at}
use Rattle.md_cost.proofs.ValidSteps.{valid_sound, no_site}
use Rattle.md_cost.proofs.ViewSteps.{callee_there, entry_of, path_is}
use Rattle.law_views.specs.RunView.{modules_of, run_total, total_of_link, total_from as run_total_from}
use Rattle.law_views.proofs.Counting.{right, count_rows}
use Rattle.law_views.proofs.Members.{all_chain, all_stations, any_contexts, any_each, any_entered, any_stations, called_chain}
use Rattle.law_views.proofs.OwnCounts.{at_map, at_module, at_node, turned}

module _ (t : SiteTable) (s : Static) (h : List Event) (finished : Bool) (f : ProfileRows) (is : IsPortHistory t h) (of : IsProfileOf s t.main h finished f) (valid : IsValid f) (cliques found : List ℕ) (tree : IsTree (length f.nodes) f.links cliques found) where
  abbrev xs : List Placed
  xs = placed_of t.main h

  abbrev class : Placed → ℕ
  class z = get_or cliques z.context 0

  -- an activation's link has a row
  record Facts (z : Placed) : Type 0 where
    j : ℕ
    at : slice_get (links_of t.main h) j ≡ Some (leading z.link z.context)
    node : slice_get f.nodes z.context ≡ Some z.link.procedure
    modular : module_at f z.context ≡ slice_get (modules_of s) z.link.procedure

  facts : (a : ℕ) (z : Placed) → numbered (placed_of t.main h) a ≡ Some z → Facts z
  facts a z there = (let l = (right t h is).linked a z there in record { j = l.0; at = l.1; node = at_node t s h finished f is of a z there; modular = at_module t s h finished f is of a z there })

  row_there : (j : ℕ) (x : Leading) → slice_get (links_of t.main h) j ≡ Some x → slice_get f.links j ≡ Some (row_of t.main h x)
  row_there j x at = ap (λ (rows : List LinkRow). slice_get rows j) of.links_are ∙ at_map (row_of t.main h) (links_of t.main h) j ∙ ap (option_map (row_of t.main h)) at

  context_there : (z : Placed) (fz : Facts z) → z.context < length cliques
  context_there z fz = callee_there f (valid_sound f valid).links cliques found tree fz.j (row_of t.main h (leading z.link z.context)) (row_there fz.j (leading z.link z.context) fz.at)

  -- an activation that comes from outside has the entry of its clique as its link
  its_entry : (z : Placed) (fz : Facts z) → is_outside cliques (get_or cliques z.context 0) z.link.caller ≡ true → get_or found (get_or cliques z.context 0) 0 ≡ fz.j
  its_entry z fz out =
      entry_of f (valid_sound f valid).links cliques found tree fz.j (get_or cliques z.context 0) z.link.caller z.context
      (end_at f.links fz.j (row_of t.main h (leading z.link z.context)) (row_there fz.j (leading z.link z.context) fz.at))
      (rw (eq-eqb (get_or cliques z.context 0) (get_or cliques z.context 0) refl) out)
      (lt_clique_count cliques z.context (context_there z fz))

  -- a count over activations as a sum over paths
  total_of : (g : ℕ → Bool) (Q : ℕ → Bool) (m : Measure) → ((a : ℕ) (y : Placed) → numbered (placed_of t.main h) a ≡ Some y → g a ≡ list_any Q (path_of cliques found f.links y.context)) → count_over t.main h g m ≡ path_total cliques found f.links Q m
  total_of g Q m same =
      count_rows t h is g (λ r. list_any Q (path_of cliques found f.links r.callee)) m same
      ∙ ap (λ (rows : List LinkRow). rows_where (λ r. list_any Q (path_of cliques found f.links r.callee)) m rows) (sym of.links_are)

  -- the stations are the path
  path_stations : (a : ℕ) (y : Placed) → numbered (placed_of t.main h) a ≡ Some y → map (λ (z : Placed). z.context) (stations cliques (chain (placed_of t.main h) (Some a))) ≡ path_of cliques found f.links y.context
  path_stations a y there =
      let head = chain_head (placed_of t.main h) a y there in
      let w = well t.main (activations h) (called t h is) in
      let are = cliques_of s t.main h finished f of cliques tree.cliques_are in
      let up = path_up t.main (placed_of t.main h) w cliques are y head.0 (rw head.1 at (w.linked a y there)) in
      let lt = context_there y (facts a y there) in
      rw head.1 (path_is f (valid_sound f valid).links cliques found tree (map (λ (z : Placed). z.context) (stations cliques (y ∷ head.0))) y.context lt refl
      (subst (λ (es : List (Option ℕ × ℕ)). IsPathUp cliques es (map (λ (z : Placed). z.context) (stations cliques (y ∷ head.0)))) (sym (ends_are s t.main h finished f of)) up))

  by_stations : (P : Placed → Bool) (Q : ℕ → Bool) → ((z : Placed) → Facts z → P z ≡ Q z.context) → (a : ℕ) (y : Placed) → numbered (placed_of t.main h) a ≡ Some y
      → list_any P (stations cliques (chain (placed_of t.main h) (Some a))) ≡ list_any Q (path_of cliques found f.links y.context)
  by_stations P Q same a y there =
      any_each P (λ z. Q z.context) (stations cliques (chain (placed_of t.main h) (Some a)))
      (all_stations (λ z. P z ≡ Q z.context) cliques (chain (placed_of t.main h) (Some a)) (all_chain (λ z. P z ≡ Q z.context) (placed_of t.main h) (Some a) (λ b z at. same z (facts b z at))))
      ∙ any_contexts Q (stations cliques (chain (placed_of t.main h) (Some a)))
      ∙ ap (list_any Q) (path_stations a y there)

  by_cliques : (P : Placed → Bool) (U : ℕ → Bool) → ((z : Placed) → Facts z → P z ≡ U (get_or cliques z.context 0)) → (a : ℕ) (y : Placed) → numbered (placed_of t.main h) a ≡ Some y
      → list_any P (chain (placed_of t.main h) (Some a)) ≡ list_any (λ d. U (get_or cliques d 0)) (path_of cliques found f.links y.context)
  by_cliques P U same a y there =
      any_each P (λ z. U (get_or cliques z.context 0)) (chain (placed_of t.main h) (Some a)) (all_chain (λ z. P z ≡ U (get_or cliques z.context 0)) (placed_of t.main h) (Some a) (λ b z at. same z (facts b z at)))
      ∙ any_stations cliques U (chain (placed_of t.main h) (Some a))
      ∙ any_contexts (λ d. U (get_or cliques d 0)) (stations cliques (chain (placed_of t.main h) (Some a)))
      ∙ ap (list_any (λ d. U (get_or cliques d 0))) (path_stations a y there)

  by_entries : (P : Placed → Bool) (U : ℕ → Bool) → ((z : Placed) → Facts z → P z ≡ (is_outside cliques (get_or cliques z.context 0) z.link.caller && U (get_or cliques z.context 0))) → (a : ℕ) (y : Placed) → numbered (placed_of t.main h) a ≡ Some y
      → list_any P (chain (placed_of t.main h) (Some a)) ≡ list_any (λ d. U (get_or cliques d 0)) (path_of cliques found f.links y.context)
  by_entries P U same a y there =
      any_each P (λ z. is_outside cliques (get_or cliques z.context 0) z.link.caller && U (get_or cliques z.context 0)) (chain (placed_of t.main h) (Some a))
      (all_chain (λ z. P z ≡ (is_outside cliques (get_or cliques z.context 0) z.link.caller && U (get_or cliques z.context 0))) (placed_of t.main h) (Some a) (λ b z at. same z (facts b z at)))
      ∙ any_entered cliques U (chain (placed_of t.main h) (Some a)) (called_chain t.main (activations h) (are-calls t h is) (Some a))
      ∙ any_stations cliques U (chain (placed_of t.main h) (Some a))
      ∙ any_contexts (λ d. U (get_or cliques d 0)) (stations cliques (chain (placed_of t.main h) (Some a)))
      ∙ ap (list_any (λ d. U (get_or cliques d 0))) (path_stations a y there)

  -- who has a leaving link, and who comes into the clique that it enters
  one_place : (ls : List Leading) (j p : ℕ) (x y : Leading) → j ≡ p → slice_get ls j ≡ Some x → slice_get ls p ≡ Some y → x ≡ y
  one_place ls j p x y e a b = let q : Some x ≡ Some y = sym a ∙ ap (slice_get ls) e ∙ b in cc

  enters_by : (p from : ℕ) (x : Leading) → slice_get (links_of t.main h) p ≡ Some x → x.link.caller ≡ Some from → leaves cliques (Some from) x.to ≡ true
      → (z : Placed) → Facts z → has_link x.link z ≡ (is_outside cliques (get_or cliques z.context 0) z.link.caller && eqb (get_or found (get_or cliques z.context 0) 0) p)
  enters_by p from x at some out z fz = elim (cases_Bool (same_link x.link z.link)) [
    | inl same ↦ (
        let link : x.link ≡ z.link = same_link_eq x.link z.link same in
        let place : fz.j ≡ p = links-distinct t.main (placed_of t.main h) fz.j p (leading z.link z.context) x fz.at at (sym link) in
        let lead : leading z.link z.context ≡ x = one_place (links_of t.main h) fz.j p (leading z.link z.context) x place fz.at at in
        let to : z.context ≡ x.to = ap (λ (l : Leading). l.to) lead in
        let caller : z.link.caller ≡ Some from = ap (λ (l : Leading). l.link.caller) lead ∙ some in
        let outside : is_outside cliques (get_or cliques z.context 0) z.link.caller ≡ true = rw (caller, to) out in
        let entry = its_entry z fz outside in
        rw (same, outside, eq-eqb (get_or found (get_or cliques z.context 0) 0) p (entry ∙ place)) refl)
    | inr other ↦ elim (cases_Bool (is_outside cliques (get_or cliques z.context 0) z.link.caller)) [
      | inr inside ↦ rw (other, inside) refl
      | inl outside ↦ (
          let entry = its_entry z fz outside in
          let apart : get_or found (get_or cliques z.context 0) 0 ≡ p → ⊥ = λ e.
          (let lead : leading z.link z.context ≡ x = one_place (links_of t.main h) fz.j p (leading z.link z.context) x (sym entry ∙ e) fz.at at in
          let link : z.link ≡ x.link = ap (λ (l : Leading). l.link) lead in
          let good : same_link x.link z.link ≡ true = rw link (same_link_refl x.link) in
          false≢true (sym other ∙ good)) in
          rw (other, outside, ne_eqb (get_or found (get_or cliques z.context 0) 0) p apart) refl)
    ]
  ]

  -- who comes in at a site
  comes_at : (x : ℕ) (z : Placed) → Facts z → (o : Option ℕ) → z.link.caller ≡ o → (at_site x z && is_entering cliques z) ≡ (is_outside cliques (get_or cliques z.context 0) z.link.caller && same_option (Some x) (option_and_then (λ (r : LinkRow). r.site) (slice_get f.links (get_or found (get_or cliques z.context 0) 0))))
  comes_at x z fz None caller =
      let row = row_there fz.j (leading z.link z.context) fz.at in
      let entry = its_entry z fz (rw caller refl) in
      let none : z.link.site ≡ None = no_site f valid fz.j (row_of t.main h (leading z.link z.context)) row caller in
      rw (caller, entry, row, none) refl
  comes_at x z fz (Some from) caller = elim (cases_Bool (eqb (get_or cliques from 0) (get_or cliques z.context 0))) [
    | inl same ↦ rw (caller, same) (and_false (same_option (Some x) z.link.site))
    | inr other ↦ (
        let row = row_there fz.j (leading z.link z.context) fz.at in
        let entry = its_entry z fz (rw (caller, other) refl) in
        rw (caller, other, entry, row) (and_true (same_option (Some x) z.link.site)))
  ]
    where
      and_false : (b : Bool) → (b && false) ≡ false
      and_false true = refl
      and_false false = refl

      and_true : (b : Bool) → (b && true) ≡ b
      and_true true = refl
      and_true false = refl

  from_agrees : (p : ℕ) (x : Leading) (o : Option ℕ) (m : Measure) → slice_get (links_of t.main h) p ≡ Some x → x.link.caller ≡ o → run_total_from t.main h cliques x o m ≡ total_from (path_total cliques found f.links) cliques found p o x.to m
  from_agrees p x None m at caller = ap (λ (n : ℕ). Some n) (total_of (λ a. list_any (in_clique cliques 0) (chain (placed_of t.main h) (Some a))) (λ d. eqb (get_or cliques d 0) 0) m (by_cliques (in_clique cliques 0) (λ k. eqb k 0) (λ z fz. turned 0 (get_or cliques z.context 0))))
  from_agrees p x (Some from) m at caller = elim (cases_Bool (leaves cliques (Some from) x.to)) [
    | inl out ↦ rw out (ap (λ (n : ℕ). Some n) (total_of (λ a. list_any (has_link x.link) (chain (placed_of t.main h) (Some a))) (λ d. eqb (get_or found (get_or cliques d 0) 0) p) m (by_entries (has_link x.link) (λ k. eqb (get_or found k 0) p) (enters_by p from x at caller out))))
    | inr inside ↦ rw inside refl
  ]

  link_agrees : (p : ℕ) (o : Option Leading) (m : Measure) → slice_get (links_of t.main h) p ≡ o → total_of_link t.main h cliques o m ≡ total_by_link (path_total cliques found f.links) cliques found p (option_map (row_of t.main h) o) m
  link_agrees p None m at = refl
  link_agrees p (Some x) m at = from_agrees p x x.link.caller m at refl

  pub total_agrees : (row : Row) (m : Measure) → run_total s t.main h cliques row m ≡ total_by (path_total cliques found f.links) f cliques found row m
  total_agrees (OfLink p) m =
      link_agrees p (slice_get (links_of t.main h) p) m refl
      ∙ ap (λ (o : Option LinkRow). total_by_link (path_total cliques found f.links) cliques found p o m) (sym (at_map (row_of t.main h) (links_of t.main h) p))
      ∙ ap (λ (rows : List LinkRow). total_by_link (path_total cliques found f.links) cliques found p (slice_get rows p) m) (sym of.links_are)
  total_agrees (OfContext c) m = ap (λ (n : ℕ). Some n) (total_of (λ a. list_any (in_context c) (stations cliques (chain (placed_of t.main h) (Some a)))) (λ d. eqb d c) m (by_stations (in_context c) (λ d. eqb d c) (λ z fz. turned c z.context)))
  total_agrees (OfClique k) m = ap (λ (n : ℕ). Some n) (total_of (λ a. list_any (in_clique cliques k) (chain (placed_of t.main h) (Some a))) (λ d. eqb (get_or cliques d 0) k) m (by_cliques (in_clique cliques k) (λ c. eqb c k) (λ z fz. turned k (get_or cliques z.context 0))))
  total_agrees (OfProcedure q) m = ap (λ (n : ℕ). Some n) (total_of (λ a. list_any (in_procedure q) (stations cliques (chain (placed_of t.main h) (Some a)))) (λ d. same_option (Some q) (procedure_at f d)) m (by_stations (in_procedure q) (λ d. same_option (Some q) (procedure_at f d)) (λ z fz. ap (same_option (Some q)) (sym fz.node))))
  total_agrees (OfSite x) m = ap (λ (n : ℕ). Some n) (total_of (λ a. list_any (λ z. at_site x z && is_entering cliques z) (chain (placed_of t.main h) (Some a))) (λ d. same_option (Some x) (site_above f cliques found d)) m (by_entries (λ z. at_site x z && is_entering cliques z) (λ k. same_option (Some x) (option_and_then (λ (r : LinkRow). r.site) (slice_get f.links (get_or found k 0)))) (λ z fz. comes_at x z fz z.link.caller refl)))
  total_agrees (OfModule k) m = ap (λ (n : ℕ). Some n) (total_of (λ a. list_any (in_module (modules_of s) k) (stations cliques (chain (placed_of t.main h) (Some a)))) (λ d. same_option (Some k) (module_at f d)) m (by_stations (in_module (modules_of s) k) (λ d. same_option (Some k) (module_at f d)) (λ z fz. ap (same_option (Some k)) (sym fz.modular))))
