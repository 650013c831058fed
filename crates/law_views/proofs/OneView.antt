-- The view of a run's profile is the view of the run.
use Rattle.std.proofs.Common.{◌≡◌, ℕ, Bool, List, [], ◌∷◌, length, map, Option, refl, sym, ap, ◌∙◌, subst}
use Rattle.md_base.specs.declared.measure.Measure.{Measure}
use Rattle.md_trace.specs.declared.event.Event.{Event}
use Rattle.md_trace.specs.PortHistory.{SiteTable, IsPortHistory}
use Rattle.md_trace.specs.Links.{Leading}
use Rattle.md_static.specs.Tables.{Static}
use Rattle.md_dynamic.specs.declared.link.LinkRow.{LinkRow}
use Rattle.md_dynamic.specs.OfHistory.{IsProfileOf, row_of}
use Rattle.md_dynamic.specs.Profile.{ProfileRows}
use Rattle.md_dynamic.specs.Valid.{IsValid}
use Rattle.md_trace.specs.Cliques.{AreCliques, edges}
use Rattle.md_clique.specs.Entries.{AreEntries, edges_of}
use Rattle.md_clique.specs.OneEntry.{context_count, links_of}
use Rattle.md_clique.proofs.EnteredOnce.{ends_edges}
use Rattle.md_cost.specs.Paths.{ends}
use Rattle.md_cost.specs.Tree.{IsTree}
use Rattle.md_cost.specs.View.{Row, Join, View}
use Rattle.md_cost.specs.FileView.{IsFileView, join_of}
use Rattle.md_cost.proofs.RunRows.{cliques_of, ends_are}
use Rattle.md_cost.proofs.ValidSteps.{valid_sound}
use Rattle.md_cost.proofs.ViewSteps.{view_cliques, view_entries, view_own, view_total}
use Rattle.md_cost.proofs.ViewThere.{view_there}
use Rattle.law_views.specs.RunView.{IsRunView, run_join, run_view}
use Rattle.law_views.proofs.OwnCounts.{own_agrees}
use Rattle.law_views.proofs.TotalCounts.{total_agrees}

joins_rows : (main : ℕ) (h : List Event) (ls : List Leading) → map join_of (map (row_of main h) ls) ≡ map run_join ls
joins_rows main h [] = refl
joins_rows main h (x ∷ xs) = ap (λ (rest : List Join). run_join x ∷ rest) (joins_rows main h xs)

one_view : (a b : View) → a.statics ≡ b.statics → a.nodes ≡ b.nodes → a.links ≡ b.links → a.finished ≡ b.finished → a.cliques ≡ b.cliques → a.entries ≡ b.entries
    → ((row : Row) (m : Measure) → a.own row m ≡ b.own row m) → ((row : Row) (m : Measure) → a.total row m ≡ b.total row m) → a ≡ b
one_view a b statics nodes links finished cliques entries own total =
    λ i. record {
      statics = statics i;
      nodes = nodes i;
      links = links i;
      finished = finished i;
      cliques = cliques i;
      entries = entries i;
      own = λ row m. own row m i;
      total = λ row m. total row m i;
    }

pub run_view_of : (t : SiteTable) (s : Static) (h : List Event) (finished : Bool) (f : ProfileRows) (v : View) → IsPortHistory t h → IsProfileOf s t.main h finished f → IsValid f → IsFileView f v → IsRunView s t.main h finished v
run_view_of t s h finished f v is of valid viewed =
    let sound = (valid_sound f valid).links in
    record {
      cliques_are = cliques_of s t.main h finished f of v.cliques viewed.tree.cliques_are;
      entries_are = subst (λ (es : List (Option ℕ × ℕ)). AreEntries v.cliques es v.entries) (ends_are s t.main h finished f of) viewed.tree.entries_are;
      is = one_view v (run_view s t.main h finished v.cliques v.entries)
          (ap (λ (w : View). w.statics) viewed.is ∙ of.tables)
          (ap (λ (w : View). w.nodes) viewed.is ∙ of.contexts_are)
          (ap (λ (w : View). w.links) viewed.is ∙ ap (λ (rows : List LinkRow). map join_of rows) of.links_are ∙ joins_rows t.main h (links_of t.main h))
          (ap (λ (w : View). w.finished) viewed.is ∙ of.finished_is)
          refl
          refl
          (λ row m. view_own f sound v.cliques v.entries viewed.tree v viewed row m ∙ own_agrees t s h finished f is of row m)
          (λ row m. view_total f sound v.cliques v.entries viewed.tree v viewed row m ∙ sym (total_agrees t s h finished f is of valid v.cliques v.entries viewed.tree row m));
    }

-- and the other way round, since the profile has a view
pub file_view_of : (t : SiteTable) (s : Static) (h : List Event) (finished : Bool) (f : ProfileRows) (v : View) → IsPortHistory t h → IsProfileOf s t.main h finished f → IsValid f → IsRunView s t.main h finished v → IsFileView f v
file_view_of t s h finished f v is of valid run =
    let sound = (valid_sound f valid).links in
    let ends_same = ends_are s t.main h finished f of in
    let edges_same : edges_of (ends f.links) ≡ edges (links_of t.main h) = ap edges_of ends_same ∙ ends_edges (links_of t.main h) in
    let tree : IsTree (length f.nodes) f.links v.cliques v.entries = record {
      cliques_are = subst (λ (n : ℕ). AreCliques n (edges_of (ends f.links)) v.cliques) (sym (ap length of.contexts_are))
          (subst (λ (es : List (ℕ × ℕ)). AreCliques (context_count t.main h) es v.cliques) (sym edges_same) run.cliques_are);
      entries_are = subst (λ (es : List (Option ℕ × ℕ)). AreEntries v.cliques es v.entries) (sym ends_same) run.entries_are;
    } in
    let there = view_there f sound v.cliques v.entries tree in
    let its = run_view_of t s h finished f there.0 is of valid there.1 in
    let same : there.0 ≡ v =
    its.is
    ∙ ap (λ (ks : List ℕ). run_view s t.main h finished ks there.0.entries) (view_cliques f sound v.cliques v.entries tree there.0 there.1)
    ∙ ap (λ (es : List ℕ). run_view s t.main h finished v.cliques es) (view_entries f sound v.cliques v.entries tree there.0 there.1)
    ∙ sym run.is in
    subst (λ (w : View). IsFileView f w) same there.1
