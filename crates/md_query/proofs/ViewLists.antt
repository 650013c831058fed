-- The lists of a view are those of its profile.
use Rattle.std.proofs.Common.{◌≡◌, ℕ, List, ◌∷◌, length, map, min, take, Some, refl, sym, ap, ◌∙◌, arith}
use Rattle.std.specs.List.{range_with_len}
use Rattle.std.proofs.lemmas.List.{length-map, take_min}
use Rattle.md_base.specs.declared.measure.Measure.{Measure}
use Rattle.md_base.specs.declared.measure.Measure.TheVariants.{Calls, Exits, Fails, Redos, Allocs, Words, Excps}
use Rattle.md_dynamic.specs.Profile.{ProfileRows}
use Rattle.md_clique.specs.Cliques.{clique_count}
use Rattle.md_cost.specs.declared.sums.Sums.{Sums}
use Rattle.md_cost.specs.SumOf.{sum_of}
use Rattle.md_cost.specs.View.{View, Join, OfClique}
use Rattle.md_cost.specs.FileView.{IsFileView, join_of}
use Rattle.md_people.specs.Ranked.{ranked}
use Rattle.md_static.specs.Tables.{Static}
use Rattle.md_query.specs.PageOf.{excps_rows, menu_rows, proc_row, count_in_proc, top_procs}
use Rattle.md_query.specs.declared.row.Row.TheVariants as row
use Rattle.md_query.specs.declared.row.What.TheVariants as what

module _ (f : ProfileRows) (v : View) (is : IsFileView f v) where
  pub statics_are : v.statics ≡ f.statics
  statics_are = ap (λ (w : View). w.statics) is.is

  pub nodes_are : v.nodes ≡ f.nodes
  nodes_are = ap (λ (w : View). w.nodes) is.is

  pub links_are : v.links ≡ map join_of f.links
  links_are = ap (λ (w : View). w.links) is.is

  pub finished_is : v.finished ≡ f.finished
  finished_is = ap (λ (w : View). w.finished) is.is

  -- the menu, by the total of clique 0
  pub menu_told : (total : Sums) (cliques : ℕ) → ((m : Measure) → v.total (OfClique 0) m ≡ Some (sum_of total m)) → cliques ≡ clique_count v.cliques
      → row.Main 0 ∷ row.Finished f.finished ∷ row.Number what.Contexts (length f.nodes) ∷ row.Number what.Links (length f.links) ∷ row.Number what.Cliques cliques
      ∷ row.Number what.Calls total.calls ∷ row.Number what.Exits total.exits ∷ row.Number what.Fails total.fails ∷ row.Number what.Redos total.redos
      ∷ row.Number what.Allocs total.allocs ∷ row.Number what.Words total.words ∷ excps_rows total.excps ≡ menu_rows v
  menu_told total cliques told count =
      let size : length v.links ≡ length f.links = ap (λ (xs : List Join). length xs) links_are ∙ length-map f.links join_of in
      rw (finished_is, nodes_are, size, ← count, told Calls, told Exits, told Fails, told Redos, told Allocs, told Words, told Excps) refl

  -- the first procedures of the file's tables by their own counts
  pub top_told : (by : Measure) (n shown : ℕ) (ids : List ℕ) → shown ≡ min (length ids) n → ids ≡ ranked (count_in_proc v by) (range_with_len 0 (length f.statics.procs))
      → map (proc_row v) (take shown ids) ≡ map (proc_row v) (top_procs v by n)
  top_told by n shown ids shown_is ids_are =
      let few : shown ≡ min n (length ids) = omega (arith, shown_is) in
      ap (λ (k : ℕ). map (proc_row v) (take k ids)) few
      ∙ ap (λ (qs : List ℕ). map (proc_row v) qs) (take_min n ids)
      ∙ ap (λ (qs : List ℕ). map (proc_row v) (take n qs)) (ids_are ∙ ap (λ (s : Static). ranked (count_in_proc v by) (range_with_len 0 (length s.procs))) (sym statics_are))
