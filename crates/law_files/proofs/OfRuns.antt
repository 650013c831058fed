-- A run's profile: how its cliques are entered, and its view.
use Rattle.std.proofs.Common.{◌≡◌, ℕ, inl, inr, Bool, List, [], ◌∷◌, length, Option, take, ap, ◌∙◌, arith}
use Rattle.md_trace.specs.declared.event.Event.{Event}
use Rattle.md_trace.specs.Activation.{activations}
use Rattle.md_trace.specs.Context.{placed_of}
use Rattle.md_trace.specs.PortHistory.{SiteTable, IsPortHistory}
use Rattle.md_static.specs.Tables.{Static}
use Rattle.md_dynamic.specs.OfHistory.{IsProfileOf}
use Rattle.md_dynamic.specs.Profile.{ProfileRows}
use Rattle.md_dynamic.specs.Valid.{IsValid}
use Rattle.md_clique.specs.Entries.{entries}
use Rattle.md_clique.specs.OneEntry.{AreCliquesOf, ends_of, links_of}
use Rattle.md_clique.proofs.Coming.{called, well}
use Rattle.md_clique.proofs.EnteredOnce.{one_entry, root_entry}
use Rattle.md_clique.proofs.Naming.{lt_clique_count}
use Rattle.md_cost.specs.View.{View}
use Rattle.md_cost.proofs.RunRows.{cliques_of, ends_are}
use Rattle.law_files.specs.Views.{AreCliquesIn, AreEnteredOnce, HasView, IsEnteredTwice, entries_in}
use Rattle.law_files.proofs.ViewsThere.{view_or_twice}

module _ (t : SiteTable) (s : Static) (h : List Event) (finished : Bool) (f : ProfileRows) (is : IsPortHistory t h) (of : IsProfileOf s t.main h finished f) where
  same_entries : (cliques : List ℕ) (k : ℕ) → entries_in f cliques k ≡ entries cliques (ends_of (links_of t.main h)) k
  same_entries cliques k = ap (λ (links : List (Option ℕ × ℕ)). entries cliques links k) (ends_are s t.main h finished f of)

  pub entered_once : (cliques : List ℕ) → AreCliquesIn f cliques → AreEnteredOnce f cliques
  entered_once cliques are =
      let known = well t.main (activations h) (called t h is) in
      let its : AreCliquesOf t.main h cliques = cliques_of s t.main h finished f of cliques are in
      let some = known.grown.some in
      let size = its.each in
      let last = lt_clique_count cliques 0 (omega arith) in
      record {
        root = same_entries cliques 0 ∙ root_entry t.main (placed_of t.main h) known cliques its (omega arith);
        one = λ k lt. (let one = one_entry t.main (placed_of t.main h) known cliques its k lt in (one.0, same_entries cliques k ∙ one.1));
      }

  pub never_twice : IsEnteredTwice f → ⊥
  never_twice entered =
      let no = entered.twice in
      let one = (entered_once no.cliques no.cliques_are).one entered.clique no.twice.there in
      let two : take 2 (one.0 ∷ []) ≡ entered.first ∷ entered.second ∷ [] = rw one.1 at no.twice.two in
      absurd (let sizes : 1 ≡ 2 = ap length two in omega arith)

  pub view_of_run : IsValid f → (v : View) × HasView f v
  view_of_run valid = elim (view_or_twice f valid) [ inl view ↦ view | inr twice ↦ absurd (never_twice twice) ]
