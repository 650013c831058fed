-- The links of a run as rows of its profile.
use Rattle.std.proofs.Common.{◌≡◌, ℕ, Bool, List, [], ◌∷◌, length, map, Option, refl, ap, ◌∙◌, subst}
use Rattle.md_trace.specs.declared.event.Event.{Event}
use Rattle.md_trace.specs.Context.{placed_of}
use Rattle.md_trace.specs.Links.{Leading, links}
use Rattle.md_trace.specs.Cliques.{AreCliques, edges}
use Rattle.md_clique.specs.Entries.{edges_of}
use Rattle.md_clique.specs.OneEntry.{AreCliquesOf, ends_of, links_of}
use Rattle.md_clique.proofs.EnteredOnce.{ends_edges}
use Rattle.md_static.specs.Tables.{Static}
use Rattle.md_dynamic.specs.OfHistory.{IsProfileOf, row_of}
use Rattle.md_dynamic.specs.Profile.{ProfileRows}
use Rattle.md_cost.specs.Paths.{ends}

pub ends_rows : (main : ℕ) (h : List Event) (ls : List Leading) → ends (map (row_of main h) ls) ≡ ends_of ls
ends_rows main h [] = refl
ends_rows main h (x ∷ xs) = ap (λ (rest : List (Option ℕ × ℕ)). (x.link.caller, x.to) ∷ rest) (ends_rows main h xs)

module _ (s : Static) (main : ℕ) (h : List Event) (finished : Bool) (f : ProfileRows) (of : IsProfileOf s main h finished f) where
  pub ends_are : ends f.links ≡ ends_of (links_of main h)
  ends_are = ap ends of.links_are ∙ ends_rows main h (links main (placed_of main h))

  -- the cliques of the profile are those of the run
  pub cliques_of : (cliques : List ℕ) → AreCliques (length f.nodes) (edges_of (ends f.links)) cliques → AreCliquesOf main h cliques
  cliques_of cliques are =
      subst (λ (n : ℕ). AreCliques n (edges (links_of main h)) cliques) (ap length of.contexts_are)
      (subst (λ (es : List (ℕ × ℕ)). AreCliques (length f.nodes) es cliques) (ap edges_of ends_are ∙ ends_edges (links_of main h)) are)
