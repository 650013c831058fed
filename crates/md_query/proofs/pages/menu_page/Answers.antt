use Rattle.std.proofs.Common.{◌≡◌, [], ◌∷◌, ◌++◌, List, length, refl, ap, ◌∙◌}
use Rattle.std.proofs.lemmas.Bool.{ne_eqb, eq-eqb}
use Rattle.md_cost.proofs.ValidSteps.{valid_sound}
use Rattle.md_cost.proofs.ViewSteps.{some_cliques}
use Rattle.md_query.specs.declared.row.Row.{Row}
use Rattle.md_query.specs.declared.row.Row.TheVariants as row
use Rattle.md_query.specs.declared.row.Title.TheVariants as title
use Rattle.md_query.specs.declared.row.What.TheVariants as what
use Rattle.md_query.specs.PageOf.{excps_rows, page_with}
use Rattle.md_query.proofs.ViewLists.{menu_told}
use Rattle.md_query.proofs.pages.menu_page.Goals as goal
use Rattle.md_query.proofs.pages.menu_page.Goals.{then-total-ne0+in_ok-push, else-total-ne0}

pub clique_total-total-requires : goal.clique_total-total-requires
clique_total-total-requires c =
    let f = c.args.loaded.now.profile in
    some_cliques f (valid_sound f c.profile-profile.ensures.valid).links c.args.loaded.now.cliques c.args.loaded.now.entries c.profile-profile.ensures.loaded.tree

pub returns : goal.returns
returns c = λ v is.
    let f = c.args.loaded.now.profile in
    let total = c.clique_total-total.result in
    let counts : List Row =
    row.Main 0 ∷ row.Finished f.finished ∷ row.Number what.Contexts (length f.nodes) ∷ row.Number what.Links (length f.links) ∷ row.Number what.Cliques c.clique_count.result
    ∷ row.Number what.Calls total.calls ∷ row.Number what.Exits total.exits ∷ row.Number what.Fails total.fails ∷ row.Number what.Redos total.redos
    ∷ row.Number what.Allocs total.allocs ∷ row.Number what.Words total.words ∷ [] in
    let begun : c.in_ok-rows.rows.items ≡ counts = c.in_ok-rows.ensures.items
    ∙ (rw (c.number.ensures, c.number-2.ensures, c.number-3.ensures, c.number-4.ensures, c.number-5.ensures, c.number-6.ensures, c.number-7.ensures, c.number-8.ensures, c.number-9.ensures, c.finished.ensures, c.nodes.ensures, c.links.ensures, c.from.ensures, c.profile-profile.ensures.profile) refl) in
    let rows : c.if-total-ne0.rows.items ≡ counts ++ excps_rows total.excps = elim c.if-total-ne0.branch [
      | then-total-ne0+in_ok-push w ↦ (
          let e = w.number-then-total-ne0.ensures in
          rw (w.rows-is, ne_eqb total.excps 0 w.if-total-ne0.true) (w.in_ok-push.ensures.items ∙ ap (λ (rs : List Row). rs ++ w.number-then-total-ne0.result ∷ []) begun ∙ (rw e refl)))
      | else-total-ne0 w ↦ (rw (w.rows-is, eq-eqb total.excps 0 w.if-total-ne0.false) begun)
    ] in
    c.from_parts.ensures ∙ ap (λ (rs : List Row). page_with title.Menu rs) (rows ∙ menu_told f v is total c.clique_count.result (λ m. c.clique_total-total.ensures v m is) (c.clique_count.ensures.view v is))
