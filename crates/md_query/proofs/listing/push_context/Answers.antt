use Rattle.std.proofs.Common.{◌≡◌, ◌++◌, ◌∷◌, [], ℕ, List, Some, map, ap, ◌∙◌, arith}
use Rattle.std.proofs.lemmas.Grind.{common_steps}
use Rattle.std.proofs.lemmas.List.{append_assoc}
use Rattle.std.proofs.lemmas.Result.{on_ok_weaker}
use Rattle.md_trace.specs.Context.{same_option}
use Rattle.md_dynamic.specs.declared.link.LinkRow.{LinkRow}
use Rattle.md_query.specs.declared.row.Row.{Row}
use Rattle.md_query.specs.PageOf.{context_row, link_row, links_from}
use Rattle.md_people.proofs.Links.{places_there}
use Rattle.md_query.proofs.listing.push_context.Goals as goal

pub push_links-requires : goal.push_links-requires
push_links-requires c = rw c.links_from.ensures.links (places_there (λ (r : LinkRow). same_option r.caller (Some c.new-node.result)) c.args.loaded.now.profile.links)

pub returns : goal.returns
returns c = λ v is.
    let old = c.args.rows.now.items in
    let node = c.new-node.ensures in
    let listed : c.links_from.result.now ≡ links_from v c.args.node = c.links_from.ensures.view v is ∙ ap (links_from v) node in
    let first : c.push.new.self.items ≡ old ++ context_row v c.args.node ∷ [] = c.in_ok-push.ensures.items ∙ ap (λ (r : Row). old ++ r ∷ []) (c.context_row.ensures v is ∙ ap (context_row v) node) in
    on_ok_weaker c.push_links.result (λ e. e ∙ ap (λ (links : List ℕ). c.push.new.self.items ++ map (link_row v) links) listed ∙ ap (λ (rs : List Row). rs ++ map (link_row v) (links_from v c.args.node)) first ∙ append_assoc old (context_row v c.args.node ∷ []) (map (link_row v) (links_from v c.args.node)))
    (c.push_links.ensures v is)

pub returns-in_err-push : goal.returns-in_err-push
returns-in_err-push c = grind (arith, common_steps)
