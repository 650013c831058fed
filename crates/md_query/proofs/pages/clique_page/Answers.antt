use Rattle.std.proofs.Common.{◌≡◌, ℕ, ◌+◌, ◌<◌, List, ◌++◌, ◌∷◌, [], eqb, length, get_or, take, sym, ap, ◌∙◌, arith}
use Rattle.std.proofs.lemmas.Grind.{common_steps}
use Rattle.std.specs.Prelude.{All}
use Rattle.std.specs.List.{flat_map}
use Rattle.std.proofs.lemmas.List.{take_more, take_all, flat_map_more}
use Rattle.md_cost.specs.View.{OfClique}
use Rattle.md_query.specs.declared.row.Row.{Row}
use Rattle.md_query.specs.declared.row.Row.TheVariants as row
use Rattle.md_query.specs.declared.row.Title.TheVariants as title
use Rattle.md_query.specs.PageOf.{context_rows, entered_row, page_with, total_of}
use Rattle.md_people.proofs.Links.{places_there}
use Rattle.md_query.proofs.pages.clique_page.Goals as goal

pub push_context-requires : goal.push_context-requires
push_context-requires c =
    let cliques = c.args.loaded.now.cliques in
    let size = c.profile-profile.ensures.loaded.tree.cliques_are.each in
    let all : All (λ (q : ℕ). q < length cliques) c.members-node-items.result.now = rw c.members-node-items.ensures.members (places_there (λ (k : ℕ). eqb k c.args.id) cliques) in
    let lt = all c.loop-node.node-index 0 c.loop-node-test.true in
    omega arith

pub loop-node-preserved : goal.loop-node-preserved
loop-node-preserved c = λ v is.
    let before : List Row = entered_row v c.args.id ∷ row.Total (total_of v (OfClique c.args.id)) ∷ [] in
    let members = c.members-node-items.result.now in
    let i = c.loop-node.node-index in
    let more : take (i + 1) members ≡ take i members ++ get_or members i 0 ∷ [] = take_more members i 0 c.loop-node-test.true in
    c.in_ok-push_context.ensures v is ∙ ap (λ (rs : List Row). rs ++ context_rows v (get_or members i 0)) (c.loop-node.invariant v is)
    ∙ flat_map_more (context_rows v) before (take i members) (get_or members i 0) ∙ ap (λ (ids : List ℕ). before ++ flat_map (context_rows v) ids) (sym more)

pub returns : goal.returns
returns c = λ v is.
    let members = c.members-node-items.result.now in
    c.from_parts.ensures
    ∙ ap (λ (rs : List Row). page_with (title.Clique c.args.id) rs) (c.loop-node.invariant v is ∙ ap (λ (ids : List ℕ). entered_row v c.args.id ∷ row.Total (total_of v (OfClique c.args.id)) ∷ flat_map (context_rows v) ids) (take_all c.loop-node.node-index members (omega arith) ∙ c.members-node-items.ensures.view v is))

pub loop-node-init : goal.loop-node-init
loop-node-init c = grind (arith, common_steps)

pub loop-node-smaller : goal.loop-node-smaller
loop-node-smaller c = grind (arith, common_steps)

pub returns-in_err-push : goal.returns-in_err-push
returns-in_err-push c = grind (arith, common_steps)

pub returns-in_err-push-2 : goal.returns-in_err-push-2
returns-in_err-push-2 c = grind (arith, common_steps)

pub returns-in_err-push_context : goal.returns-in_err-push_context
returns-in_err-push_context c = grind (arith, common_steps)
