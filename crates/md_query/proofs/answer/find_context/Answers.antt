use Rattle.std.proofs.Common.{◌<◌, ◌≤◌, length, Some, refl, ap}
use Rattle.std.proofs.lemmas.Bool.{lt-ltb, le-ltb}
use Rattle.md_query.specs.Page.{PageRows}
use Rattle.md_query.specs.PageOf.{page_of}
use Rattle.md_query.proofs.ViewLists.{nodes_are}
use Rattle.md_query.proofs.answer.find_context.Goals as goal

pub returns-then-id-nodes : goal.returns-then-id-nodes
unfolding page_of
returns-then-id-nodes c = λ v is.
    let f = c.args.loaded.now.profile in
    let test = c.if-id-nodes.true in
    let le : length f.nodes ≤ c.args.id = rw (c.nodes.ensures, c.profile.ensures.profile) at test in
    rw (nodes_are f v is, le-ltb c.args.id (length f.nodes) le) refl

pub returns : goal.returns
unfolding page_of
returns c = λ v is.
    let f = c.args.loaded.now.profile in
    let test = c.if-id-nodes.false in
    let lt : c.args.id < length f.nodes = rw (c.nodes.ensures, c.profile.ensures.profile) at test in
    let there : c.args.id < length v.nodes = rw (nodes_are f v is) lt in
    let page = rw c.new.ensures at (c.in_ok-page.ensures v is) in
    rw (lt-ltb c.args.id (length v.nodes) there) (ap (λ (p : PageRows). Some p) page)
