use Rattle.std.proofs.Common.{Some, refl, ap, arith}
use Rattle.std.proofs.lemmas.Bool.{lt-ltb, le-ltb}
use Rattle.md_clique.specs.Cliques.{clique_count}
use Rattle.md_query.specs.Page.{PageRows}
use Rattle.md_query.specs.PageOf.{page_of}
use Rattle.md_query.proofs.answer.find_clique.Goals as goal

pub returns-then-id-clique_count : goal.returns-then-id-clique_count
unfolding page_of
returns-then-id-clique_count c = λ v is.
    let count = c.clique_count.ensures.view v is in
    let test = c.if-id-clique_count.true in
    rw (le-ltb c.args.id (clique_count v.cliques) (omega arith)) refl

pub returns : goal.returns
unfolding page_of
returns c = λ v is.
    let count = c.clique_count.ensures.view v is in
    let test = c.if-id-clique_count.false in
    rw (lt-ltb c.args.id (clique_count v.cliques) (omega arith)) (ap (λ (p : PageRows). Some p) (c.in_ok-page.ensures v is))
