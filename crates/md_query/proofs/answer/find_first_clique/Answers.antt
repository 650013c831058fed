use Rattle.std.proofs.Common.{◌≡◌, ℕ, eqb, Some, sym, ◌∙◌, arith}
use Rattle.std.specs.List.{position}
use Rattle.std.proofs.lemmas.List.Quantifiers.{position-Some}
use Rattle.md_clique.proofs.Naming.{lt_clique_count}
use Rattle.md_query.proofs.answer.find_first_clique.Goals as goal

pub clique_page-requires : goal.clique_page-requires
clique_page-requires c =
    let f = c.args.loaded.now.profile in
    let at : position (λ (p : ℕ). eqb p c.args.id) f.nodes ≡ Some c.in-Some.node = sym c.first_context.ensures ∙ c.in-Some.is in
    let there = position-Some (λ (p : ℕ). eqb p c.args.id) f.nodes c.in-Some.node 0 at in
    let size = c.profile-profile.ensures.loaded.tree.cliques_are.each in
    let first = there.0 in
    rw c.clique_of.ensures.number (lt_clique_count c.args.loaded.now.cliques c.in-Some.node (omega arith))
