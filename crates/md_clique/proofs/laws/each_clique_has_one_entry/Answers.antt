use Rattle.std.proofs.Common.{◌≡◌, [], ◌∷◌, arith}
use Rattle.md_trace.specs.Activation.{activations}
use Rattle.md_trace.specs.Context.{placed_of}
use Rattle.md_clique.proofs.Naming.{lt_clique_count}
use Rattle.md_clique.proofs.Coming.{called, well}
use Rattle.md_clique.proofs.EnteredOnce.{all_reached, one_entry, root_entry}
use Rattle.md_clique.proofs.laws.each_clique_has_one_entry.Goals as goal

pub returns-clause-one : goal.returns-clause-one
returns-clause-one c t h cliques k is are below = one_entry t.main (placed_of t.main h) (well t.main (activations h) (called t h is)) cliques are k below

pub returns-clause-root : goal.returns-clause-root
returns-clause-root c t h cliques is are =
    let w = well t.main (activations h) (called t h is) in
    let some = w.grown.some in
    let size = are.each in
    let last = lt_clique_count cliques 0 (omega arith) in
    root_entry t.main (placed_of t.main h) w cliques are (omega arith)

pub returns-clause-none_twice : goal.returns-clause-none_twice
returns-clause-none_twice c t h cliques k a b is are twice =
    let one = one_entry t.main (placed_of t.main h) (well t.main (activations h) (called t h is)) cliques are k twice.there in
    let e : one.0 ∷ [] ≡ a ∷ b ∷ [] = rw one.1 at twice.two in
    cc

pub returns-clause-reached : goal.returns-clause-reached
returns-clause-reached c t h is = all_reached t.main (placed_of t.main h) (well t.main (activations h) (called t h is))
