use Rattle.std.proofs.Common.{List, ℕ, [], subst}
use Rattle.md_deepfile.specs.Pieces.{StopsIn}
use Rattle.md_deepfile.proofs.Writes.{empty_stops}
use Rattle.md_deepfile.proofs.writing.empty.Goals as goal

pub returns-in-Err-clause-stops : goal.returns-in-Err-clause-stops
returns-in-Err-clause-stops g c =
    let old = g.S.Store.held c.args.store.now in
    let now = g.S.Store.held c.append_all.new.store in
    subst (λ (xs : List ℕ). StopsIn c.args.name.now [] old xs now) c.deref.ensures.value (empty_stops c.args.name.now old now c.deref.result.now c.in-Err.ensures.part)
