use Rattle.std.proofs.Common.{◌≡◌, ◌<◌, ℕ, List, eqb, length, sym, ap, ◌∙◌, arith}
use Rattle.md_clique.specs.Cliques.{members_of}
use Rattle.md_clique.specs.Places.{places}
use Rattle.md_cost.specs.View.{View}
use Rattle.md_cost.proofs.loaded.Loaded.contexts_of.Goals as goal
use Rattle.md_cost.proofs.loaded.Loaded.contexts_of.Goals.{After-of}

listed : (c : After-of) → c.of.result.now ≡ members_of c.self.inside.profile.nodes c.args.id
listed c =
    let number = c.number.ensures in
    let lt : c.args.id < length c.self.inside.profile.statics.procs = rw (← c.self.view_is) at c.requires in
    c.of.ensures c.self.inside.profile.nodes (length c.self.inside.profile.statics.procs) c.self.invariant.lists.contexts (omega arith) c.self.invariant.lists.context_starts
    ∙ ap (λ (k : ℕ). members_of c.self.inside.profile.nodes k) number

pub returns-clause-contexts : goal.returns-clause-contexts
returns-clause-contexts c = rw (← c.self.view_is) (listed (goal.at.returns-clause-contexts c).After-of)

pub returns-clause-view : goal.returns-clause-view
returns-clause-view c = λ v is.
    let seen = rw (← c.self.view_is) at is in
    listed (goal.at.returns-clause-view c).After-of ∙ ap (λ (ps : List ℕ). places (λ p. eqb p c.args.id) ps) (sym (ap (λ (w : View). w.nodes) seen.is))
