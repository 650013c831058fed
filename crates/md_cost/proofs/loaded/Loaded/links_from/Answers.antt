use Rattle.std.proofs.Common.{◌≡◌, ◌<◌, ◌+◌, ℕ, List, length, Some, sym, ap, ◌∙◌, arith}
use Rattle.md_trace.specs.Context.{same_option}
use Rattle.md_clique.specs.Cliques.{members_of}
use Rattle.md_clique.specs.Places.{places}
use Rattle.md_cost.specs.Lists.{starts_of}
use Rattle.md_cost.specs.View.{View, Join}
use Rattle.md_cost.proofs.ListSteps.{links_from_is, joins_from_is}
use Rattle.md_cost.proofs.loaded.Loaded.links_from.Goals as goal
use Rattle.md_cost.proofs.loaded.Loaded.links_from.Goals.{After-of}

there : (c : After-of) → c.args.node < length c.self.inside.profile.nodes
there c = rw (← c.self.view_is) at c.requires

listed : (c : After-of) → c.of.result.now ≡ members_of (starts_of (length c.self.inside.profile.nodes) c.self.inside.profile.links) c.args.node
listed c =
    let n = length c.self.inside.profile.nodes in
    let number = c.number.ensures in
    let lt = there c in
    c.of.ensures (starts_of n c.self.inside.profile.links) (n + 1) c.self.invariant.lists.links.laid (omega arith) c.self.invariant.lists.links.each
    ∙ ap (λ (k : ℕ). members_of (starts_of n c.self.inside.profile.links) k) number

pub returns-clause-links : goal.returns-clause-links
returns-clause-links c =
    let a = (goal.at.returns-clause-links c).After-of in
    rw (← c.self.view_is) (listed a ∙ links_from_is (length c.self.inside.profile.nodes) c.args.node c.self.inside.profile.links (there a))

pub returns-clause-view : goal.returns-clause-view
returns-clause-view c = λ v is.
    let a = (goal.at.returns-clause-view c).After-of in
    let seen = rw (← c.self.view_is) at is in
    listed a ∙ joins_from_is (length c.self.inside.profile.nodes) c.args.node c.self.inside.profile.links (there a)
    ∙ ap (λ (xs : List Join). places (λ x. same_option x.caller (Some c.args.node)) xs) (sym (ap (λ (w : View). w.links) seen.is))
