use Rattle.std.proofs.Common.{◌≡◌, ℕ, List, eqb, Some, ap, ◌∙◌}
use Rattle.std.specs.List.{position, slice_get}
use Rattle.md_query.proofs.ListSteps.{first_place}
use Rattle.md_query.proofs.lists.first_context.Goals as goal
use Rattle.md_query.proofs.lists.first_context.Goals.{After-first}

first_is : (c : After-first) → slice_get c.contexts_of.result.now 0 ≡ position (λ p. eqb p c.args.id) c.args.loaded.now.profile.nodes
first_is c = ap (λ (xs : List ℕ). slice_get xs 0) c.contexts_of.ensures.contexts ∙ first_place (λ (p : ℕ). eqb p c.args.id) c.args.loaded.now.profile.nodes

pub returns-in-Some : goal.returns-in-Some
returns-in-Some c = ap (λ (n : ℕ). Some n) c.new.ensures ∙ c.in-Some.ensures.value ∙ first_is (goal.at.returns-in-Some c).After-first

pub returns-in-None : goal.returns-in-None
returns-in-None c = c.in-None.ensures.value ∙ first_is (goal.at.returns-in-None c).After-first
