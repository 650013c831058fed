use Rattle.std.proofs.Common.{◌∙◌, ap, subst, List, ℕ, Bool}
use Rattle.md_hlds.specs.HldsGoal.{goal_of}
use Rattle.md_modes.specs.Branches.{some_of}
use Rattle.md_modes.specs.Goals.{variables}
use Rattle.md_feedback.specs.Search.{reading_in, mark_at, Marks}
use Rattle.md_feedback.proofs.Parts.{ok_so, takes_dependent, takes_apart}
use Rattle.md_feedback.proofs.search.add_partner.Goals as goal

pub returns-then-mentions : goal.returns-then-mentions
returns-then-mentions c =
    let r = reading_in c.args.search.now in
    ok_so c.mark.result _ _ c.mark.ensures
    (λ marks. takes_dependent r (c.args.first.0, c.args.first.1) c.args.number (goal_of c.args.goal.now) c.args.bound.now.items c.mark.new.marks.items c.args.pairs.now c.mentions.result
    (c.mentions.ensures ∙ ap (λ (ms : List Bool). some_of (mark_at ms) (variables (goal_of c.args.goal.now))) c.deref.ensures.value) c.if-mentions.true (subst (λ (xs : List ℕ). Marks c.args.bound.now.items c.mark.new.marks.items xs) c.binds.ensures marks))

pub returns-else-mentions : goal.returns-else-mentions
returns-else-mentions c =
    let r = reading_in c.args.search.now in
    ok_so c.add_pair.result _ _ c.add_pair.ensures
    (λ added. takes_apart r (c.args.first.0, c.args.first.1) c.args.number (goal_of c.args.goal.now) c.args.bound.now.items c.args.pairs.now c.add_pair.new.pairs c.mentions.result
    (c.mentions.ensures ∙ ap (λ (ms : List Bool). some_of (mark_at ms) (variables (goal_of c.args.goal.now))) c.deref.ensures.value) c.if-mentions.false added)
