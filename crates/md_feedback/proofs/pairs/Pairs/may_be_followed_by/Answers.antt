use Rattle.std.proofs.Common.{◌≡◌, ◌∙◌, ◌-◌, ap, List, Some, length, slice_get}
use Rattle.md_feedback.specs.declared.pairs.Pair.{Pair}
use Rattle.md_feedback.proofs.Rising.{may_follow}
use Rattle.md_feedback.proofs.pairs.Pairs.may_be_followed_by.Goals as goal

pub returns-in-Some : goal.returns-in-Some
returns-in-Some c rise =
    let last : Some c.in-Some.last.now ≡ slice_get c.args.self.now (length c.args.self.now - 1) = c.in-Some.ensures.value ∙ ap (λ (ps : List Pair). slice_get ps (length ps - 1)) c.as_slice.ensures in
    let both = may_follow c.args.self.now c.in-Some.last.now c.args.pair.now last rise in
    (λ yes. both.0 (c.is_before.ensures.0 yes), λ more. c.is_before.ensures.1 (both.1 more))
