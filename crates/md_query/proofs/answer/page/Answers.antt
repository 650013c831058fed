use Rattle.std.proofs.Common.{sym, ◌∙◌}
use Rattle.md_query.specs.Told.{asked}
use Rattle.md_query.proofs.Within.{within_page}
use Rattle.md_query.proofs.answer.page.Goals as goal

pub returns-in-Some-clause-within : goal.returns-in-Some-clause-within
returns-in-Some-clause-within c =
    let f = c.args.loaded.now.profile in
    let view = c.profile-profile.ensures.viewed in
    let told = c.in_ok-page.ensures view.0 view.1 in
    within_page f c.profile-profile.ensures.valid view.0 view.1 (asked c.args.query.now) c.in-Some.page (sym told ∙ c.in-Some.is)
