use Rattle.std.proofs.Common.{◌≡◌, Some, None, sym, ap, ◌∙◌}
use Rattle.std.specs.Option.{option_map}
use Rattle.md_people.specs.Words.{proc_named}
use Rattle.md_static.specs.Tables.{Static}
use Rattle.md_query.specs.Page.{PageRows}
use Rattle.md_query.specs.PageOf.{page_of, callers_page}
use Rattle.md_query.proofs.ViewLists.{statics_are}
use Rattle.md_query.proofs.answer.find_callers_named.Goals as goal

pub returns-in_ok-page-in-Some : goal.returns-in_ok-page-in-Some
unfolding page_of
returns-in_ok-page-in-Some c = λ v is.
    let f = c.args.loaded.now.profile in
    let name = c.args.name.now in
    let found : proc_named f.statics name ≡ Some c.in-Some.id = sym (rw (c.statics.ensures, c.profile.ensures.profile) at c.in_ok-id.ensures) ∙ c.in-Some.is in
    let named : Some c.in-Some.id ≡ proc_named v.statics name = sym found ∙ ap (λ (s : Static). proc_named s name) (sym (statics_are f v is)) in
    rw (← named) (ap (λ (p : PageRows). Some p) (c.in_ok-page-in-Some.ensures v is))

pub returns-in-None : goal.returns-in-None
unfolding page_of
returns-in-None c = λ v is.
    let f = c.args.loaded.now.profile in
    let name = c.args.name.now in
    let found : proc_named f.statics name ≡ None = sym (rw (c.statics.ensures, c.profile.ensures.profile) at c.in_ok-id.ensures) ∙ c.in-None.is in
    ap (option_map (callers_page v c.args.by)) (sym found ∙ ap (λ (s : Static). proc_named s name) (sym (statics_are f v is)))
