use Rattle.std.proofs.Common.{◌≡◌, ℕ, List, Some, None, sym, ap, ◌∙◌}
use Rattle.std.specs.List.{position}
use Rattle.std.specs.Option.{option_map}
use Rattle.std.specs.Str.{bytes_eq}
use Rattle.md_static.specs.Tables.{Static}
use Rattle.md_query.specs.Page.{PageRows}
use Rattle.md_query.specs.PageOf.{page_of, module_page, module_named}
use Rattle.md_query.proofs.ViewLists.{statics_are}
use Rattle.md_query.proofs.answer.find_module.Goals as goal

pub returns-in_ok-page-in-Some : goal.returns-in_ok-page-in-Some
unfolding page_of
returns-in_ok-page-in-Some c = λ v is.
    let f = c.args.loaded.now.profile in
    let found : Some c.in-Some.id ≡ position (λ (m : List ℕ). bytes_eq m c.args.name.now) f.statics.modules = rw (c.modules.ensures, c.statics.ensures, c.profile.ensures.profile) at c.in-Some.ensures in
    let named : Some c.in-Some.id ≡ module_named v c.args.name.now = found ∙ ap (λ (s : Static). position (λ (m : List ℕ). bytes_eq m c.args.name.now) s.modules) (sym (statics_are f v is)) in
    rw (← named) (ap (λ (p : PageRows). Some p) (c.in_ok-page-in-Some.ensures v is))

pub returns-in-None : goal.returns-in-None
unfolding page_of
returns-in-None c = λ v is.
    let f = c.args.loaded.now.profile in
    let found : None ≡ position (λ (m : List ℕ). bytes_eq m c.args.name.now) f.statics.modules = rw (c.modules.ensures, c.statics.ensures, c.profile.ensures.profile) at c.in-None.ensures in
    ap (option_map (module_page v)) (found ∙ ap (λ (s : Static). position (λ (m : List ℕ). bytes_eq m c.args.name.now) s.modules) (sym (statics_are f v is)))
