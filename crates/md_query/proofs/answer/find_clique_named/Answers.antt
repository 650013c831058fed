use Rattle.std.proofs.Common.{◌≡◌, ℕ, length, Option, Some, None, sym, ap, ◌∙◌}
use Rattle.std.specs.Option.{option_map}
use Rattle.std.specs.Prelude.{option_and_then}
use Rattle.std.proofs.lemmas.Result.{IfOk-weaker}
use Rattle.std.specs.Str.{bytes_eq}
use Rattle.md_people.specs.Words.{full_name, proc_named}
use Rattle.md_static.specs.Tables.{Static}
use Rattle.md_query.specs.PageOf.{page_of, clique_page, first_clique}
use Rattle.md_query.proofs.ListSteps.{found_there}
use Rattle.md_query.proofs.ViewLists.{statics_are}
use Rattle.md_query.proofs.answer.find_clique_named.Goals as goal

pub find_first_clique-requires : goal.find_first_clique-requires
find_first_clique-requires c =
    let s = c.args.loaded.now.profile.statics in
    let name = c.args.name.now in
    let found : proc_named s name ≡ Some c.in-Some.id = sym (rw (c.statics.ensures, c.profile.ensures.profile) at c.in_ok-id.ensures) ∙ c.in-Some.is in
    found_there (λ (q : ℕ). bytes_eq (full_name s q) name) (length s.procs) c.in-Some.id found

pub returns-in-Some : goal.returns-in-Some
unfolding page_of
returns-in-Some c =
    let f = c.args.loaded.now.profile in
    let name = c.args.name.now in
    let found : proc_named f.statics name ≡ Some c.in-Some.id = sym (rw (c.statics.ensures, c.profile.ensures.profile) at c.in_ok-id.ensures) ∙ c.in-Some.is in
    IfOk-weaker c.find_first_clique.result _ _
    (λ page h v is. h v is ∙ ap (λ (o : Option ℕ). option_map (clique_page v) (option_and_then (first_clique v) o)) (sym found ∙ ap (λ (s : Static). proc_named s name) (sym (statics_are f v is))))
    c.find_first_clique.ensures

pub returns-in-None : goal.returns-in-None
unfolding page_of
returns-in-None c = λ v is.
    let f = c.args.loaded.now.profile in
    let name = c.args.name.now in
    let found : proc_named f.statics name ≡ None = sym (rw (c.statics.ensures, c.profile.ensures.profile) at c.in_ok-id.ensures) ∙ c.in-None.is in
    ap (λ (o : Option ℕ). option_map (clique_page v) (option_and_then (first_clique v) o)) (sym found ∙ ap (λ (s : Static). proc_named s name) (sym (statics_are f v is)))
