use Rattle.std.proofs.Common.{◌<◌, ◌≤◌, length, Some, refl, ap}
use Rattle.std.proofs.lemmas.Bool.{lt-ltb, le-ltb}
use Rattle.md_query.specs.Page.{PageRows}
use Rattle.md_query.specs.PageOf.{page_of}
use Rattle.md_query.proofs.ViewLists.{statics_are}
use Rattle.md_query.proofs.answer.find_callers.Goals as goal

pub returns-then-id-procs : goal.returns-then-id-procs
unfolding page_of
returns-then-id-procs c = λ v is.
    let f = c.args.loaded.now.profile in
    let test = c.if-id-procs.true in
    let le : length f.statics.procs ≤ c.args.id = rw (c.procs.ensures, c.statics.ensures, c.profile.ensures.profile) at test in
    rw (statics_are f v is, le-ltb c.args.id (length f.statics.procs) le) refl

pub returns : goal.returns
unfolding page_of
returns c = λ v is.
    let f = c.args.loaded.now.profile in
    let test = c.if-id-procs.false in
    let lt : c.args.id < length f.statics.procs = rw (c.procs.ensures, c.statics.ensures, c.profile.ensures.profile) at test in
    let there : c.args.id < length v.statics.procs = rw (statics_are f v is) lt in
    let page = rw c.new.ensures at (c.in_ok-page.ensures v is) in
    rw (lt-ltb c.args.id (length v.statics.procs) there) (ap (λ (p : PageRows). Some p) page)
