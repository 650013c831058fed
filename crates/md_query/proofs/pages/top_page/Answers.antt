use Rattle.std.proofs.Common.{◌≡◌, ◌<◌, length, ◌∙◌, arith}
use Rattle.std.proofs.lemmas.Grind.{common_steps}
use Rattle.std.specs.List.{range_with_len}
use Rattle.std.proofs.lemmas.List.Elements.{All-same, All-take}
use Rattle.md_people.proofs.Orders.{all_ranked}
use Rattle.md_people.specs.Ranked.{ranked}
use Rattle.md_query.specs.PageOf.{count_in_proc}
use Rattle.md_query.proofs.ListSteps.{range_there}
use Rattle.md_query.proofs.ViewLists.{top_told}
use Rattle.md_query.proofs.pages.top_page.Goals as goal

pub push_procs-requires : goal.push_procs-requires
push_procs-requires c =
    let procs = c.args.loaded.now.profile.statics.procs in
    let view = c.profile-profile.ensures.viewed in
    let all = range_with_len 0 (length procs) in
    let e : c.deref.result.now ≡ ranked (count_in_proc view.0 c.args.by) all = c.deref.ensures.value ∙ c.in_ok-ids.ensures.ranked view.0 view.1 in
    All-take (λ q. q < length procs) c.min-shown.result c.deref.result.now
    (All-same (λ q. q < length procs) c.deref.result.now (ranked (count_in_proc view.0 c.args.by) all) e (all_ranked (count_in_proc view.0 c.args.by) (λ q. q < length procs) all (range_there (length procs))))

pub returns : goal.returns
returns c = λ v is.
    let procs = c.args.loaded.now.profile.statics.procs in
    let ids : c.in_ok-ids.ids.items ≡ ranked (count_in_proc v c.args.by) (range_with_len 0 (length procs)) = c.in_ok-ids.ensures.ranked v is in
    let rows = top_told c.args.loaded.now.profile v is c.args.by c.args.n c.min-shown.result c.deref.result.now in
    grind (arith, common_steps, rows, ids, c.in_ok-push_procs.ensures v is)
