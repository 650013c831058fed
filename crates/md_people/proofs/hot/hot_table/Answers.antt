use Rattle.std.proofs.Common.{◌≡◌, ◌<◌, length, ◌∙◌, arith}
use Rattle.std.specs.List.{range_with_len}
use Rattle.std.proofs.lemmas.Grind.{common_steps}
use Rattle.std.proofs.lemmas.List.Elements.{All-same, All-take}
use Rattle.md_people.specs.Hot.{sort_count}
use Rattle.md_people.specs.Ranked.{ranked}
use Rattle.md_people.proofs.Orders.{all_ranked}
use Rattle.md_people.proofs.Ranges.{range_there}
use Rattle.md_people.proofs.Views.{hot_told}
use Rattle.md_people.proofs.hot.hot_table.Goals as goal

pub push_procs-requires-clause-there : goal.push_procs-requires-clause-there
push_procs-requires-clause-there c =
    let procs = c.args.loaded.now.profile.statics.procs in
    let view = c.profile-profile.ensures.viewed in
    let all = range_with_len 0 (length procs) in
    let count = sort_count view.0 c.args.by c.args.sort in
    let e : c.deref.result.now ≡ ranked count all = c.deref.ensures.value ∙ c.in_ok-ids.ensures.ranked view.0 view.1 in
    All-take (λ q. q < length procs) c.min-shown.result c.deref.result.now
    (All-same (λ q. q < length procs) c.deref.result.now (ranked count all) e (all_ranked count (λ q. q < length procs) all (range_there (length procs))))

pub returns : goal.returns
returns c = λ v is.
    let rows = hot_told c.args.loaded.now.profile v is c.args.by c.args.n c.args.sort c.min-shown.result c.deref.result.now in
    grind (arith, common_steps, rows, c.in_ok-push_procs.ensures v is, c.in_ok-ids.ensures.ranked v is)
