use Rattle.std.proofs.Common.{◌≡◌, ◌<◌, ◌≤◌, ◌+◌, ◌^◌, ◌++◌, [], ◌∷◌, length, take, refl, subst, ◌∙◌, arith}
use Rattle.std.proofs.lemmas.List.{take_more}
use Rattle.md_base.specs.declared.measure.Measure.{Measure}
use Rattle.md_cost.specs.SumOf.{sum_of}
use Rattle.md_cost.specs.View.{OfProcedure}
use Rattle.md_dump.specs.Sums.{IsSmall}
use Rattle.md_dump.proofs.Adding.{Added, most, own_room, total_room, none_added, room_for, one_added, all_added}
use Rattle.md_dump.proofs.summing.sum_proc.Goals as goal
use Rattle.md_dump.proofs.summing.sum_proc.Goals.{After-proc_own}

small_file : (c : After-proc_own) → IsSmall c.file-item.result
small_file c = rw (← c.file-item.is) at (c.requires.small c.loop-file.file-index c.file-item.result c.loop-file-test.true)

few_links : (c : After-proc_own) → length c.file-item.result.profile.links < 2 ^ 25
few_links c = rw (← c.file-item.is) at (c.requires.few_links c.loop-file.file-index c.file-item.result c.loop-file-test.true)

next_is : (c : After-proc_own) → take (c.loop-file.file-index + 1) c.args.files.now ≡ take c.loop-file.file-index c.args.files.now ++ c.file-item.result ∷ []
next_is c = take_more c.args.files.now c.loop-file.file-index c.file-item.result c.loop-file-test.true ∙ (rw (← c.file-item.is) refl)

own_small : (c : After-proc_own) (m : Measure) → sum_of c.proc_own.result m ≤ most
own_small c = own_room c.file-item.result (small_file c) (few_links c) c.args.id c.proc_own.result c.proc_own.ensures

pub loop-file-init : goal.loop-file-init
loop-file-init c = (none_added c.args.files.now (λ v. v.own (OfProcedure c.args.id)), none_added c.args.files.now (λ v. v.total (OfProcedure c.args.id)))

pub plus-own-requires : goal.plus-own-requires
plus-own-requires c =
    let index : c.loop-file.file-index < 16 = omega (arith, c.requires.few) in
    room_for c.args.files.now (λ v. v.own (OfProcedure c.args.id)) c.loop-file.file-index c.loop-file.own c.proc_own.result c.loop-file.invariant.0 index (own_small c)

pub plus-total-requires : goal.plus-total-requires
plus-total-requires c =
    let index : c.loop-file.file-index < 16 = omega (arith, c.requires.few) in
    let one = (goal.at.plus-total-requires c).After-proc_own in
    room_for c.args.files.now (λ v. v.total (OfProcedure c.args.id)) c.loop-file.file-index c.loop-file.total c.proc_total.result c.loop-file.invariant.1 index
    (total_room c.file-item.result (small_file one) (few_links one) c.args.id c.proc_total.result c.proc_total.ensures)

pub loop-file-preserved : goal.loop-file-preserved
loop-file-preserved c =
    let i = c.loop-file.file-index in
    let file = c.file-item.result in
    let one = (goal.at.loop-file-preserved c).After-proc_own in
    let more = next_is one in
    let room = total_room file (small_file one) (few_links one) c.args.id c.proc_total.result c.proc_total.ensures in (
      one_added c.args.files.now (λ v. v.own (OfProcedure c.args.id)) i c.loop-file.own c.proc_own.result c.plus-own.result file more c.loop-file.invariant.0 (own_small one) c.proc_own.ensures c.plus-own.ensures,
      one_added c.args.files.now (λ v. v.total (OfProcedure c.args.id)) i c.loop-file.total c.proc_total.result c.plus-total.result file more c.loop-file.invariant.1 room c.proc_total.ensures c.plus-total.ensures,
    )

pub returns : goal.returns
returns c =
    let done : c.loop-file.file-index ≡ length c.args.files.now = omega arith in
    record {
      is = refl;
      own = all_added c.args.files.now (λ v. v.own (OfProcedure c.args.id)) c.loop-file.own (subst (λ k. Added c.args.files.now (λ v. v.own (OfProcedure c.args.id)) k c.loop-file.own) done c.loop-file.invariant.0);
      total = all_added c.args.files.now (λ v. v.total (OfProcedure c.args.id)) c.loop-file.total (subst (λ k. Added c.args.files.now (λ v. v.total (OfProcedure c.args.id)) k c.loop-file.total) done c.loop-file.invariant.1);
    }
