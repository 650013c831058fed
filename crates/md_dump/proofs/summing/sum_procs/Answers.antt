use Rattle.std.proofs.Common.{◌≡◌, ◌<◌, ℕ, length, ap, sym, subst, ◌∙◌, arith}
use Rattle.std.proofs.lemmas.Grind.{common_steps}
use Rattle.md_static.specs.Tables.{Static}
use Rattle.md_dynamic.specs.Profile.{ProfileRows}
use Rattle.md_dump.specs.Sums.{IsProcSum}
use Rattle.md_dump.proofs.Adding.{have_views, procs_there, sums_all, sums_more}
use Rattle.md_dump.proofs.summing.sum_procs.Goals as goal

pub returns-clause-views : goal.returns-clause-views
returns-clause-views c = have_views c.args.files.now c.are_all_small.ensures

pub sum_proc-requires-clause-few : goal.sum_proc-requires-clause-few
sum_proc-requires-clause-few c = c.requires.few

pub sum_proc-requires-clause-few_links : goal.sum_proc-requires-clause-few_links
sum_proc-requires-clause-few_links c = c.requires.few_links

pub sum_proc-requires-clause-small : goal.sum_proc-requires-clause-small
sum_proc-requires-clause-small c = c.are_all_small.ensures

pub sum_proc-requires-clause-there : goal.sum_proc-requires-clause-there
sum_proc-requires-clause-there c =
    procs_there c.args.files.now c.requires.some c.index-files-0.result c.index-files-0.result c.index-files-0.is c.procs-count.result.now (c.procs-count.ensures ∙ ap (λ (s : Static). s.procs) c.statics.ensures ∙ ap (λ (p : ProfileRows). p.statics.procs) c.profile.ensures.profile)
    c.in_default.ensures.one c.new.result (subst (λ (id : ℕ). id < length c.procs-count.result.now) (sym c.new.ensures) c.loop-id-test.true)

pub loop-id-preserved : goal.loop-id-preserved
loop-id-preserved c =
    sums_more c.args.files.now c.loop-id.rows.items c.push.new.self.items c.sum_proc.result c.loop-id.id c.in_ok-push.ensures.items c.loop-id.invariant.0 c.loop-id.invariant.1
    (subst (λ (id : ℕ). IsProcSum c.args.files.now id c.sum_proc.result) c.new.ensures c.sum_proc.ensures)

pub returns-clause-sums : goal.returns-clause-sums
returns-clause-sums c =
    let done : c.loop-id.id ≡ length c.procs-count.result.now = omega arith in
    sums_all c.args.files.now c.requires.some c.index-files-0.result c.index-files-0.result c.index-files-0.is c.procs-count.result.now (c.procs-count.ensures ∙ ap (λ (s : Static). s.procs) c.statics.ensures ∙ ap (λ (p : ProfileRows). p.statics.procs) c.profile.ensures.profile)
    c.loop-id.rows.items (c.loop-id.invariant.0 ∙ done) c.loop-id.invariant.1

pub returns-clause-fault : goal.returns-clause-fault
returns-clause-fault c = grind (arith, common_steps)

pub returns-clause-one : goal.returns-clause-one
returns-clause-one c = grind (arith, common_steps)

pub returns-in-Some-clause-fault : goal.returns-in-Some-clause-fault
returns-in-Some-clause-fault c = grind (arith, common_steps)

pub returns-in-Some-clause-one : goal.returns-in-Some-clause-one
returns-in-Some-clause-one c = grind (arith, common_steps)

pub returns-in-Some-clause-sums : goal.returns-in-Some-clause-sums
returns-in-Some-clause-sums c = grind (arith, common_steps)

pub returns-in-Some-clause-views : goal.returns-in-Some-clause-views
returns-in-Some-clause-views c = grind (arith, common_steps)
