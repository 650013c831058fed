use Rattle.std.proofs.Common.{◌≡◌, ◌<◌, ◌-◌, ◌+◌, ℕ, length, sym, ap, ◌∙◌, arith}
use Rattle.md_static.specs.Tables.{Static}
use Rattle.md_people.proofs.Views.{statics_are}
use Rattle.md_people.specs.Words.{full_name}
use Rattle.md_compare.specs.Cost.{cost_of}
use Rattle.md_compare.proofs.NamedSteps.{all_from, cost_from, name_put, nothing_put}
use Rattle.md_compare.proofs.named.costs_by_name.Goals as goal

pub loop-id-init : goal.loop-id-init
loop-id-init c = λ v is name.
    let same : c.statics-statics.result.now ≡ v.statics = c.statics-statics.ensures ∙ ap (λ f. f.statics) c.profile.ensures.profile ∙ sym (statics_are c.args.loaded.now.profile v is) in
    nothing_put v c.args.by c.new-costs.result (length c.procs.result.now) c.new-costs.ensures.empty (ap (λ ps. length ps) c.procs.ensures ∙ ap (λ (s : Static). length s.procs) same) name

pub loop-id-preserved : goal.loop-id-preserved
loop-id-preserved c = λ v is name.
    let same : c.statics-statics.result.now ≡ v.statics = c.statics-statics.ensures ∙ ap (λ f. f.statics) c.profile.ensures.profile ∙ sym (statics_are c.args.loaded.now.profile v is) in
    let size : length c.procs.result.now ≡ length v.statics.procs = ap (λ ps. length ps) c.procs.ensures ∙ ap (λ (s : Static). length s.procs) same in
    let i = c.loop-id.id - 1 in
    let more : c.loop-id.id ≡ i + 1 = omega arith in
    let lt : i < length v.statics.procs = omega (arith, c.loop-id.auto.id) in
    name_put v c.args.by i c.loop-id.costs c.insert.new.self c.in_ok-name.name c.cost_of.result lt
    (c.in_ok-name.ensures ∙ ap (λ (s : Static). full_name s i) same)
    (c.cost_of.ensures v is ∙ ap (λ (q : ℕ). cost_of v c.args.by q) c.new.ensures)
    c.in_ok-insert.ensures.entries
    (λ other. c.loop-id.invariant v is other ∙ ap (λ (k : ℕ). cost_from v c.args.by k other) more)
    name

pub returns : goal.returns
returns c = λ v is name.
    let done : c.loop-id.id ≡ 0 = omega arith in
    c.loop-id.invariant v is name ∙ ap (λ (k : ℕ). cost_from v c.args.by k name) done ∙ all_from v c.args.by name
