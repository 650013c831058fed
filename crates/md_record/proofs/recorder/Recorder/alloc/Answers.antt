use Rattle.std.proofs.Common.{ℕ, ◌-◌, ◌<◌, ◌≡◌, Some, length, unwrap_or, slice_get, sym, ap, ◌∙◌, subst, arith}
use Rattle.md_base.specs.declared.measure.Measure.TheVariants.{Allocs}
use Rattle.md_trace.specs.PortHistory.{current}
use Rattle.md_dynamic.specs.Rows.{Rows}
use Rattle.md_record.specs.Kept.{Kept}
use Rattle.md_record.proofs.Events.{runs-at, kept-alloc}
use Rattle.md_record.proofs.RowSteps.{CountsLink}
use Rattle.md_record.proofs.Uses.{latest-there, count-frame}
use Rattle.md_record.proofs.recorder.Recorder.alloc.Goals as goal

pub count-requires : goal.count-requires
count-requires g c =
    let r = c.requires in
    let there = latest-there r.table r.history c.args.self.now (unwrap_or (current r.history) 0) c.in-Some.latest r.stood r.follows (sym c.latest.ensures ∙ c.in-Some.is) in
    omega (arith, there, ap (λ (z : Kept). length z.rows.links) c.self.view_is)

pub count-requires-in-Some : goal.count-requires-in-Some
count-requires-in-Some g c =
    let r = c.requires in
    let there = latest-there r.table r.history c.args.self.now (unwrap_or (current r.history) 0) c.in-Some.latest r.stood r.follows (sym c.latest.ensures ∙ c.in-Some.is) in
    let below : c.in-Some.latest.0 < length c.self.inside.tables.links = omega (arith, there, ap (λ (z : Kept). length z.rows.links) c.self.view_is) in
    let frame = count-frame c.self.inside.tables c.count.new.self c.in-Some.latest.0 1 Allocs below c.count.ensures.value in
    omega (arith, below, frame.1)

pub returns-in-Some-clause-taken : goal.returns-in-Some-clause-taken
returns-in-Some-clause-taken g c = λ t h st may.
    let a = unwrap_or (current h) 0 in
    let k0 = c.args.self.now in
    let k2 : Kept = record { rows = c.count-in-Some.new.self; chain = c.self.inside.chain.items; room = c.self.inside.chain.cap } in
    let j = c.in-Some.latest.0 in
    let at = runs-at t h k0 a st may in
    let is : slice_get k0.chain (length k0.chain - 1) ≡ Some c.in-Some.latest = sym c.latest.ensures ∙ c.in-Some.is in
    let same : at.last ≡ c.in-Some.latest = cc (at.last_is, is) in
    let P : Rows → Type 0 = λ z. CountsLink z c.count.new.self j Allocs 1 in
    let one = subst P (ap (λ (z : Kept). z.rows) c.self.view_is) c.count.ensures.value in
    kept-alloc t h k0 k2 c.count.new.self a c.args.words j st at (ap (λ (e : ℕ × ℕ). e.0) same) may one c.count-in-Some.ensures.value (ap (λ (z : Kept). z.chain) c.self.view_is) (ap (λ (z : Kept). z.room) c.self.view_is)

pub returns-in_default-clause-taken : goal.returns-in_default-clause-taken
returns-in_default-clause-taken g c = λ t h st may.
    let at = runs-at t h c.args.self.now (unwrap_or (current h) 0) st may in
    absurd (c.in_default.not-Some at.last (c.latest.ensures ∙ at.last_is))
