use Rattle.std.proofs.Common.{◌-◌, ◌≡◌, Some, length, take, slice_get, sym, ap, ◌∙◌, subst, arith}
use Rattle.md_base.specs.declared.measure.Measure.TheVariants.{Excps}
use Rattle.md_dynamic.specs.Rows.{Rows}
use Rattle.md_record.specs.Kept.{Kept}
use Rattle.md_record.proofs.Events.{kept-excp}
use Rattle.md_record.proofs.RowSteps.{CountsLink}
use Rattle.md_record.proofs.Uses.{mark-use, mark-below, leave-use}
use Rattle.md_record.proofs.recorder.Recorder.excp.Goals as goal

pub proc_of-proc-requires : goal.proc_of-proc-requires
proc_of-proc-requires g c =
    let r = c.requires in
    let m = c.args.saved.now in
    let uses = mark-use r.table r.history c.args.self.now r.activation m.top m.middle m.old r.stood r.owned in
    omega (arith, uses.top_there, ap (λ (z : Kept). length z.rows.nodes) c.self.view_is)

pub count-requires : goal.count-requires
count-requires g c =
    let r = c.requires in
    let m = c.args.saved.now in
    let uses = mark-use r.table r.history c.args.self.now r.activation m.top m.middle m.old r.stood r.owned in
    omega (arith, uses.middle_there, ap (λ (z : Kept). length z.rows.links) c.self.view_is)

pub set_active-requires-clause-there : goal.set_active-requires-clause-there
set_active-requires-clause-there g c =
    let r = c.requires in
    let m = c.args.saved.now in
    let k = c.args.self.now in
    let at : slice_get k.rows.nodes m.top ≡ Some c.proc_of-proc.result = ap (λ (z : Kept). slice_get z.rows.nodes m.top) (sym c.self.view_is) ∙ c.proc_of-proc.ensures.value in
    let P : Rows → Type 0 = λ z. CountsLink z c.count.new.self m.middle Excps 1 in
    let counts = subst P (ap (λ (z : Kept). z.rows) c.self.view_is) c.count.ensures.value in
    (leave-use r.table r.history k c.count.new.self r.activation m.top m.middle c.proc_of-proc.result m.old Excps r.stood r.owned at counts).there

pub set_active-requires-clause-of_callee : goal.set_active-requires-clause-of_callee
set_active-requires-clause-of_callee g c =
    let r = c.requires in
    let m = c.args.saved.now in
    let k = c.args.self.now in
    let at : slice_get k.rows.nodes m.top ≡ Some c.proc_of-proc.result = ap (λ (z : Kept). slice_get z.rows.nodes m.top) (sym c.self.view_is) ∙ c.proc_of-proc.ensures.value in
    let P : Rows → Type 0 = λ z. CountsLink z c.count.new.self m.middle Excps 1 in
    let counts = subst P (ap (λ (z : Kept). z.rows) c.self.view_is) c.count.ensures.value in
    (leave-use r.table r.history k c.count.new.self r.activation m.top m.middle c.proc_of-proc.result m.old Excps r.stood r.owned at counts).of_procedure

pub returns-clause-taken : goal.returns-clause-taken
returns-clause-taken g c = λ t h a st b may.
    let m = c.args.saved.now in
    let k0 = c.args.self.now in
    let k2 : Kept = record { rows = c.set_active.new.self; chain = c.pop.new.self.items; room = c.pop.new.self.cap } in
    let at : slice_get k0.rows.nodes m.top ≡ Some c.proc_of-proc.result = ap (λ (z : Kept). slice_get z.rows.nodes m.top) (sym c.self.view_is) ∙ c.proc_of-proc.ensures.value in
    let P : Rows → Type 0 = λ z. CountsLink z c.count.new.self m.middle Excps 1 in
    let counts = subst P (ap (λ (z : Kept). z.rows) c.self.view_is) c.count.ensures.value in
    let below = mark-below t h k0 a m.top m.middle c.proc_of-proc.result m.old st b at in
    let popped : c.pop.new.self.items ≡ take (length k0.chain - 1) k0.chain =
    c.pop.ensures.rest ∙ ap (λ n. take (n - 1) c.self.inside.chain.items) c.self.inside.chain.ok.0 ∙ ap (λ (z : Kept). take (length z.chain - 1) z.chain) c.self.view_is in
    let room : c.pop.new.self.cap ≡ k0.room = c.pop.ensures.capacity ∙ ap (λ (z : Kept). z.room) c.self.view_is in
    kept-excp t h k0 k2 c.count.new.self a m.top m.middle c.proc_of-proc.result m.old st b at below may counts c.set_active.ensures.value popped room
