use Rattle.std.proofs.Common.{◌≡◌, [], ◌∷◌, ◌++◌, Some, length, slice_get, sym, ap, ◌∙◌, subst, arith}
use Rattle.std.proofs.lemmas.Grind.{common_steps}
use Rattle.md_base.specs.declared.measure.Measure.TheVariants.{Redos}
use Rattle.md_dynamic.specs.Rows.{Rows}
use Rattle.md_record.specs.Kept.{Kept}
use Rattle.md_record.proofs.Events.{kept-redo}
use Rattle.md_record.proofs.Returns.{room-back}
use Rattle.md_record.proofs.RowSteps.{CountsLink}
use Rattle.md_record.proofs.Uses.{mark-use, mark-below, back-use}
use Rattle.md_record.proofs.recorder.Recorder.redo.Goals as goal

pub proc_of-proc-requires : goal.proc_of-proc-requires
proc_of-proc-requires g c =
    let r = c.requires in
    let m = c.args.saved.now in
    let uses = mark-use r.table r.history c.args.self.now r.activation m.top m.middle m.old r.stood r.owned in
    omega (arith, uses.top_there, ap (λ (z : Kept). length z.rows.nodes) c.self.view_is)

pub count-requires : goal.count-requires
count-requires g c =
    let r = c.requires in
    let m = c.args.saved.now in
    let uses = mark-use r.table r.history c.args.self.now r.activation m.top m.middle m.old r.stood r.owned in
    omega (arith, uses.middle_there, ap (λ (z : Kept). length z.rows.links) c.self.view_is)

pub set_active-requires-clause-there : goal.set_active-requires-clause-there
set_active-requires-clause-there g c =
    let r = c.requires in
    let m = c.args.saved.now in
    let k = c.args.self.now in
    let at : slice_get k.rows.nodes m.top ≡ Some c.proc_of-proc.result = ap (λ (z : Kept). slice_get z.rows.nodes m.top) (sym c.self.view_is) ∙ c.proc_of-proc.ensures.value in
    let P : Rows → Type 0 = λ z. CountsLink z c.count.new.self m.middle Redos 1 in
    let counts = subst P (ap (λ (z : Kept). z.rows) c.self.view_is) c.count.ensures.value in
    (back-use r.table r.history k c.count.new.self r.activation m.top m.middle c.proc_of-proc.result m.old Redos r.stood r.owned at counts).there

pub set_active-requires-clause-of_callee : goal.set_active-requires-clause-of_callee
set_active-requires-clause-of_callee g c =
    let r = c.requires in
    let m = c.args.saved.now in
    let k = c.args.self.now in
    let at : slice_get k.rows.nodes m.top ≡ Some c.proc_of-proc.result = ap (λ (z : Kept). slice_get z.rows.nodes m.top) (sym c.self.view_is) ∙ c.proc_of-proc.ensures.value in
    let P : Rows → Type 0 = λ z. CountsLink z c.count.new.self m.middle Redos 1 in
    let counts = subst P (ap (λ (z : Kept). z.rows) c.self.view_is) c.count.ensures.value in
    (back-use r.table r.history k c.count.new.self r.activation m.top m.middle c.proc_of-proc.result m.old Redos r.stood r.owned at counts).of_procedure

pub push_reserved-requires : goal.push_reserved-requires
push_reserved-requires g c =
    let r = c.requires in
    let m = c.args.saved.now in
    let room = room-back r.table r.history c.args.self.now r.activation m.top m.middle m.old r.stood r.owned r.follows in
    omega (arith, room, ap (λ (z : Kept). z.room) c.self.view_is, ap (λ (z : Kept). length z.chain) c.self.view_is, c.self.inside.chain.ok.0)

pub returns-clause-taken : goal.returns-clause-taken
returns-clause-taken g c = λ t h a st b may.
    let m = c.args.saved.now in
    let k0 = c.args.self.now in
    let k2 : Kept = record { rows = c.set_active.new.self; chain = c.push_reserved.new.self.items; room = c.push_reserved.new.self.cap } in
    let at : slice_get k0.rows.nodes m.top ≡ Some c.proc_of-proc.result = ap (λ (z : Kept). slice_get z.rows.nodes m.top) (sym c.self.view_is) ∙ c.proc_of-proc.ensures.value in
    let P : Rows → Type 0 = λ z. CountsLink z c.count.new.self m.middle Redos 1 in
    let counts = subst P (ap (λ (z : Kept). z.rows) c.self.view_is) c.count.ensures.value in
    let below = mark-below t h k0 a m.top m.middle c.proc_of-proc.result m.old st b at in
    let pushed : c.push_reserved.new.self.items ≡ k0.chain ++ (m.middle, m.top) ∷ [] = c.push_reserved.ensures.items ∙ ap (λ (z : Kept). z.chain ++ (m.middle, m.top) ∷ []) c.self.view_is in
    let room : c.push_reserved.new.self.cap ≡ k0.room = c.push_reserved.ensures.capacity ∙ ap (λ (z : Kept). z.room) c.self.view_is in
    kept-redo t h k0 k2 c.count.new.self a m.top m.middle c.proc_of-proc.result m.old st b at below may counts c.set_active.ensures.value pushed room

pub returns-clause-cost : goal.returns-clause-cost
returns-clause-cost g c = grind (arith, common_steps)

pub returns-clause-statics : goal.returns-clause-statics
returns-clause-statics g c = grind (arith, common_steps)
