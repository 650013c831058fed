use Rattle.std.proofs.Common.{◌≡◌, ◌<◌, ◌∙◌, true, false, List, ◌∷◌, length, set, IfSome, Option, Some, slice_get, refl, sym, subst, arith}
use Rattle.md_trace.specs.declared.event.Event.{Event}
use Rattle.md_trace.specs.declared.event.Event.TheVariants.{Call, Exit, Redo, Fail, Excp}
use Rattle.md_trace.specs.PortHistory.{MayFollow}
use Rattle.md_trace.proofs.Lists.{get-there}
use Rattle.test_replay.specs.declared.history.Row.{Row}
use Rattle.test_replay.specs.Past.{IsPast}
use Rattle.test_replay.proofs.Handing.{read-at, running, returned}
use Rattle.test_replay.proofs.PastSteps.{row-tells, past-call, past-set}
use Rattle.test_replay.proofs.history.Past.add.Goals as goal

pub leave-requires : goal.leave-requires
leave-requires c =
    let r = c.requires in
    let may = subst (λ e. MayFollow r.0 r.1 e) c.in-Exit.is r.4 in
    let called = running r.0 r.1 c.in-Exit.act r.2 may in
    omega (arith, called, r.3.each)

pub index_mut-requires : goal.index_mut-requires
index_mut-requires c =
    let r = c.requires in
    let may = subst (λ e. MayFollow r.0 r.1 e) c.in-Redo.is r.4 in
    let called = returned r.0 r.1 c.in-Redo.act r.2 may.0 in
    omega (arith, called, r.3.each, c.args.self.now.rows.ok.0)

pub leave-requires-in-Fail : goal.leave-requires-in-Fail
leave-requires-in-Fail c =
    let r = c.requires in
    let may = subst (λ e. MayFollow r.0 r.1 e) c.in-Fail.is r.4 in
    let called = running r.0 r.1 c.in-Fail.act r.2 may in
    omega (arith, called, r.3.each)

pub leave-requires-in-Excp : goal.leave-requires-in-Excp
leave-requires-in-Excp c =
    let r = c.requires in
    let may = subst (λ e. MayFollow r.0 r.1 e) c.in-Excp.is r.4 in
    let called = running r.0 r.1 c.in-Excp.act r.2 may in
    omega (arith, called, r.3.each)

pub returns-in_ok-push-in-Call : goal.returns-in_ok-push-in-Call
returns-in_ok-push-in-Call c = λ t h is past may.
    let event : Event = Call c.in-Call.act c.in-Call.parent c.in-Call.site c.in-Call.callee in
    let said : MayFollow t h event = subst (λ e. MayFollow t h e) c.in-Call.is may in
    let P : Event → Type 0 = λ e. IsPast c.push.new.self.items (Some c.in-Call.act) (e ∷ h) in
    subst P (sym c.in-Call.is) (past-call t c.args.self.now.rows.items c.push.new.self.items c.args.self.now.current h c.in-Call.act c.in-Call.parent c.in-Call.site c.in-Call.callee past said c.in_ok-push-in-Call.ensures.items)

pub returns-in-Exit : goal.returns-in-Exit
returns-in-Exit c = λ t h is past may.
    let rows = c.args.self.now.rows.items in
    let a = c.in-Exit.act in
    let said : MayFollow t h (Exit a) = subst (λ e. MayFollow t h e) c.in-Exit.is may in
    let row = get-there rows a (let called = running t h a is said in omega (arith, called, past.each)) in
    let R : Option Row → Type 0 = λ o. IfSome o (λ r. c.leave.new.self.rows.items ≡ set rows a (record r { exited = true })) in
    let N : Option Row → Type 0 = λ o. IfSome o (λ r. c.leave.new.self.current ≡ r.parent) in
    let tells = row-tells rows c.args.self.now.current h a row.0 past row.1 in
    let P : Event → Type 0 = λ e. IsPast c.leave.new.self.rows.items c.leave.new.self.current (e ∷ h) in
    subst P (sym c.in-Exit.is) (past-set rows c.leave.new.self.rows.items c.args.self.now.current h (Exit a) a true row.0 c.leave.new.self.current past row.1 (subst R row.1 c.leave.ensures.rows) refl (λ x. refl) (subst N row.1 c.leave.ensures.current ∙ sym tells.parent))

pub returns-in-Redo : goal.returns-in-Redo
returns-in-Redo c = λ t h is past may.
    let rows = c.args.self.now.rows.items in
    let a = c.in-Redo.act in
    let said : MayFollow t h (Redo a) = subst (λ e. MayFollow t h e) c.in-Redo.is may in
    let below : a < length rows = (let called = returned t h a is said.0 in omega (arith, called, past.each)) in
    let row = c.index_mut.result.now in
    let there : slice_get rows a ≡ Some row = read-at rows a row below c.index_mut.ensures.value in
    let written : List Row = set rows a (record row { exited = false }) in
    let P : Event → Type 0 = λ e. IsPast written (Some a) (e ∷ h) in
    subst P (sym c.in-Redo.is) (past-set rows written c.args.self.now.current h (Redo a) a false row (Some a) past there refl refl (λ x. refl) refl)

pub returns-in-Fail : goal.returns-in-Fail
returns-in-Fail c = λ t h is past may.
    let rows = c.args.self.now.rows.items in
    let a = c.in-Fail.act in
    let said : MayFollow t h (Fail a) = subst (λ e. MayFollow t h e) c.in-Fail.is may in
    let row = get-there rows a (let called = running t h a is said in omega (arith, called, past.each)) in
    let R : Option Row → Type 0 = λ o. IfSome o (λ r. c.leave-in-Fail.new.self.rows.items ≡ set rows a (record r { exited = false })) in
    let N : Option Row → Type 0 = λ o. IfSome o (λ r. c.leave-in-Fail.new.self.current ≡ r.parent) in
    let tells = row-tells rows c.args.self.now.current h a row.0 past row.1 in
    let P : Event → Type 0 = λ e. IsPast c.leave-in-Fail.new.self.rows.items c.leave-in-Fail.new.self.current (e ∷ h) in
    subst P (sym c.in-Fail.is) (past-set rows c.leave-in-Fail.new.self.rows.items c.args.self.now.current h (Fail a) a false row.0 c.leave-in-Fail.new.self.current past row.1 (subst R row.1 c.leave-in-Fail.ensures.rows) refl (λ x. refl) (subst N row.1 c.leave-in-Fail.ensures.current ∙ sym tells.parent))

pub returns-in-Excp : goal.returns-in-Excp
returns-in-Excp c = λ t h is past may.
    let rows = c.args.self.now.rows.items in
    let a = c.in-Excp.act in
    let said : MayFollow t h (Excp a) = subst (λ e. MayFollow t h e) c.in-Excp.is may in
    let row = get-there rows a (let called = running t h a is said in omega (arith, called, past.each)) in
    let R : Option Row → Type 0 = λ o. IfSome o (λ r. c.leave-in-Excp.new.self.rows.items ≡ set rows a (record r { exited = false })) in
    let N : Option Row → Type 0 = λ o. IfSome o (λ r. c.leave-in-Excp.new.self.current ≡ r.parent) in
    let tells = row-tells rows c.args.self.now.current h a row.0 past row.1 in
    let P : Event → Type 0 = λ e. IsPast c.leave-in-Excp.new.self.rows.items c.leave-in-Excp.new.self.current (e ∷ h) in
    subst P (sym c.in-Excp.is) (past-set rows c.leave-in-Excp.new.self.rows.items c.args.self.now.current h (Excp a) a false row.0 c.leave-in-Excp.new.self.current past row.1 (subst R row.1 c.leave-in-Excp.ensures.rows) refl (λ x. refl) (subst N row.1 c.leave-in-Excp.ensures.current ∙ sym tells.parent))
