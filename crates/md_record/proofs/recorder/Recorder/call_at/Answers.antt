use Rattle.std.proofs.Common.{inl, refl, ◌+◌, ◌<◌, ◌≤◌, ◌≡◌, [], ◌∷◌, ◌++◌, Some, length, slice_get, sym, ap, ◌∙◌, subst, arith}
use Rattle.std.proofs.lemmas.Grind.{common_steps}
use Rattle.md_trace.proofs.Lists.{get-within}
use Rattle.md_dynamic.specs.Rows.{Rows, Owns, MayLead, IsFresh}
use Rattle.md_record.specs.Kept.{Kept, Stands}
use Rattle.md_record.specs.Memory.{TakesMemory}
use Rattle.md_record.specs.Leads.{LeadsBy}
use Rattle.md_record.proofs.Added.{links-fit}
use Rattle.md_record.proofs.CallCosts.{CountedCost, found-counted, lead-counted, site-cost}
use Rattle.md_record.proofs.Callings.{calling, calling-owns, calling-leads, chain-some, outcome}
use Rattle.md_record.proofs.Calls.{stands-call, marks-call}
use Rattle.md_record.proofs.Finishing.{due-of, end-from, shows-end}
use Rattle.md_record.proofs.Room.{full-chain, missing-link, on-err}
use Rattle.md_record.proofs.recorder.Recorder.call_at.Goals as goal
use Rattle.md_record.proofs.recorder.Recorder.call_at.Goals.{in-Some, in-None+in_ok-link-in-None}

pub current-node-requires : goal.current-node-requires
current-node-requires g c = chain-some c.requires.table c.requires.history c.args.self.now c.args.site c.args.callee c.requires.stood c.requires.follows

pub active-old-requires : goal.active-old-requires
active-old-requires g c =
    let k = c.args.self.now in
    let r = c.requires in
    let t = c.self.inside.tables in
    let rows : t ≡ k.rows = ap (λ (z : Kept). z.rows) c.self.view_is in
    let n = calling r.table r.history k c.args.site c.args.callee c.current-node.result r.stood r.follows c.current-node.ensures in
    omega (arith, n.below, ap (λ (z : Rows). length z.statics.procs) rows)

pub known-requires : goal.known-requires
known-requires g c =
    let k = c.args.self.now in
    let r = c.requires in
    let rows : c.self.inside.tables ≡ k.rows = ap (λ (z : Kept). z.rows) c.self.view_is in
    let n = calling r.table r.history k c.args.site c.args.callee c.current-node.result r.stood r.follows c.current-node.ensures in
    subst (λ (z : Rows). Owns z c.current-node.result c.args.site) (sym rows) (calling-owns r.table r.history k c.args.site c.args.callee c.current-node.result n)

pub lead-requires-clause-owned : goal.lead-requires-clause-owned
lead-requires-clause-owned g c =
    let k = c.args.self.now in
    let r = c.requires in
    let t = c.self.inside.tables in
    let rows : t ≡ k.rows = ap (λ (z : Kept). z.rows) c.self.view_is in
    let n = calling r.table r.history k c.args.site c.args.callee c.current-node.result r.stood r.follows c.current-node.ensures in
    let P : Rows → Type 0 = λ z. Owns z c.current-node.result c.args.site in
    subst P (sym rows) (calling-owns r.table r.history k c.args.site c.args.callee c.current-node.result n)

pub lead-requires-clause-may_lead : goal.lead-requires-clause-may_lead
lead-requires-clause-may_lead g c =
    let k = c.args.self.now in
    let r = c.requires in
    let t = c.self.inside.tables in
    let rows : t ≡ k.rows = ap (λ (z : Kept). z.rows) c.self.view_is in
    let n = calling r.table r.history k c.args.site c.args.callee c.current-node.result r.stood r.follows c.current-node.ensures in
    let P : Rows → Type 0 = λ z. MayLead z c.args.site c.args.callee in
    subst P (sym rows) (calling-leads r.table r.history k c.args.site c.args.callee c.current-node.result n)

pub lead-requires-clause-there : goal.lead-requires-clause-there
lead-requires-clause-there g c =
    let k = c.args.self.now in
    let r = c.requires in
    let t = c.self.inside.tables in
    let rows : t ≡ k.rows = ap (λ (z : Kept). z.rows) c.self.view_is in
    let n = calling r.table r.history k c.args.site c.args.callee c.current-node.result r.stood r.follows c.current-node.ensures in
    omega (arith, n.below, ap (λ (z : Rows). length z.statics.procs) rows)

pub lead-requires-clause-room : goal.lead-requires-clause-room
lead-requires-clause-room g c =
    let fit = links-fit c.requires.table c.requires.history c.args.self.now (Some c.args.site) c.args.callee c.requires.stood c.requires.follows in
    omega (arith, fit, ap (λ (z : Kept). length z.rows.links) c.self.view_is)

pub end_of-end-requires : goal.end_of-end-requires
end_of-end-requires g c =
    let k = c.args.self.now in
    let r = c.requires in
    let t = c.self.inside.tables in
    let rows : t ≡ k.rows = ap (λ (z : Kept). z.rows) c.self.view_is in
    let n = calling r.table r.history k c.args.site c.args.callee c.current-node.result r.stood r.follows c.current-node.ensures in
    let active : slice_get k.rows.active c.args.callee ≡ Some c.active-old.result = ap (λ (z : Rows). slice_get z.active c.args.callee) (sym rows) ∙ c.active-old.ensures.value in
    let P : Rows → Type 0 = λ z. LeadsBy z c.match-known.self-inside.tables c.current-node.result c.args.site c.args.callee c.active-old.result c.match-known.link in
    let led : P c.self.inside.tables = elim c.match-known.branch [
      | in-Some w ↦ rw (w.self-inside-is, w.link-is) (inl ((rw w.in-Some.is at c.known.ensures.known) c.args.callee, w.count.ensures.value))
      | in-None+in_ok-link-in-None w ↦ rw (w.self-inside-is, w.link-is) w.in_ok-link-in-None.ensures.ok
    ] in
    let leads = subst P rows led in
    let o = outcome r.table r.history k c.match-known.self-inside.tables c.args.site c.args.callee c.current-node.result c.match-known.link c.active-old.result r.stood r.follows n active leads in
    get-within c.match-known.self-inside.tables.links c.match-known.link o.row o.there

pub set_active-requires-clause-there : goal.set_active-requires-clause-there
set_active-requires-clause-there g c =
    let k = c.args.self.now in
    let r = c.requires in
    let t = c.self.inside.tables in
    let rows : t ≡ k.rows = ap (λ (z : Kept). z.rows) c.self.view_is in
    let n = calling r.table r.history k c.args.site c.args.callee c.current-node.result r.stood r.follows c.current-node.ensures in
    let active : slice_get k.rows.active c.args.callee ≡ Some c.active-old.result = ap (λ (z : Rows). slice_get z.active c.args.callee) (sym rows) ∙ c.active-old.ensures.value in
    let P : Rows → Type 0 = λ z. LeadsBy z c.match-known.self-inside.tables c.current-node.result c.args.site c.args.callee c.active-old.result c.match-known.link in
    let led : P c.self.inside.tables = elim c.match-known.branch [
      | in-Some w ↦ rw (w.self-inside-is, w.link-is) (inl ((rw w.in-Some.is at c.known.ensures.known) c.args.callee, w.count.ensures.value))
      | in-None+in_ok-link-in-None w ↦ rw (w.self-inside-is, w.link-is) w.in_ok-link-in-None.ensures.ok
    ] in
    let leads = subst P rows led in
    let o = outcome r.table r.history k c.match-known.self-inside.tables c.args.site c.args.callee c.current-node.result c.match-known.link c.active-old.result r.stood r.follows n active leads in
    o.pointer.there

pub set_active-requires-clause-of_callee : goal.set_active-requires-clause-of_callee
set_active-requires-clause-of_callee g c =
    let k = c.args.self.now in
    let r = c.requires in
    let t = c.self.inside.tables in
    let rows : t ≡ k.rows = ap (λ (z : Kept). z.rows) c.self.view_is in
    let n = calling r.table r.history k c.args.site c.args.callee c.current-node.result r.stood r.follows c.current-node.ensures in
    let active : slice_get k.rows.active c.args.callee ≡ Some c.active-old.result = ap (λ (z : Rows). slice_get z.active c.args.callee) (sym rows) ∙ c.active-old.ensures.value in
    let P : Rows → Type 0 = λ z. LeadsBy z c.match-known.self-inside.tables c.current-node.result c.args.site c.args.callee c.active-old.result c.match-known.link in
    let led : P c.self.inside.tables = elim c.match-known.branch [
      | in-Some w ↦ rw (w.self-inside-is, w.link-is) (inl ((rw w.in-Some.is at c.known.ensures.known) c.args.callee, w.count.ensures.value))
      | in-None+in_ok-link-in-None w ↦ rw (w.self-inside-is, w.link-is) w.in_ok-link-in-None.ensures.ok
    ] in
    let leads = subst P rows led in
    let o = outcome r.table r.history k c.match-known.self-inside.tables c.args.site c.args.callee c.current-node.result c.match-known.link c.active-old.result r.stood r.follows n active leads in
    let same = end-from r.table r.history k c.match-known.self-inside.tables c.args.site c.args.callee c.match-known.link c.end_of-end.result o c.end_of-end.ensures.value in
    ap (slice_get c.match-known.self-inside.tables.nodes) (sym same) ∙ o.pointer.of_procedure

pub returns-clause-taken : goal.returns-clause-taken
returns-clause-taken g c = λ t h st may.
    let k = c.args.self.now in
    let k2 : Kept = record { rows = c.set_active.new.self; chain = c.push_reserved.new.self.items; room = c.push_reserved.new.self.cap } in
    let rows : c.self.inside.tables ≡ k.rows = ap (λ (z : Kept). z.rows) c.self.view_is in
    let n = calling t h k c.args.site c.args.callee c.current-node.result st may c.current-node.ensures in
    let active : slice_get k.rows.active c.args.callee ≡ Some c.active-old.result = ap (λ (z : Rows). slice_get z.active c.args.callee) (sym rows) ∙ c.active-old.ensures.value in
    let P : Rows → Type 0 = λ z. LeadsBy z c.match-known.self-inside.tables c.current-node.result c.args.site c.args.callee c.active-old.result c.match-known.link in
    let led : P c.self.inside.tables = elim c.match-known.branch [
      | in-Some w ↦ rw (w.self-inside-is, w.link-is) (inl ((rw w.in-Some.is at c.known.ensures.known) c.args.callee, w.count.ensures.value))
      | in-None+in_ok-link-in-None w ↦ rw (w.self-inside-is, w.link-is) w.in_ok-link-in-None.ensures.ok
    ] in
    let leads = subst P rows led in
    let o = outcome t h k c.match-known.self-inside.tables c.args.site c.args.callee c.current-node.result c.match-known.link c.active-old.result st may n active leads in
    let chain : c.match-known.self-inside.chain ≡ c.reserve.new.self = elim c.match-known.branch [ in-Some w ↦ rw w.self-inside-is refl | in-None+in_ok-link-in-None w ↦ rw w.self-inside-is refl ] in
    let pushed : c.push_reserved.new.self.items ≡ k.chain ++ (c.match-known.link, c.end_of-end.result) ∷ [] =
    (rw chain at c.push_reserved.ensures.items) ∙ ap (λ xs. xs ++ (c.match-known.link, c.end_of-end.result) ∷ []) c.in_ok-reserve.ensures.items ∙ ap (λ (z : Kept). z.chain ++ (c.match-known.link, c.end_of-end.result) ∷ []) c.self.view_is in
    let more : k.room ≤ k2.room = omega (arith, c.in_ok-reserve.ensures.capacity, rw chain at c.push_reserved.ensures.capacity, ap (λ (z : Kept). z.room) c.self.view_is) in
    let fits : length k2.chain ≤ k2.room = omega (arith, rw chain at c.push_reserved.ensures.capacity, rw chain at c.push_reserved.ensures.len, c.in_ok-reserve.ensures.ok, c.in_ok-reserve.ensures.len, c.push_reserved.new.self.ok.0) in
    let s = shows-end t h k k2 c.match-known.self-inside.tables c.args.site c.args.callee c.match-known.link c.end_of-end.result o c.end_of-end.ensures.value c.set_active.ensures.value pushed more fits in
    stands-call t h k k2 (Some c.args.site) c.args.callee c.match-known.link c.end_of-end.result st may s

pub returns-clause-marked : goal.returns-clause-marked
returns-clause-marked g c = λ t h st may.
    let k = c.args.self.now in
    let k2 : Kept = record { rows = c.set_active.new.self; chain = c.push_reserved.new.self.items; room = c.push_reserved.new.self.cap } in
    let rows : c.self.inside.tables ≡ k.rows = ap (λ (z : Kept). z.rows) c.self.view_is in
    let n = calling t h k c.args.site c.args.callee c.current-node.result st may c.current-node.ensures in
    let active : slice_get k.rows.active c.args.callee ≡ Some c.active-old.result = ap (λ (z : Rows). slice_get z.active c.args.callee) (sym rows) ∙ c.active-old.ensures.value in
    let P : Rows → Type 0 = λ z. LeadsBy z c.match-known.self-inside.tables c.current-node.result c.args.site c.args.callee c.active-old.result c.match-known.link in
    let led : P c.self.inside.tables = elim c.match-known.branch [
      | in-Some w ↦ rw (w.self-inside-is, w.link-is) (inl ((rw w.in-Some.is at c.known.ensures.known) c.args.callee, w.count.ensures.value))
      | in-None+in_ok-link-in-None w ↦ rw (w.self-inside-is, w.link-is) w.in_ok-link-in-None.ensures.ok
    ] in
    let leads = subst P rows led in
    let o = outcome t h k c.match-known.self-inside.tables c.args.site c.args.callee c.current-node.result c.match-known.link c.active-old.result st may n active leads in
    let chain : c.match-known.self-inside.chain ≡ c.reserve.new.self = elim c.match-known.branch [ in-Some w ↦ rw w.self-inside-is refl | in-None+in_ok-link-in-None w ↦ rw w.self-inside-is refl ] in
    let pushed : c.push_reserved.new.self.items ≡ k.chain ++ (c.match-known.link, c.end_of-end.result) ∷ [] =
    (rw chain at c.push_reserved.ensures.items) ∙ ap (λ xs. xs ++ (c.match-known.link, c.end_of-end.result) ∷ []) c.in_ok-reserve.ensures.items ∙ ap (λ (z : Kept). z.chain ++ (c.match-known.link, c.end_of-end.result) ∷ []) c.self.view_is in
    let more : k.room ≤ k2.room = omega (arith, c.in_ok-reserve.ensures.capacity, rw chain at c.push_reserved.ensures.capacity, ap (λ (z : Kept). z.room) c.self.view_is) in
    let fits : length k2.chain ≤ k2.room = omega (arith, rw chain at c.push_reserved.ensures.capacity, rw chain at c.push_reserved.ensures.len, c.in_ok-reserve.ensures.ok, c.in_ok-reserve.ensures.len, c.push_reserved.new.self.ok.0) in
    let s = shows-end t h k k2 c.match-known.self-inside.tables c.args.site c.args.callee c.match-known.link c.end_of-end.result o c.end_of-end.ensures.value c.set_active.ensures.value pushed more fits in
    marks-call t h k k2 (Some c.args.site) c.args.callee c.match-known.link c.end_of-end.result c.active-old.result st may s (due-of t h k c.args.site c.args.callee c.current-node.result c.active-old.result st n active)

pub returns-clause-cost : goal.returns-clause-cost
returns-clause-cost g c =
    let k = c.args.self.now in
    let k2 : Kept = record { rows = c.set_active.new.self; chain = c.push_reserved.new.self.items; room = c.push_reserved.new.self.cap } in
    let r = c.requires in
    let t = c.self.inside.tables in
    let rows : t ≡ k.rows = ap (λ (z : Kept). z.rows) c.self.view_is in
    let n = calling r.table r.history k c.args.site c.args.callee c.current-node.result r.stood r.follows c.current-node.ensures in
    let M : Rows → Type 0 = λ z. MayLead z c.args.site c.args.callee in
    let may : M t = subst M (sym rows) (calling-leads r.table r.history k c.args.site c.args.callee c.current-node.result n) in
    let found : CountedCost t c.match-known.self-inside.tables c.args.site c.args.callee c.active-old.new.steps c.match-known.steps = elim c.match-known.branch [
      | in-Some w ↦ rw (w.self-inside-is, w.steps-is) (found-counted t w.count.new.self c.args.site c.args.callee c.active-old.new.steps w.count.new.steps may (omega (arith, c.known.ensures.cost, w.count.ensures.cost)))
      | in-None+in_ok-link-in-None w ↦ rw (w.self-inside-is, w.steps-is) (lead-counted t w.lead.new.tables c.args.site c.args.callee c.active-old.new.steps c.known.new.steps w.lead.new.steps c.known.ensures.cost w.in_ok-link-in-None.ensures.cost)
    ] in
    site-cost k k2 c.self.inside.tables c.match-known.self-inside.tables c.args.site c.args.callee c.args.steps.now c.active-old.new.steps c.match-known.steps c.set_active.new.steps
    (ap (λ (z : Kept). z.rows) c.self.view_is) (ap (λ (z : Rows). z.nodes) c.set_active.ensures.value) c.active-old.ensures.cost (omega (arith, c.set_active.ensures.cost, c.end_of-end.ensures.cost)) found

pub returns-in_err-reserve-clause-needed : goal.returns-in_err-reserve-clause-needed
returns-in_err-reserve-clause-needed g c =
    let k = c.args.self.now in
    let full : k.room < length k.chain + 1 = omega (arith, c.in_err-reserve.ensures.full, c.self.inside.chain.ok.0, ap (λ (z : Kept). z.room) c.self.view_is, ap (λ (z : Kept). length z.chain) c.self.view_is) in
    on-err c.from_residual.result (TakesMemory (Stands k) (Some c.args.site) c.args.callee) (λ t h st may at. full-chain t h k (Some c.args.site) c.args.callee st may full at)

pub returns-in_err-link-in-None-clause-needed : goal.returns-in_err-link-in-None-clause-needed
returns-in_err-link-in-None-clause-needed g c =
    let k = c.args.self.now in
    let rows : c.self.inside.tables ≡ k.rows = ap (λ (z : Kept). z.rows) c.self.view_is in
    let P : Rows → Type 0 = λ z. IsFresh z c.current-node.result c.args.site c.args.callee in
    let fresh = subst P rows c.in_err-link-in-None.ensures.fresh in
    on-err c.from_residual-in_err-link-in-None.result (TakesMemory (Stands k) (Some c.args.site) c.args.callee)
    (λ t h st may at. missing-link t h k c.args.site c.args.callee c.current-node.result st (calling t h k c.args.site c.args.callee c.current-node.result st may c.current-node.ensures) fresh at)

pub returns-clause-as_before : goal.returns-clause-as_before
returns-clause-as_before g c = grind (arith, common_steps)

pub returns-clause-cost_refused : goal.returns-clause-cost_refused
returns-clause-cost_refused g c = grind (arith, common_steps)

pub returns-clause-needed : goal.returns-clause-needed
returns-clause-needed g c = grind (arith, common_steps)

pub returns-clause-refused : goal.returns-clause-refused
returns-clause-refused g c = grind (arith, common_steps)

pub returns-clause-statics : goal.returns-clause-statics
returns-clause-statics g c = grind (arith, common_steps)
