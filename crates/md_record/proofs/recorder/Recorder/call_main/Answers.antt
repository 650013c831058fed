use Rattle.std.proofs.Common.{ℕ, ◌≤◌, ◌≡◌, [], ◌∷◌, ◌++◌, None, length, slice_get, sym, ap, ◌∙◌, subst, arith}
use Rattle.std.proofs.lemmas.Grind.{common_steps}
use Rattle.std.specs.Option.{option_map}
use Rattle.md_base.specs.declared.measure.Measure.TheVariants.{Calls}
use Rattle.md_trace.specs.Activation.{activations}
use Rattle.md_dynamic.specs.declared.link.LinkRow.{LinkRow}
use Rattle.md_dynamic.specs.Rows.{Rows}
use Rattle.md_record.specs.Kept.{Kept}
use Rattle.md_record.specs.Leads.{CountsOn}
use Rattle.md_record.specs.Marks.{BelongsTo}
use Rattle.md_record.proofs.Calls.{the_call, stands-call, marks-call}
use Rattle.md_record.proofs.First.{main-old, main-pointer, main-shows}
use Rattle.md_record.proofs.recorder.Recorder.call_main.Goals as goal

pub set_active-requires-clause-of_callee : goal.set_active-requires-clause-of_callee
set_active-requires-clause-of_callee g c =
    let r = c.requires in
    let k = c.args.self.now in
    let root = c.new-root.result in
    let P : Rows → Type 0 = λ z. CountsOn z c.count.new.self root Calls 1 in
    let Q : ℕ → Type 0 = λ j. CountsOn k.rows c.count.new.self j Calls 1 in
    let counts = subst Q c.new-root.ensures (subst P (ap (λ (z : Kept). z.rows) c.self.view_is) c.count.ensures.value) in
    let read = ap (λ j. option_map (λ (w : LinkRow). w.callee) (slice_get c.count.new.self.links j)) (sym c.new-root.ensures) ∙ c.end_of-end.ensures.value in
    main-pointer r.table r.history k c.count.new.self c.args.callee c.end_of-end.result r.stood r.follows counts read

pub returns-clause-taken : goal.returns-clause-taken
returns-clause-taken g c = λ t h st may.
    let k = c.args.self.now in
    let root = c.new-root.result in
    let P : Rows → Type 0 = λ z. CountsOn z c.count.new.self root Calls 1 in
    let Q : ℕ → Type 0 = λ j. CountsOn k.rows c.count.new.self j Calls 1 in
    let counts = subst Q c.new-root.ensures (subst P (ap (λ (z : Kept). z.rows) c.self.view_is) c.count.ensures.value) in
    let read = ap (λ j. option_map (λ (w : LinkRow). w.callee) (slice_get c.count.new.self.links j)) (sym c.new-root.ensures) ∙ c.end_of-end.ensures.value in
    let k2 : Kept = record { rows = c.set_active.new.self; chain = c.push_reserved.new.self.items; room = c.push_reserved.new.self.cap } in
    let pushed : c.push_reserved.new.self.items ≡ k.chain ++ (0, c.end_of-end.result) ∷ [] =
    c.push_reserved.ensures.items ∙ ap (λ xs. xs ++ (root, c.end_of-end.result) ∷ []) c.in_ok-reserve.ensures.items ∙ ap (λ j. c.self.inside.chain.items ++ (j, c.end_of-end.result) ∷ []) c.new-root.ensures ∙ ap (λ (z : Kept). z.chain ++ (0, c.end_of-end.result) ∷ []) c.self.view_is in
    let more : k.room ≤ k2.room = omega (arith, c.in_ok-reserve.ensures.capacity, c.push_reserved.ensures.capacity, ap (λ (z : Kept). z.room) c.self.view_is) in
    let fits : length k2.chain ≤ k2.room = omega (arith, c.push_reserved.ensures.capacity, c.push_reserved.ensures.len, c.in_ok-reserve.ensures.ok, c.in_ok-reserve.ensures.len, c.push_reserved.new.self.ok.0) in
    let s = main-shows t h k k2 c.count.new.self c.args.callee c.end_of-end.result st may counts read c.set_active.ensures.value pushed more fits in
    stands-call t h k k2 None c.args.callee 0 c.end_of-end.result st may s

pub returns-clause-marked : goal.returns-clause-marked
returns-clause-marked g c = λ t h st may.
    let k = c.args.self.now in
    let root = c.new-root.result in
    let P : Rows → Type 0 = λ z. CountsOn z c.count.new.self root Calls 1 in
    let Q : ℕ → Type 0 = λ j. CountsOn k.rows c.count.new.self j Calls 1 in
    let counts = subst Q c.new-root.ensures (subst P (ap (λ (z : Kept). z.rows) c.self.view_is) c.count.ensures.value) in
    let read = ap (λ j. option_map (λ (w : LinkRow). w.callee) (slice_get c.count.new.self.links j)) (sym c.new-root.ensures) ∙ c.end_of-end.ensures.value in
    let k2 : Kept = record { rows = c.set_active.new.self; chain = c.push_reserved.new.self.items; room = c.push_reserved.new.self.cap } in
    let pushed : c.push_reserved.new.self.items ≡ k.chain ++ (0, c.end_of-end.result) ∷ [] =
    c.push_reserved.ensures.items ∙ ap (λ xs. xs ++ (root, c.end_of-end.result) ∷ []) c.in_ok-reserve.ensures.items ∙ ap (λ j. c.self.inside.chain.items ++ (j, c.end_of-end.result) ∷ []) c.new-root.ensures ∙ ap (λ (z : Kept). z.chain ++ (0, c.end_of-end.result) ∷ []) c.self.view_is in
    let more : k.room ≤ k2.room = omega (arith, c.in_ok-reserve.ensures.capacity, c.push_reserved.ensures.capacity, ap (λ (z : Kept). z.room) c.self.view_is) in
    let fits : length k2.chain ≤ k2.room = omega (arith, c.push_reserved.ensures.capacity, c.push_reserved.ensures.len, c.in_ok-reserve.ensures.ok, c.in_ok-reserve.ensures.len, c.push_reserved.new.self.ok.0) in
    let s = main-shows t h k k2 c.count.new.self c.args.callee c.end_of-end.result st may counts read c.set_active.ensures.value pushed more fits in
    let b = marks-call t h k k2 None c.args.callee 0 c.end_of-end.result None st may s (main-old t h c.args.callee may) in
    let B : ℕ → Type 0 = λ j. BelongsTo c.end_of-end.result j None t (the_call h None c.args.callee ∷ h) (length (activations h)) in
    subst B (sym c.new-root.ensures) b

pub returns-clause-as_before : goal.returns-clause-as_before
returns-clause-as_before g c = grind (arith, common_steps)

pub returns-clause-cost : goal.returns-clause-cost
returns-clause-cost g c = grind (arith, common_steps)

pub returns-clause-cost_refused : goal.returns-clause-cost_refused
returns-clause-cost_refused g c = grind (arith, common_steps)

pub returns-clause-needed : goal.returns-clause-needed
returns-clause-needed g c = grind (arith, common_steps)

pub returns-clause-refused : goal.returns-clause-refused
returns-clause-refused g c = grind (arith, common_steps)

pub returns-clause-statics : goal.returns-clause-statics
returns-clause-statics g c = grind (arith, common_steps)
