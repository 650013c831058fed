use Rattle.std.proofs.Common.{◌≡◌, ◌∙◌, sym, ap, subst, Some, map, length, List, slice_get, arith}
use Rattle.std.proofs.lemmas.Grind.{common_steps}
use Rattle.md_hlds.specs.declared.program.Program.{Program}
use Rattle.md_hlds.specs.HldsGoal.{goal_of, goal_size}
use Rattle.md_hlds.specs.Hlds.{hlds_of, procedure_of, procedures_of}
use Rattle.md_dynamic.specs.Profile.{ProfileRows}
use Rattle.law_turns.proofs.TurnLaws.{turns_of_runs_solve}
use Rattle.md_cover.specs.declared.coverage.GoalCount.{GoalCount}
use Rattle.md_cover.specs.Coverage.{gives_turns}
use Rattle.md_cover.specs.Known.{table_of}
use Rattle.md_cover.specs.Solved.{with_turns, HaveFewExits}
use Rattle.md_cover.specs.Told.{view_counts}
use Rattle.md_cover.proofs.BodyNumbers.{body-within}
use Rattle.md_cover.proofs.RowLemmas.{rows-size}
use Rattle.md_cover.proofs.CoverageLaws.{one-procedure, rows-are, solved-for, no-turns, coverage-of, coverage-told, coverage-untold}
use Rattle.md_cover.proofs.covering.cover.Goals as goal

pub add_rows-requires-clause-few : goal.add_rows-requires-clause-few
add_rows-requires-clause-few c =
    let ps = procedures_of c.args.checked.now.preds.items in
    let there = subst (λ (p : Program). slice_get (procedures_of p.preds.items) c.args.id ≡ Some (procedure_of c.in-Some.pred.now)) c.program.ensures.program c.in-Some.ensures in
    let none = ap (length {A = GoalCount}) c.new-goals.ensures.items in
    omega (arith, none, body-within ps c.args.id (procedure_of c.in-Some.pred.now) there, c.program.ensures.few)

pub add_rows-requires-clause-deep : goal.add_rows-requires-clause-deep
add_rows-requires-clause-deep c =
    let ps = procedures_of c.args.checked.now.preds.items in
    let there = subst (λ (p : Program). slice_get (procedures_of p.preds.items) c.args.id ≡ Some (procedure_of c.in-Some.pred.now)) c.program.ensures.program c.in-Some.ensures in
    omega (arith, body-within ps c.args.id (procedure_of c.in-Some.pred.now) there, c.program.ensures.few)

pub solved-requires : goal.solved-requires
solved-requires c =
    let ps = procedures_of c.args.checked.now.preds.items in
    let there = subst (λ (p : Program). slice_get (procedures_of p.preds.items) c.args.id ≡ Some (procedure_of c.in-Some.pred.now)) c.program.ensures.program c.in-Some.ensures in
    omega (arith, body-within ps c.args.id (procedure_of c.in-Some.pred.now) there, c.program.ensures.few)

pub returns-then-not-gives_turns-clause-found : goal.returns-then-not-gives_turns-clause-found
returns-then-not-gives_turns-clause-found c = (procedure_of c.in-Some.pred.now, subst (λ (p : Program). slice_get (procedures_of p.preds.items) c.args.id ≡ Some (procedure_of c.in-Some.pred.now)) c.program.ensures.program c.in-Some.ensures)

pub returns-then-not-gives_turns-clause-coverage : goal.returns-then-not-gives_turns-clause-coverage
returns-then-not-gives_turns-clause-coverage c = λ budget q same there counted.
    let s = hlds_of c.args.checked.now in
    let f = c.args.loaded.now.profile in
    let goals = c.add_rows.new.rows.items in
    let body : q.1.body ≡ goal_of c.in-Some.pred.now.body =
    one-procedure (procedures_of c.program.result.now.preds.items) (procedures_of c.args.checked.now.preds.items) c.args.id q.0 (procedure_of c.in-Some.pred.now) q.1
    (ap (λ (p : Program). procedures_of p.preds.items) c.program.ensures.program) same c.in-Some.ensures there in
    let rows = rows-are c.new-goals.result.items goals (goal_of c.in-Some.pred.now.body) q.1.body c.new-goals.ensures.items body c.in_ok-add_rows.ensures in
    let gives = sym (ap gives_turns c.profile.ensures.profile) ∙ (sym c.gives_turns.ensures.gives ∙ c.if-not-gives_turns.true) in
    coverage-of s budget f q c.args.id goals c.from_parts.result same c.from_parts.ensures (coverage-untold s budget f q goals gives rows)

pub returns-then-not-gives_turns-clause-plain : goal.returns-then-not-gives_turns-clause-plain
returns-then-not-gives_turns-clause-plain c = λ q same there none.
    let goals = c.add_rows.new.rows.items in
    let body : q.1.body ≡ goal_of c.in-Some.pred.now.body =
    one-procedure (procedures_of c.program.result.now.preds.items) (procedures_of c.args.checked.now.preds.items) c.args.id q.0 (procedure_of c.in-Some.pred.now) q.1
    (ap (λ (p : Program). procedures_of p.preds.items) c.program.ensures.program) same c.in-Some.ensures there in
    no-turns q c.args.id goals c.from_parts.result same c.from_parts.ensures
    (rows-are c.new-goals.result.items goals (goal_of c.in-Some.pred.now.body) q.1.body c.new-goals.ensures.items body c.in_ok-add_rows.ensures)

pub returns-clause-plain : goal.returns-clause-plain
returns-clause-plain c = λ q same there none.
    let gives = sym (ap gives_turns c.profile.ensures.profile) ∙ (sym c.gives_turns.ensures.gives ∙ c.if-not-gives_turns.false) in
    absurd (cc (gives, none))

pub returns-clause-found : goal.returns-clause-found
returns-clause-found c = (procedure_of c.in-Some.pred.now, subst (λ (p : Program). slice_get (procedures_of p.preds.items) c.args.id ≡ Some (procedure_of c.in-Some.pred.now)) c.program.ensures.program c.in-Some.ensures)

pub returns-clause-coverage : goal.returns-clause-coverage
returns-clause-coverage c = λ budget q same there counted.
    let s = hlds_of c.args.checked.now in
    let f = c.args.loaded.now.profile in
    let goals = c.tell.new.goals.items in
    let t = table_of c.in_ok-known.known in
    let body : q.1.body ≡ goal_of c.in-Some.pred.now.body =
    one-procedure (procedures_of c.program.result.now.preds.items) (procedures_of c.args.checked.now.preds.items) c.args.id q.0 (procedure_of c.in-Some.pred.now) q.1
    (ap (λ (p : Program). procedures_of p.preds.items) c.program.ensures.program) same c.in-Some.ensures there in
    let rows = rows-are c.new-goals.result.items c.add_rows.new.rows.items (goal_of c.in-Some.pred.now.body) q.1.body c.new-goals.ensures.items body c.in_ok-add_rows.ensures in
    let told : goals ≡ _ = c.tell.ensures ∙ ap (λ (gs : List GoalCount). map (with_turns t.entries) gs) rows in
    let gives = sym (ap gives_turns c.profile.ensures.profile) ∙ (sym c.gives_turns.ensures.gives ∙ c.if-not-gives_turns.false) in
    let few = subst (λ (g : ProfileRows). HaveFewExits g.links) c.profile.ensures.profile (c.gives_turns.ensures.few c.if-not-gives_turns.false) in
    let many : c.len.result ≡ goal_size q.1.body = c.len.ensures ∙ (c.add_rows.new.rows.ok.0 ∙ (ap (length {A = GoalCount}) rows ∙ rows-size 0 0 q.1.body)) in
    let v = c.profile.ensures.viewed.0 in
    let view = c.profile.ensures.viewed.1 in
    let solved = solved-for s (view_counts v) c.args.id c.len.result q (goal_of c.in-Some.pred.now.body) t same body many (c.in_ok-known.ensures v view) in
    let text = c.program.ensures.of_text in
    coverage-of s budget f q c.args.id goals c.from_parts-2.result same c.from_parts-2.ensures
    (coverage-told s budget f v q t goals (λ ended. turns_of_runs_solve text.text s budget text.spells c.program.ensures.moded c.program.ensures.accepted counted.small ended) view c.profile.ensures.valid few counted there gives solved told)

pub returns-then-not-gives_turns-clause-missing : goal.returns-then-not-gives_turns-clause-missing
returns-then-not-gives_turns-clause-missing c = grind (arith, common_steps)

pub returns-then-not-gives_turns-clause-no_such_procedure : goal.returns-then-not-gives_turns-clause-no_such_procedure
returns-then-not-gives_turns-clause-no_such_procedure c = grind (arith, common_steps)

pub returns-clause-missing : goal.returns-clause-missing
returns-clause-missing c = grind (arith, common_steps)

pub returns-clause-no_such_procedure : goal.returns-clause-no_such_procedure
returns-clause-no_such_procedure c = grind (arith, common_steps)

pub returns-in_default-clause-coverage : goal.returns-in_default-clause-coverage
returns-in_default-clause-coverage c = grind (arith, common_steps)

pub returns-in_default-clause-plain : goal.returns-in_default-clause-plain
returns-in_default-clause-plain c = grind (arith, common_steps)

pub returns-in_default-clause-found : goal.returns-in_default-clause-found
returns-in_default-clause-found c = grind (arith, common_steps)

pub returns-in_default-clause-missing : goal.returns-in_default-clause-missing
returns-in_default-clause-missing c = grind (arith, common_steps)
