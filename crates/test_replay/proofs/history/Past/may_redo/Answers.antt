use Rattle.std.proofs.Common.{sym, ◌∙◌}
use Rattle.std.proofs.lemmas.Bool.{false≢true}
use Rattle.test_replay.proofs.Handing.{returned}
use Rattle.test_replay.proofs.PastSteps.{row-tells, no-row}
use Rattle.test_replay.proofs.history.Past.may_redo.Goals as goal

pub returns-then-row : goal.returns-then-row
returns-then-row c = λ t h is past.
    let r = row-tells c.args.self.now.rows.items c.args.self.now.current h c.args.act c.in-Some.row past (sym c.row.ensures ∙ c.in-Some.is) in (
      λ yes. (r.exited ∙ c.if-row.true, (let caller = c.runs.ensures.0 yes in (caller.0, r.parent ∙ caller.1, sym past.now_is ∙ caller.2))),
      λ may. c.runs.ensures.1 (may.1.0, sym r.parent ∙ may.1.1, past.now_is ∙ may.1.2),
    )

pub returns-else-row : goal.returns-else-row
returns-else-row c = λ t h is past.
    let r = row-tells c.args.self.now.rows.items c.args.self.now.current h c.args.act c.in-Some.row past (sym c.row.ensures ∙ c.in-Some.is) in
    (λ yes. absurd (false≢true (sym c.if-row.false ∙ yes)), λ may. sym r.exited ∙ may.0)

pub returns-in-None : goal.returns-in-None
returns-in-None c = λ t h is past.
    (λ yes. absurd (false≢true yes), λ may. absurd (no-row c.args.self.now.rows.items c.args.self.now.current h c.args.act past (sym c.row.ensures ∙ c.in-None.is) (returned t h c.args.act is may.0)))
