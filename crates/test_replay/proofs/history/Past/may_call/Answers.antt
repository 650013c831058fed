use Rattle.std.proofs.Common.{Some, None, sym, ◌∙◌, false}
use Rattle.std.proofs.lemmas.Bool.{false≢true}
use Rattle.md_static.specs.Tables.{site_table}
use Rattle.test_replay.proofs.PastSteps.{at-both, begins, calls-at, caller-called, row-tells, no-row}
use Rattle.test_replay.proofs.history.Past.may_call.Goals as goal

pub returns-in-None-None : goal.returns-in-None-None
returns-in-None-None c = λ h is past.
    let t = site_table c.args.statics.now c.args.main in
    at-both t h c.args.parent c.args.site None None c.args.callee c.may_begin.result c.in-None-None.is-0 c.in-None-None.is-1
    (begins t c.args.self.now.rows.items c.args.self.now.current h c.args.callee c.may_begin.result is past c.may_begin.ensures)

pub returns-in-Some : goal.returns-in-Some
returns-in-Some c = λ h is past.
    let t = site_table c.args.statics.now c.args.main in
    let r = row-tells c.args.self.now.rows.items c.args.self.now.current h c.in-Some-Some.act c.in-Some.row past (sym c.row.ensures ∙ c.in-Some.is) in
    at-both t h c.args.parent c.args.site (Some c.in-Some-Some.act) (Some c.in-Some-Some.site) c.args.callee c.may_call_at.result c.in-Some-Some.is-0 c.in-Some-Some.is-1
    (calls-at c.args.statics.now c.args.main h c.in-Some-Some.act c.in-Some-Some.site c.args.callee c.in-Some.row.procedure c.may_call_at.result r.procedure c.may_call_at.ensures)

pub returns-in-None : goal.returns-in-None
returns-in-None c = λ h is past.
    let t = site_table c.args.statics.now c.args.main in
    at-both t h c.args.parent c.args.site (Some c.in-Some-Some.act) (Some c.in-Some-Some.site) c.args.callee false c.in-Some-Some.is-0 c.in-Some-Some.is-1
    (λ yes. absurd (false≢true yes), λ may. absurd (no-row c.args.self.now.rows.items c.args.self.now.current h c.in-Some-Some.act past (sym c.row.ensures ∙ c.in-None.is) (caller-called t h c.in-Some-Some.act c.in-Some-Some.site c.args.callee may)))
