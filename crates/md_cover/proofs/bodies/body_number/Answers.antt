use Rattle.std.proofs.Common.{◌≡◌, ◌∙◌, ◌<◌, ◌+◌, ap, sym, length, min, arith}
use Rattle.md_hlds.specs.declared.program.Program.{Program}
use Rattle.md_hlds.specs.Hlds.{hlds_of, goals_before}
use Rattle.md_hlds.proofs.ProcedureLemmas.{length-procedures_of}
use Rattle.md_modes.specs.Classes.{size_at}
use Rattle.md_cover.proofs.BodyNumbers.{none-before, next-body, at-most-all}
use Rattle.md_cover.proofs.bodies.body_number.Goals as goal

pub loop-clause-init : goal.loop-clause-init
loop-clause-init c = (sym (none-before (hlds_of c.args.moded.now).procedures), omega arith)

pub loop-clause-preserved : goal.loop-clause-preserved
loop-clause-preserved c =
    let s = hlds_of c.args.moded.now in
    let inv = c.loop-clause.invariant in
    let preds : length c.program.result.now.preds.items ≡ length c.args.moded.now.preds.items = ap (λ (q : Program). length q.preds.items) c.program.ensures.program in
    let many : c.len.result ≡ length s.procedures = omega (arith, c.len.ensures, c.program.result.now.preds.ok.0, preds, length-procedures_of c.args.moded.now.preds.items) in
    let lt : c.loop-clause._clause < length s.procedures = omega (arith, c.loop-clause-test.true, c.min-before.ensures, many) in
    (c.after-number.ensures.after ∙ (ap (λ n. n + size_at s n) inv.0 ∙ sym (next-body s c.loop-clause._clause lt)), c.after-number.ensures.small)

pub returns : goal.returns
returns c =
    let s = hlds_of c.args.moded.now in
    let preds : length c.program.result.now.preds.items ≡ length c.args.moded.now.preds.items = ap (λ (q : Program). length q.preds.items) c.program.ensures.program in
    let many : c.len.result ≡ length s.procedures = omega (arith, c.len.ensures, c.program.result.now.preds.ok.0, preds, length-procedures_of c.args.moded.now.preds.items) in
    let at : c.loop-clause._clause ≡ min (length s.procedures) c.args.id
    = omega (arith, c.loop-clause-test.false, c.loop-clause.auto._clause-end, c.min-before.ensures, many, c.number.ensures) in
    c.loop-clause.invariant.0 ∙ (ap (goals_before s.procedures) at ∙ at-most-all s.procedures c.args.id)
