use Rattle.std.proofs.Common.{◌≡◌, ◌∙◌, sym, ap, arith, subst, List, append-nil, length, get_or, ◌<◌, ◌≤◌}
use Rattle.md_hlds.specs.declared.program.Pred.{Pred}
use Rattle.md_hlds.specs.declared.program.Program.{Program}
use Rattle.md_hlds.specs.Hlds.{hlds_of, procedure_of, procedures_of}
use Rattle.md_modes.specs.Notes.{program_notes}
use Rattle.md_det.specs.Faults.{det_fault}
use Rattle.md_det.specs.Judge.{Judgement}
use Rattle.md_det.proofs.Whole.{others_start, others_next, others_refused, others_end, handed_on}
use Rattle.md_det.proofs.Counted.{clauses-step, length_predicate}
use Rattle.md_det.proofs.Noted.{judged_program}
use Rattle.md_det.proofs.check.judge_all.Goals as goal

pub loop-pred-init : goal.loop-pred-init
loop-pred-init c =
    let s = hlds_of c.args.moded.now in
    record {
      told = rw c.new-findings.ensures.items (others_start s (program_notes s) (procedures_of c.args.moded.now.preds.items));
      few = rw c.new-findings.ensures.items (omega (arith, c.program-program.ensures.few));
    }

pub returns-in_err-judge_predicate-clause-refused : goal.returns-in_err-judge_predicate-clause-refused
returns-in_err-judge_predicate-clause-refused c =
    let s = hlds_of c.args.moded.now in
    let items = c.as_slice-pred-items.ensures.value ∙ ap (λ (p : Program). p.preds.items) c.program-program.ensures.program in
    let i = c.loop-pred.pred-index in
    let lt : i < length c.args.moded.now.preds.items = subst (λ (ps : List Pred). i < length ps) items (omega arith) in
    let is : c.pred-item.result ≡ get_or c.args.moded.now.preds.items i c.pred-item.result
    = subst (λ (ps : List Pred). c.pred-item.result ≡ get_or ps i c.pred-item.result) items c.pred-item.is in
    let whole = sym (ap (λ (j : Judgement). j.fault) (judged_program s)) ∙ ap (λ (j : Judgement). j.fault) c.loop-pred.invariant.told in
    handed_on c.from_residual.result c.in_err-judge_predicate.field-0.0 (det_fault s) c.from_residual.ensures.1
    (λ known. whole ∙ others_refused s (program_notes s) c.args.moded.now.preds.items i c.pred-item.result c.loop-pred.findings.items _ lt is
    (c.in_err-judge_predicate.ensures.refused known))

pub loop-pred-preserved : goal.loop-pred-preserved
loop-pred-preserved c =
    let s = hlds_of c.args.moded.now in
    let items = c.as_slice-pred-items.ensures.value ∙ ap (λ (p : Program). p.preds.items) c.program-program.ensures.program in
    let i = c.loop-pred.pred-index in
    let lt : i < length c.args.moded.now.preds.items = subst (λ (ps : List Pred). i < length ps) items (omega arith) in
    let is : c.pred-item.result ≡ get_or c.args.moded.now.preds.items i c.pred-item.result
    = subst (λ (ps : List Pred). c.pred-item.result ≡ get_or ps i c.pred-item.result) items c.pred-item.is in
    record {
      told = c.loop-pred.invariant.told
          ∙ others_next s (program_notes s) c.args.moded.now.preds.items i c.pred-item.result c.loop-pred.findings.items c.judge_predicate.new.findings.items
          lt is c.in_ok-judge_predicate.ensures.sound c.in_ok-judge_predicate.ensures.found;
      few = omega (
        arith,
        c.loop-pred.invariant.few,
        clauses-step c.args.moded.now.preds.items i c.pred-item.result lt is,
        length_predicate s (program_notes s) (procedure_of c.pred-item.result) c.loop-pred.findings.items c.judge_predicate.new.findings.items c.in_ok-judge_predicate.ensures.found,
      );
    }

pub judge_predicate-requires : goal.judge_predicate-requires
judge_predicate-requires c =
    let items = c.as_slice-pred-items.ensures.value ∙ ap (λ (p : Program). p.preds.items) c.program-program.ensures.program in
    let i = c.loop-pred.pred-index in
    let lt : i < length c.args.moded.now.preds.items = subst (λ (ps : List Pred). i < length ps) items (omega arith) in
    let is : c.pred-item.result ≡ get_or c.args.moded.now.preds.items i c.pred-item.result
    = subst (λ (ps : List Pred). c.pred-item.result ≡ get_or ps i c.pred-item.result) items c.pred-item.is in
    omega (arith, c.loop-pred.invariant.few, clauses-step c.args.moded.now.preds.items i c.pred-item.result lt is)

pub returns-clause-accepted : goal.returns-clause-accepted
returns-clause-accepted c =
    let s = hlds_of c.args.moded.now in
    let items = c.as_slice-pred-items.ensures.value ∙ ap (λ (p : Program). p.preds.items) c.program-program.ensures.program in
    let i = c.loop-pred.pred-index in
    let le : length c.args.moded.now.preds.items ≤ i = subst (λ (ps : List Pred). length ps ≤ i) items (omega arith) in
    sym (ap (λ (j : Judgement). j.fault) (judged_program s))
    ∙ ap (λ (j : Judgement). j.fault) (c.loop-pred.invariant.told ∙ others_end s (program_notes s) c.args.moded.now.preds.items i c.loop-pred.findings.items le)

pub returns-clause-found : goal.returns-clause-found
returns-clause-found c =
    let s = hlds_of c.args.moded.now in
    let items = c.as_slice-pred-items.ensures.value ∙ ap (λ (p : Program). p.preds.items) c.program-program.ensures.program in
    let i = c.loop-pred.pred-index in
    let le : length c.args.moded.now.preds.items ≤ i = subst (λ (ps : List Pred). length ps ≤ i) items (omega arith) in
    sym (append-nil c.loop-pred.findings.items)
    ∙ (sym (ap (λ (j : Judgement). j.findings) (c.loop-pred.invariant.told ∙ others_end s (program_notes s) c.args.moded.now.preds.items i c.loop-pred.findings.items le))
    ∙ ap (λ (j : Judgement). j.findings) (judged_program s))
