-- A program's predicates one after the other, and its `main`.
use Rattle.std.proofs.Common.{◌≡◌, refl, sym, ap, ◌∙◌, arith, add-one, ℕ, zero, suc, ◌+◌, ◌<◌, ◌≤◌, Bool, true, false, cond, ◌||◌, List, [], ◌∷◌, ◌++◌, length, length-append, drop, drop-cons, get_or, Option, Some, None, append_assoc, Result, Ok, Err, subst, ◌≢◌}
use Rattle.std.specs.Result.{IsErrAnd, IfErr}
use Rattle.md_hlds.specs.declared.program.Pred.{Pred}
use Rattle.md_hlds.specs.Hlds.{Hlds, Procedure, procedure_of, procedures_of}
use Rattle.md_inst.specs.declared.fault.ModeFault.{ModeFault}
use Rattle.md_inst.specs.Verdict.{Verdict, ◌>>◌, fault_unless}
use Rattle.md_modes.specs.Declarations as declarations
use Rattle.md_modes.specs.Modes.{is_main, has_main, clauses, fault_of, mode_fault}
use Rattle.md_modes.specs.Notes.{Note}
use Rattle.md_det.specs.declared.fault.DetFault.{DetFault}
use Rattle.md_det.specs.declared.fault.DetFault.TheVariants.{NoMemory}
use Rattle.md_det.specs.declared.finding.Finding.{Finding}
use Rattle.md_det.specs.Determinism.{sure}
use Rattle.md_det.specs.Judge.{Judgement, judgement, or_else, and_others, judge_procedure, judge_procedures}
use Rattle.md_det.specs.Main.{main_of, main_from}

pub procedures-step : (ps : List Pred) (i : ℕ) (p : Pred) → i < length ps → p ≡ get_or ps i p
    → procedures_of (drop i ps) ≡ procedure_of p ∷ procedures_of (drop (i + 1) ps)
procedures-step ps i p lt is = rw add-one (ap procedures_of (drop-cons ps i p lt ∙ ap (λ (q : Pred). q ∷ drop (suc i) ps) (sym is)))

-- nothing has been judged yet
pub others_start : (s : Hlds) (ns : List Note) (qs : List Procedure)
    → judge_procedures s ns 0 qs ≡ and_others (judgement sure None []) (judge_procedures s ns 0 qs)
others_start s ns [] = refl
others_start s ns (q ∷ qs) = refl

others_assoc : (olds : List Finding) (j k : Judgement) → j.fault ≡ None
    → and_others (judgement sure None olds) (and_others j k) ≡ and_others (judgement sure None (olds ++ j.findings)) k
others_assoc olds j k sound = rw (sound, append_assoc olds j.findings k.findings) refl

-- a predicate without a fault, and then the others
pub others_next : (s : Hlds) (ns : List Note) (ps : List Pred) (i : ℕ) (p : Pred) (olds news : List Finding) → i < length ps → p ≡ get_or ps i p
    → (judge_procedure s ns (length olds) (procedure_of p)).fault ≡ None
    → news ≡ olds ++ (judge_procedure s ns (length olds) (procedure_of p)).findings
    → and_others (judgement sure None olds) (judge_procedures s ns (length olds) (procedures_of (drop i ps)))
    ≡ and_others (judgement sure None news) (judge_procedures s ns (length news) (procedures_of (drop (i + 1) ps)))
others_next s ns ps i p olds news lt is sound finds =
    let j = judge_procedure s ns (length olds) (procedure_of p) in
    let rest = procedures_of (drop (i + 1) ps) in
    let count : length olds + length j.findings ≡ length news = sym (ap length finds ∙ length-append olds j.findings) in
    ap (λ qs. and_others (judgement sure None olds) (judge_procedures s ns (length olds) qs)) (procedures-step ps i p lt is)
    ∙ (others_assoc olds j (judge_procedures s ns (length olds + length j.findings) rest) sound
    ∙ (ap (λ n. and_others (judgement sure None (olds ++ j.findings)) (judge_procedures s ns n rest)) count
    ∙ ap (λ fs. and_others (judgement sure None fs) (judge_procedures s ns (length news) rest)) (sym finds)))

-- the first predicate with a fault
pub others_refused : (s : Hlds) (ns : List Note) (ps : List Pred) (i : ℕ) (p : Pred) (olds : List Finding) (f : DetFault) → i < length ps → p ≡ get_or ps i p
    → (judge_procedure s ns (length olds) (procedure_of p)).fault ≡ Some f
    → (and_others (judgement sure None olds) (judge_procedures s ns (length olds) (procedures_of (drop i ps)))).fault ≡ Some f
others_refused s ns ps i p olds f lt is fault =
    let j = judge_procedure s ns (length olds) (procedure_of p) in
    ap (λ qs. (and_others (judgement sure None olds) (judge_procedures s ns (length olds) qs)).fault) (procedures-step ps i p lt is)
    ∙ ap (λ o. or_else o (judge_procedures s ns (length olds + length j.findings) (procedures_of (drop (i + 1) ps))).fault) fault

-- all predicates have been judged
pub others_end : (s : Hlds) (ns : List Note) (ps : List Pred) (i : ℕ) (olds : List Finding) → length ps ≤ i
    → and_others (judgement sure None olds) (judge_procedures s ns (length olds) (procedures_of (drop i ps))) ≡ judgement sure None (olds ++ [])
others_end s ns [] i olds le = none i
  where
    none : (i : ℕ) → and_others (judgement sure None olds) (judge_procedures s ns (length olds) (procedures_of (drop i []))) ≡ judgement sure None (olds ++ [])
    none zero = refl
    none (suc i) = refl
others_end s ns (p ∷ ps) zero olds le = absurd (omega (arith, le))
others_end s ns (p ∷ ps) (suc i) olds le = others_end s ns ps i olds (omega (arith, le))

-- ---- main

later : (v w : Verdict (Unit {0})) → fault_of (v >> w) ≡ None → fault_of w ≡ None
later (Ok u) w h = h
later (Err e) w h = absurd (cc)

no_fault : (b : Bool) (e : ModeFault) → fault_of (fault_unless b e) ≡ None → b ≡ true
no_fault true e h = refl
no_fault false e h = absurd (cc)

has_main_accepted : (s : Hlds) → mode_fault s ≡ None → has_main s.procedures ≡ true
unfolding mode_fault
has_main_accepted s h =
    no_fault (has_main s.procedures) _
    (later (declarations.families s.types s.types >> declarations.procedures s.types s.procedures >> clauses s s.procedures) _ h)

some_main : (n : ℕ) (ps : List Procedure) → main_from n ps ≡ None → has_main ps ≡ false
some_main n [] e = refl
some_main n (p ∷ ps) e = here (is_main p) (some_main (suc n) ps) e
  where
    here : (b : Bool) → (main_from (suc n) ps ≡ None → has_main ps ≡ false) → cond b (Some n) (main_from (suc n) ps) ≡ None → (b || has_main ps) ≡ false
    here true rest h = absurd (cc)
    here false rest h = rest h

past_all : (n i : ℕ) (ps : List Pred) → length ps ≤ i → main_from n (procedures_of (drop i ps)) ≡ None
past_all n i [] le = none i
  where
    none : (i : ℕ) → main_from n (procedures_of (drop i [])) ≡ None
    none zero = refl
    none (suc i) = refl
past_all n zero (p ∷ ps) le = absurd (omega (arith, le))
past_all n (suc i) (p ∷ ps) le = past_all n i ps (omega (arith, le))

-- an accepted program has a main, so the search for it doesn't end without one
pub main_missed : (s : Hlds) (ps : List Pred) (n i : ℕ) → mode_fault s ≡ None → main_of s ≡ main_from n (procedures_of (drop i ps)) → length ps ≤ i → ⊥
main_missed s ps n i accepted e le =
    let none : has_main s.procedures ≡ false = some_main 0 s.procedures (e ∙ past_all n i ps le) in
    let some = has_main_accepted s accepted in
    cc

-- ---- a fault that is handed on

pub handed_on : {A : Type 0} (r : Result A DetFault) (e : DetFault) (d : Option DetFault) → IsErrAnd r (λ f. f ≡ e)
    → (e ≢ NoMemory → d ≡ Some e) → IfErr r (λ f. f ≢ NoMemory → d ≡ Some f)
handed_on (Ok x) e d is h = tt
handed_on (Err f) e d is h = subst (λ (g : DetFault). g ≢ NoMemory → d ≡ Some g) (sym is) h
