-- The clauses of a program, one after the other.
use Rattle.std.proofs.Common.{◌≡◌, refl, sym, ap, ◌∙◌, arith, add-one, append-nil, append_assoc, ℕ, zero, suc, ◌+◌, ◌<◌, List, [], ◌∷◌, ◌++◌, length, drop, get_or, Ok, Err}
use Rattle.md_hlds.specs.declared.program.Pred.{Pred}
use Rattle.md_hlds.specs.Hlds.{Hlds, procedure_of, procedures_of}
use Rattle.md_inst.specs.declared.fault.ModeFault.{ModeFault}
use Rattle.md_modes.specs.Modes.{clause, clauses}
use Rattle.md_modes.specs.Notes.{Note, clause_notes, notes_from}

-- one clause more that is right, or at fault
clauses-next : (h : Hlds) (ps : List Pred) (i : ℕ) (p : Pred) → i < length ps → p ≡ get_or ps i p → clause h (procedure_of p) ≡ Ok tt
    → clauses h (procedures_of (drop i ps)) ≡ clauses h (procedures_of (drop (suc i) ps))
clauses-next h [] i p lt is right = absurd (omega (arith, lt))
clauses-next h (q ∷ ps) zero p lt is right = rw (← is, right) refl
clauses-next h (q ∷ ps) (suc i) p lt is right = clauses-next h ps i p (omega (arith, lt)) is right

pub clauses-more : (h : Hlds) (ps : List Pred) (i : ℕ) (p : Pred) → i < length ps → p ≡ get_or ps i p → clause h (procedure_of p) ≡ Ok tt
    → clauses h (procedures_of (drop i ps)) ≡ clauses h (procedures_of (drop (i + 1) ps))
clauses-more h ps i p lt is right = rw add-one (clauses-next h ps i p lt is right)

pub clauses-fault : (h : Hlds) (ps : List Pred) (i : ℕ) (p : Pred) (e : ModeFault) → i < length ps → p ≡ get_or ps i p → clause h (procedure_of p) ≡ Err e
    → clauses h (procedures_of (drop i ps)) ≡ Err e
clauses-fault h [] i p e lt is wrong = absurd (omega (arith, lt))
clauses-fault h (q ∷ ps) zero p e lt is wrong = rw (← is, wrong) refl
clauses-fault h (q ∷ ps) (suc i) p e lt is wrong = clauses-fault h ps i p e (omega (arith, lt)) is wrong

none_left : (ps : List Pred) (i : ℕ) → length ps ≡ i → drop i ps ≡ []
none_left [] zero e = refl
none_left [] (suc i) e = refl
none_left (p ∷ ps) zero e = absurd (omega (arith, e))
none_left (p ∷ ps) (suc i) e = none_left ps i (omega (arith, e))

pub clauses-end : (h : Hlds) (ps : List Pred) (i : ℕ) → length ps ≡ i → clauses h (procedures_of (drop i ps)) ≡ Ok tt
clauses-end h ps i e = rw (none_left ps i e) refl

-- ---- their notes

notes-next : (h : Hlds) (ps : List Pred) (i : ℕ) (p : Pred) → i < length ps → p ≡ get_or ps i p
    → notes_from h (procedures_of (drop i ps)) ≡ clause_notes h (procedure_of p) ++ notes_from h (procedures_of (drop (suc i) ps))
notes-next h [] i p lt is = absurd (omega (arith, lt))
notes-next h (q ∷ ps) zero p lt is = rw is refl
notes-next h (q ∷ ps) (suc i) p lt is = notes-next h ps i p (omega (arith, lt)) is

pub notes-more : (h : Hlds) (ps : List Pred) (i : ℕ) (p : Pred) (old new whole : List Note) → i < length ps → p ≡ get_or ps i p
    → new ≡ old ++ clause_notes h (procedure_of p) → old ++ notes_from h (procedures_of (drop i ps)) ≡ whole
    → new ++ notes_from h (procedures_of (drop (i + 1) ps)) ≡ whole
notes-more h ps i p old new whole lt is is_new so_far =
    rw (is_new, add-one)
    (append_assoc old (clause_notes h (procedure_of p)) (notes_from h (procedures_of (drop (suc i) ps)))
    ∙ (ap (λ ns. old ++ ns) (sym (notes-next h ps i p lt is)) ∙ so_far))

pub notes-end : (h : Hlds) (ps : List Pred) (i : ℕ) (now whole : List Note) → length ps ≡ i → now ++ notes_from h (procedures_of (drop i ps)) ≡ whole → now ≡ whole
notes-end h ps i now whole e so_far = sym (append-nil now) ∙ rw (← ap (λ qs. notes_from h (procedures_of qs)) (none_left ps i e)) so_far
