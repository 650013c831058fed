-- From the faults of a program to those of its text.
use Rattle.std.proofs.Common.{◌≡◌, ◌≢◌, refl, ap, sym, subst, inl, inr, ℕ, List, None, Some}
use Rattle.std.specs.Prelude.{Result, Ok, Err, MatchResult}
use Rattle.md_hlds.specs.declared.program.Program.{Program}
use Rattle.md_hlds.specs.Hlds.{Hlds, hlds_of}
use Rattle.md_reader.specs.declared.refused.Refused.{Refused}
use Rattle.md_reader.specs.declared.refused.Refused.TheVariants as refused
use Rattle.md_reader.specs.Grammar.{Spells}
use Rattle.md_reader.specs.Reading.{reading, HasCause}
use Rattle.md_inst.specs.declared.fault.ModeFault.{ModeFault}
use Rattle.md_inst.specs.declared.fault.ModeFault.TheVariants as modes
use Rattle.md_modes.specs.Modes.{mode_fault}
use Rattle.md_det.specs.declared.fault.DetFault.{DetFault}
use Rattle.md_det.specs.declared.fault.DetFault.TheVariants as determinism
use Rattle.md_det.specs.Faults.{det_fault}
use Rattle.md_tool.specs.declared.fault.Fault.{Fault}
use Rattle.md_tool.specs.declared.fault.Fault.TheVariants.{Usage, Read, TooLong, OutOfSteps, Thrown, Damaged, TooLarge, TwoEntries, DamagedLine, AnotherProgram, NoSuchPage, Write, NoMemory, Network}
use Rattle.md_tool.specs.declared.fault.Fault.TheVariants.{Refused as RefusedAt}
use Rattle.md_tool.specs.Accepted.{Accepts, IsAccepted, HasModeFault, HasDetFault, HasFaultOfModes, HasFaultOfDeterminism, ProgramHas, TextFault, refusal_of, modes_refusal, determinism_refusal}

-- ---- a text that isn't read

pub text_refused : (text : List ℕ) (e : Refused) → HasCause e text → (e ≢ refused.NoMemory → reading text ≡ Err e) → TextFault text (refusal_of e)
text_refused text (refused.Syntax line) cause answer = inl (record { refusal = refused.Syntax line; cause = cause; is_refused = answer (λ same. cc); told = refl })
text_refused text (refused.Limit line) cause answer = inl (record { refusal = refused.Limit line; cause = cause; is_refused = answer (λ same. cc); told = refl })
text_refused text (refused.Duplicate line) cause answer = inl (record { refusal = refused.Duplicate line; cause = cause; is_refused = answer (λ same. cc); told = refl })
text_refused text refused.NoMemory cause answer = tt

-- ---- a program with a fault

pub has_mode_fault : (program : Hlds) (e : ModeFault) → (e ≢ modes.NoMemory → mode_fault program ≡ Some e) → ProgramHas program (modes_refusal e)
has_mode_fault program (modes.UnknownName line) answer = inr (inl (record { found = modes.UnknownName line; is_found = answer (λ same. cc); told = refl }))
has_mode_fault program (modes.Arity line) answer = inr (inl (record { found = modes.Arity line; is_found = answer (λ same. cc); told = refl }))
has_mode_fault program (modes.TypeClash line) answer = inr (inl (record { found = modes.TypeClash line; is_found = answer (λ same. cc); told = refl }))
has_mode_fault program (modes.Unbound line) answer = inr (inl (record { found = modes.Unbound line; is_found = answer (λ same. cc); told = refl }))
has_mode_fault program (modes.BoundTwice line) answer = inr (inl (record { found = modes.BoundTwice line; is_found = answer (λ same. cc); told = refl }))
has_mode_fault program (modes.BranchBinds line) answer = inr (inl (record { found = modes.BranchBinds line; is_found = answer (λ same. cc); told = refl }))
has_mode_fault program (modes.IoUsed line) answer = inr (inl (record { found = modes.IoUsed line; is_found = answer (λ same. cc); told = refl }))
has_mode_fault program (modes.ClosureTest line) answer = inr (inl (record { found = modes.ClosureTest line; is_found = answer (λ same. cc); told = refl }))
has_mode_fault program (modes.NoMain line) answer = inr (inl (record { found = modes.NoMain line; is_found = answer (λ same. cc); told = refl }))
has_mode_fault program modes.NoMemory answer = inl refl

pub has_det_fault : (program : Hlds) (e : DetFault) → mode_fault program ≡ None → (e ≢ determinism.NoMemory → det_fault program ≡ Some e) → ProgramHas program (determinism_refusal e)
has_det_fault program (determinism.Declared line declared inferred) fine answer =
    inr (inr (record { modes = fine; found = determinism.Declared line declared inferred; is_found = answer (λ same. cc); told = refl }))
has_det_fault program (determinism.ManyInCondition line) fine answer =
    inr (inr (record { modes = fine; found = determinism.ManyInCondition line; is_found = answer (λ same. cc); told = refl }))
has_det_fault program (determinism.IoInBacktracking line) fine answer =
    inr (inr (record { modes = fine; found = determinism.IoInBacktracking line; is_found = answer (λ same. cc); told = refl }))
has_det_fault program determinism.NoMemory fine answer = inl refl

-- ---- a text that is read

modes_of_text : (text : List ℕ) (program : Hlds) (fault : Fault) → Spells text program → reading text ≡ Ok program → HasFaultOfModes program fault → HasModeFault text fault
modes_of_text text program fault spelled is_read h = record { program = program; spelled = spelled; is_read = is_read; found = h.found; is_found = h.is_found; told = h.told }

det_of_text : (text : List ℕ) (program : Hlds) (fault : Fault) → Spells text program → reading text ≡ Ok program → HasFaultOfDeterminism program fault → HasDetFault text fault
det_of_text text program fault spelled is_read h =
    record { program = program; spelled = spelled; is_read = is_read; modes = h.modes; found = h.found; is_found = h.is_found; told = h.told }

-- the faults that a text may have
abbrev IsOfText : Fault → Type 0
IsOfText (RefusedAt line w) = Unit {0}
IsOfText NoMemory = Unit {0}
IsOfText fault = ⊥

mode_refusals : (e : ModeFault) → IsOfText (modes_refusal e)
mode_refusals (modes.UnknownName line) = tt
mode_refusals (modes.Arity line) = tt
mode_refusals (modes.TypeClash line) = tt
mode_refusals (modes.Unbound line) = tt
mode_refusals (modes.BoundTwice line) = tt
mode_refusals (modes.BranchBinds line) = tt
mode_refusals (modes.IoUsed line) = tt
mode_refusals (modes.ClosureTest line) = tt
mode_refusals (modes.NoMain line) = tt
mode_refusals modes.NoMemory = tt

det_refusals : (e : DetFault) → IsOfText (determinism_refusal e)
det_refusals (determinism.Declared line declared inferred) = tt
det_refusals (determinism.ManyInCondition line) = tt
det_refusals (determinism.IoInBacktracking line) = tt
det_refusals determinism.NoMemory = tt

of_text : (program : Hlds) (fault : Fault) → ProgramHas program fault → IsOfText fault
of_text program fault (inl is) = subst IsOfText (sym is) tt
of_text program fault (inr (inl h)) = subst IsOfText (sym h.told) (mode_refusals h.found)
of_text program fault (inr (inr h)) = subst IsOfText (sym h.told) (det_refusals h.found)

-- a text has the fault that the program has which it spells
pub text_fault : (text : List ℕ) (program : Hlds) (fault : Fault) → Spells text program → reading text ≡ Ok program → ProgramHas program fault → TextFault text fault
text_fault text program (RefusedAt line w) spelled is_read (inl is) = absurd (cc)
text_fault text program (RefusedAt line w) spelled is_read (inr (inl h)) = inr (inl (modes_of_text text program (RefusedAt line w) spelled is_read h))
text_fault text program (RefusedAt line w) spelled is_read (inr (inr h)) = inr (inr (det_of_text text program (RefusedAt line w) spelled is_read h))
text_fault text program NoMemory spelled is_read has = tt
text_fault text program Usage spelled is_read has = of_text program Usage has
text_fault text program Network spelled is_read has = of_text program Network has
text_fault text program (Damaged at kind) spelled is_read has = of_text program (Damaged at kind) has
text_fault text program (TooLarge most) spelled is_read has = of_text program (TooLarge most) has
text_fault text program (TwoEntries clique x y) spelled is_read has = of_text program (TwoEntries clique x y) has
text_fault text program (DamagedLine n) spelled is_read has = of_text program (DamagedLine n) has
text_fault text program AnotherProgram spelled is_read has = of_text program AnotherProgram has
text_fault text program NoSuchPage spelled is_read has = of_text program NoSuchPage has
text_fault text program Read spelled is_read has = of_text program Read has
text_fault text program TooLong spelled is_read has = of_text program TooLong has
text_fault text program OutOfSteps spelled is_read has = of_text program OutOfSteps has
text_fault text program (Thrown bytes) spelled is_read has = of_text program (Thrown bytes) has
text_fault text program Write spelled is_read has = of_text program Write has

-- a text is accepted as the program that it spells, where that has no fault
pub text_accepted : (text : List ℕ) (program checked : Program) → Spells text (hlds_of program) → reading text ≡ Ok (hlds_of program) → IsAccepted program checked
    → Accepts text (hlds_of checked)
text_accepted text program checked spelled is_read h = record {
  accepted = record { program = hlds_of program; spelled = spelled; is_read = is_read; modes = h.modes; determinism = h.determinism };
  is_program = ap hlds_of (sym h.is_program);
}

-- what a text comes to, by what its program comes to
pub text_checked : (text : List ℕ) (program : Program) (r : Result Program Fault) → Spells text (hlds_of program) → reading text ≡ Ok (hlds_of program)
    → MatchResult r (IsAccepted program) (ProgramHas (hlds_of program)) → MatchResult r (λ checked. Accepts text (hlds_of checked)) (TextFault text)
text_checked text program (Ok checked) spelled is_read h = text_accepted text program checked spelled is_read h
text_checked text program (Err fault) spelled is_read h = text_fault text (hlds_of program) fault spelled is_read h
