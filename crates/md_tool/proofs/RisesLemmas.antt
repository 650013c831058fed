-- Where counts of faults rise, by what is told.
use Rattle.std.proofs.Common.{◌≡◌, ◌∙◌, ◌⊎◌, ℕ, List, Option, sym, subst, inl, inr}
use Rattle.std.specs.Prelude.{Result, Ok, Err}
use Rattle.md_base.specs.Outside.{one_more}
use Rattle.md_tool.specs.declared.fault.Fault.{Fault}
use Rattle.md_tool.specs.declared.fault.Fault.TheVariants.{Usage, Read, TooLong, Refused, OutOfSteps, Thrown, Damaged, TooLarge, TwoEntries, DamagedLine, AnotherProgram, NoSuchPage, Network, Write, NoMemory}
use Rattle.md_tool.specs.declared.fault.Stopped.{Stopped}
use Rattle.md_tool.specs.Fault.{status_of}
use Rattle.md_tool.specs.Rises.{RisesBy, IsToldBy}
use Rattle.md_tool.specs.Told.{EndIsTold, Tells}

-- a command's end was told
pub told_by : (fault : Fault) (r : Result (Unit {0}) Fault) (file : List ℕ) (b n : Option (List ℕ)) (errs : Type 0) (status before now : ℕ)
    → RisesBy fault before now r → EndIsTold r file b n errs status → IsToldBy (status_of fault) status before now
told_by fault (Ok done) file b n errs status before now rises told = inl rises
told_by fault (Err other) file b n errs status before now (inl same) told = inl same
told_by fault (Err other) file b n errs status before now (inr rose) told = inr (rose.0, subst (λ (f : Fault). (status ≡ status_of f) ⊎ (status ≡ 8)) rose.1 told.told)

-- that of a command over several files
pub stopped_by : (fault : Fault) (stopped : Stopped) (file : List ℕ) (b n : Option (List ℕ)) (errs : Type 0) (status before now : ℕ)
    → (now ≡ before) ⊎ ((now ≡ one_more before) × (stopped.fault ≡ fault)) → Tells stopped.fault file b n errs status → IsToldBy (status_of fault) status before now
stopped_by fault stopped file b n errs status before now (inl same) told = inl same
stopped_by fault stopped file b n errs status before now (inr rose) told = inr (rose.0, subst (λ (f : Fault). (status ≡ status_of f) ⊎ (status ≡ 8)) rose.1 told.told)

-- ---- a command that is done

-- no fault has the status 0
pub told_by_a_status : (fault : Fault) → status_of fault ≡ 0 → ⊥
told_by_a_status Usage is = cc is
told_by_a_status Read is = cc is
told_by_a_status TooLong is = cc is
told_by_a_status (Refused line why) is = cc is
told_by_a_status OutOfSteps is = cc is
told_by_a_status (Thrown bytes) is = cc is
told_by_a_status (Damaged at kind) is = cc is
told_by_a_status (TooLarge most) is = cc is
told_by_a_status (TwoEntries clique a b) is = cc is
told_by_a_status (DamagedLine line) is = cc is
told_by_a_status AnotherProgram is = cc is
told_by_a_status NoSuchPage is = cc is
told_by_a_status Network is = cc is
told_by_a_status Write is = cc is
told_by_a_status NoMemory is = cc is

-- so where the status is 0 nothing was told
none_told : (fault : Fault) (status : ℕ) → (status ≡ status_of fault) ⊎ (status ≡ 8) → status ≡ 0 → ⊥
none_told fault status (inl is) done = told_by_a_status fault (sym is ∙ done)
none_told fault status (inr is) done = let eight : 8 ≡ 0 = sym is ∙ done in cc

-- and a stream to which nothing else was written than a command's end has the count that it had
pub done_by : (fault : Fault) (r : Result (Unit {0}) Fault) (file : List ℕ) (b n : Option (List ℕ)) (errs : Type 0) (status before middle now : ℕ)
    → RisesBy fault before middle r → EndIsTold r file b n errs status → (status ≡ 0 → now ≡ middle) → status ≡ 0 → now ≡ before
done_by fault (Ok done) file b n errs status before middle now rises told quiet is = quiet is ∙ rises
done_by fault (Err other) file b n errs status before middle now rises told quiet is = absurd (none_told other status told.told is)

pub never_done : (fault : Fault) (file : List ℕ) (b n : Option (List ℕ)) (errs : Type 0) (status : ℕ) → Tells fault file b n errs status → status ≡ 0 → ⊥
never_done fault file b n errs status told is = none_told fault status told.told is
