-- What comes of two profiles that are compared.
use Rattle.std.proofs.Common.{◌≡◌, refl, sym, subst, inl, inr, ℕ, List, [], ◌∷◌, Option}
use Rattle.std.specs.Prelude.{Result, Ok, Err, IsErrAnd}
use Rattle.md_base.specs.declared.measure.Measure.{Measure}
use Rattle.md_base.specs.Files.{Files}
use Rattle.md_cost.specs.Loading.{LoadedRows}
use Rattle.md_tool.specs.declared.fault.Fault.{Fault}
use Rattle.md_tool.specs.declared.fault.Fault.TheVariants.{Usage, Read, TooLong, Refused, OutOfSteps, Thrown, Damaged, TooLarge, TwoEntries, DamagedLine, AnotherProgram, NoSuchPage, Write, NoMemory, Network}
use Rattle.md_tool.specs.declared.fault.Stopped.{Stopped}
use Rattle.md_tool.specs.Compared.{CompareEnds, CompareStops, IsComparison, IsComparisonOf}
use Rattle.md_tool.specs.Due.{IsWritten, IsWrittenInPart, TextEnds}
use Rattle.md_tool.specs.Stored.{IsLoadedFrom, ViewFails}
use Rattle.md_tool.specs.Summed.{StopsAt}
use Rattle.md_tool.proofs.SumLemmas.{view_rises}

-- ---- a file that is no profile

-- the old one isn't
pub old_stops : (held : Option Files) (old new : List ℕ) (some all : Type 0) (fault : Fault) → (some → all) → ViewFails held old some fault → StopsAt held (old ∷ new ∷ []) old all fault
old_stops held old new some all fault rises fails = record {
  before = [];
  after = new ∷ [];
  names_are = refl;
  files = [];
  loaded = tt;
  fails = view_rises held old some all fault rises fails;
}

-- the old one is, and the new one isn't
pub new_stops : (held : Option Files) (old new : List ℕ) (f : LoadedRows) (some all : Type 0) (fault : Fault) → IsLoadedFrom held old f → (some → all) → ViewFails held new some fault
    → StopsAt held (old ∷ new ∷ []) new all fault
new_stops held old new f some all fault loaded rises fails = record {
  before = old ∷ [];
  after = [];
  names_are = refl;
  files = f ∷ [];
  loaded = (loaded, tt);
  fails = view_rises held new some all fault rises fails;
}

-- so they weren't compared
pub compare_stops : (held : Option Files) (old new : List ℕ) (by : Measure) (least : ℕ) (at : List ℕ) (out : Option (List ℕ)) (reads outs : Type 0) (fault : Fault) → StopsAt held (old ∷ new ∷ []) at reads fault
    → CompareEnds held old new by least at out out reads outs (Err fault)
compare_stops held old new by least at out reads outs Read h = (h, refl)
compare_stops held old new by least at out reads outs (TooLarge most) h = (h, refl)
compare_stops held old new by least at out reads outs (Damaged place kind) h = (h, refl)
compare_stops held old new by least at out reads outs (TwoEntries clique a b) h = (h, refl)
compare_stops held old new by least at out reads outs NoMemory h = inl refl
compare_stops held old new by least at out reads outs Usage h = absurd h.fails
compare_stops held old new by least at out reads outs Network h = absurd h.fails
compare_stops held old new by least at out reads outs TooLong h = absurd h.fails
compare_stops held old new by least at out reads outs (Refused line w) h = absurd h.fails
compare_stops held old new by least at out reads outs OutOfSteps h = absurd h.fails
compare_stops held old new by least at out reads outs (Thrown bytes) h = absurd h.fails
compare_stops held old new by least at out reads outs (DamagedLine n) h = absurd h.fails
compare_stops held old new by least at out reads outs NoSuchPage h = absurd h.fails
compare_stops held old new by least at out reads outs AnotherProgram h = absurd h.fails
compare_stops held old new by least at out reads outs Write h = absurd h.fails

-- and that is answered of the file that is none
stopped_ends : (held : Option Files) (old new : List ℕ) (by : Measure) (least : ℕ) (at : List ℕ) (out : Option (List ℕ)) (reads outs : Type 0) (stopped : Stopped) (r : Result (Unit {0}) Stopped)
    → stopped.file.now ≡ at → StopsAt held (old ∷ new ∷ []) at reads stopped.fault → IsErrAnd r (λ e. e ≡ stopped) → CompareStops held old new by least out out reads outs r
stopped_ends held old new by least at out reads outs stopped (Ok done) named stops is = absurd is
stopped_ends held old new by least at out reads outs stopped (Err e) named stops is =
    subst (λ (s : Stopped). CompareEnds held old new by least s.file.now out out reads outs (Err s.fault)) (sym is)
    (subst (λ (name : List ℕ). CompareEnds held old new by least name out out reads outs (Err stopped.fault)) (sym named)
    (compare_stops held old new by least at out reads outs stopped.fault stops))

pub old_ends : (held : Option Files) (old new : List ℕ) (by : Measure) (least : ℕ) (out : Option (List ℕ)) (some all outs : Type 0) (stopped : Stopped) (r : Result (Unit {0}) Stopped)
    → (some → all) → (stopped.file.now ≡ old) × ViewFails held old some stopped.fault → IsErrAnd r (λ e. e ≡ stopped) → CompareStops held old new by least out out all outs r
old_ends held old new by least out some all outs stopped r rises fails is =
    stopped_ends held old new by least old out all outs stopped r fails.0 (old_stops held old new some all stopped.fault rises fails.1) is

pub new_ends : (held : Option Files) (old new : List ℕ) (by : Measure) (least : ℕ) (out : Option (List ℕ)) (f : LoadedRows) (some all outs : Type 0) (stopped : Stopped) (r : Result (Unit {0}) Stopped)
    → IsLoadedFrom held old f → (some → all) → (stopped.file.now ≡ new) × ViewFails held new some stopped.fault → IsErrAnd r (λ e. e ≡ stopped) → CompareStops held old new by least out out all outs r
new_ends held old new by least out f some all outs stopped r loaded rises fails is =
    stopped_ends held old new by least new out all outs stopped r fails.0 (new_stops held old new f some all stopped.fault loaded rises fails.1) is

-- ---- both are

module _ (held : Option Files) (old new : List ℕ) (by : Measure) (least : ℕ) (f g : LoadedRows) (is_old : IsLoadedFrom held old f) (is_new : IsLoadedFrom held new g) where
  comparison_of : (text : List ℕ) → IsComparison f.profile g.profile by least text → IsComparisonOf held old new by least text
  comparison_of text compared = record { old_profile = f.profile; is_old = is_old.spelled; new_profile = g.profile; is_new = is_new.spelled; compared = compared }

  pub all_compared : (out out' : Option (List ℕ)) → IsWritten (IsComparison f.profile g.profile by least) out out' → IsWritten (IsComparisonOf held old new by least) out out'
  all_compared out out' h = record { text = h.text; is_due = comparison_of h.text h.is_due; written = h.written }

  part_compared : (out out' : Option (List ℕ)) → IsWrittenInPart (IsComparison f.profile g.profile by least) out out' → IsWrittenInPart (IsComparisonOf held old new by least) out out'
  part_compared out out' h = record { text = h.text; is_due = comparison_of h.text h.is_due; written = h.written }

  -- the comparison was written as far as it was
  pub compare_fails : (at : List ℕ) (out out' : Option (List ℕ)) (reads outs : Type 0) (fault : Fault) → TextEnds (IsComparison f.profile g.profile by least) ⊥ out out' outs (Err fault)
      → CompareEnds held old new by least at out out' reads outs (Err fault)
  compare_fails at out out' reads outs Write h = (h.0, part_compared out out' h.1)
  compare_fails at out out' reads outs NoMemory (inl h) = inl h
  compare_fails at out out' reads outs NoMemory (inr h) = inr (part_compared out out' h)
  compare_fails at out out' reads outs NoSuchPage h = absurd h.0
  compare_fails at out out' reads outs Usage h = absurd h
  compare_fails at out out' reads outs Network h = absurd h
  compare_fails at out out' reads outs Read h = absurd h
  compare_fails at out out' reads outs TooLong h = absurd h
  compare_fails at out out' reads outs (Refused line w) h = absurd h
  compare_fails at out out' reads outs OutOfSteps h = absurd h
  compare_fails at out out' reads outs (Thrown bytes) h = absurd h
  compare_fails at out out' reads outs (Damaged place kind) h = absurd h
  compare_fails at out out' reads outs (TooLarge most) h = absurd h
  compare_fails at out out' reads outs (TwoEntries clique a b) h = absurd h
  compare_fails at out out' reads outs (DamagedLine n) h = absurd h
  compare_fails at out out' reads outs AnotherProgram h = absurd h
