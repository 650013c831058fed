-- From a run and what is kept of it to a run of its file.
use Rattle.std.proofs.Common.{◌≡◌, ◌∙◌, refl, ap, sym, subst, inl, inr, ℕ, List, Option, length, take_all, arith}
use Rattle.std.specs.Prelude.{Result, Ok, Err}
use Rattle.md_base.specs.Outside.{added}
use Rattle.md_base.specs.Files.{Files, HoldsPart, holding}
use Rattle.md_deepfile.specs.Bytes.{file_bytes}
use Rattle.md_hlds.specs.Hlds.{Hlds}
use Rattle.md_hlds.specs.Run.{run, output}
use Rattle.md_machine.specs.Ran.{IsRunOf}
use Rattle.md_machine.specs.declared.ran.Ran.{Ran}
use Rattle.md_profiled.specs.OfRun.{IsProfiled}
use Rattle.md_profiled.specs.declared.profiled.Profiled.{Profiled}
use Rattle.md_tool.specs.declared.fault.Fault.{Fault}
use Rattle.md_tool.specs.declared.fault.Fault.TheVariants.{Usage, Read, TooLong, Refused, OutOfSteps, Thrown, Damaged, TooLarge, TwoEntries, DamagedLine, AnotherProgram, NoSuchPage, Write, NoMemory, Network}
use Rattle.md_tool.specs.Accepted.{Accepted}
use Rattle.md_tool.specs.Due.{IsText, WriteEnds, StoreEnds}
use Rattle.md_tool.specs.Ends.{TellsEnd, end_of, ran_end}
use Rattle.md_tool.specs.Kept.{IsRunFile, IsKept, IsKeptInPart, KeepEnds, RunEnds}
use Rattle.md_tool.proofs.RunLemmas.{end_is}

-- all of a file is a part of it
pub all_held : (name bytes : List ℕ) (held held' : Option Files) → held' ≡ holding name bytes held → HoldsPart name bytes held held'
all_held name bytes held held' is = record {
  count = length bytes;
  within = omega arith;
  is_held = inr (is ∙ ap (λ (b : List ℕ). holding name b held) (sym (take_all (length bytes) bytes (omega arith))));
}

-- ---- of the run of a program

-- output and file were written, and the end was told
pub all_kept : (IsDue : List ℕ → Type 0) (program : Hlds) (steps : ℕ) (name bytes : List ℕ) (ran : Ran) (held held' : Option Files) (out out' : Option (List ℕ)) (writes outs : Type 0) (r : Result (Unit {0}) Fault) → IsRunOf program steps ran → IsDue bytes
    → out' ≡ added ran.output.items out → held' ≡ holding name bytes held → TellsEnd (ran_end ran) r → KeepEnds IsDue program steps name held held' out out' writes outs r
all_kept IsDue program steps name bytes ran held held' out out' writes outs r is_run due written stored told = by r told
  where
    all : IsKept IsDue program steps name held held' out out'
    all = record {
      output_is = written ∙ ap (λ (bytes : List ℕ). added bytes out) is_run.output;
      bytes = bytes;
      is_due = due;
      stored = stored;
    }

    same : end_of (run program steps) ≡ ran_end ran
    same = sym (end_is program steps ran is_run)

    by : (r : Result (Unit {0}) Fault) → TellsEnd (ran_end ran) r → KeepEnds IsDue program steps name held held' out out' writes outs r
    by (Ok done) told = (all, same ∙ told)
    by (Err Usage) told = absurd told
    by (Err Network) told = absurd told
    by (Err Read) told = absurd told
    by (Err TooLong) told = absurd told
    by (Err (Refused line w)) told = absurd told
    by (Err (Damaged at kind)) told = absurd told
    by (Err (TooLarge most)) told = absurd told
    by (Err (TwoEntries clique x y)) told = absurd told
    by (Err (DamagedLine n)) told = absurd told
    by (Err AnotherProgram) told = absurd told
    by (Err NoSuchPage) told = absurd told
    by (Err OutOfSteps) told = (all, same ∙ told)
    by (Err (Thrown bytes)) told = (all, same ∙ told)
    by (Err Write) told = absurd told
    by (Err NoMemory) told = absurd told

-- the output was written, and the file wasn't, or a front of it
pub part_kept : (IsDue : List ℕ → Type 0) (program : Hlds) (steps : ℕ) (name bytes : List ℕ) (ran : Ran) (held held' : Option Files) (out out' : Option (List ℕ)) (writes outs : Type 0) (fault : Fault) → IsRunOf program steps ran → IsDue bytes
    → out' ≡ added ran.output.items out → StoreEnds name bytes held held' writes (Err fault) → KeepEnds IsDue program steps name held held' out out' writes outs (Err fault)
part_kept IsDue program steps name bytes ran held held' out out' writes outs fault is_run due written ends = by fault ends
  where
    part : HoldsPart name bytes held held' → IsKeptInPart IsDue program steps name held held' out out'
    part h = record {
      output_is = written ∙ ap (λ (bytes : List ℕ). added bytes out) is_run.output;
      bytes = bytes;
      is_due = due;
      stored = h;
    }

    by : (fault : Fault) → StoreEnds name bytes held held' writes (Err fault) → KeepEnds IsDue program steps name held held' out out' writes outs (Err fault)
    by Usage h = absurd h
    by Network h = absurd h
    by Read h = absurd h
    by TooLong h = absurd h
    by (Refused line w) h = absurd h
    by OutOfSteps h = absurd h
    by (Thrown bytes) h = absurd h
    by (Damaged at kind) h = absurd h
    by (TooLarge most) h = absurd h
    by (TwoEntries clique x y) h = absurd h
    by (DamagedLine n) h = absurd h
    by AnotherProgram h = absurd h
    by NoSuchPage h = absurd h
    by Write h = inr (h.0, part h.1)
    by NoMemory h = inr (part h)

-- the output wasn't written whole
pub none_kept : (IsDue : List ℕ → Type 0) (program : Hlds) (steps : ℕ) (name : List ℕ) (ran : Ran) (held : Option Files) (out out' : Option (List ℕ)) (writes outs : Type 0) (fault : Fault) → IsRunOf program steps ran
    → WriteEnds ran.output.items out out' outs (Err fault) → KeepEnds IsDue program steps name held held out out' writes outs (Err fault)
none_kept IsDue program steps name ran held out out' writes outs fault is_run ends = by fault (subst (λ (bytes : List ℕ). WriteEnds bytes out out' outs (Err fault)) is_run.output ends)
  where
    by : (fault : Fault) → WriteEnds (output (run program steps)) out out' outs (Err fault) → KeepEnds IsDue program steps name held held out out' writes outs (Err fault)
    by Usage h = absurd h
    by Network h = absurd h
    by Read h = absurd h
    by TooLong h = absurd h
    by (Refused line w) h = absurd h
    by OutOfSteps h = absurd h
    by (Thrown bytes) h = absurd h
    by (Damaged at kind) h = absurd h
    by (TooLarge most) h = absurd h
    by (TwoEntries clique x y) h = absurd h
    by (DamagedLine n) h = absurd h
    by AnotherProgram h = absurd h
    by NoSuchPage h = absurd h
    by Write h = inl (h.0, record { output_is = h.1; kept = refl })
    by NoMemory h = inl (record { output_is = h; kept = refl })

-- ---- of a run and its profile

-- the profile of a run is due
is_run_file : (program : Hlds) (steps : ℕ) (profiled : Profiled) → IsProfiled program steps profiled → IsRunFile steps program (file_bytes profiled.profile)
is_run_file program steps profiled p = record { profile = profiled.profile; is_profile = p.is_profile; valid = p.valid; is = refl }

pub kept : (program : Hlds) (steps : ℕ) (name : List ℕ) (profiled : Profiled) (held held' : Option Files) (out out' : Option (List ℕ)) (writes outs : Type 0) (r : Result (Unit {0}) Fault) → IsProfiled program steps profiled
    → out' ≡ added profiled.ran.output.items out → held' ≡ holding name (file_bytes profiled.profile) held → TellsEnd (ran_end profiled.ran) r → KeepEnds (IsRunFile steps program) program steps name held held' out out' writes outs r
kept program steps name profiled held held' out out' writes outs r p written stored told =
    all_kept (IsRunFile steps program) program steps name (file_bytes profiled.profile) profiled.ran held held' out out' writes outs r p.is_run (is_run_file program steps profiled p) written stored told

pub unkept : (program : Hlds) (steps : ℕ) (name : List ℕ) (profiled : Profiled) (held held' : Option Files) (out out' : Option (List ℕ)) (writes outs : Type 0) (fault : Fault) → IsProfiled program steps profiled
    → out' ≡ added profiled.ran.output.items out → StoreEnds name (file_bytes profiled.profile) held held' writes (Err fault) → KeepEnds (IsRunFile steps program) program steps name held held' out out' writes outs (Err fault)
unkept program steps name profiled held held' out out' writes outs fault p written ends =
    part_kept (IsRunFile steps program) program steps name (file_bytes profiled.profile) profiled.ran held held' out out' writes outs fault p.is_run (is_run_file program steps profiled p) written ends

pub unwritten : (program : Hlds) (steps : ℕ) (name : List ℕ) (profiled : Profiled) (held : Option Files) (out out' : Option (List ℕ)) (writes outs : Type 0) (fault : Fault) → IsProfiled program steps profiled
    → WriteEnds profiled.ran.output.items out out' outs (Err fault) → KeepEnds (IsRunFile steps program) program steps name held held out out' writes outs (Err fault)
unwritten program steps name profiled held out out' writes outs fault p ends = none_kept (IsRunFile steps program) program steps name profiled.ran held out out' writes outs fault p.is_run ends

-- ---- of a file

pub ran_accepted : (IsDue : Hlds → List ℕ → Type 0) (held held' : Option Files) (file text : List ℕ) (steps : ℕ) (name : List ℕ) (out out' : Option (List ℕ)) (reads writes outs : Type 0) (r : Result (Unit {0}) Fault)
    → IsText held file text → (a : Accepted text) → KeepEnds (IsDue a.program) a.program steps name held held' out out' writes outs r
    → RunEnds IsDue held held' file steps name out out' reads writes outs r
ran_accepted IsDue held held' file text steps name out out' reads writes outs (Ok done) is_text a h = record { text = text; is_text = is_text; accepted = a; kept = h.0; ended = h.1 }
ran_accepted IsDue held held' file text steps name out out' reads writes outs (Err OutOfSteps) is_text a h = record { text = text; is_text = is_text; accepted = a; kept = h.0; ended = h.1 }
ran_accepted IsDue held held' file text steps name out out' reads writes outs (Err (Thrown bytes)) is_text a h = record { text = text; is_text = is_text; accepted = a; kept = h.0; ended = h.1 }
ran_accepted IsDue held held' file text steps name out out' reads writes outs (Err Usage) is_text a h = absurd h
ran_accepted IsDue held held' file text steps name out out' reads writes outs (Err Network) is_text a h = absurd h
ran_accepted IsDue held held' file text steps name out out' reads writes outs (Err Read) is_text a h = absurd h
ran_accepted IsDue held held' file text steps name out out' reads writes outs (Err TooLong) is_text a h = absurd h
ran_accepted IsDue held held' file text steps name out out' reads writes outs (Err (Refused line w)) is_text a h = absurd h
ran_accepted IsDue held held' file text steps name out out' reads writes outs (Err (Damaged at kind)) is_text a h = absurd h
ran_accepted IsDue held held' file text steps name out out' reads writes outs (Err (TooLarge most)) is_text a h = absurd h
ran_accepted IsDue held held' file text steps name out out' reads writes outs (Err (TwoEntries clique x y)) is_text a h = absurd h
ran_accepted IsDue held held' file text steps name out out' reads writes outs (Err (DamagedLine n)) is_text a h = absurd h
ran_accepted IsDue held held' file text steps name out out' reads writes outs (Err AnotherProgram) is_text a h = absurd h
ran_accepted IsDue held held' file text steps name out out' reads writes outs (Err NoSuchPage) is_text a h = absurd h
ran_accepted IsDue held held' file text steps name out out' reads writes outs (Err Write) is_text a (inl h) = inl (h.0, record { text = text; is_text = is_text; accepted = a; written = h.1 })
ran_accepted IsDue held held' file text steps name out out' reads writes outs (Err Write) is_text a (inr h) = inr (h.0, record { text = text; is_text = is_text; accepted = a; kept = h.1 })
ran_accepted IsDue held held' file text steps name out out' reads writes outs (Err NoMemory) is_text a (inl h) = inr (inl (record { text = text; is_text = is_text; accepted = a; written = h }))
ran_accepted IsDue held held' file text steps name out out' reads writes outs (Err NoMemory) is_text a (inr h) = inr (inr (record { text = text; is_text = is_text; accepted = a; kept = h }))
