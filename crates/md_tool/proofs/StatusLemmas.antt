-- What a status says, from what a whole call came to.
use Rattle.std.proofs.Common.{◌≡◌, sym, subst, inl, inr, ◌⊎◌, ℕ, List, Bool, true, Option, None, Some}
use Rattle.std.specs.Prelude.{Result, Ok, Err}
use Rattle.md_base.specs.Outside.{PartAdded}
use Rattle.md_base.specs.Files.{Files}
use Rattle.md_hlds.specs.Hlds.{Hlds}
use Rattle.md_commands.specs.Form.{Form, Check, Run, Report, Page, Serve, Gen, Migrate, Feedback, Dump, Undump, Cover, Sum, Compare}
use Rattle.md_tool.specs.declared.fault.Fault.{Fault}
use Rattle.md_tool.specs.declared.fault.Fault.TheVariants.{Usage, Read, TooLong, Refused, OutOfSteps, Thrown, Damaged, TooLarge, TwoEntries, DamagedLine, AnotherProgram, NoSuchPage, Write, NoMemory, Network}
use Rattle.md_tool.specs.Ends.{RunEnd, Finished, Threw, RanOut}
use Rattle.md_tool.specs.Due.{CheckEnds}
use Rattle.md_tool.specs.Candidates.{IsFeedbackOfRun}
use Rattle.md_tool.specs.Compared.{SomeCompareEnds}
use Rattle.md_tool.specs.Kept.{HasRun, HasKeptInPart, IsRunFile, RunEnds}
use Rattle.md_tool.specs.Reported.{HasReported, HasPageInPart, ReportEnds, IsPageOfRun, HasNoPageOfRun}
use Rattle.md_tool.specs.Served.{NetSide, ServeEnds}
use Rattle.md_tool.specs.Stored.{StoredEnds, MigrateEnds}
use Rattle.md_tool.specs.Summed.{SomeSumEnds}
use Rattle.md_tool.specs.Texts.{DumpEnds, UndumpEnds}
use Rattle.md_tool.specs.Turns.{IsCoverageOfRun, HasNoProcedure}
use Rattle.md_tool.specs.Generated.{GenEnds}
use Rattle.md_tool.specs.Fault.{status_of, fault_line}
use Rattle.md_tool.specs.Told.{CommandEnds, EndIsTold, TopEnds, named, file_of}
use Rattle.md_tool.specs.Meaning.{LongerText, AtLine, HasFrontOfPage, MeansUsage, MeansRun, MeansCheck, MeansReport, MeansEnd, Means, keeps_store}
use Rattle.md_tool.proofs.KeepLemmas.{all_held}
use Rattle.md_tool.proofs.StreamLemmas.{all_added}

-- ---- a run of a file

-- all of it is a part of it
whole_kept : (IsDue : Hlds → List ℕ → Type 0) (held held' : Option Files) (file : List ℕ) (steps : ℕ) (name : List ℕ) (out out' : Option (List ℕ)) (end : RunEnd) → HasRun IsDue held held' file steps name out out' end
    → HasKeptInPart IsDue held held' file steps name out out'
whole_kept IsDue held held' file steps name out out' end h = record {
  text = h.text;
  is_text = h.is_text;
  accepted = h.accepted;
  kept = record {
    output_is = h.kept.output_is;
    bytes = h.kept.bytes;
    is_due = h.kept.is_due;
    stored = all_held name h.kept.bytes held held' h.kept.stored;
  };
}

-- its end was told
run_told : (IsDue : Hlds → List ℕ → Type 0) (held held' : Option Files) (file : List ℕ) (steps : ℕ) (name : List ℕ) (out out' : Option (List ℕ)) (reads writes outs : Type 0) (fault : Fault) → RunEnds IsDue held held' file steps name out out' reads writes outs (Err fault) → MeansRun IsDue held held' file steps name out out' reads writes outs (status_of fault)
run_told IsDue held held' file steps name out out' reads writes outs Usage h = absurd h
run_told IsDue held held' file steps name out out' reads writes outs Network h = absurd h
run_told IsDue held held' file steps name out out' reads writes outs Read h = h
run_told IsDue held held' file steps name out out' reads writes outs TooLong h = (LongerText h.0 h.1.out_is, h.1.held_is)
run_told IsDue held held' file steps name out out' reads writes outs (Refused line w) h = (AtLine line w h.0, h.1)
run_told IsDue held held' file steps name out out' reads writes outs OutOfSteps h = h
run_told IsDue held held' file steps name out out' reads writes outs (Thrown bytes) h = (bytes.items, h)
run_told IsDue held held' file steps name out out' reads writes outs (Damaged at kind) h = absurd h
run_told IsDue held held' file steps name out out' reads writes outs (TooLarge most) h = absurd h
run_told IsDue held held' file steps name out out' reads writes outs (TwoEntries clique x y) h = absurd h
run_told IsDue held held' file steps name out out' reads writes outs (DamagedLine n) h = absurd h
run_told IsDue held held' file steps name out out' reads writes outs AnotherProgram h = absurd h
run_told IsDue held held' file steps name out out' reads writes outs NoSuchPage h = absurd h
run_told IsDue held held' file steps name out out' reads writes outs Write h = h
run_told IsDue held held' file steps name out out' reads writes outs NoMemory h = h

-- its end could not be told for want of memory
run_untold : (IsDue : Hlds → List ℕ → Type 0) (held held' : Option Files) (file : List ℕ) (steps : ℕ) (name : List ℕ) (out out' : Option (List ℕ)) (reads writes outs : Type 0) (fault : Fault) → RunEnds IsDue held held' file steps name out out' reads writes outs (Err fault) → MeansRun IsDue held held' file steps name out out' reads writes outs 8
run_untold IsDue held held' file steps name out out' reads writes outs Usage h = absurd h
run_untold IsDue held held' file steps name out out' reads writes outs Network h = absurd h
run_untold IsDue held held' file steps name out out' reads writes outs Read h = inl h.1
run_untold IsDue held held' file steps name out out' reads writes outs TooLong h = inl h.1
run_untold IsDue held held' file steps name out out' reads writes outs (Refused line w) h = inl (record { held_is = h.1; out_is = h.0.untouched })
run_untold IsDue held held' file steps name out out' reads writes outs OutOfSteps h = inr (inr (whole_kept IsDue held held' file steps name out out' RanOut h))
run_untold IsDue held held' file steps name out out' reads writes outs (Thrown bytes) h = inr (inr (whole_kept IsDue held held' file steps name out out' (Threw bytes.items) h))
run_untold IsDue held held' file steps name out out' reads writes outs (Damaged at kind) h = absurd h
run_untold IsDue held held' file steps name out out' reads writes outs (TooLarge most) h = absurd h
run_untold IsDue held held' file steps name out out' reads writes outs (TwoEntries clique x y) h = absurd h
run_untold IsDue held held' file steps name out out' reads writes outs (DamagedLine n) h = absurd h
run_untold IsDue held held' file steps name out out' reads writes outs AnotherProgram h = absurd h
run_untold IsDue held held' file steps name out out' reads writes outs NoSuchPage h = absurd h
run_untold IsDue held held' file steps name out out' reads writes outs Write (inl h) = inr (inl h.1)
run_untold IsDue held held' file steps name out out' reads writes outs Write (inr h) = inr (inr h.1)
run_untold IsDue held held' file steps name out out' reads writes outs NoMemory h = h

run_fault : (IsDue : Hlds → List ℕ → Type 0) (held held' : Option Files) (file : List ℕ) (steps : ℕ) (name : List ℕ) (out out' : Option (List ℕ)) (reads writes outs : Type 0) (fault : Fault) (status : ℕ) → RunEnds IsDue held held' file steps name out out' reads writes outs (Err fault)
    → (status ≡ status_of fault) ⊎ (status ≡ 8) → MeansRun IsDue held held' file steps name out out' reads writes outs status
run_fault IsDue held held' file steps name out out' reads writes outs fault status h (inl same) = subst (MeansRun IsDue held held' file steps name out out' reads writes outs) (sym same) (run_told IsDue held held' file steps name out out' reads writes outs fault h)
run_fault IsDue held held' file steps name out out' reads writes outs fault status h (inr same) = subst (MeansRun IsDue held held' file steps name out out' reads writes outs) (sym same) (run_untold IsDue held held' file steps name out out' reads writes outs fault h)

-- ---- a check of a file

-- its end was told
check_told : (held : Option Files) (file : List ℕ) (print : Bool) (before now : Option (List ℕ)) (reads writes : Type 0) (fault : Fault)
    → CheckEnds held file print before now reads writes (Err fault) → MeansCheck held file print before now reads writes (status_of fault)
check_told held file print before now reads writes Usage h = absurd h
check_told held file print before now reads writes Network h = absurd h
check_told held file print before now reads writes (Damaged at kind) h = absurd h
check_told held file print before now reads writes (TooLarge most) h = absurd h
check_told held file print before now reads writes (TwoEntries clique x y) h = absurd h
check_told held file print before now reads writes (DamagedLine n) h = absurd h
check_told held file print before now reads writes AnotherProgram h = absurd h
check_told held file print before now reads writes NoSuchPage h = absurd h
check_told held file print before now reads writes Read h = h
check_told held file print before now reads writes TooLong h = LongerText h.0 h.1
check_told held file print before now reads writes (Refused line w) h = AtLine line w h
check_told held file print before now reads writes OutOfSteps h = absurd h
check_told held file print before now reads writes (Thrown bytes) h = absurd h
check_told held file print before now reads writes Write h = h
check_told held file print before now reads writes NoMemory h = h

-- its end could not be told for want of memory
check_untold : (held : Option Files) (file : List ℕ) (print : Bool) (before now : Option (List ℕ)) (reads writes : Type 0) (fault : Fault)
    → CheckEnds held file print before now reads writes (Err fault) → MeansCheck held file print before now reads writes 8
check_untold held file print before now reads writes Usage h = absurd h
check_untold held file print before now reads writes Network h = absurd h
check_untold held file print before now reads writes (Damaged at kind) h = absurd h
check_untold held file print before now reads writes (TooLarge most) h = absurd h
check_untold held file print before now reads writes (TwoEntries clique x y) h = absurd h
check_untold held file print before now reads writes (DamagedLine n) h = absurd h
check_untold held file print before now reads writes AnotherProgram h = absurd h
check_untold held file print before now reads writes NoSuchPage h = absurd h
check_untold held file print before now reads writes Read h = inl h.1
check_untold held file print before now reads writes TooLong h = inl h.1
check_untold held file print before now reads writes (Refused line w) h = inl h.untouched
check_untold held file print before now reads writes OutOfSteps h = absurd h
check_untold held file print before now reads writes (Thrown bytes) h = absurd h
check_untold held file print before now reads writes Write h = inr h.1
check_untold held file print before now reads writes NoMemory h = h

check_fault : (held : Option Files) (file : List ℕ) (print : Bool) (before now : Option (List ℕ)) (reads writes : Type 0) (fault : Fault) (status : ℕ)
    → CheckEnds held file print before now reads writes (Err fault) → (status ≡ status_of fault) ⊎ (status ≡ 8) → MeansCheck held file print before now reads writes status
check_fault held file print before now reads writes fault status h (inl same) =
    subst (MeansCheck held file print before now reads writes) (sym same) (check_told held file print before now reads writes fault h)
check_fault held file print before now reads writes fault status h (inr same) =
    subst (MeansCheck held file print before now reads writes) (sym same) (check_untold held file print before now reads writes fault h)

-- ---- a report on a file

-- the text, as far as it was written
all_of_page : (IsDue : Hlds → List ℕ → Type 0) (held : Option Files) (file : List ℕ) (steps : ℕ) (out out' err err' : Option (List ℕ)) (end : RunEnd) → HasReported IsDue held file steps out out' err err' end
    → HasFrontOfPage IsDue held file out out'
all_of_page IsDue held file steps out out' err err' end h = record {
  text = h.text;
  is_text = h.is_text;
  accepted = h.accepted;
  shown = record {
    text = h.reported.shown.text;
    is_due = h.reported.shown.is_due;
    written = all_added h.reported.shown.text out out' h.reported.shown.written;
  };
}

part_of_page : (IsDue : Hlds → List ℕ → Type 0) (held : Option Files) (file : List ℕ) (steps : ℕ) (out out' err err' : Option (List ℕ)) → HasPageInPart IsDue held file steps out out' err err'
    → HasFrontOfPage IsDue held file out out'
part_of_page IsDue held file steps out out' err err' h = record { text = h.text; is_text = h.is_text; accepted = h.accepted; shown = h.written.shown }

-- its end was told, by this line or a front of it
report_told : (IsDue : Hlds → List ℕ → Type 0) (HasNone : Hlds → Type 0) (held : Option Files) (file : List ℕ) (steps : ℕ) (out out' err between err' : Option (List ℕ)) (reads outs errs : Type 0) (fault : Fault)
    → ReportEnds IsDue HasNone held file steps out out' err between reads outs errs (Err fault) → PartAdded (fault_line fault file) between err' → MeansReport IsDue HasNone held file steps out out' err err' reads outs errs (status_of fault)
report_told IsDue HasNone held file steps out out' err between err' reads outs errs Usage h line = absurd h
report_told IsDue HasNone held file steps out out' err between err' reads outs errs Network h line = absurd h
report_told IsDue HasNone held file steps out out' err between err' reads outs errs Read h line = (h.0, h.1.out_is)
report_told IsDue HasNone held file steps out out' err between err' reads outs errs TooLong h line = LongerText h.0 h.1.out_is
report_told IsDue HasNone held file steps out out' err between err' reads outs errs (Refused line w) h at_line = AtLine line w h.0
report_told IsDue HasNone held file steps out out' err between err' reads outs errs OutOfSteps h line = record { between = between; reported = h; line_is = line }
report_told IsDue HasNone held file steps out out' err between err' reads outs errs (Thrown bytes) h line = (bytes.items, record { between = between; reported = h; line_is = line })
report_told IsDue HasNone held file steps out out' err between err' reads outs errs (Damaged at kind) h line = absurd h
report_told IsDue HasNone held file steps out out' err between err' reads outs errs (TooLarge most) h line = absurd h
report_told IsDue HasNone held file steps out out' err between err' reads outs errs (TwoEntries clique x y) h line = absurd h
report_told IsDue HasNone held file steps out out' err between err' reads outs errs (DamagedLine n) h line = absurd h
report_told IsDue HasNone held file steps out out' err between err' reads outs errs AnotherProgram h line = absurd h
report_told IsDue HasNone held file steps out out' err between err' reads outs errs NoSuchPage h line = record { between = between; pageless = h; line_is = line }
report_told IsDue HasNone held file steps out out' err between err' reads outs errs Write (inl h) line = inl (h.0, record { text = h.1.text; is_text = h.1.is_text; accepted = h.1.accepted }, h.1.written.no_page)
report_told IsDue HasNone held file steps out out' err between err' reads outs errs Write (inr h) line = inr (h.0, part_of_page IsDue held file steps out out' err between h.1)
report_told IsDue HasNone held file steps out out' err between err' reads outs errs NoMemory (inl h) line = inl h.out_is
report_told IsDue HasNone held file steps out out' err between err' reads outs errs NoMemory (inr (inl h)) line = inl h.written.no_page
report_told IsDue HasNone held file steps out out' err between err' reads outs errs NoMemory (inr (inr h)) line = inr (part_of_page IsDue held file steps out out' err between h)

-- its end could not be told for want of memory
report_untold : (IsDue : Hlds → List ℕ → Type 0) (HasNone : Hlds → Type 0) (held : Option Files) (file : List ℕ) (steps : ℕ) (out out' err between err' : Option (List ℕ)) (reads outs errs : Type 0) (fault : Fault) → ReportEnds IsDue HasNone held file steps out out' err between reads outs errs (Err fault) → MeansReport IsDue HasNone held file steps out out' err err' reads outs errs 8
report_untold IsDue HasNone held file steps out out' err between err' reads outs errs Usage h = absurd h
report_untold IsDue HasNone held file steps out out' err between err' reads outs errs Network h = absurd h
report_untold IsDue HasNone held file steps out out' err between err' reads outs errs Read h = inl h.1.out_is
report_untold IsDue HasNone held file steps out out' err between err' reads outs errs TooLong h = inl h.1.out_is
report_untold IsDue HasNone held file steps out out' err between err' reads outs errs (Refused line w) h = inl h.0.untouched
report_untold IsDue HasNone held file steps out out' err between err' reads outs errs OutOfSteps h = inr (all_of_page IsDue held file steps out out' err between RanOut h)
report_untold IsDue HasNone held file steps out out' err between err' reads outs errs (Thrown bytes) h = inr (all_of_page IsDue held file steps out out' err between (Threw bytes.items) h)
report_untold IsDue HasNone held file steps out out' err between err' reads outs errs (Damaged at kind) h = absurd h
report_untold IsDue HasNone held file steps out out' err between err' reads outs errs (TooLarge most) h = absurd h
report_untold IsDue HasNone held file steps out out' err between err' reads outs errs (TwoEntries clique x y) h = absurd h
report_untold IsDue HasNone held file steps out out' err between err' reads outs errs (DamagedLine n) h = absurd h
report_untold IsDue HasNone held file steps out out' err between err' reads outs errs AnotherProgram h = absurd h
report_untold IsDue HasNone held file steps out out' err between err' reads outs errs NoSuchPage h = inl h.pageless.untouched
report_untold IsDue HasNone held file steps out out' err between err' reads outs errs Write (inl h) = inl h.1.written.no_page
report_untold IsDue HasNone held file steps out out' err between err' reads outs errs Write (inr h) = inr (part_of_page IsDue held file steps out out' err between h.1)
report_untold IsDue HasNone held file steps out out' err between err' reads outs errs NoMemory (inl h) = inl h.out_is
report_untold IsDue HasNone held file steps out out' err between err' reads outs errs NoMemory (inr (inl h)) = inl h.written.no_page
report_untold IsDue HasNone held file steps out out' err between err' reads outs errs NoMemory (inr (inr h)) = inr (part_of_page IsDue held file steps out out' err between h)

report_fault : (IsDue : Hlds → List ℕ → Type 0) (HasNone : Hlds → Type 0) (held : Option Files) (file : List ℕ) (steps : ℕ) (out out' err between err' : Option (List ℕ)) (reads outs errs : Type 0) (fault : Fault) (status : ℕ)
    → ReportEnds IsDue HasNone held file steps out out' err between reads outs errs (Err fault) → PartAdded (fault_line fault file) between err' → (status ≡ status_of fault) ⊎ (status ≡ 8) → MeansReport IsDue HasNone held file steps out out' err err' reads outs errs status
report_fault IsDue HasNone held file steps out out' err between err' reads outs errs fault status h line (inl same) =
    subst (MeansReport IsDue HasNone held file steps out out' err err' reads outs errs) (sym same) (report_told IsDue HasNone held file steps out out' err between err' reads outs errs fault h line)
report_fault IsDue HasNone held file steps out out' err between err' reads outs errs fault status h line (inr same) =
    subst (MeansReport IsDue HasNone held file steps out out' err err' reads outs errs) (sym same) (report_untold IsDue HasNone held file steps out out' err between err' reads outs errs fault h)

-- it is done, and nothing was told
report_done : (IsDue : Hlds → List ℕ → Type 0) (HasNone : Hlds → Type 0) (held : Option Files) (file : List ℕ) (steps : ℕ) (out out' err between err' : Option (List ℕ)) (reads outs errs : Type 0) (status : ℕ)
    → HasReported IsDue held file steps out out' err between Finished → (status ≡ 0) × (err' ≡ between) → MeansReport IsDue HasNone held file steps out out' err err' reads outs errs status
report_done IsDue HasNone held file steps out out' err between err' reads outs errs status h told =
    subst (MeansReport IsDue HasNone held file steps out out' err err' reads outs errs) (sym told.0)
    (subst (λ (e : Option (List ℕ)). HasReported IsDue held file steps out out' err e Finished) (sym told.1) h)

-- ---- any other command

ended : (Ends : Result (Unit {0}) Fault → Type 0) (r : Result (Unit {0}) Fault) (file : List ℕ) (between err' : Option (List ℕ)) (errs : Type 0) (status : ℕ)
    → Ends r → EndIsTold r file between err' errs status → MeansEnd Ends status
ended Ends (Ok done) file between err' errs status h told = inl (told.0, h)
ended Ends (Err fault) file between err' errs status h told = inr (fault, told.told, h)

-- ---- words that are no command

-- the fault of words that are no command
abbrev IsUsage : Fault → Type 0
IsUsage Usage = Unit {0}
IsUsage NoMemory = Unit {0}
IsUsage fault = ⊥

abbrev IsUsageEnd : Result (Unit {0}) Fault → Type 0
IsUsageEnd (Ok done) = ⊥
IsUsageEnd (Err fault) = IsUsage fault

usage_end : (r : Result (Unit {0}) Fault) → (r ≡ Err Usage) ⊎ (r ≡ Err NoMemory) → IsUsageEnd r
usage_end r (inl is) = subst IsUsageEnd (sym is) tt
usage_end r (inr is) = subst IsUsageEnd (sym is) tt

usage_fault : (before now : Option (List ℕ)) (status : ℕ) (fault : Fault) → now ≡ before → IsUsage fault
    → (status ≡ status_of fault) ⊎ (status ≡ 8) → MeansUsage before now status
usage_fault before now status fault same why (inr is) = subst (MeansUsage before now) (sym is) same
usage_fault before now status Usage same why (inl is) = subst (MeansUsage before now) (sym is) same
usage_fault before now status NoMemory same why (inl is) = subst (MeansUsage before now) (sym is) same
usage_fault before now status Read same why (inl is) = absurd why
usage_fault before now status Network same why (inl is) = absurd why
usage_fault before now status (Damaged at kind) same why (inl is) = absurd why
usage_fault before now status (TooLarge most) same why (inl is) = absurd why
usage_fault before now status (TwoEntries clique x y) same why (inl is) = absurd why
usage_fault before now status (DamagedLine n) same why (inl is) = absurd why
usage_fault before now status AnotherProgram same why (inl is) = absurd why
usage_fault before now status NoSuchPage same why (inl is) = absurd why
usage_fault before now status TooLong same why (inl is) = absurd why
usage_fault before now status (Refused line w) same why (inl is) = absurd why
usage_fault before now status OutOfSteps same why (inl is) = absurd why
usage_fault before now status (Thrown bytes) same why (inl is) = absurd why
usage_fault before now status Write same why (inl is) = absurd why

-- ---- a whole call

end_means : (form : Option Form) (at : List ℕ) (held held' : Option Files) (net net' : NetSide) (out out' err between err' : Option (List ℕ)) (reads writes outs errs nets : Type 0) (status : ℕ) (end : Result (Unit {0}) Fault)
    → CommandEnds form at held held' net net' out out' err between reads writes outs errs nets end → EndIsTold end (named form at) between err' errs status → Means form held held' net net' out out' err err' reads writes outs errs nets status
end_means None at held held' net net' out out' err between err' reads writes outs errs nets status (Ok done) command told = absurd (usage_end (Ok done) command.0)
end_means None at held held' net net' out out' err between err' reads writes outs errs nets status (Err fault) command told = usage_fault out out' status fault command.1.out_is (usage_end (Err fault) command.0) told.told
end_means (Some (Run file steps name)) at held held' net net' out out' err between err' reads writes outs errs nets status (Ok done) command told = subst (MeansRun (IsRunFile steps) held held' file steps name out out' reads writes outs) (sym told.0) command.0
end_means (Some (Run file steps name)) at held held' net net' out out' err between err' reads writes outs errs nets status (Err fault) command told = run_fault (IsRunFile steps) held held' file steps name out out' reads writes outs fault status command.0 told.told
end_means (Some (Check file print)) at held held' net net' out out' err between err' reads writes outs errs nets status (Ok done) command told = subst (MeansCheck held file print out out' reads outs) (sym told.0) command.0
end_means (Some (Check file print)) at held held' net net' out out' err between err' reads writes outs errs nets status (Err fault) command told = check_fault held file print out out' reads outs fault status command.0 told.told
end_means (Some (Report file query steps)) at held held' net net' out out' err between err' reads writes outs errs nets status (Ok done) command told = report_done (IsPageOfRun query steps) (HasNoPageOfRun query steps) held file steps out out' err between err' reads outs errs status command.0 told
end_means (Some (Report file query steps)) at held held' net net' out out' err between err' reads writes outs errs nets status (Err fault) command told = report_fault (IsPageOfRun query steps) (HasNoPageOfRun query steps) held file steps out out' err between err' reads outs errs fault status command.0 told.part told.told
end_means (Some (Page name query)) at held held' net net' out out' err between err' reads writes outs errs nets status end command told = ended (StoredEnds held name query out out' reads outs) end name between err' errs status command.0 told
end_means (Some (Serve name port requests)) at held held' net net' out out' err between err' reads writes outs errs nets status end command told = ended (ServeEnds held name port requests net net' out out' reads outs nets) end name between err' errs status command.0 told
end_means (Some (Gen n summary)) at held held' net net' out out' err between err' reads writes outs errs nets status end command told = ended (GenEnds n summary out out' outs) end (file_of (Gen n summary) at) between err' errs status command.0 told
end_means (Some (Migrate name new)) at held held' net net' out out' err between err' reads writes outs errs nets status end command told = ended (MigrateEnds held held' name new out out' reads writes outs) end name between err' errs status command.0 told
end_means (Some (Feedback file new steps least)) at held held' net net' out out' err between err' reads writes outs errs nets status (Ok done) command told = subst (MeansRun (IsFeedbackOfRun least steps) held held' file steps new out out' reads writes outs) (sym told.0) command.0
end_means (Some (Feedback file new steps least)) at held held' net net' out out' err between err' reads writes outs errs nets status (Err fault) command told = run_fault (IsFeedbackOfRun least steps) held held' file steps new out out' reads writes outs fault status command.0 told.told
end_means (Some (Dump name)) at held held' net net' out out' err between err' reads writes outs errs nets status end command told = ended (DumpEnds held name out out' reads outs) end name between err' errs status command.0 told
end_means (Some (Undump text new)) at held held' net net' out out' err between err' reads writes outs errs nets status end command told = ended (UndumpEnds held held' text new out out' reads writes outs) end text between err' errs status command.0 told
end_means (Some (Cover file procedure steps)) at held held' net net' out out' err between err' reads writes outs errs nets status (Ok done) command told =
    report_done (IsCoverageOfRun procedure steps) (HasNoProcedure procedure) held file steps out out' err between err' reads outs errs status command.0 told
end_means (Some (Cover file procedure steps)) at held held' net net' out out' err between err' reads writes outs errs nets status (Err fault) command told =
    report_fault (IsCoverageOfRun procedure steps) (HasNoProcedure procedure) held file steps out out' err between err' reads outs errs fault status command.0 told.part told.told
end_means (Some (Sum names)) at held held' net net' out out' err between err' reads writes outs errs nets status end command told =
    ended (SomeSumEnds held names out out' reads outs) end at between err' errs status (at, command.0) told
end_means (Some (Compare old new by least)) at held held' net net' out out' err between err' reads writes outs errs nets status end command told =
    ended (SomeCompareEnds held old new by least out out' reads outs) end at between err' errs status (at, command.0) told

pub top_means : (form : Option Form) (held held' : Option Files) (net net' : NetSide) (out out' err err' : Option (List ℕ)) (reads writes outs errs nets : Type 0) (status : ℕ)
    → TopEnds form held held' net net' out out' err err' reads writes outs errs nets status → Means form held held' net net' out out' err err' reads writes outs errs nets status
top_means form held held' net net' out out' err err' reads writes outs errs nets status h = end_means form h.at held held' net net' out out' err h.between err' reads writes outs errs nets status h.end h.command h.told

-- ---- what is kept

keeps : (form : Option Form) (at : List ℕ) (held held' : Option Files) (net net' : NetSide) (out out' err err' : Option (List ℕ)) (reads writes outs errs nets : Type 0) (r : Result (Unit {0}) Fault)
    → CommandEnds form at held held' net net' out out' err err' reads writes outs errs nets r → keeps_store form ≡ true → held' ≡ held
keeps None at held held' net net' out out' err err' reads writes outs errs nets r h so = h.1.held_is
keeps (Some (Check file print)) at held held' net net' out out' err err' reads writes outs errs nets r h so = h.1
keeps (Some (Run file steps name)) at held held' net net' out out' err err' reads writes outs errs nets r h so = absurd (cc)
keeps (Some (Report file query steps)) at held held' net net' out out' err err' reads writes outs errs nets r h so = h.1
keeps (Some (Page name query)) at held held' net net' out out' err err' reads writes outs errs nets r h so = h.1
keeps (Some (Serve name port requests)) at held held' net net' out out' err err' reads writes outs errs nets r h so = h.1
keeps (Some (Gen n summary)) at held held' net net' out out' err err' reads writes outs errs nets r h so = h.1
keeps (Some (Migrate name new)) at held held' net net' out out' err err' reads writes outs errs nets r h so = absurd (cc)
keeps (Some (Feedback file new steps least)) at held held' net net' out out' err err' reads writes outs errs nets r h so = absurd (cc)
keeps (Some (Dump name)) at held held' net net' out out' err err' reads writes outs errs nets r h so = h.1
keeps (Some (Undump text new)) at held held' net net' out out' err err' reads writes outs errs nets r h so = absurd (cc)
keeps (Some (Cover file procedure steps)) at held held' net net' out out' err err' reads writes outs errs nets r h so = h.1
keeps (Some (Sum names)) at held held' net net' out out' err err' reads writes outs errs nets r h so = h.1
keeps (Some (Compare old new by least)) at held held' net net' out out' err err' reads writes outs errs nets r h so = h.1

pub store_kept : (form : Option Form) (held held' : Option Files) (net net' : NetSide) (out out' err err' : Option (List ℕ)) (reads writes outs errs nets : Type 0) (status : ℕ)
    → TopEnds form held held' net net' out out' err err' reads writes outs errs nets status → keeps_store form ≡ true → held' ≡ held
store_kept form held held' net net' out out' err err' reads writes outs errs nets status h so = keeps form h.at held held' net net' out out' err h.between reads writes outs errs nets h.end h.command so
