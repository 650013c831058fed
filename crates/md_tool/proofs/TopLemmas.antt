-- What a whole call comes to.
use Rattle.std.proofs.Common.{◌≡◌, ◌∙◌, refl, sym, ap, subst, inl, inr, ◌⊎◌, ℕ, ◌≤◌, List, [], Bool, true, false, Option, None, Some}
use Rattle.std.specs.Prelude.{Result, Ok, Err, codes}
use Rattle.md_base.specs.Outside.{Rose, added, PartAdded}
use Rattle.md_base.specs.Files.{Files}
use Rattle.md_base.specs.declared.measure.Measure.{Measure}
use Rattle.md_hlds.specs.Hlds.{Hlds}
use Rattle.md_query.specs.Asked.{Asked}
use Rattle.md_commands.specs.Form.{Form, Meant, Check, Run, Report, Page, Serve, Gen, Migrate, Feedback, Dump, Undump, Cover, Sum, Compare}
use Rattle.md_tool.specs.declared.fault.Fault.{Fault}
use Rattle.md_tool.specs.declared.fault.Fault.TheVariants.{Usage, Read, TooLong, Refused, OutOfSteps, Thrown, Damaged, TooLarge, TwoEntries, DamagedLine, AnotherProgram, NoSuchPage, Write, NoMemory, Network}
use Rattle.md_tool.specs.Compared.{CompareEnds}
use Rattle.md_tool.specs.Fault.{status_of, fault_line}
use Rattle.law_generated.specs.Generated.{gen_text}
use Rattle.md_tool.specs.Generated.{GenEnds}
use Rattle.md_tool.specs.Reported.{ReportEnds, IsPageOfRun, HasNoPageOfRun}
use Rattle.md_tool.specs.Summed.{SumEnds}
use Rattle.md_tool.specs.Turns.{IsCoverageOfRun, HasNoProcedure}
use Rattle.md_tool.specs.Told.{Tells, NothingChanged, EndIsTold, CommandEnds, TopEnds}
use Rattle.md_tool.specs.Served.{NetSide, ServeEnds}
use Rattle.md_tool.proofs.StreamLemmas.{rose_before, rose_after, none_added, all_added}

nothing_changed : (held : Option Files) (out err : Option (List ℕ)) → NothingChanged held held out out err err
nothing_changed held out err = record { held_is = refl; out_is = refl; err_is = refl }

-- no command was asked for, and that was told
pub usage_told : (form : Option Form) (held : Option Files) (net : NetSide) (out err err' : Option (List ℕ)) (reads writes outs errs nets : Type 0) (status : ℕ)
    → form ≡ None → Tells Usage [] err err' errs status → TopEnds form held held net net out out err err' reads writes outs errs nets status
usage_told form held net out err err' reads writes outs errs nets status none told =
    subst (λ (a : Option Form). TopEnds a held held net net out out err err' reads writes outs errs nets status) (sym none)
    (record { end = Err Usage; at = []; between = err; command = (inl refl, nothing_changed held out err); told = told })

-- memory was refused before it was known what is asked for
unknown : (form : Option Form) (held : Option Files) (net : NetSide) (out err : Option (List ℕ)) (reads writes outs errs nets : Type 0) → CommandEnds form [] held held net net out out err err reads writes outs errs nets (Err NoMemory)
unknown None held net out err reads writes outs errs nets = (inr refl, nothing_changed held out err)
unknown (Some (Check file print)) held net out err reads writes outs errs nets = (inl refl, refl, refl)
unknown (Some (Run file steps name)) held net out err reads writes outs errs nets = (inl (record { held_is = refl; out_is = refl }), refl)
unknown (Some (Report file query steps)) held net out err reads writes outs errs nets = (inl (record { out_is = refl; err_is = refl }), refl)
unknown (Some (Page name query)) held net out err reads writes outs errs nets = (inl refl, refl, refl)
unknown (Some (Serve name port requests)) held net out err reads writes outs errs nets = (inl (record { net_is = refl; out_is = refl }), refl, refl)
unknown (Some (Gen n false)) held net out err reads writes outs errs nets = (none_added (gen_text n) out, refl, refl)
unknown (Some (Gen n true)) held net out err reads writes outs errs nets = (inl refl, refl, refl)
unknown (Some (Migrate name new)) held net out err reads writes outs errs nets = (inl (record { held_is = refl; out_is = refl }), refl)
unknown (Some (Feedback file new steps least)) held net out err reads writes outs errs nets = (inl (record { held_is = refl; out_is = refl }), refl)
unknown (Some (Dump name)) held net out err reads writes outs errs nets = (inl refl, refl, refl)
unknown (Some (Undump text new)) held net out err reads writes outs errs nets = (inl (record { held_is = refl; out_is = refl }), refl)
unknown (Some (Cover file procedure steps)) held net out err reads writes outs errs nets = (inl (record { out_is = refl; err_is = refl }), refl)
unknown (Some (Sum names)) held net out err reads writes outs errs nets = (inl refl, refl, refl)
unknown (Some (Compare old new by least)) held net out err reads writes outs errs nets = (inl refl, refl, refl)

pub memory_told : (form : Option Form) (held : Option Files) (net : NetSide) (out err err' : Option (List ℕ)) (reads writes outs errs nets : Type 0) (status : ℕ)
    → Tells NoMemory [] err err' errs status → TopEnds form held held net net out out err err' reads writes outs errs nets status
memory_told form held net out err err' reads writes outs errs nets status told = record {
  end = Err NoMemory;
  at = [];
  between = err;
  command = unknown form held net out err reads writes outs errs nets;
  told = record { told = told.told; part = told.part; whole = told.whole };
}

-- ---- a report: `err` is written before a fault is told

-- where the count of `err` rose, it rose in the whole call
report_rises : (IsDue : Hlds → List ℕ → Type 0) (HasNone : Hlds → Type 0) (held : Option Files) (file : List ℕ) (steps : ℕ) (out out' err err' : Option (List ℕ)) (reads outs some all : Type 0) (r : Result (Unit {0}) Fault)
    → (some → all) → ReportEnds IsDue HasNone held file steps out out' err err' reads outs some r → ReportEnds IsDue HasNone held file steps out out' err err' reads outs all r
report_rises IsDue HasNone held file steps out out' err err' reads outs some all (Ok done) rises h = h
report_rises IsDue HasNone held file steps out out' err err' reads outs some all (Err Usage) rises h = h
report_rises IsDue HasNone held file steps out out' err err' reads outs some all (Err Network) rises h = h
report_rises IsDue HasNone held file steps out out' err err' reads outs some all (Err Read) rises h = h
report_rises IsDue HasNone held file steps out out' err err' reads outs some all (Err TooLong) rises h = h
report_rises IsDue HasNone held file steps out out' err err' reads outs some all (Err (Refused line w)) rises h = h
report_rises IsDue HasNone held file steps out out' err err' reads outs some all (Err OutOfSteps) rises h = h
report_rises IsDue HasNone held file steps out out' err err' reads outs some all (Err (Thrown bytes)) rises h = h
report_rises IsDue HasNone held file steps out out' err err' reads outs some all (Err (Damaged at kind)) rises h = h
report_rises IsDue HasNone held file steps out out' err err' reads outs some all (Err (TooLarge most)) rises h = h
report_rises IsDue HasNone held file steps out out' err err' reads outs some all (Err (TwoEntries clique x y)) rises h = h
report_rises IsDue HasNone held file steps out out' err err' reads outs some all (Err (DamagedLine n)) rises h = h
report_rises IsDue HasNone held file steps out out' err err' reads outs some all (Err AnotherProgram) rises h = h
report_rises IsDue HasNone held file steps out out' err err' reads outs some all (Err NoSuchPage) rises h = h
report_rises IsDue HasNone held file steps out out' err err' reads outs some all (Err Write) rises (inl h) = inl (rises h.0, h.1)
report_rises IsDue HasNone held file steps out out' err err' reads outs some all (Err Write) rises (inr h) = inr h
report_rises IsDue HasNone held file steps out out' err err' reads outs some all (Err NoMemory) rises h = h

whole_rises : (line : List ℕ) (before now : Option (List ℕ)) (some all : Type 0) (status : ℕ) → (some → all)
    → (now ≡ added line before) ⊎ (some ⊎ (status ≡ 8)) → (now ≡ added line before) ⊎ (all ⊎ (status ≡ 8))
whole_rises line before now some all status rises (inl h) = inl h
whole_rises line before now some all status rises (inr (inl h)) = inr (inl (rises h))
whole_rises line before now some all status rises (inr (inr h)) = inr (inr h)

told_rises : (r : Result (Unit {0}) Fault) (file : List ℕ) (before now : Option (List ℕ)) (some all : Type 0) (status : ℕ) → (some → all)
    → EndIsTold r file before now some status → EndIsTold r file before now all status
told_rises (Ok done) file before now some all status rises h = h
told_rises (Err fault) file before now some all status rises h =
    record { told = h.told; part = h.part; whole = whole_rises (fault_line fault file) before now some all status rises h.whole }

pub report_told : (held held' : Option Files) (net net' : NetSide) (file : List ℕ) (query : Asked) (steps : ℕ) (out out' err between err' : Option (List ℕ)) (reads writes outs nets : Type 0) (a b c : ℕ) (status : ℕ)
    (r : Result (Unit {0}) Fault) → a ≤ b → b ≤ c → ReportEnds (IsPageOfRun query steps) (HasNoPageOfRun query steps) held file steps out out' err between reads outs (Rose a b) r → held' ≡ held
    → EndIsTold r file between err' (Rose b c) status → TopEnds (Some (Report file query steps)) held held' net net' out out' err err' reads writes outs (Rose a c) nets status
report_told held held' net net' file query steps out out' err between err' reads writes outs nets a b c status r first later ends kept told = record {
  end = r;
  at = file;
  between = between;
  command = (report_rises (IsPageOfRun query steps) (HasNoPageOfRun query steps) held file steps out out' err between reads outs (Rose a b) (Rose a c) r (rose_before a b c first later) ends, kept);
  told = told_rises r file between err' (Rose b c) (Rose a c) status (rose_after a b c first) told;
}

pub cover_told : (held held' : Option Files) (net net' : NetSide) (file : List ℕ) (procedure : Meant) (steps : ℕ) (out out' err between err' : Option (List ℕ)) (reads writes outs nets : Type 0) (a b c : ℕ) (status : ℕ)
    (r : Result (Unit {0}) Fault) → a ≤ b → b ≤ c → ReportEnds (IsCoverageOfRun procedure steps) (HasNoProcedure procedure) held file steps out out' err between reads outs (Rose a b) r → held' ≡ held
    → EndIsTold r file between err' (Rose b c) status → TopEnds (Some (Cover file procedure steps)) held held' net net' out out' err err' reads writes outs (Rose a c) nets status
cover_told held held' net net' file procedure steps out out' err between err' reads writes outs nets a b c status r first later ends kept told = record {
  end = r;
  at = file;
  between = between;
  command = (report_rises (IsCoverageOfRun procedure steps) (HasNoProcedure procedure) held file steps out out' err between reads outs (Rose a b) (Rose a c) r (rose_before a b c first later) ends, kept);
  told = told_rises r file between err' (Rose b c) (Rose a c) status (rose_after a b c first) told;
}

-- ---- a generated program

pub gen_told : (held : Option Files) (net net' : NetSide) (n : ℕ) (summary : Bool) (out out' err err' : Option (List ℕ)) (reads writes outs errs nets : Type 0) (status : ℕ) (r : Result (Unit {0}) Fault)
    → GenEnds n summary out out' outs r → EndIsTold r (codes "gen") err err' errs status → TopEnds (Some (Gen n summary)) held held net net' out out' err err' reads writes outs errs nets status
gen_told held net net' n summary out out' err err' reads writes outs errs nets status r ends told = record { end = r; at = codes "gen"; between = err; command = (ends, refl, refl); told = told }

-- ---- a stored profile that is served

pub serve_told : (held held' : Option Files) (net net' : NetSide) (name : List ℕ) (port requests : ℕ) (out out' err err' : Option (List ℕ)) (reads writes outs errs nets : Type 0) (status : ℕ) (r : Result (Unit {0}) Fault)
    → ServeEnds held name port requests net net' out out' reads outs nets r → held' ≡ held → EndIsTold r name err err' errs status → TopEnds (Some (Serve name port requests)) held held' net net' out out' err err' reads writes outs errs nets status
serve_told held held' net net' name port requests out out' err err' reads writes outs errs nets status r ends kept told = record { end = r; at = name; between = err; command = (ends, kept, refl); told = told }

-- ---- profiles that are added up

pub sum_told : (held held' : Option Files) (net net' : NetSide) (names : List (List ℕ)) (at : List ℕ) (out out' err err' : Option (List ℕ)) (reads writes outs errs nets : Type 0) (status : ℕ) (r : Result (Unit {0}) Fault)
    → SumEnds held names at out out' reads outs r → held' ≡ held → EndIsTold r at err err' errs status → TopEnds (Some (Sum names)) held held' net net' out out' err err' reads writes outs errs nets status
sum_told held held' net net' names at out out' err err' reads writes outs errs nets status r ends kept told = record { end = r; at = at; between = err; command = (ends, kept, refl); told = told }

-- ---- profiles that are compared

pub compare_told : (held held' : Option Files) (net net' : NetSide) (old new : List ℕ) (by : Measure) (least : ℕ) (at : List ℕ) (out out' err err' : Option (List ℕ)) (reads writes outs errs nets : Type 0) (status : ℕ) (r : Result (Unit {0}) Fault)
    → CompareEnds held old new by least at out out' reads outs r → held' ≡ held → EndIsTold r at err err' errs status → TopEnds (Some (Compare old new by least)) held held' net net' out out' err err' reads writes outs errs nets status
compare_told held held' net net' old new by least at out out' err err' reads writes outs errs nets status r ends kept told = record { end = r; at = at; between = err; command = (ends, kept, refl); told = told }

-- ---- the line that tells of a fault

-- there was no memory for it
pub untold : (fault : Fault) (file : List ℕ) (err : Option (List ℕ)) (errs : Type 0) (status : ℕ) → status ≡ 8 → Tells fault file err err errs status
untold fault file err errs status same = record { told = inr same; part = none_added (fault_line fault file) err; whole = inr (inr same) }

-- it was written
pub told_whole : (fault : Fault) (file line : List ℕ) (err err' : Option (List ℕ)) (errs : Type 0) (status : ℕ) → line ≡ fault_line fault file → status ≡ status_of fault → err' ≡ added line err → Tells fault file err err' errs status
told_whole fault file line err err' errs status is same written = record {
  told = inl same;
  part = all_added (fault_line fault file) err err' (written ∙ ap (λ (bytes : List ℕ). added bytes err) is);
  whole = inl (written ∙ ap (λ (bytes : List ℕ). added bytes err) is);
}

-- a front of it was written, and the stream's count of faults rose
pub told_until : (fault : Fault) (file line : List ℕ) (err err' : Option (List ℕ)) (errs : Type 0) (status : ℕ) → line ≡ fault_line fault file → status ≡ status_of fault → PartAdded line err err' → errs → Tells fault file err err' errs status
told_until fault file line err err' errs status is same part rose = record { told = inl same; part = subst (λ (bytes : List ℕ). PartAdded bytes err err') is part; whole = inr (inl rose) }

-- a front of it was written, and memory was refused
pub told_short : (fault : Fault) (file line : List ℕ) (err err' : Option (List ℕ)) (errs : Type 0) (status : ℕ) → line ≡ fault_line fault file → status ≡ 8 → PartAdded line err err' → Tells fault file err err' errs status
told_short fault file line err err' errs status is same part = record { told = inr same; part = subst (λ (bytes : List ℕ). PartAdded bytes err err') is part; whole = inr (inr same) }
