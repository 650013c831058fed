-- What each exit status says.
use Rattle.std.specs.Prelude.{ℕ, ◌≡◌, ◌⊎◌, Bool, true, false, ◌||◌, ◌==◌, List, Option, None, Some, Result, Ok, Err, codes}
use Rattle.md_base.specs.Outside.{PartAdded}
use Rattle.md_base.specs.Files.{Files, FileIsLonger}
use Rattle.md_hlds.specs.Hlds.{Hlds}
use Rattle.md_commands.specs.Form.{Form, Check, Run, Report, Page, Serve, Gen, Migrate, Feedback, Dump, Undump, Cover, Sum, Compare}
use Rattle.md_tool.specs.declared.fault.Fault.{Fault}
use Rattle.md_tool.specs.declared.fault.Fault.TheVariants.{Refused}
use Rattle.md_tool.specs.declared.fault.Refusal.{Refusal}
use Rattle.md_tool.specs.Accepted.{Accepted}
use Rattle.md_tool.specs.Due.{IsText, IsWrittenInPart, HasChecked, HasCheckedInPart, IsRefused, longest}
use Rattle.md_tool.specs.Ends.{RunEnd, Finished, Threw, RanOut}
use Rattle.md_tool.specs.Fault.{status_of, plain_line, uncaught_line}
use Rattle.md_tool.specs.Generated.{GenEnds}
use Rattle.md_tool.specs.Candidates.{IsFeedbackOfRun}
use Rattle.md_tool.specs.Compared.{SomeCompareEnds}
use Rattle.md_tool.specs.Kept.{AreUntouched, HasRun, HasRunInPart, HasKeptInPart, IsRunFile}
use Rattle.md_tool.specs.Reported.{HasReported, HasNoPage, IsPageOfRun, HasNoPageOfRun}
use Rattle.md_tool.specs.Served.{NetSide, ServeEnds}
use Rattle.md_tool.specs.Stored.{StoredEnds, MigrateEnds}
use Rattle.md_tool.specs.Summed.{SomeSumEnds}
use Rattle.md_tool.specs.Texts.{DumpEnds, UndumpEnds}
use Rattle.md_tool.specs.Turns.{IsCoverageOfRun, HasNoProcedure}

-- a file's text isn't accepted as a program: it is too long, or has a fault at a line
pub data RefusedText (held : Option Files) (file : List ℕ) (before now : Option (List ℕ)) : Type 0 where
  LongerText : FileIsLonger held file longest → now ≡ before → RefusedText held file before now
  AtLine : (line : ℕ) (why : Refusal) → IsRefused held file before now (Refused line why) → RefusedText held file before now

abbrev pub choose : Bool → Type 0 → Type 0 → Type 0
choose true a b = a
choose false a b = b

-- What a status says of words that are no command, where `before` and `now` are what `out` holds.
abbrev pub MeansUsage : Option (List ℕ) → Option (List ℕ) → ℕ → Type 0
MeansUsage before now status = choose (status == 1 || status == 8) (now ≡ before) ⊥

-- What a status says of a run of a file, of which what is due is kept. The three facts are that the store's count of faults in a read rose, that in a
-- write, and that of `out`.
abbrev pub MeansRun : (IsDue : Hlds → List ℕ → Type 0) → (held held' : Option Files) → List ℕ → (steps : ℕ) → (name : List ℕ) → (out out' : Option (List ℕ)) → (reads writes outs : Type 0) → ℕ → Type 0
MeansRun IsDue held held' file steps name out out' reads writes outs status =
    choose (status == 0) (HasRun IsDue held held' file steps name out out' Finished)
    (choose (status == 2) (reads × AreUntouched held held' out out')
    (choose (status == 3) (RefusedText held file out out' × (held' ≡ held))
    (choose (status == 4) (HasRun IsDue held held' file steps name out out' RanOut)
    (choose (status == 7) ((outs × HasRunInPart held held' file steps out out') ⊎ (writes × HasKeptInPart IsDue held held' file steps name out out'))
    (choose (status == 8) (AreUntouched held held' out out' ⊎ (HasRunInPart held held' file steps out out' ⊎ HasKeptInPart IsDue held held' file steps name out out'))
    (choose (status == 10) ((bytes : List ℕ) × HasRun IsDue held held' file steps name out out' (Threw bytes))
    ⊥))))))

-- What a status says of a check of a file.
abbrev pub MeansCheck : Option Files → List ℕ → Bool → Option (List ℕ) → Option (List ℕ) → Type 0 → Type 0 → ℕ → Type 0
MeansCheck held file print before now reads writes status =
    choose (status == 0) (HasChecked held file print before now)
    (choose (status == 2) (reads × (now ≡ before))
    (choose (status == 3) (RefusedText held file before now)
    (choose (status == 7) (writes × HasCheckedInPart held file print before now)
    (choose (status == 8) ((now ≡ before) ⊎ HasCheckedInPart held file print before now)
    ⊥))))

-- the file's program was run, and `out` got a front of the text that is due
pub record HasFrontOfPage (IsDue : Hlds → List ℕ → Type 0) (held : Option Files) (file : List ℕ) (out out' : Option (List ℕ)) : Type 0 where
  pub text : List ℕ
  pub is_text : IsText held file text
  pub accepted : Accepted text
  pub shown : IsWrittenInPart (IsDue accepted.program) out out'

-- the file's text is accepted
pub record IsAcceptedFile (held : Option Files) (file : List ℕ) : Type 0 where
  pub text : List ℕ
  pub is_text : IsText held file text
  pub accepted : Accepted text

-- a report was written whole, and then `err` got this line or a front of it
pub record HasReportedThen (IsDue : Hlds → List ℕ → Type 0) (held : Option Files) (file : List ℕ) (steps : ℕ) (out out' err err' : Option (List ℕ)) (end : RunEnd) (line : List ℕ) : Type 0 where
  pub between : Option (List ℕ)
  pub reported : HasReported IsDue held file steps out out' err between end
  pub line_is : PartAdded line between err'

-- the output was written, there is nothing to show, and then `err` got this line or a front of it
pub record HasNoPageThen (HasNone : Hlds → Type 0) (held : Option Files) (file : List ℕ) (steps : ℕ) (out out' err err' : Option (List ℕ)) (line : List ℕ) : Type 0 where
  pub between : Option (List ℕ)
  pub pageless : HasNoPage HasNone held file steps out out' err between
  pub line_is : PartAdded line between err'

-- What a status says of a report on a file, which shows the text that is due, or where there is none nothing. The three facts
-- are that the store's count of faults in a read rose, and those of `out` and `err`.
abbrev pub MeansReport : (IsDue : Hlds → List ℕ → Type 0) → (HasNone : Hlds → Type 0) → Option Files → List ℕ → (steps : ℕ) → (out out' err err' : Option (List ℕ)) → (reads outs errs : Type 0) → ℕ → Type 0
MeansReport IsDue HasNone held file steps out out' err err' reads outs errs status =
    choose (status == 0) (HasReported IsDue held file steps out out' err err' Finished)
    (choose (status == 2) (reads × (out' ≡ out))
    (choose (status == 3) (RefusedText held file out out')
    (choose (status == 4) (HasReportedThen IsDue held file steps out out' err err' RanOut (plain_line (codes "out of steps")))
    (choose (status == 6) (HasNoPageThen HasNone held file steps out out' err err' (plain_line (codes "no such page")))
    (choose (status == 7) ((errs × IsAcceptedFile held file × (out' ≡ out)) ⊎ (outs × HasFrontOfPage IsDue held file out out'))
    (choose (status == 8) ((out' ≡ out) ⊎ HasFrontOfPage IsDue held file out out')
    (choose (status == 10) ((bytes : List ℕ) × HasReportedThen IsDue held file steps out out' err err' (Threw bytes) (uncaught_line bytes))
    ⊥)))))))

-- What a status says of a command that may come to these ends: 0 that all was done; another one is that of the fault that
-- it came to, or 8 where memory was refused as that was to be told.
abbrev pub MeansEnd : (Result (Unit {0}) Fault → Type 0) → ℕ → Type 0
MeansEnd Ends status = ((status ≡ 0) × Ends (Ok tt)) ⊎ ((fault : Fault) × ((status ≡ status_of fault) ⊎ (status ≡ 8)) × Ends (Err fault))

-- What a status says of what the words ask for. The five facts are that the store's count of faults in a read rose, that in
-- a write, and those of `out`, of `err` and of the net.
abbrev pub Means : Option Form → (held held' : Option Files) → (net net' : NetSide) → (out out' err err' : Option (List ℕ)) → (reads writes outs errs nets : Type 0) → ℕ → Type 0
Means None held held' net net' out out' err err' reads writes outs errs nets status = MeansUsage out out' status
Means (Some (Check file print)) held held' net net' out out' err err' reads writes outs errs nets status = MeansCheck held file print out out' reads outs status
Means (Some (Run file steps name)) held held' net net' out out' err err' reads writes outs errs nets status = MeansRun (IsRunFile steps) held held' file steps name out out' reads writes outs status
Means (Some (Report file query steps)) held held' net net' out out' err err' reads writes outs errs nets status = MeansReport (IsPageOfRun query steps) (HasNoPageOfRun query steps) held file steps out out' err err' reads outs errs status
Means (Some (Page name query)) held held' net net' out out' err err' reads writes outs errs nets status = MeansEnd (StoredEnds held name query out out' reads outs) status
Means (Some (Serve name port requests)) held held' net net' out out' err err' reads writes outs errs nets status = MeansEnd (ServeEnds held name port requests net net' out out' reads outs nets) status
Means (Some (Gen n summary)) held held' net net' out out' err err' reads writes outs errs nets status = MeansEnd (GenEnds n summary out out' outs) status
Means (Some (Migrate name new)) held held' net net' out out' err err' reads writes outs errs nets status = MeansEnd (MigrateEnds held held' name new out out' reads writes outs) status
Means (Some (Feedback file new steps least)) held held' net net' out out' err err' reads writes outs errs nets status = MeansRun (IsFeedbackOfRun least steps) held held' file steps new out out' reads writes outs status
Means (Some (Dump name)) held held' net net' out out' err err' reads writes outs errs nets status = MeansEnd (DumpEnds held name out out' reads outs) status
Means (Some (Undump text new)) held held' net net' out out' err err' reads writes outs errs nets status = MeansEnd (UndumpEnds held held' text new out out' reads writes outs) status
Means (Some (Cover file procedure steps)) held held' net net' out out' err err' reads writes outs errs nets status = MeansReport (IsCoverageOfRun procedure steps) (HasNoProcedure procedure) held file steps out out' err err' reads outs errs status
Means (Some (Sum names)) held held' net net' out out' err err' reads writes outs errs nets status = MeansEnd (SomeSumEnds held names out out' reads outs) status
Means (Some (Compare old new by least)) held held' net net' out out' err err' reads writes outs errs nets status = MeansEnd (SomeCompareEnds held old new by least out out' reads outs) status

-- whether a command leaves the store as it was
abbrev pub keeps_store : Option Form → Bool
keeps_store (Some (Run file steps name)) = false
keeps_store (Some (Migrate name new)) = false
keeps_store (Some (Feedback file new steps least)) = false
keeps_store (Some (Undump text new)) = false
keeps_store (Some (Cover file procedure steps)) = true
keeps_store (Some (Sum names)) = true
keeps_store (Some (Compare old new by least)) = true
keeps_store (Some (Dump name)) = true
keeps_store (Some (Check file print)) = true
keeps_store (Some (Report file query steps)) = true
keeps_store (Some (Page name query)) = true
keeps_store (Some (Serve name port requests)) = true
keeps_store (Some (Gen n summary)) = true
keeps_store None = true

-- whether a command leaves the net as it was
abbrev pub keeps_net : Option Form → Bool
keeps_net (Some (Serve name port requests)) = false
keeps_net (Some (Run file steps name)) = true
keeps_net (Some (Migrate name new)) = true
keeps_net (Some (Feedback file new steps least)) = true
keeps_net (Some (Dump name)) = true
keeps_net (Some (Undump text new)) = true
keeps_net (Some (Cover file procedure steps)) = true
keeps_net (Some (Sum names)) = true
keeps_net (Some (Compare old new by least)) = true
keeps_net (Some (Check file print)) = true
keeps_net (Some (Report file query steps)) = true
keeps_net (Some (Page name query)) = true
keeps_net (Some (Gen n summary)) = true
keeps_net None = true
