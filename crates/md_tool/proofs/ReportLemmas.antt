-- From the profile of a run to a report on its file.
use Rattle.std.proofs.Common.{◌≡◌, ◌∙◌, refl, ap, sym, subst, inl, inr, ℕ, ◌<◌, ◌≤◌, ◌^◌, ◌-◌, List, ◌++◌, length, Option, Some, arith}
use Rattle.std.specs.Prelude.{Result, Ok, Err, codes}
use Rattle.md_base.specs.Outside.{added}
use Rattle.md_base.specs.Files.{Files}
use Rattle.md_cost.specs.FileView.{IsFileView}
use Rattle.md_cost.specs.View.{View}
use Rattle.md_dynamic.specs.Profile.{ProfileRows}
use Rattle.law_events.specs.Laws.{IsWithinBounds}
use Rattle.md_hlds.specs.Hlds.{Hlds}
use Rattle.md_hlds.specs.Run.{run}
use Rattle.md_machine.specs.Ran.{IsRunOf}
use Rattle.md_machine.specs.declared.ran.Ran.{Ran}
use Rattle.md_profiled.specs.OfRun.{IsProfiled, IsViewOfRun}
use Rattle.md_profiled.specs.declared.profiled.Profiled.{Profiled}
use Rattle.md_query.specs.Asked.{Asked}
use Rattle.md_query.specs.Page.{PageRows}
use Rattle.md_query.specs.PageOf.{page_of}
use Rattle.md_render.specs.Text.{text_of}
use Rattle.md_tool.specs.declared.fault.Fault.{Fault}
use Rattle.md_tool.specs.declared.fault.Fault.TheVariants.{Usage, Read, TooLong, Refused, OutOfSteps, Thrown, Damaged, TooLarge, TwoEntries, DamagedLine, AnotherProgram, NoSuchPage, Write, NoMemory, Network}
use Rattle.md_tool.specs.Accepted.{Accepted, Accepts}
use Rattle.md_tool.specs.Due.{IsText, IsWritten, TextEnds, WriteEnds}
use Rattle.md_tool.specs.Ends.{TellsEnd, end_of, ran_end}
use Rattle.md_tool.specs.Paged.{PageEnds, PageFails}
use Rattle.md_tool.specs.Ran.{IsProfiledText}
use Rattle.md_tool.specs.Reported.{reported_output, IsPageOfRun, HasNoPageOfRun, IsReported, ShowEnds, ReportEnds}
use Rattle.md_tool.proofs.RunLemmas.{end_is}
use Rattle.md_tool.proofs.StreamLemmas.{all_added}

-- ---- pages

-- the page of a profile, written as far as it was
pub page_written : (f : ProfileRows) (query : Asked) (page : PageRows) (before now : Option (List ℕ)) (writes : Type 0) (r : Result (Unit {0}) Fault)
    → (v : View) → IsFileView f v → page_of v query ≡ Some page → WriteEnds (text_of v page) before now writes r → PageEnds (IsFileView f) query before now writes r
page_written f query page before now writes (Ok done) v is paged h = record { view = v; is_meant = is; page = page; is_page = paged; written = h }
page_written f query page before now writes (Err Write) v is paged h = (h.0, record { view = v; is_meant = is; page = page; is_page = paged; written = h.1 })
page_written f query page before now writes (Err NoMemory) v is paged h = inr (record { view = v; is_meant = is; page = page; is_page = paged; written = h })
page_written f query page before now writes (Err Usage) v is paged h = absurd h
page_written f query page before now writes (Err Network) v is paged h = absurd h
page_written f query page before now writes (Err (Damaged at kind)) v is paged h = absurd h
page_written f query page before now writes (Err (TooLarge most)) v is paged h = absurd h
page_written f query page before now writes (Err (TwoEntries clique x y)) v is paged h = absurd h
page_written f query page before now writes (Err (DamagedLine n)) v is paged h = absurd h
page_written f query page before now writes (Err AnotherProgram) v is paged h = absurd h
page_written f query page before now writes (Err Read) v is paged h = absurd h
page_written f query page before now writes (Err TooLong) v is paged h = absurd h
page_written f query page before now writes (Err (Refused line w)) v is paged h = absurd h
page_written f query page before now writes (Err OutOfSteps) v is paged h = absurd h
page_written f query page before now writes (Err (Thrown bytes)) v is paged h = absurd h
page_written f query page before now writes (Err NoSuchPage) v is paged h = absurd h

-- there is none, and nothing was written
pub page_failed : (f : ProfileRows) (query : Asked) (before : Option (List ℕ)) (writes : Type 0) (fault : Fault) → (v : View) → IsFileView f v → PageFails f query fault
    → PageEnds (IsFileView f) query before before writes (Err fault)
page_failed f query before writes NoSuchPage v is h = record { view = v; is_meant = is; none = h v is; untouched = refl }
page_failed f query before writes NoMemory v is h = inl refl
page_failed f query before writes Usage v is h = absurd h
page_failed f query before writes Network v is h = absurd h
page_failed f query before writes (Damaged at kind) v is h = absurd h
page_failed f query before writes (TooLarge most) v is h = absurd h
page_failed f query before writes (TwoEntries clique x y) v is h = absurd h
page_failed f query before writes (DamagedLine n) v is h = absurd h
page_failed f query before writes AnotherProgram v is h = absurd h
page_failed f query before writes Read v is h = absurd h
page_failed f query before writes TooLong v is h = absurd h
page_failed f query before writes (Refused line w) v is h = absurd h
page_failed f query before writes OutOfSteps v is h = absurd h
page_failed f query before writes (Thrown bytes) v is h = absurd h
page_failed f query before writes Write v is h = absurd h

-- what is meant may be told in other words
pub page_meant : (IsA IsB : View → Type 0) (query : Asked) (before now : Option (List ℕ)) (writes : Type 0) (r : Result (Unit {0}) Fault) → ((v : View) → IsA v → IsB v)
    → PageEnds IsA query before now writes r → PageEnds IsB query before now writes r
page_meant IsA IsB query before now writes (Ok done) so h = record { view = h.view; is_meant = so h.view h.is_meant; page = h.page; is_page = h.is_page; written = h.written }
page_meant IsA IsB query before now writes (Err NoSuchPage) so h = record { view = h.view; is_meant = so h.view h.is_meant; none = h.none; untouched = h.untouched }
page_meant IsA IsB query before now writes (Err Write) so h =
    (h.0, record { view = h.1.view; is_meant = so h.1.view h.1.is_meant; page = h.1.page; is_page = h.1.is_page; written = h.1.written })
page_meant IsA IsB query before now writes (Err NoMemory) so (inl h) = inl h
page_meant IsA IsB query before now writes (Err NoMemory) so (inr h) =
    inr (record { view = h.view; is_meant = so h.view h.is_meant; page = h.page; is_page = h.is_page; written = h.written })
page_meant IsA IsB query before now writes (Err Usage) so h = absurd h
page_meant IsA IsB query before now writes (Err Network) so h = absurd h
page_meant IsA IsB query before now writes (Err (Damaged at kind)) so h = absurd h
page_meant IsA IsB query before now writes (Err (TooLarge most)) so h = absurd h
page_meant IsA IsB query before now writes (Err (TwoEntries clique x y)) so h = absurd h
page_meant IsA IsB query before now writes (Err (DamagedLine n)) so h = absurd h
page_meant IsA IsB query before now writes (Err AnotherProgram) so h = absurd h
page_meant IsA IsB query before now writes (Err Read) so h = absurd h
page_meant IsA IsB query before now writes (Err TooLong) so h = absurd h
page_meant IsA IsB query before now writes (Err (Refused line w)) so h = absurd h
page_meant IsA IsB query before now writes (Err OutOfSteps) so h = absurd h
page_meant IsA IsB query before now writes (Err (Thrown bytes)) so h = absurd h

-- as a text of the run
pub page_text : (query : Asked) (steps : ℕ) (program : Hlds) (before now : Option (List ℕ)) (writes : Type 0) (r : Result (Unit {0}) Fault) → PageEnds (IsViewOfRun program steps) query before now writes r
    → TextEnds (IsPageOfRun query steps program) (HasNoPageOfRun query steps program) before now writes r
page_text query steps program before now writes (Ok done) h =
    record { text = text_of h.view h.page; is_due = record { view = h.view; is_view = h.is_meant; page = h.page; is_page = h.is_page; is = refl }; written = h.written }
page_text query steps program before now writes (Err NoSuchPage) h = (record { view = h.view; is_view = h.is_meant; none = h.none }, h.untouched)
page_text query steps program before now writes (Err Write) h =
    (h.0, record { text = text_of h.1.view h.1.page; is_due = record { view = h.1.view; is_view = h.1.is_meant; page = h.1.page; is_page = h.1.is_page; is = refl }; written = h.1.written })
page_text query steps program before now writes (Err NoMemory) (inl h) = inl h
page_text query steps program before now writes (Err NoMemory) (inr h) =
    inr (record { text = text_of h.view h.page; is_due = record { view = h.view; is_view = h.is_meant; page = h.page; is_page = h.is_page; is = refl }; written = h.written })
page_text query steps program before now writes (Err Usage) h = absurd h
page_text query steps program before now writes (Err Network) h = absurd h
page_text query steps program before now writes (Err (Damaged at kind)) h = absurd h
page_text query steps program before now writes (Err (TooLarge most)) h = absurd h
page_text query steps program before now writes (Err (TwoEntries clique x y)) h = absurd h
page_text query steps program before now writes (Err (DamagedLine n)) h = absurd h
page_text query steps program before now writes (Err AnotherProgram) h = absurd h
page_text query steps program before now writes (Err Read) h = absurd h
page_text query steps program before now writes (Err TooLong) h = absurd h
page_text query steps program before now writes (Err (Refused line w)) h = absurd h
page_text query steps program before now writes (Err OutOfSteps) h = absurd h
page_text query steps program before now writes (Err (Thrown bytes)) h = absurd h

-- a text that is due, written as far as it was
pub text_written : (IsDue : List ℕ → Type 0) (HasNone : Type 0) (text : List ℕ) (before now : Option (List ℕ)) (writes : Type 0) (r : Result (Unit {0}) Fault) → IsDue text → WriteEnds text before now writes r
    → TextEnds IsDue HasNone before now writes r
text_written IsDue HasNone text before now writes (Ok done) due h = record { text = text; is_due = due; written = h }
text_written IsDue HasNone text before now writes (Err Write) due h = (h.0, record { text = text; is_due = due; written = h.1 })
text_written IsDue HasNone text before now writes (Err NoMemory) due h = inr (record { text = text; is_due = due; written = h })
text_written IsDue HasNone text before now writes (Err NoSuchPage) due h = absurd h
text_written IsDue HasNone text before now writes (Err Usage) due h = absurd h
text_written IsDue HasNone text before now writes (Err Network) due h = absurd h
text_written IsDue HasNone text before now writes (Err (Damaged at kind)) due h = absurd h
text_written IsDue HasNone text before now writes (Err (TooLarge most)) due h = absurd h
text_written IsDue HasNone text before now writes (Err (TwoEntries clique x y)) due h = absurd h
text_written IsDue HasNone text before now writes (Err (DamagedLine n)) due h = absurd h
text_written IsDue HasNone text before now writes (Err AnotherProgram) due h = absurd h
text_written IsDue HasNone text before now writes (Err Read) due h = absurd h
text_written IsDue HasNone text before now writes (Err TooLong) due h = absurd h
text_written IsDue HasNone text before now writes (Err (Refused line w)) due h = absurd h
text_written IsDue HasNone text before now writes (Err OutOfSteps) due h = absurd h
text_written IsDue HasNone text before now writes (Err (Thrown bytes)) due h = absurd h

-- ---- a report on a run

-- the text was written, and the end was told
pub shown : (IsDue : List ℕ → Type 0) (HasNone : Type 0) (program : Hlds) (steps : ℕ) (ran : Ran) (out out' err err' : Option (List ℕ)) (outs errs : Type 0) (r : Result (Unit {0}) Fault)
    → IsRunOf program steps ran → err' ≡ added (ran.output.items ++ codes "-- end of output\n") err
    → IsWritten IsDue out out' → TellsEnd (ran_end ran) r → ShowEnds IsDue HasNone program steps out out' err err' outs errs r
shown IsDue HasNone program steps ran out out' err err' outs errs r is_run written text told = by r told
  where
    reported : IsReported IsDue program steps out out' err err'
    reported = record { output_is = written ∙ ap (λ (bytes : List ℕ). added (bytes ++ codes "-- end of output\n") err) is_run.output; shown = text }

    same : end_of (run program steps) ≡ ran_end ran
    same = sym (end_is program steps ran is_run)

    by : (r : Result (Unit {0}) Fault) → TellsEnd (ran_end ran) r → ShowEnds IsDue HasNone program steps out out' err err' outs errs r
    by (Ok done) told = (reported, same ∙ told)
    by (Err OutOfSteps) told = (reported, same ∙ told)
    by (Err (Thrown bytes)) told = (reported, same ∙ told)
    by (Err Usage) told = absurd told
    by (Err Network) told = absurd told
    by (Err (Damaged at kind)) told = absurd told
    by (Err (TooLarge most)) told = absurd told
    by (Err (TwoEntries clique x y)) told = absurd told
    by (Err (DamagedLine n)) told = absurd told
    by (Err AnotherProgram) told = absurd told
    by (Err Read) told = absurd told
    by (Err TooLong) told = absurd told
    by (Err (Refused line w)) told = absurd told
    by (Err NoSuchPage) told = absurd told
    by (Err Write) told = absurd told
    by (Err NoMemory) told = absurd told

-- the output was written, and the text wasn't
pub unpaged : (IsDue : List ℕ → Type 0) (HasNone : Type 0) (program : Hlds) (steps : ℕ) (ran : Ran) (out out' err err' : Option (List ℕ)) (outs errs : Type 0) (fault : Fault)
    → IsRunOf program steps ran → err' ≡ added (ran.output.items ++ codes "-- end of output\n") err
    → TextEnds IsDue HasNone out out' outs (Err fault) → ShowEnds IsDue HasNone program steps out out' err err' outs errs (Err fault)
unpaged IsDue HasNone program steps ran out out' err err' outs errs fault is_run written ends = by fault ends
  where
    all : err' ≡ added (reported_output program steps) err
    all = written ∙ ap (λ (bytes : List ℕ). added (bytes ++ codes "-- end of output\n") err) is_run.output

    by : (fault : Fault) → TextEnds IsDue HasNone out out' outs (Err fault) → ShowEnds IsDue HasNone program steps out out' err err' outs errs (Err fault)
    by NoSuchPage h = record { output_is = all; none = h.0; untouched = h.1 }
    by Write h = inr (h.0, record { output_is = all; shown = h.1 })
    by NoMemory (inl h) = inl (record { output_is = all_added (reported_output program steps) err err' all; no_page = h })
    by NoMemory (inr h) = inr (record { output_is = all; shown = h })
    by Usage h = absurd h
    by Network h = absurd h
    by (Damaged at kind) h = absurd h
    by (TooLarge most) h = absurd h
    by (TwoEntries clique x y) h = absurd h
    by (DamagedLine n) h = absurd h
    by AnotherProgram h = absurd h
    by Read h = absurd h
    by TooLong h = absurd h
    by (Refused line w) h = absurd h
    by OutOfSteps h = absurd h
    by (Thrown bytes) h = absurd h

-- the output wasn't written whole
pub unwritten : (IsDue : List ℕ → Type 0) (HasNone : Type 0) (program : Hlds) (steps : ℕ) (ran : Ran) (out err err' : Option (List ℕ)) (outs errs : Type 0) (fault : Fault)
    → IsRunOf program steps ran → WriteEnds (ran.output.items ++ codes "-- end of output\n") err err' errs (Err fault)
    → ShowEnds IsDue HasNone program steps out out err err' outs errs (Err fault)
unwritten IsDue HasNone program steps ran out err err' outs errs fault is_run ends = by fault (subst (λ (bytes : List ℕ). WriteEnds (bytes ++ codes "-- end of output\n") err err' errs (Err fault)) is_run.output ends)
  where
    by : (fault : Fault) → WriteEnds (reported_output program steps) err err' errs (Err fault) → ShowEnds IsDue HasNone program steps out out err err' outs errs (Err fault)
    by Write h = inl (h.0, record { output_is = h.1; no_page = refl })
    by NoMemory h = inl (record { output_is = h; no_page = refl })
    by NoSuchPage h = absurd h
    by Usage h = absurd h
    by Network h = absurd h
    by (Damaged at kind) h = absurd h
    by (TooLarge most) h = absurd h
    by (TwoEntries clique x y) h = absurd h
    by (DamagedLine n) h = absurd h
    by AnotherProgram h = absurd h
    by Read h = absurd h
    by TooLong h = absurd h
    by (Refused line w) h = absurd h
    by OutOfSteps h = absurd h
    by (Thrown bytes) h = absurd h

-- ---- a report on a file

pub profiled_text : (text : List ℕ) (program : Hlds) (steps : ℕ) (profiled : Profiled) → Accepts text program → IsWithinBounds program steps → IsProfiled program steps profiled
    → IsProfiledText text steps profiled
profiled_text text program steps profiled a bounds h = record {
  accepted = a.accepted;
  bounds = subst (λ (p : Hlds). IsWithinBounds p steps) (sym a.is_program) bounds;
  is_profiled = subst (λ (p : Hlds). IsProfiled p steps profiled) (sym a.is_program) h;
}

-- what was written of a run of a text, as far as it was
pub reported : (IsDue : Hlds → List ℕ → Type 0) (HasNone : Hlds → Type 0) (held : Option Files) (file text : List ℕ) (steps : ℕ) (out out' err err' : Option (List ℕ)) (reads outs errs : Type 0) (r : Result (Unit {0}) Fault)
    → IsText held file text → (a : Accepted text) → ShowEnds (IsDue a.program) (HasNone a.program) a.program steps out out' err err' outs errs r
    → ReportEnds IsDue HasNone held file steps out out' err err' reads outs errs r
reported IsDue HasNone held file text steps out out' err err' reads outs errs (Ok done) is_text a h = record { text = text; is_text = is_text; accepted = a; reported = h.0; ended = h.1 }
reported IsDue HasNone held file text steps out out' err err' reads outs errs (Err OutOfSteps) is_text a h = record { text = text; is_text = is_text; accepted = a; reported = h.0; ended = h.1 }
reported IsDue HasNone held file text steps out out' err err' reads outs errs (Err (Thrown bytes)) is_text a h = record { text = text; is_text = is_text; accepted = a; reported = h.0; ended = h.1 }
reported IsDue HasNone held file text steps out out' err err' reads outs errs (Err NoSuchPage) is_text a h = record { text = text; is_text = is_text; accepted = a; pageless = h }
reported IsDue HasNone held file text steps out out' err err' reads outs errs (Err Write) is_text a (inl h) = inl (h.0, record { text = text; is_text = is_text; accepted = a; written = h.1 })
reported IsDue HasNone held file text steps out out' err err' reads outs errs (Err Write) is_text a (inr h) = inr (h.0, record { text = text; is_text = is_text; accepted = a; written = h.1 })
reported IsDue HasNone held file text steps out out' err err' reads outs errs (Err NoMemory) is_text a (inl h) = inr (inl (record { text = text; is_text = is_text; accepted = a; written = h }))
reported IsDue HasNone held file text steps out out' err err' reads outs errs (Err NoMemory) is_text a (inr h) = inr (inr (record { text = text; is_text = is_text; accepted = a; written = h }))
reported IsDue HasNone held file text steps out out' err err' reads outs errs (Err Usage) is_text a h = absurd h
reported IsDue HasNone held file text steps out out' err err' reads outs errs (Err Network) is_text a h = absurd h
reported IsDue HasNone held file text steps out out' err err' reads outs errs (Err (Damaged at kind)) is_text a h = absurd h
reported IsDue HasNone held file text steps out out' err err' reads outs errs (Err (TooLarge most)) is_text a h = absurd h
reported IsDue HasNone held file text steps out out' err err' reads outs errs (Err (TwoEntries clique x y)) is_text a h = absurd h
reported IsDue HasNone held file text steps out out' err err' reads outs errs (Err (DamagedLine n)) is_text a h = absurd h
reported IsDue HasNone held file text steps out out' err err' reads outs errs (Err AnotherProgram) is_text a h = absurd h
reported IsDue HasNone held file text steps out out' err err' reads outs errs (Err Read) is_text a h = absurd h
reported IsDue HasNone held file text steps out out' err err' reads outs errs (Err TooLong) is_text a h = absurd h
reported IsDue HasNone held file text steps out out' err err' reads outs errs (Err (Refused line w)) is_text a h = absurd h
