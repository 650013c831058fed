-- What comes of a generated program.
use Rattle.std.proofs.Common.{◌≡◌, ◌∙◌, ◌≤◌, ◌^◌, refl, ap, sym, subst, inl, inr, ℕ, Bool, true, false, List, length, Option, Some, None, arith}
use Rattle.std.specs.Prelude.{Result, Ok, Err}
use Rattle.md_hlds.specs.Hlds.{Hlds}
use Rattle.md_hlds.specs.Run.{run, is_finished, error}
use Rattle.md_modes.specs.Modes.{mode_fault}
use Rattle.md_det.specs.Faults.{det_fault}
use Rattle.md_profiled.specs.OfRun.{IsViewOfRun}
use Rattle.md_profiled.specs.declared.profiled.Profiled.{Profiled}
use Rattle.md_query.specs.Asked.{Menu}
use Rattle.md_query.specs.PageOf.{page_of}
use Rattle.md_tool.specs.declared.fault.Fault.{Fault}
use Rattle.md_tool.specs.declared.fault.Fault.TheVariants.{Usage, Read, TooLong, Refused, OutOfSteps, Thrown, Damaged, TooLarge, TwoEntries, DamagedLine, AnotherProgram, NoSuchPage, Write, NoMemory, Network}
use Rattle.md_tool.specs.Accepted.{Accepted, NotAccepted, TextFault}
use Rattle.md_tool.specs.Due.{WriteEnds}
use Rattle.md_tool.specs.Ends.{TellsEnd, Finished, RanOut, Threw, end_by, ran_end}
use Rattle.law_generated.specs.Generated.{gen_text, generated, most_steps}
use Rattle.law_generated.specs.Runs.{generated_contexts}
use Rattle.law_generated.proofs.Read.{each_read}
use Rattle.law_generated.proofs.Checked.{each_moded, each_as_declared}
use Rattle.law_generated.proofs.Finished.{run-finished, most-enough}
use Rattle.law_generated.proofs.Contexts.{run-contexts}
use Rattle.md_tool.specs.Generated.{SummaryEnds, GenEnds}
use Rattle.md_tool.specs.Paged.{IsPaged, PageEnds}
use Rattle.md_tool.specs.Ran.{IsProfiledText}
use Rattle.md_tool.proofs.RunLemmas.{end_is}

-- what each generated text is read as
module _ (n : ℕ) (some : 1 ≤ n) (few : n ≤ 20) where
  its_program : (accepted : Accepted (gen_text n)) → accepted.program ≡ generated n
  its_program accepted = (let e : Ok accepted.program ≡ Ok (generated n) = sym accepted.is_read ∙ each_read n some few in cc)

  its_end : (accepted : Accepted (gen_text n)) → is_finished (run accepted.program most_steps) ≡ true
  its_end accepted = subst (λ (p : Hlds). is_finished (run p most_steps) ≡ true) (sym (its_program accepted)) (run-finished n most_steps some (omega arith) (most-enough n few))

  its_contexts : length (generated_contexts n most_steps) ≡ 2 ^ n
  its_contexts = run-contexts n most_steps some (omega arith) (most-enough n few)

  -- it isn't refused
  unrefused : (fault : Fault) → NotAccepted (gen_text n) fault → ⊥
  unrefused fault (inl unread) = (let e : Err unread.refusal ≡ Ok (generated n) = sym unread.is_refused ∙ each_read n some few in cc)
  unrefused fault (inr (inl moded)) =
      let p : Ok moded.program ≡ Ok (generated n) = sym moded.is_read ∙ each_read n some few in
      let same : moded.program ≡ generated n = cc in
      let none : mode_fault moded.program ≡ None = subst (λ (q : Hlds). mode_fault q ≡ None) (sym same) (each_moded n some few) in
      let found : Some moded.found ≡ None = sym moded.is_found ∙ none in
      cc
  unrefused fault (inr (inr declared)) =
      let p : Ok declared.program ≡ Ok (generated n) = sym declared.is_read ∙ each_read n some few in
      let same : declared.program ≡ generated n = cc in
      let none : det_fault declared.program ≡ None = subst (λ (q : Hlds). det_fault q ≡ None) (sym same) (each_as_declared n some few) in
      let found : Some declared.found ≡ None = sym declared.is_found ∙ none in
      cc

  module _ (out out' : Option (List ℕ)) (outs : Type 0) (profiled : Profiled) (c : IsProfiledText (gen_text n) most_steps profiled) where
    -- the code tells that the run is finished
    told_end : ran_end profiled.ran ≡ Finished
    told_end = end_is c.accepted.program most_steps profiled.ran c.is_profiled.is_run ∙ ap (λ (b : Bool). end_by b (error (run c.accepted.program most_steps))) (its_end c.accepted)

    pub summed : (r : Result (Unit {0}) Fault) → IsPaged (IsViewOfRun c.accepted.program most_steps) Menu out out' → TellsEnd (ran_end profiled.ran) r → SummaryEnds n out out' outs r
    summed (Ok done) paged told = record { accepted = c.accepted; program = its_program c.accepted; finished = its_end c.accepted; contexts = its_contexts; paged = paged }
    summed (Err Usage) paged told = absurd told
    summed (Err Network) paged told = absurd told
    summed (Err Read) paged told = absurd told
    summed (Err TooLong) paged told = absurd told
    summed (Err (Refused line w)) paged told = absurd told
    summed (Err OutOfSteps) paged told = (let e : Finished ≡ RanOut = sym told_end ∙ told in cc)
    summed (Err (Thrown bytes)) paged told = (let e : Finished ≡ Threw bytes.items = sym told_end ∙ told in cc)
    summed (Err (Damaged at kind)) paged told = absurd told
    summed (Err (TooLarge most)) paged told = absurd told
    summed (Err (TwoEntries clique x y)) paged told = absurd told
    summed (Err (DamagedLine n)) paged told = absurd told
    summed (Err AnotherProgram) paged told = absurd told
    summed (Err NoSuchPage) paged told = absurd told
    summed (Err Write) paged told = absurd told
    summed (Err NoMemory) paged told = absurd told

    -- the menu is a page of every view
    pub unsummed : (fault : Fault) → PageEnds (IsViewOfRun c.accepted.program most_steps) Menu out out' outs (Err fault) → SummaryEnds n out out' outs (Err fault)
    unfolding page_of
    unsummed Usage h = absurd h
    unsummed Network h = absurd h
    unsummed Read h = absurd h
    unsummed TooLong h = absurd h
    unsummed (Refused line w) h = absurd h
    unsummed OutOfSteps h = absurd h
    unsummed (Thrown bytes) h = absurd h
    unsummed (Damaged at kind) h = absurd h
    unsummed (TooLarge most) h = absurd h
    unsummed (TwoEntries clique x y) h = absurd h
    unsummed (DamagedLine line) h = absurd h
    unsummed AnotherProgram h = absurd h
    unsummed NoSuchPage h = absurd (let none = h.none in cc)
    unsummed Write h = (h.0, record { accepted = c.accepted; program = its_program c.accepted; paged = h.1 })
    unsummed NoMemory (inl h) = inl h
    unsummed NoMemory (inr h) = inr (record { accepted = c.accepted; program = its_program c.accepted; paged = h })

  pub unaccepted : (out : Option (List ℕ)) (outs : Type 0) (fault : Fault) → TextFault (gen_text n) fault → SummaryEnds n out out outs (Err fault)
  unaccepted out outs Usage h = absurd h
  unaccepted out outs Network h = absurd h
  unaccepted out outs Read h = absurd h
  unaccepted out outs TooLong h = absurd h
  unaccepted out outs (Refused line w) h = absurd (unrefused (Refused line w) h)
  unaccepted out outs OutOfSteps h = absurd h
  unaccepted out outs (Thrown bytes) h = absurd h
  unaccepted out outs (Damaged at kind) h = absurd h
  unaccepted out outs (TooLarge most) h = absurd h
  unaccepted out outs (TwoEntries clique x y) h = absurd h
  unaccepted out outs (DamagedLine line) h = absurd h
  unaccepted out outs AnotherProgram h = absurd h
  unaccepted out outs NoSuchPage h = absurd h
  unaccepted out outs Write h = absurd h
  unaccepted out outs NoMemory h = inl refl

pub text_written : (n : ℕ) (summary : Bool) (out out' : Option (List ℕ)) (outs : Type 0) (r : Result (Unit {0}) Fault) → summary ≡ false → WriteEnds (gen_text n) out out' outs r → GenEnds n summary out out' outs r
text_written n summary out out' outs r plain h = subst (λ (s : Bool). GenEnds n s out out' outs r) (sym plain) h
