-- From the profile of a run to the turns of a procedure's goals.
use Rattle.std.proofs.Common.{◌≡◌, ◌∙◌, refl, sym, ap, subst, inl, inr, ℕ, ◌<◌, ◌^◌, List, length, Option, Some, None, true≢false, arith}
use Rattle.std.proofs.lemmas.List.{length-map}
use Rattle.std.proofs.lemmas.Option.{slice_get_cases}
use Rattle.std.specs.Prelude.{Vec, is_some, slice_get, unwrap_or}
use Rattle.std.specs.Str.{bytes_eq}
use Rattle.std.specs.declared.alloc.Global.{Global}
use Rattle.md_cover.specs.Coverage.{IsCountedIn, IsCoverageOf}
use Rattle.md_cover.specs.Covered.{Covered}
use Rattle.md_cover.specs.Text.{cover_text}
use Rattle.md_dynamic.specs.OfHistory.{IsProfileOf}
use Rattle.md_dynamic.specs.Profile.{ProfileRows}
use Rattle.md_dynamic.specs.Valid.{IsValid}
use Rattle.law_events.specs.History.{history}
use Rattle.law_events.specs.Laws.{IsWithinBounds, RunsAreHistories}
use Rattle.law_events.specs.Table.{site_table}
use Rattle.md_hlds.specs.Hlds.{Hlds, Procedure}
use Rattle.md_hlds.specs.Run.{run, is_finished}
use Rattle.md_machine.specs.Ran.{IsRunOf}
use Rattle.md_people.specs.Words.{full_name, proc_named}
use Rattle.md_ports.specs.Ports.{proc_of, statics_of}
use Rattle.md_profiled.specs.OfRun.{IsProfileOfRun}
use Rattle.md_query.proofs.ListSteps.{found_there}
use Rattle.md_static.specs.Tables.{Static}
use Rattle.md_trace.specs.PortHistory.{SiteTable, IsPortHistory}
use Rattle.md_tool.specs.Accepted.{Accepts}
use Rattle.md_commands.specs.Form.{Meant, Number, Name}
use Rattle.md_tool.specs.Turns.{HasNoProcedure, IsCoverageOfRun, IsTextOfTurns, IsCounted, number_in}
use Rattle.md_tool.specs.declared.turns.Counted.{Counted}

pub counted_text : (text : List ℕ) (program : Hlds) (procedure : Meant) (steps : ℕ) (counted : Counted) → Accepts text program → IsRunOf program steps counted.ran → IsTextOfTurns program procedure steps counted.text
    → IsCounted text procedure steps counted
counted_text text program procedure steps counted a run turns = record {
  accepted = a.accepted;
  is_run = subst (λ (p : Hlds). IsRunOf p steps counted.ran) (sym a.is_program) run;
  is_text = subst (λ (p : Hlds). IsTextOfTurns p procedure steps counted.text) (sym a.is_program) turns;
}

-- the profile of the run has its counts
pub counted_in : RunsAreHistories
    → ((t : SiteTable) (s : Static) (program : Hlds) (budget : ℕ) (f : ProfileRows) → IsPortHistory t (history (run program budget))
    → IsProfileOf s t.main (history (run program budget)) (is_finished (run program budget)) f → IsValid f → budget < 2 ^ 32 → IsCountedIn program budget f)
    → (program : Hlds) (budget : ℕ) (f : ProfileRows) → IsWithinBounds program budget → IsProfileOfRun program budget f → IsValid f → IsCountedIn program budget f
counted_in histories counts program budget f bounds p valid = counts (site_table program) (statics_of program) program budget f (histories program budget bounds) p valid bounds.small

pub covered : (program : Hlds) (budget procedure : ℕ) (f : ProfileRows) (c : Covered) (text : List ℕ) → IsProfileOfRun program budget f → (q : Procedure) × (slice_get program.procedures procedure ≡ Some q)
    → ((q : ℕ × Procedure) → q.0 ≡ procedure → slice_get program.procedures q.0 ≡ Some q.1 → IsCountedIn program budget f → IsCoverageOf program budget f q c)
    → IsCountedIn program budget f → text ≡ cover_text f.statics c → IsCoverageOfRun (Number procedure) budget program text
covered program budget procedure f c text p found covers counted is = record {
  number = procedure;
  is_meant = refl;
  profile = f;
  is_profile = p;
  covers = found.0;
  there = found.1;
  coverage = c;
  is_coverage = covers (procedure, found.0) refl found.1 counted;
  is = is ∙ ap (λ (s : Static). cover_text s c) p.tables;
}

-- ---- the procedure that is meant

-- a name is that of a procedure
named_is_there : (program : Hlds) (name : List ℕ) (q : ℕ) → proc_named (statics_of program) name ≡ Some q → slice_get program.procedures q ≡ None → ⊥
named_is_there program name q named none =
    let lt = found_there (λ (n : ℕ). bytes_eq (full_name (statics_of program) n) name) (length (statics_of program).procs) q named in
    let same = length-map program.procedures (proc_of program) in
    elim (slice_get_cases program.procedures q).1 [
      | inl there ↦ absurd (true≢false (sym (ap is_some (sym none ∙ there.2))))
      | inr past ↦ let ge = past.0 in omega (arith, lt, same, ge)
    ]

-- no procedure is meant
pub none_meant : (program : Hlds) (m : Meant) → number_in (statics_of program) m ≡ None → HasNoProcedure m program
none_meant program (Number n) none = absurd (cc)
none_meant program (Name name) none = none

-- the text of the procedure of a number is that of what means the number
pub meant_turns : (program : Hlds) (m : Meant) (q steps : ℕ) (text : Option (Vec ℕ Global)) → number_in (statics_of program) m ≡ Some q → IsTextOfTurns program (Number q) steps text → IsTextOfTurns program m steps text
meant_turns program m q steps (Some text) is t = record {
  number = t.number;
  is_meant = is ∙ t.is_meant;
  profile = t.profile;
  is_profile = t.is_profile;
  covers = t.covers;
  there = t.there;
  coverage = t.coverage;
  is_coverage = t.is_coverage;
  is = t.is;
}
meant_turns program (Number n) q steps None is none = ap (λ (o : Option ℕ). slice_get program.procedures (unwrap_or o n)) is ∙ none
meant_turns program (Name name) q steps None is none = absurd (named_is_there program name q is none)
