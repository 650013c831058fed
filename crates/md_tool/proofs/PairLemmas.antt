-- From the profile of a run to the pairs of its calls.
use Rattle.std.proofs.Common.{◌≡◌, ◌∙◌, sym, subst, ℕ, List}
use Rattle.std.specs.Prelude.{Vec, Result, Ok, Err, IfOk, IsTrue}
use Rattle.std.specs.declared.alloc.Global.{Global}
use Rattle.md_base.specs.declared.number.NoMemory.{NoMemory}
use Rattle.md_cost.specs.FileView.{IsFileView}
use Rattle.md_cost.specs.View.{View}
use Rattle.md_dynamic.specs.Profile.{ProfileRows}
use Rattle.law_events.specs.Laws.{IsWithinBounds}
use Rattle.law_events.specs.Table as events
use Rattle.md_feedback.specs.declared.pairs.Feedback.{Feedback}
use Rattle.md_feedback.specs.Candidates.{AreCandidates}
use Rattle.md_feedback.specs.Search.{HasSitesOf}
use Rattle.md_feedback.specs.Text.{IsValid, feedback_text}
use Rattle.md_hlds.specs.Hlds.{Hlds, procedure_called}
use Rattle.md_hlds.specs.Run.{main_name}
use Rattle.md_machine.specs.Ran.{IsRunOf}
use Rattle.md_ports.specs.Ports.{statics_of}
use Rattle.md_profiled.specs.OfRun.{IsProfileOfRun, IsViewOfRun}
use Rattle.law_spelled.specs.Laws.{TextsHaveNames}
use Rattle.md_static.specs.Names.{is_name}
use Rattle.md_static.specs.Tables.{Static, site_table}
use Rattle.md_tool.specs.Accepted.{Accepts}
use Rattle.md_tool.specs.Candidates.{IsFeedbackOfRun, IsPaired}
use Rattle.md_tool.specs.declared.pairs.Paired.{Paired}

-- ---- the tables of a run's profile have the program's call sites

pub has_sites : ((program : Hlds) → site_table (statics_of program) (events.number_or_zero (events.number_of (procedure_called program main_name))) ≡ events.site_table program)
    → ((program : Hlds) (tables : Static) (main : ℕ) → events.HasSites program → site_table tables main ≡ events.site_table program → HasSitesOf program tables)
    → (program : Hlds) (budget : ℕ) (f : ProfileRows) → IsWithinBounds program budget → IsProfileOfRun program budget f → HasSitesOf program f.statics
has_sites gives has program budget f bounds p =
    subst (HasSitesOf program) (sym p.tables)
    (has program (statics_of program) (events.number_or_zero (events.number_of (procedure_called program main_name))) bounds.sites (gives program))

-- ---- the text of the pairs

pub feedback_is : (program : Hlds) (budget least k : ℕ) (f : ProfileRows) (feedback : Feedback) (text : List ℕ) → (v : View) × IsFileView f v → ((v : View) → IsFileView f v → IsViewOfRun program budget v)
    → k ≡ least → feedback.module ≡ program.module_name → feedback.least ≡ k → ((v : View) → IsFileView f v → AreCandidates program v k feedback.pairs) → (IsTrue (is_name feedback.module) → IsValid feedback)
    → IsTrue (is_name program.module_name) → text ≡ feedback_text feedback → IsFeedbackOfRun least budget program text
feedback_is program budget least k f feedback text viewed means same named shared pairs valid name is = record {
  view = viewed.0;
  is_view = means viewed.0 viewed.1;
  feedback = feedback;
  module_is = named;
  least_is = shared ∙ same;
  pairs = subst (λ (n : ℕ). AreCandidates program viewed.0 n feedback.pairs) same (pairs viewed.0 viewed.1);
  spelled = record { valid = valid (subst (λ (m : List ℕ). IsTrue (is_name m)) (sym named) name); is = is };
}

-- what the loaded profile says is what the run says
pub pairs_due : (program : Hlds) (least : ℕ) (f loaded : ProfileRows) (r : Result (Vec ℕ Global) NoMemory)
    → IfOk r (λ text. (budget : ℕ) → ((v : View) → IsFileView loaded v → IsViewOfRun program budget v) → IsFeedbackOfRun least budget program text.items)
    → ((budget : ℕ) → IsWithinBounds program budget → IsProfileOfRun program budget f → (v : View) → IsFileView loaded v → IsViewOfRun program budget v)
    → IfOk r (λ text. (budget : ℕ) → IsWithinBounds program budget → IsProfileOfRun program budget f → IsFeedbackOfRun least budget program text.items)
pairs_due program least f loaded (Ok text) h means = λ budget bounds p. h budget (means budget bounds p)
pairs_due program least f loaded (Err e) h means = tt

-- ---- of an accepted text

pub has_name : TextsHaveNames → (text : List ℕ) (program : Hlds) → Accepts text program → IsTrue (is_name program.module_name)
has_name law text program a = subst (λ (p : Hlds). IsTrue (is_name p.module_name)) a.is_program (law text a.accepted.program a.accepted.spelled).module_name

pub paired_text : (text : List ℕ) (program : Hlds) (steps least : ℕ) (paired : Paired) → Accepts text program → IsRunOf program steps paired.ran → IsFeedbackOfRun least steps program paired.text.items → IsPaired text steps least paired
paired_text text program steps least paired a run due = record {
  accepted = a.accepted;
  is_run = subst (λ (p : Hlds). IsRunOf p steps paired.ran) (sym a.is_program) run;
  is_due = subst (λ (p : Hlds). IsFeedbackOfRun least steps p paired.text.items) (sym a.is_program) due;
}
