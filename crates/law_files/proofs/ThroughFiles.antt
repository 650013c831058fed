-- What a run's file says is what the run says, and so is what is read off it.
use Rattle.std.proofs.Common.{◌≡◌, ℕ, ◌<◌, ◌≤◌, ◌^◌, List, length, Option, None, Some, Result, refl, sym, ap, subst, ◌∙◌}
use Rattle.md_base.specs.Files.{Files, with_file}
use Rattle.md_base.proofs.Told.{with_file-named}
use Rattle.md_hlds.specs.Hlds.{Hlds}
use Rattle.md_hlds.specs.Run.{is_finished, run}
use Rattle.md_trace.specs.PortHistory.{IsPortHistory}
use Rattle.law_events.specs.History.{history}
use Rattle.law_events.specs.Table.{site_table}
use Rattle.law_spelled.proofs.TextLaws.{accepted_runs_are_histories}
use Rattle.md_ports.specs.Ports.{statics_of}
use Rattle.md_dynamic.specs.Profile.{ProfileRows}
use Rattle.md_deepfile.specs.Loads.{FileSpells}
use Rattle.md_deepfile.specs.Spells.{Spells}
use Rattle.md_cost.specs.FileView.{IsFileView}
use Rattle.md_cost.specs.View.{View}
use Rattle.law_views.proofs.OneView.{file_view_of, run_view_of}
use Rattle.md_query.specs.Asked.{Asked}
use Rattle.md_query.specs.Page.{PageRows}
use Rattle.md_query.specs.PageOf.{page_of}
use Rattle.md_render.specs.Text.{text_of}
use Rattle.md_http.specs.declared.serving.ServeFault.{ServeFault}
use Rattle.md_http.specs.declared.serving.Tally.{Tally}
use Rattle.md_profiled.specs.OfRun.{IsViewOfRun}
use Rattle.md_tool.specs.Accepted.{Accepted}
use Rattle.md_tool.specs.Due.{longest}
use Rattle.md_tool.specs.Kept.{IsKept, IsRunFile}
use Rattle.md_tool.specs.Reported.{IsPageOfRun, HasNoPageOfRun}
use Rattle.md_tool.specs.Served.{NetSide, HasServed}
use Rattle.md_tool.specs.Stored.{longest_profile}
use Rattle.law_files.specs.Spelled.{AreWhole}
use Rattle.law_files.specs.Through.{HasLeftFile, HasNoPageOfFile, HoldsRunFile, IsPageOfFile, IsServedByRun, PageShowsTheRun, SayTheRun}
use Rattle.law_files.specs.Views.{HasView, IsEnteredTwice}
use Rattle.law_files.proofs.OfRuns.{never_twice, view_of_run}
use Rattle.law_files.proofs.Rooms.{has_room}
use Rattle.law_files.proofs.SpelledFiles.{encoded}

module _ (text : List ℕ) (accepted : Accepted text) (steps : ℕ) (short : length text ≤ longest) (small : steps < 2 ^ 32) where
  abbrev program : Hlds
  program = accepted.program

  its_history : IsPortHistory (site_table program) (history (run program steps))
  its_history = accepted_runs_are_histories text program steps accepted.spelled accepted.modes small

  module _ (bytes : List ℕ) (file : IsRunFile steps program bytes) where
    abbrev f : ProfileRows
    f = file.profile

    run_view : (v : View) → IsFileView f v → IsViewOfRun program steps v
    run_view v viewed = run_view_of (site_table program) (statics_of program) (history (run program steps)) (is_finished (run program steps)) f v its_history file.is_profile file.valid viewed

    file_view : (v : View) → IsViewOfRun program steps v → IsFileView f v
    file_view v run_says = file_view_of (site_table program) (statics_of program) (history (run program steps)) (is_finished (run program steps)) f v its_history file.is_profile file.valid run_says

    whole : AreWhole bytes f
    whole = subst (λ (bs : List ℕ). AreWhole bs f) (sym file.is) (encoded f file.valid (has_room text program steps f accepted.spelled short file.is_profile))

    -- a profile that the bytes spell is that one, and its views are the run's
    its_view : (g : ProfileRows) (v : View) → Spells bytes g → IsFileView g v → IsViewOfRun program steps v
    its_view g v spelled viewed = run_view v (subst (λ (x : ProfileRows). IsFileView x v) (whole.alone g spelled) viewed)

    once : IsEnteredTwice f → ⊥
    once = never_twice (site_table program) (statics_of program) (history (run program steps)) (is_finished (run program steps)) f its_history file.is_profile

    view : (v : View) × HasView f v
    view = view_of_run (site_table program) (statics_of program) (history (run program steps)) (is_finished (run program steps)) f its_history file.is_profile file.valid

    -- views of the run are the same, and so are what they show
    same_view : (v w : View) → IsViewOfRun program steps v → IsViewOfRun program steps w → v ≡ w
    same_view v w one other = view.1.alone v (file_view v one) ∙ sym (view.1.alone w (file_view w other))

    same_page : (query : Asked) (text' other : List ℕ) → IsPageOfRun query steps program text' → IsPageOfRun query steps program other → text' ≡ other
    same_page query text' other p q =
        let views = same_view p.view q.view p.is_view q.is_view in
        let both : Some p.page ≡ Some q.page = sym p.is_page ∙ (ap (λ (v : View). page_of v query) views ∙ q.is_page) in
        let pages : p.page ≡ q.page = cc in
        p.is ∙ (ap (λ (v : View). text_of v p.page) views ∙ (ap (λ (page : PageRows). text_of q.view page) pages ∙ sym q.is))

    page_or_none : (query : Asked) (text' : List ℕ) → IsPageOfRun query steps program text' → HasNoPageOfRun query steps program → ⊥
    page_or_none query text' p q =
        let both : Some p.page ≡ None = sym p.is_page ∙ (ap (λ (v : View). page_of v query) (same_view p.view q.view p.is_view q.is_view) ∙ q.none) in cc

    pub says_the_run : SayTheRun steps program bytes
    says_the_run = record {
      profile = f;
      whole = whole;
      once = once;
      view = view.0;
      viewed = view.1;
      of_run = run_view view.0 view.1.is_view;
      alone = λ v run_says. view.1.alone v (file_view v run_says);
      pages = λ query page. (
        (λ (p : IsPageOfFile query bytes page). record { view = p.view; is_view = its_view p.profile p.view p.spelled p.is_view; page = p.page; is_page = p.is_page; is = p.is }),
        (λ (p : IsPageOfRun query steps program page). record { profile = f; spelled = whole.spelled; view = p.view; is_view = file_view p.view p.is_view; page = p.page; is_page = p.is_page; is = p.is }),
      );
      lacks = λ query. (
        (λ (p : HasNoPageOfFile query bytes). record { view = p.view; is_view = its_view p.profile p.view p.spelled p.is_view; none = p.none }),
        (λ (p : HasNoPageOfRun query steps program). record { profile = f; spelled = whole.spelled; view = p.view; is_view = file_view p.view p.is_view; none = p.none }),
      );
      one_page = same_page;
      never_both = page_or_none;
    }

  module _ (files : Files) (name : List ℕ) (holds : HoldsRunFile files name steps program) where
    -- what a file under that name spells is what these bytes spell
    its_bytes : (bytes : List ℕ) → files name ≡ Some bytes → bytes ≡ holds.bytes
    its_bytes bytes held = let both : Some bytes ≡ Some holds.bytes = sym held ∙ holds.held in cc

    spelled_there : (most : ℕ) (g : ProfileRows) → FileSpells (Some files) name most g → Spells holds.bytes g
    spelled_there most g there = subst (λ (bs : List ℕ). Spells bs g) (its_bytes there.0 there.1) there.3

    view_there : (most : ℕ) (g : ProfileRows) (v : View) → FileSpells (Some files) name most g → IsFileView g v → IsViewOfRun program steps v
    view_there most g v there viewed = its_view holds.bytes holds.is_run g v (spelled_there most g there) viewed

    pub page_shows : (query : Asked) (out out' : Option (List ℕ)) (reads outs : Type 0) → PageShowsTheRun steps program (Some files) name query out out' reads outs
    page_shows query out out' reads outs = record {
      shown = λ ends. record {
        text = text_of ends.ends.view ends.ends.page;
        is_due = record {
          view = ends.ends.view;
          is_view = view_there longest_profile ends.profile ends.ends.view ends.spelled ends.ends.is_meant;
          page = ends.ends.page;
          is_page = ends.ends.is_page;
          is = refl;
        };
        written = ends.ends.written;
      };
      none = λ ends. (
        record { view = ends.ends.view; is_view = view_there longest_profile ends.profile ends.ends.view ends.spelled ends.ends.is_meant; none = ends.ends.none },
        ends.ends.untouched,
      );
      whole = λ at kind ends. (
          let file = ends.0 in
          (whole holds.bytes holds.is_run).undamaged _ (rw (its_bytes file.0 file.1) at file.3));
      once = λ clique a b ends. (
          let twice = ends.0 in
          let same = (whole holds.bytes holds.is_run).alone twice.profile (spelled_there longest_profile twice.profile twice.spelled) in
          once holds.bytes holds.is_run (record { clique = clique; first = a; second = b; twice = rw same at twice.twice }));
    }

    pub serving_tells : (port requests : ℕ) (net net' : NetSide) (r : Result Tally ServeFault) → HasServed (Some files) name port requests net net' r → IsServedByRun steps program port requests net net' r
    serving_tells port requests net net' r served = record {
      view = served.view;
      is_view = view_there longest_profile served.profile served.view served.spelled served.is_view;
      bound = served.bound;
      served = served.served;
    }

-- what was stored is what the store has then
pub left_file : (files : Files) (held : Option Files) (name : List ℕ) (steps : ℕ) (s : Hlds) (out out' : Option (List ℕ)) → IsKept (IsRunFile steps s) s steps name (Some files) held out out' → HasLeftFile held name steps s
left_file files held name steps s out out' kept = record {
  files = with_file name kept.bytes files;
  is_held = kept.stored;
  holds = record { bytes = kept.bytes; is_run = kept.is_due; held = with_file-named name kept.bytes files };
}
