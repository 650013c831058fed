-- A run on its way through a file: what the file says that `run` leaves, and what is read off it by `page` and `serve`.
use Rattle.std.specs.Prelude.{ℕ, ◌≡◌, ◌↔◌, List, Option, None, Some, Result, Ok, Err}
use Rattle.md_base.specs.Files.{Files}
use Rattle.md_hlds.specs.Hlds.{Hlds}
use Rattle.md_dynamic.specs.Profile.{ProfileRows}
use Rattle.md_deepfile.specs.Spells.{Spells}
use Rattle.md_deepfile.specs.declared.damage.Kind.{Kind}
use Rattle.md_cost.specs.FileView.{IsFileView}
use Rattle.md_cost.specs.View.{View}
use Rattle.md_query.specs.Asked.{Asked}
use Rattle.md_query.specs.Page.{PageRows}
use Rattle.md_query.specs.PageOf.{page_of}
use Rattle.md_render.specs.Text.{text_of}
use Rattle.md_http.specs.declared.serving.ServeFault.{ServeFault}
use Rattle.md_http.specs.declared.serving.Tally.{Tally}
use Rattle.md_profiled.specs.OfRun.{IsViewOfRun}
use Rattle.md_tool.specs.Due.{IsWritten}
use Rattle.md_tool.specs.Kept.{IsRunFile}
use Rattle.md_tool.specs.Reported.{IsPageOfRun, HasNoPageOfRun}
use Rattle.md_tool.specs.Served.{NetSide, ServesTold}
use Rattle.md_tool.specs.Stored.{StoredEnds}
use Rattle.md_tool.specs.declared.fault.Fault.TheVariants.{Damaged, NoSuchPage, TwoEntries}
use Rattle.law_files.specs.Spelled.{AreWhole}
use Rattle.law_files.specs.Views.{HasView, IsEnteredTwice}

-- ---- the pages of a file

-- the page that the query asks for, of a view of the profile that these bytes spell, as text
pub record IsPageOfFile (query : Asked) (bytes text : List ℕ) : Type 0 where
  pub profile : ProfileRows
  pub spelled : Spells bytes profile
  pub view : View
  pub is_view : IsFileView profile view
  pub page : PageRows
  pub is_page : page_of view query ≡ Some page
  pub is : text ≡ text_of view page

-- a view of that profile has no such page
pub record HasNoPageOfFile (query : Asked) (bytes : List ℕ) : Type 0 where
  pub profile : ProfileRows
  pub spelled : Spells bytes profile
  pub view : View
  pub is_view : IsFileView profile view
  pub none : page_of view query ≡ None

-- ---- a run's file

-- The bytes spell one profile, and nothing is wrong with them. No clique of it is entered by two links, it has one view, and this is the
-- one view of the run. So whatever is asked, the page of the file is that of the run, and where the one has none the other has none;
-- and there is one page at most.
pub record SayTheRun (steps : ℕ) (program : Hlds) (bytes : List ℕ) : Type 0 where
  pub profile : ProfileRows
  pub whole : AreWhole bytes profile
  pub once : IsEnteredTwice profile → ⊥
  pub view : View
  pub viewed : HasView profile view
  pub of_run : IsViewOfRun program steps view
  pub alone : (v : View) → IsViewOfRun program steps v → v ≡ view
  pub pages : (query : Asked) (text : List ℕ) → IsPageOfFile query bytes text ↔ IsPageOfRun query steps program text
  pub lacks : (query : Asked) → HasNoPageOfFile query bytes ↔ HasNoPageOfRun query steps program
  pub one_page : (query : Asked) (text other : List ℕ) → IsPageOfRun query steps program text → IsPageOfRun query steps program other → text ≡ other
  pub never_both : (query : Asked) (text : List ℕ) → IsPageOfRun query steps program text → HasNoPageOfRun query steps program → ⊥

-- ---- what the commands come to that read such a file

-- `page` shows the page of the run, or says that the run has none; it never finds damage, nor a clique that two links enter
pub record PageShowsTheRun (steps : ℕ) (program : Hlds) (held : Option Files) (name : List ℕ) (query : Asked) (out out' : Option (List ℕ)) (reads outs : Type 0) : Type 0 where
  pub shown : StoredEnds held name query out out' reads outs (Ok tt) → IsWritten (IsPageOfRun query steps program) out out'
  pub none : StoredEnds held name query out out' reads outs (Err NoSuchPage) → HasNoPageOfRun query steps program × (out' ≡ out)
  pub whole : (at : ℕ) (kind : Kind) → StoredEnds held name query out out' reads outs (Err (Damaged at kind)) → ⊥
  pub once : (clique a b : ℕ) → StoredEnds held name query out out' reads outs (Err (TwoEntries clique a b)) → ⊥

-- `serve` answers by a view of the run, at this port
pub record IsServedByRun (steps : ℕ) (program : Hlds) (port requests : ℕ) (net net' : NetSide) (r : Result Tally ServeFault) : Type 0 where
  pub view : View
  pub is_view : IsViewOfRun program steps view
  pub bound : net'.port ≡ Some port
  pub served : ServesTold view requests net.connections net'.connections r

-- the store has such a file under this name
pub record HoldsRunFile (files : Files) (name : List ℕ) (steps : ℕ) (program : Hlds) : Type 0 where
  pub bytes : List ℕ
  pub is_run : IsRunFile steps program bytes
  pub held : files name ≡ Some bytes

-- what a store that tells its content has after a run
pub record HasLeftFile (held : Option Files) (name : List ℕ) (steps : ℕ) (program : Hlds) : Type 0 where
  pub files : Files
  pub is_held : held ≡ Some files
  pub holds : HoldsRunFile files name steps program
