-- The page of a view, written to a stream.
use Rattle.std.specs.Prelude.{ℕ, ◌≡◌, ◌⊎◌, List, Option, None, Some, Result, Ok, Err}
use Rattle.md_base.specs.Outside.{added, PartAdded}
use Rattle.md_cost.specs.View.{View}
use Rattle.md_query.specs.Asked.{Asked}
use Rattle.md_cost.specs.FileView.{IsFileView}
use Rattle.md_dynamic.specs.Profile.{ProfileRows}
use Rattle.md_query.specs.Page.{PageRows, IsWithin}
use Rattle.md_query.specs.PageOf.{page_of}
use Rattle.md_render.specs.Text.{text_of}
use Rattle.md_tool.specs.declared.fault.Fault.{Fault}
use Rattle.md_tool.specs.declared.fault.Fault.TheVariants.{NoSuchPage, Write, NoMemory}

-- the page that the query asks for, of the view that is meant, was written
pub record IsPaged (IsMeant : View → Type 0) (query : Asked) (before now : Option (List ℕ)) : Type 0 where
  pub view : View
  pub is_meant : IsMeant view
  pub page : PageRows
  pub is_page : page_of view query ≡ Some page
  pub written : now ≡ added (text_of view page) before

-- a front of it was written
pub record IsPagedInPart (IsMeant : View → Type 0) (query : Asked) (before now : Option (List ℕ)) : Type 0 where
  pub view : View
  pub is_meant : IsMeant view
  pub page : PageRows
  pub is_page : page_of view query ≡ Some page
  pub written : PartAdded (text_of view page) before now

-- the view has no such page, and nothing was written
pub record LacksPage (IsMeant : View → Type 0) (query : Asked) (before now : Option (List ℕ)) : Type 0 where
  pub view : View
  pub is_meant : IsMeant view
  pub none : page_of view query ≡ None
  pub untouched : now ≡ before

-- what the writing of a page came to: `writes` says that the stream's count of faults rose
abbrev pub PageEnds : (View → Type 0) → Asked → (before now : Option (List ℕ)) → (writes : Type 0) → Result (Unit {0}) Fault → Type 0
PageEnds IsMeant query before now writes (Ok done) = IsPaged IsMeant query before now
PageEnds IsMeant query before now writes (Err NoSuchPage) = LacksPage IsMeant query before now
PageEnds IsMeant query before now writes (Err Write) = writes × IsPagedInPart IsMeant query before now
PageEnds IsMeant query before now writes (Err NoMemory) = (now ≡ before) ⊎ IsPagedInPart IsMeant query before now
PageEnds IsMeant query before now writes (Err fault) = ⊥

-- the page that the query asks for, of each view of a profile, and its numbers are within the profile
pub record IsPageOf (f : ProfileRows) (query : Asked) (page : PageRows) : Type 0 where
  pub is_page : (v : View) → IsFileView f v → page_of v query ≡ Some page
  pub within : IsWithin f page

-- no view of the profile has such a page
abbrev pub PageFails : ProfileRows → Asked → Fault → Type 0
PageFails f query NoSuchPage = (v : View) → IsFileView f v → page_of v query ≡ None
PageFails f query NoMemory = Unit {0}
PageFails f query fault = ⊥
