-- Which line of a text that spells no profile is the first at fault.
use Rattle.std.specs.Prelude.{ℕ, ◌≡◌, ◌⊎◌, ◌+◌, ◌<◌, ◌^◌, List, [], ◌++◌, length, All, Any, IsTrue}
use Rattle.md_dynamic.specs.Profile.{ProfileRows}
use Rattle.md_dynamic.specs.Valid.{leads_down}
use Rattle.law_faults.specs.Lines.{Line, laid, Keeps, lines, before_context}

-- no list has more than 4,294,967,295 members
pub record AreFew (f : ProfileRows) : Type 0 where
  pub modules : length f.statics.modules < 2 ^ 32
  pub procs : length f.statics.procs < 2 ^ 32
  pub sites : length f.statics.sites < 2 ^ 32
  pub contexts : length f.nodes < 2 ^ 32
  pub links : length f.links < 2 ^ 32

-- the text begins with the first lines of these rows, which keep their rules; other lines follow, and other bytes
pub record Begins (text : List ℕ) (f : ProfileRows) (first others : List Line) (rest : List ℕ) : Type 0 where
  pub few : AreFew f
  pub are : lines f ≡ first ++ others
  pub keep : All Keeps first
  pub text_is : text ≡ laid first ++ rest

-- So many lines of the text are the first lines of some rows, and keep their rules, and the text isn't at its end there; with line n
-- it isn't so, whichever the rows are.
pub record EndsBefore (text : List ℕ) (n : ℕ) : Type 0 where
  pub f : ProfileRows
  pub first : List Line
  pub others : List Line
  pub rest : List ℕ
  pub begins : Begins text f first others rest
  pub place : n ≡ length first + 1
  pub goes_on : others ≡ [] → rest ≡ [] → ⊥
  pub none : (g : ProfileRows) (more after : List Line) (bytes : List ℕ) → Begins text g more after bytes → length more ≡ n → ⊥

-- context v above 0 is reached from none of a lower number, and each lower one is
pub record IsLowestOrphan (f : ProfileRows) (v : ℕ) : Type 0 where
  pub above : 0 < v
  pub within : v < length f.nodes
  pub alone : Any (λ link. IsTrue (leads_down v link)) f.links → ⊥
  pub lower : (u : ℕ) → 0 < u → u < v → Any (λ link. IsTrue (leads_down u link)) f.links

-- all lines keep their rules, and nothing follows, but line n is that of a context that isn't reached
pub record HasOrphan (text : List ℕ) (n : ℕ) : Type 0 where
  pub f : ProfileRows
  pub v : ℕ
  pub begins : Begins text f (lines f) [] []
  pub orphan : IsLowestOrphan f v
  pub place : n ≡ length (before_context f v) + 1

-- line n is the first at fault
abbrev pub IsFirstFaulty : List ℕ → ℕ → Type 0
IsFirstFaulty text n = EndsBefore text n ⊎ HasOrphan text n
