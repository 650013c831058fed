-- What a program's procedures cost over several runs: sums over the views of its files.
use Rattle.std.specs.Prelude.{ℕ, ◌≡◌, ◌≢◌, ◌+◌, ◌<◌, ◌^◌, List, [], ◌∷◌, length, map, All, Option, None, Some, option_map, slice_get, IfSome, IfNone}
use Rattle.md_base.specs.declared.measure.Measure.{Measure}
use Rattle.md_static.specs.Tables.{Static}
use Rattle.md_cost.specs.Climbing.{AreSmall}
use Rattle.md_cost.specs.FileView.{IsFileView}
use Rattle.md_cost.specs.Loading.{LoadedRows}
use Rattle.md_cost.specs.SumOf.{sum_of}
use Rattle.md_cost.specs.View.{View, OfProcedure}
use Rattle.md_dump.specs.declared.summing.ProcSum.{ProcSum}
use Rattle.md_dump.specs.declared.summing.SumFault.{SumFault}
use Rattle.md_dump.specs.declared.summing.SumFault.TheVariants.{Differ, NoMemory}

-- the tables of the program of a file
abbrev pub statics_at : List LoadedRows → ℕ → Option Static
statics_at files place = option_map (λ f. f.profile.statics) (slice_get files place)

-- this file isn't of the first one's program, and those before it are
pub record IsFirstOther (files : List LoadedRows) (place : ℕ) : Type 0 where
  pub there : place < length files
  pub other : statics_at files place ≢ statics_at files 0
  pub before : (k : ℕ) → k < place → statics_at files k ≡ statics_at files 0

-- all files are of one program
abbrev pub AreOfOne : List LoadedRows → Type 0
AreOfOne files = (k : ℕ) → k < length files → statics_at files k ≡ statics_at files 0

-- a view of each file, in order
abbrev pub AreViews : List LoadedRows → List View → Type 0
AreViews [] [] = Unit {0}
AreViews [] (v ∷ vs) = ⊥
AreViews (f ∷ fs) [] = ⊥
AreViews (f ∷ fs) (v ∷ vs) = IsFileView f.profile v × AreViews fs vs

-- there is such a list of views
abbrev pub HaveViews : List LoadedRows → Type 0
HaveViews files = (vs : List View) × AreViews files vs

abbrev pub plus : Option ℕ → Option ℕ → Option ℕ
plus None n = None
plus (Some m) n = option_map (λ k. m + k) n

-- the sum of numbers that are all there
abbrev pub sum_all : List (Option ℕ) → Option ℕ
sum_all [] = Some 0
sum_all (n ∷ ns) = plus n (sum_all ns)

-- the own counts and the total of a procedure, added up over the views of all files
pub record IsProcSum (files : List LoadedRows) (id : ℕ) (row : ProcSum) : Type 0 where
  pub is : row.id ≡ id
  pub own : (vs : List View) (m : Measure) → AreViews files vs → sum_all (map (λ v. v.own (OfProcedure id) m) vs) ≡ Some (sum_of row.own m)
  pub total : (vs : List View) (m : Measure) → AreViews files vs → sum_all (map (λ v. v.total (OfProcedure id) m) vs) ≡ Some (sum_of row.total m)

-- the procedures of the program in order, each with its sums
pub record AreProcSums (files : List LoadedRows) (rows : List ProcSum) : Type 0 where
  pub each : Some (length rows) ≡ option_map (λ s. length s.procs) (statics_at files 0)
  pub are : (id : ℕ) → IfSome (slice_get rows id) (IsProcSum files id)

-- a file's counts are numbers of 32 bits, and it has a view
pub record IsSmall (f : LoadedRows) : Type 0 where
  pub small : AreSmall f.profile.links
  pub view : View
  pub is : IsFileView f.profile view

-- it is the first file of another program, or want of memory
abbrev pub IsSumFault : List LoadedRows → SumFault → Type 0
IsSumFault files (Differ place) = IsFirstOther files place
IsSumFault files NoMemory = Unit {0}

-- ---- one file after the other

-- what is kept of files that are added up one after the other: the first one's tables, the sums of each procedure, how many
-- files there were, and the first one that is of another program than the first one
pub record SumRows : Type 0 where
  pub statics : Option Static
  pub rows : List ProcSum
  pub count : ℕ
  pub other : Option ℕ

-- it is kept of these files, each with less than 2 ^ 25 links: the sums, or the first file of another program
pub record IsSumOver (files : List LoadedRows) (s : SumRows) : Type 0 where
  pub count : s.count ≡ length files
  pub statics : s.statics ≡ statics_at files 0
  pub small : All IsSmall files
  pub few_links : All (λ f. length f.profile.links < 2 ^ 25) files
  pub one : IfNone s.other (AreOfOne files)
  pub sums : IfNone s.other (0 < length files → AreProcSums files s.rows)
  pub differs : IfSome s.other (IsFirstOther files)

-- a row with the costs of one file more
pub record IsRowMore (f : LoadedRows) (row more : ProcSum) : Type 0 where
  pub is : more.id ≡ row.id
  pub own : (v : View) (m : Measure) → IsFileView f.profile v → plus (Some (sum_of row.own m)) (v.own (OfProcedure row.id) m) ≡ Some (sum_of more.own m)
  pub total : (v : View) (m : Measure) → IsFileView f.profile v → plus (Some (sum_of row.total m)) (v.total (OfProcedure row.id) m) ≡ Some (sum_of more.total m)

-- the same of each row, in order
abbrev pub AreRowsMore : LoadedRows → List ProcSum → List ProcSum → Type 0
AreRowsMore f [] [] = Unit {0}
AreRowsMore f [] (q ∷ qs) = ⊥
AreRowsMore f (r ∷ rs) [] = ⊥
AreRowsMore f (r ∷ rs) (q ∷ qs) = IsRowMore f r q × AreRowsMore f rs qs

-- there is room for the costs of one file more: 16 files with 2 ^ 25 links have no greater sums than 64 bits
pub record HasRoom (row : ProcSum) : Type 0 where
  pub own : (m : Measure) → sum_of row.own m < 2161727821137838081
  pub total : (m : Measure) → sum_of row.total m < 2161727821137838081
