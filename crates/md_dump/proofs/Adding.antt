-- Sums over files, one file after the other.
use Rattle.std.proofs.Common.{◌≡◌, ℕ, ◌+◌, ◌*◌, ◌<◌, ◌≤◌, ◌^◌, Bool, List, [], ◌∷◌, ◌++◌, length, take, get_or, map, Option, None, Some, refl, sym, ap, subst, ◌∙◌, arith, zero, suc}
use Rattle.std.proofs.Math.Seq.{take-length}
use Rattle.std.proofs.lemmas.List.{map-append, length-append}
use Rattle.std.specs.List.{list_any, All, AllByRecursion, slice_get}
use Rattle.std.specs.Prelude.{IfSome, option_map}
use Rattle.std.proofs.lemmas.Option.{same_Some, slice_get-get_or}
use Rattle.std.proofs.lemmas.List.Elements.{recursion_from_All}
use Rattle.md_base.specs.declared.measure.Measure.{Measure}
use Rattle.md_trace.specs.Context.{same_option}
use Rattle.md_dynamic.specs.declared.link.LinkRow.{LinkRow}
use Rattle.md_cost.specs.FileView.{IsFileView, procedure_at, path_sum}
use Rattle.md_cost.specs.Loading.{LoadedRows}
use Rattle.md_cost.specs.SumOf.{sum_of, zero_sums}
use Rattle.md_cost.specs.Totals.{sum_where}
use Rattle.md_cost.specs.View.{View, OfProcedure}
use Rattle.md_cost.specs.declared.sums.Sums.{Sums}
use Rattle.md_cost.proofs.Measures.{each_measure}
use Rattle.md_cost.proofs.OwnSteps.{part_le}
use Rattle.md_static.specs.declared.entry.Proc.{Proc}
use Rattle.md_static.specs.Tables.{Static}
use Rattle.md_dump.specs.declared.summing.ProcSum.{ProcSum}
use Rattle.md_dump.specs.Sums.{AreOfOne, AreProcSums, AreViews, HaveViews, IsProcSum, plus, sum_all, IsSmall}

-- the greatest sum of a file: 2 ^ 25 links, each with a count of 32 bits
abbrev pub most : ℕ
most = 144115188075855872

-- these sums are those of the first files
pub record Added (files : List LoadedRows) (of : View → Measure → Option ℕ) (i : ℕ) (s : Sums) : Type 0 where
  pub sums : (vs : List View) (m : Measure) → AreViews (take i files) vs → sum_all (map (λ v. of v m) vs) ≡ Some (sum_of s m)
  pub room : (m : Measure) → sum_of s m ≤ i * most

zero_last : (n : Option ℕ) → plus n (Some 0) ≡ plus (Some 0) n
zero_last None = refl
zero_last (Some n) = ap (λ (k : ℕ). Some k) (let e : n + 0 ≡ 0 + n = omega arith in e)

plus_assoc : (a b c : Option ℕ) → plus a (plus b c) ≡ plus (plus a b) c
plus_assoc None b c = refl
plus_assoc (Some a) None c = refl
plus_assoc (Some a) (Some b) None = refl
plus_assoc (Some a) (Some b) (Some c) = ap (λ (k : ℕ). Some k) (let e : a + (b + c) ≡ (a + b) + c = omega arith in e)

pub sum_push : (ns : List (Option ℕ)) (n : Option ℕ) → sum_all (ns ++ n ∷ []) ≡ plus (sum_all ns) n
sum_push [] n = zero_last n
sum_push (k ∷ ns) n = ap (plus k) (sum_push ns n) ∙ plus_assoc k (sum_all ns) n

-- the views of files with one file more
pub record LastView (fs : List LoadedRows) (f : LoadedRows) (vs : List View) : Type 0 where
  pub front : List View
  pub last : View
  pub are : vs ≡ front ++ last ∷ []
  pub views : AreViews fs front
  pub view : IsFileView f.profile last

pub last_view : (fs : List LoadedRows) (f : LoadedRows) (vs : List View) → AreViews (fs ++ f ∷ []) vs → LastView fs f vs
last_view [] f [] are = absurd are
last_view [] f (v ∷ []) are = record { front = []; last = v; are = refl; views = tt; view = are.0 }
last_view [] f (v ∷ w ∷ vs) are = absurd are.1
last_view (g ∷ fs) f [] are = absurd are
last_view (g ∷ fs) f (v ∷ vs) are =
    let t = last_view fs f vs are.1 in
    record { front = v ∷ t.front; last = t.last; are = ap (λ (ws : List View). v ∷ ws) t.are; views = (are.0, t.views); view = t.view }

summed : (fs : List LoadedRows) (f : LoadedRows) (of : View → Option ℕ) (a x b : ℕ) → ((vs : List View) → AreViews fs vs → sum_all (map of vs) ≡ Some a) → ((v : View) → IsFileView f.profile v → of v ≡ Some x) → b ≡ a + x
    → (vs : List View) → AreViews (fs ++ f ∷ []) vs → sum_all (map of vs) ≡ Some b
summed fs f of a x b so_far one total vs are =
    let t = last_view fs f vs are in
    ap (λ (ws : List View). sum_all (map of ws)) t.are
    ∙ ap sum_all (map-append of t.front (t.last ∷ []))
    ∙ sum_push (map of t.front) (of t.last)
    ∙ ap (λ (n : Option ℕ). plus n (of t.last)) (so_far t.front t.views)
    ∙ ap (λ (n : Option ℕ). plus (Some a) n) (one t.last t.view)
    ∙ ap (λ (k : ℕ). Some k) (sym total)

-- the sums of a procedure are over some of the file's links, so they have room
pub part_room : (f : LoadedRows) → IsSmall f → length f.profile.links < 2 ^ 25 → (test : LinkRow → Bool) (m : Measure) → sum_where test m f.profile.links ≤ most
part_room f small few test m = let part = part_le test m f.profile.links in let all = small.small m in omega arith

pub own_is : (f : LoadedRows) (v : View) (id : ℕ) (m : Measure) → IsFileView f.profile v → v.own (OfProcedure id) m ≡ Some (sum_where (λ r. same_option (Some id) (procedure_at f.profile r.callee)) m f.profile.links)
own_is f v id m is = ap (λ (w : View). w.own (OfProcedure id) m) is.is

pub total_is : (f : LoadedRows) (v : View) (id : ℕ) (m : Measure) → (is : IsFileView f.profile v)
    → v.total (OfProcedure id) m ≡ Some (path_sum is.paths f.profile.links (λ d. same_option (Some id) (procedure_at f.profile d)) m)
total_is f v id m is = ap (λ (w : View). w.total (OfProcedure id) m) is.is

pub own_room : (f : LoadedRows) → IsSmall f → length f.profile.links < 2 ^ 25 → (id : ℕ) (s : Sums) → ((v : View) (m : Measure) → IsFileView f.profile v → v.own (OfProcedure id) m ≡ Some (sum_of s m)) → (m : Measure) → sum_of s m ≤ most
own_room f small few id s is m =
    let told : Some (sum_of s m) ≡ Some (sum_where (λ r. same_option (Some id) (procedure_at f.profile r.callee)) m f.profile.links) = sym (is small.view m small.is) ∙ own_is f small.view id m small.is in
    let same : sum_of s m ≡ sum_where (λ r. same_option (Some id) (procedure_at f.profile r.callee)) m f.profile.links = cc told in
    omega (arith, same, part_room f small few (λ r. same_option (Some id) (procedure_at f.profile r.callee)) m)

pub total_room : (f : LoadedRows) → IsSmall f → length f.profile.links < 2 ^ 25 → (id : ℕ) (s : Sums) → ((v : View) (m : Measure) → IsFileView f.profile v → v.total (OfProcedure id) m ≡ Some (sum_of s m)) → (m : Measure) → sum_of s m ≤ most
total_room f small few id s is m =
    let test : LinkRow → Bool = λ r. list_any (λ d. same_option (Some id) (procedure_at f.profile d)) (get_or small.is.paths r.callee []) in
    let told : Some (sum_of s m) ≡ Some (sum_where test m f.profile.links) = sym (is small.view m small.is) ∙ total_is f small.view id m small.is in
    let same : sum_of s m ≡ sum_where test m f.profile.links = cc told in
    omega (arith, same, part_room f small few test m)

pub none_added : (files : List LoadedRows) (of : View → Measure → Option ℕ) → Added files of 0 zero_sums
none_added files of = record {
  sums = λ vs m are. none vs m are;
  room = each_measure (λ m. sum_of zero_sums m ≤ 0 * most) (omega arith) (omega arith) (omega arith) (omega arith) (omega arith) (omega arith) (omega arith);
}
  where
    none : (vs : List View) (m : Measure) → AreViews [] vs → sum_all (map (λ v. of v m) vs) ≡ Some (sum_of zero_sums m)
    none [] m are = each_measure (λ k. Some 0 ≡ Some (sum_of zero_sums k)) refl refl refl refl refl refl refl m
    none (v ∷ vs) m are = absurd are

-- there is room for one file more
pub room_for : (files : List LoadedRows) (of : View → Measure → Option ℕ) (i : ℕ) (s x : Sums) → Added files of i s → i < 16 → ((m : Measure) → sum_of x m ≤ most) → (m : Measure) → sum_of s m + sum_of x m < 2 ^ 64
room_for files of i s x added few room m = omega (arith, added.room m, room m)

pub one_added : (files : List LoadedRows) (of : View → Measure → Option ℕ) (i : ℕ) (s x t : Sums) (f : LoadedRows) → take (i + 1) files ≡ take i files ++ f ∷ [] → Added files of i s → ((m : Measure) → sum_of x m ≤ most)
    → ((v : View) (m : Measure) → IsFileView f.profile v → of v m ≡ Some (sum_of x m)) → ((m : Measure) → sum_of t m ≡ sum_of s m + sum_of x m) → Added files of (i + 1) t
one_added files of i s x t f more added room is total = record {
  sums = λ vs m are.
      summed (take i files) f (λ v. of v m) (sum_of s m) (sum_of x m) (sum_of t m) (λ ws. added.sums ws m) (λ v. is v m) (total m) vs
      (subst (λ (fs : List LoadedRows). AreViews fs vs) more are);
  room = λ m. omega (arith, added.room m, room m, total m);
}

pub all_added : (files : List LoadedRows) (of : View → Measure → Option ℕ) (s : Sums) → Added files of (length files) s
    → (vs : List View) (m : Measure) → AreViews files vs → sum_all (map (λ v. of v m) vs) ≡ Some (sum_of s m)
all_added files of s added vs m are = added.sums vs m (subst (λ (fs : List LoadedRows). AreViews fs vs) (sym (take-length files)) are)

pub views_from : (files : List LoadedRows) → AllByRecursion IsSmall files → HaveViews files
views_from [] small = ([], tt)
views_from (f ∷ fs) small = let t = views_from fs small.1 in (small.0.view ∷ t.0, (small.0.is, t.1))

pub have_views : (files : List LoadedRows) → All IsSmall files → HaveViews files
have_views files small = views_from files (recursion_from_All IsSmall files small)

-- what holds of each element by its place holds of one more
holds_push : {X : Type 0} (P : ℕ → X → Type 0) (xs : List X) (x : X) → ((k : ℕ) → IfSome (slice_get xs k) (P k)) → P (length xs) x → (k : ℕ) → IfSome (slice_get (xs ++ x ∷ []) k) (P k)
holds_push {X} P [] x before this zero = this
holds_push {X} P [] x before this (suc k) = tt
holds_push {X} P (y ∷ ys) x before this zero = before zero
holds_push {X} P (y ∷ ys) x before this (suc k) = holds_push (λ i. P (suc i)) ys x (λ i. before (suc i)) this k

-- one more row, of the next procedure
pub sums_more : (files : List LoadedRows) (rows more : List ProcSum) (row : ProcSum) (id : ℕ) → more ≡ rows ++ row ∷ [] → length rows ≡ id → ((k : ℕ) → IfSome (slice_get rows k) (IsProcSum files k))
    → IsProcSum files id row → (length more ≡ id + 1) × ((k : ℕ) → IfSome (slice_get more k) (IsProcSum files k))
sums_more files rows more row id is size before this = (
  ap length is ∙ length-append rows (row ∷ []) ∙ ap (λ (n : ℕ). n + 1) size,
  λ k. subst (λ (xs : List ProcSum). IfSome (slice_get xs k) (IsProcSum files k)) (sym is) (holds_push (IsProcSum files) rows row before (subst (λ (i : ℕ). IsProcSum files i row) (sym size) this) k),
)

module _ (files : List LoadedRows) (some : 0 < length files) (first d : LoadedRows) (is : first ≡ get_or files 0 d) (procs : List Proc) (are : procs ≡ first.profile.statics.procs) where
  first_at : slice_get files 0 ≡ Some first
  first_at = slice_get-get_or files 0 d some ∙ ap (λ (f : LoadedRows). Some f) (sym is)

  -- each file has as many procedures as the first one
  pub procs_there : AreOfOne files → (id : ℕ) → id < length procs → All (λ f. id < length f.profile.statics.procs) files
  procs_there one id below = λ k e lt.
      let at : slice_get files k ≡ Some (get_or files k e) = slice_get-get_or files k e lt in
      let told : Some (get_or files k e).profile.statics ≡ Some first.profile.statics = sym (ap (option_map (λ (f : LoadedRows). f.profile.statics)) at) ∙ one k lt ∙ ap (option_map (λ (f : LoadedRows). f.profile.statics)) first_at in
      let same : (get_or files k e).profile.statics ≡ first.profile.statics = same_Some _ _ told in
      subst (λ (s : Static). id < length s.procs) (sym same) (subst (λ (ps : List Proc). id < length ps) are below)

  -- the rows of all procedures
  pub sums_all : (rows : List ProcSum) → length rows ≡ length procs → ((k : ℕ) → IfSome (slice_get rows k) (IsProcSum files k)) → AreProcSums files rows
  sums_all rows size sums = record {
    each = ap (λ (n : ℕ). Some n) (size ∙ ap length are) ∙ sym (ap (λ (o : Option LoadedRows). option_map (λ (s : Static). length s.procs) (option_map (λ (f : LoadedRows). f.profile.statics) o)) first_at);
    are = sums;
  }
