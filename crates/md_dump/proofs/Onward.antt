-- Sums over files that come one after the other: one file more, room for it, and that they are the sums over all at once.
use Rattle.std.proofs.Common.{◌≡◌, ℕ, ◌+◌, ◌*◌, ◌<◌, ◌≤◌, ◌^◌, Bool, true, false, List, [], ◌∷◌, ◌++◌, length, get_or, map, Option, None, Some, refl, sym, ap, subst, ◌∙◌, ◌⊎◌, inl, inr, arith, zero, suc}
use Rattle.std.proofs.lemmas.List.{map-append, length-append, same_lists}
use Rattle.std.specs.List.{list_any, All, AllByRecursion, slice_get}
use Rattle.std.specs.Prelude.{IfSome, IfNone, option_map}
use Rattle.std.specs.Option.{is_some}
use Rattle.std.proofs.lemmas.Option.{same_Some, slice_get-get_or}
use Rattle.std.proofs.lemmas.List.Elements.{recursion_from_All}
use Rattle.md_base.specs.declared.measure.Measure.{Measure}
use Rattle.md_base.specs.declared.measure.Measure.TheVariants.{Calls, Exits, Fails, Redos, Allocs, Words, Excps}
use Rattle.md_trace.specs.Context.{same_option}
use Rattle.md_dynamic.specs.declared.link.LinkRow.{LinkRow}
use Rattle.md_cost.specs.FileView.{IsFileView, procedure_at}
use Rattle.md_cost.specs.Loading.{LoadedRows}
use Rattle.md_cost.specs.SumOf.{sum_of}
use Rattle.md_cost.specs.Totals.{sum_where}
use Rattle.md_cost.specs.View.{View, OfProcedure}
use Rattle.md_cost.specs.declared.sums.Sums.{Sums}
use Rattle.md_static.specs.Tables.{Static}
use Rattle.md_dump.specs.declared.summing.ProcSum.{ProcSum}
use Rattle.md_dump.specs.Sums.{AreOfOne, AreProcSums, AreViews, HaveViews, IsProcSum, IsFirstOther, plus, sum_all, IsSmall, SumRows, IsSumOver, IsRowMore, AreRowsMore, HasRoom, statics_at}
use Rattle.md_dump.proofs.Adding.{most, last_view, sum_push, own_is, total_is, part_room, views_from, have_views}

-- ---- one file more

sum_more : (fs : List LoadedRows) (f : LoadedRows) (of : View → Option ℕ) (a b : ℕ) → ((vs : List View) → AreViews fs vs → sum_all (map of vs) ≡ Some a) → ((v : View) → IsFileView f.profile v → plus (Some a) (of v) ≡ Some b)
    → (vs : List View) → AreViews (fs ++ f ∷ []) vs → sum_all (map of vs) ≡ Some b
sum_more fs f of a b so_far one vs are =
    let t = last_view fs f vs are in
    ap (λ (ws : List View). sum_all (map of ws)) t.are
    ∙ ap sum_all (map-append of t.front (t.last ∷ []))
    ∙ sum_push (map of t.front) (of t.last)
    ∙ ap (λ (n : Option ℕ). plus n (of t.last)) (so_far t.front t.views)
    ∙ one t.last t.view

proc_more : (fs : List LoadedRows) (f : LoadedRows) (id : ℕ) (row more : ProcSum) → IsProcSum fs id row → IsRowMore f row more → IsProcSum (fs ++ f ∷ []) id more
proc_more fs f id row more sum one = record {
  is = one.is ∙ sum.is;
  own = λ vs m are.
      sum_more fs f (λ v. v.own (OfProcedure id) m) (sum_of row.own m) (sum_of more.own m) (λ ws. sum.own ws m)
      (λ v is. subst (λ (i : ℕ). plus (Some (sum_of row.own m)) (v.own (OfProcedure i) m) ≡ Some (sum_of more.own m)) sum.is (one.own v m is)) vs are;
  total = λ vs m are.
      sum_more fs f (λ v. v.total (OfProcedure id) m) (sum_of row.total m) (sum_of more.total m) (λ ws. sum.total ws m)
      (λ v is. subst (λ (i : ℕ). plus (Some (sum_of row.total m)) (v.total (OfProcedure i) m) ≡ Some (sum_of more.total m)) sum.is (one.total v m is)) vs are;
}

all_more : (f : LoadedRows) (P Q : ℕ → ProcSum → Type 0) → ((k : ℕ) (r q : ProcSum) → P k r → IsRowMore f r q → Q k q) → (rows more : List ProcSum) → AreRowsMore f rows more → ((k : ℕ) → IfSome (slice_get rows k) (P k)) → (k : ℕ)
    → IfSome (slice_get more k) (Q k)
all_more f P Q step [] [] are sums k = tt
all_more f P Q step [] (q ∷ qs) are sums k = absurd are
all_more f P Q step (r ∷ rs) [] are sums k = absurd are
all_more f P Q step (r ∷ rs) (q ∷ qs) are sums zero = step zero r q (sums zero) are.0
all_more f P Q step (r ∷ rs) (q ∷ qs) are sums (suc k) = all_more f (λ i. P (suc i)) (λ i. Q (suc i)) (λ i. step (suc i)) rs qs are.1 (λ i. sums (suc i)) k

as_many : (f : LoadedRows) (rows more : List ProcSum) → AreRowsMore f rows more → length more ≡ length rows
as_many f [] [] are = refl
as_many f [] (q ∷ qs) are = absurd are
as_many f (r ∷ rs) [] are = absurd are
as_many f (r ∷ rs) (q ∷ qs) are = ap suc (as_many f rs qs are.1)

pub rows_push : (f : LoadedRows) (rows more : List ProcSum) (row q : ProcSum) → AreRowsMore f rows more → IsRowMore f row q → AreRowsMore f (rows ++ row ∷ []) (more ++ q ∷ [])
rows_push f [] [] row q are one = (one, tt)
rows_push f [] (p ∷ ps) row q are one = absurd are
rows_push f (r ∷ rs) [] row q are one = absurd are
rows_push f (r ∷ rs) (p ∷ ps) row q are one = (are.0, rows_push f rs ps row q are.1 one)

first_stays : (fs : List LoadedRows) (f : LoadedRows) → 0 < length fs → statics_at (fs ++ f ∷ []) 0 ≡ statics_at fs 0
first_stays [] f some = absurd (omega (arith, some))
first_stays (g ∷ gs) f some = refl

sums_of_more : (fs : List LoadedRows) (f : LoadedRows) (rows more : List ProcSum) → 0 < length fs → AreProcSums fs rows → AreRowsMore f rows more → AreProcSums (fs ++ f ∷ []) more
sums_of_more fs f rows more some sums are = record {
  each = ap (λ (n : ℕ). Some n) (as_many f rows more are) ∙ sums.each ∙ sym (ap (option_map (λ (s : Static). length s.procs)) (first_stays fs f some));
  are = all_more f (IsProcSum fs) (IsProcSum (fs ++ f ∷ [])) (proc_more fs f) rows more are sums.are;
}

-- ---- room for it

record Parts (a b : Option ℕ) (n : ℕ) : Type 0 where
  pub x : ℕ
  pub y : ℕ
  pub is_x : a ≡ Some x
  pub is_y : b ≡ Some y
  pub sum : n ≡ x + y

plus_parts : (a b : Option ℕ) (n : ℕ) → plus a b ≡ Some n → Parts a b n
plus_parts None b n is = absurd (cc is)
plus_parts (Some x) None n is = absurd (cc is)
plus_parts (Some x) (Some y) n is = record { x = x; y = y; is_x = refl; is_y = refl; sum = sym (same_Some _ _ is) }

abbrev IsFit : LoadedRows → Type 0
IsFit f = IsSmall f × (length f.profile.links < 2 ^ 25)

bounded : (of : View → Option ℕ) → ((f : LoadedRows) (v : View) (n : ℕ) → IsFit f → IsFileView f.profile v → of v ≡ Some n → n ≤ most) → (fs : List LoadedRows) → AllByRecursion IsFit fs → (vs : List View) → AreViews fs vs → (n : ℕ)
    → sum_all (map of vs) ≡ Some n → n ≤ length fs * most
bounded of bound [] fit [] are n is = let e : 0 ≡ n = same_Some _ _ is in omega (arith, e)
bounded of bound [] fit (v ∷ vs) are n is = absurd are
bounded of bound (f ∷ fs) fit [] are n is = absurd are
bounded of bound (f ∷ fs) fit (v ∷ vs) are n is =
    let p = plus_parts (of v) (sum_all (map of vs)) n is in
    let first = bound f v p.x fit.0 are.0 p.is_x in
    let others = bounded of bound fs fit.1 vs are.1 p.y p.is_y in
    omega (arith, first, others, p.sum)

own_bound : (id : ℕ) (m : Measure) (f : LoadedRows) (v : View) (n : ℕ) → IsFit f → IsFileView f.profile v → v.own (OfProcedure id) m ≡ Some n → n ≤ most
own_bound id m f v n fit is at =
    let test : LinkRow → Bool = λ r. same_option (Some id) (procedure_at f.profile r.callee) in
    let same : n ≡ sum_where test m f.profile.links = same_Some _ _ (sym at ∙ own_is f v id m is) in
    omega (arith, same, part_room f fit.0 fit.1 test m)

total_bound : (id : ℕ) (m : Measure) (f : LoadedRows) (v : View) (n : ℕ) → IsFit f → IsFileView f.profile v → v.total (OfProcedure id) m ≡ Some n → n ≤ most
total_bound id m f v n fit is at =
    let test : LinkRow → Bool = λ r. list_any (λ d. same_option (Some id) (procedure_at f.profile d)) (get_or is.paths r.callee []) in
    let same : n ≡ sum_where test m f.profile.links = same_Some _ _ (sym at ∙ total_is f v id m is) in
    omega (arith, same, part_room f fit.0 fit.1 test m)

all_fit : (fs : List LoadedRows) → All IsSmall fs → All (λ f. length f.profile.links < 2 ^ 25) fs → AllByRecursion IsFit fs
all_fit fs small few = recursion_from_All IsFit fs (λ k d less. (small k d less, few k d less))

row_room : (fs : List LoadedRows) (id : ℕ) (row : ProcSum) → length fs < 16 → AllByRecursion IsFit fs → HaveViews fs → IsProcSum fs id row → HasRoom row
row_room fs id row few fit views sum = record {
  own = λ m. let b = bounded (λ v. v.own (OfProcedure id) m) (own_bound id m) fs fit views.0 views.1 (sum_of row.own m) (sum.own views.0 m views.1) in omega (arith, b, few);
  total = λ m. let b = bounded (λ v. v.total (OfProcedure id) m) (total_bound id m) fs fit views.0 views.1 (sum_of row.total m) (sum.total views.0 m views.1) in omega (arith, b, few);
}

at_place : (fs : List LoadedRows) (rows : List ProcSum) (k : ℕ) (d : ProcSum) → k < length rows → ((i : ℕ) → IfSome (slice_get rows i) (IsProcSum fs i)) → IsProcSum fs k (get_or rows k d)
at_place fs rows k d less are = subst (λ (o : Option ProcSum). IfSome o (IsProcSum fs k)) (slice_get-get_or rows k d less) (are k)

pub rows_room : (fs : List LoadedRows) (rows : List ProcSum) → length fs < 16 → All IsSmall fs → All (λ f. length f.profile.links < 2 ^ 25) fs → AreProcSums fs rows → All HasRoom rows
rows_room fs rows few small links sums = λ k d less. row_room fs k (get_or rows k d) few (all_fit fs small links) (have_views fs small) (at_place fs rows k d less sums.are)

pub rows_there : (fs : List LoadedRows) (rows : List ProcSum) (first : Static) → statics_at fs 0 ≡ Some first → AreProcSums fs rows → All (λ row. row.id < length first.procs) rows
rows_there fs rows first at sums = λ k d less.
    let many : length rows ≡ length first.procs = same_Some _ _ (sums.each ∙ ap (option_map (λ (s : Static). length s.procs)) at) in
    let is = (at_place fs rows k d less sums.are).is in
    omega (arith, many, is, less)

-- ---- what is kept of one file more

all_push : (P : LoadedRows → Type 0) (fs : List LoadedRows) (f : LoadedRows) → All P fs → P f → All P (fs ++ f ∷ [])
all_push P [] f all this zero d less = this
all_push P [] f all this (suc k) d less = absurd (omega (arith, less))
all_push P (g ∷ gs) f all this zero d less = all zero d (omega arith)
all_push P (g ∷ gs) f all this (suc k) d less = all_push P gs f (λ i e l. all (suc i) e (omega (arith, l))) this k d (omega (arith, less))

statics_before : (fs : List LoadedRows) (f : LoadedRows) (k : ℕ) → k < length fs → statics_at (fs ++ f ∷ []) k ≡ statics_at fs k
statics_before [] f k less = absurd (omega (arith, less))
statics_before (g ∷ gs) f zero less = refl
statics_before (g ∷ gs) f (suc k) less = statics_before gs f k (omega (arith, less))

statics_last : (fs : List LoadedRows) (f : LoadedRows) → statics_at (fs ++ f ∷ []) (length fs) ≡ Some f.profile.statics
statics_last [] f = refl
statics_last (g ∷ gs) f = statics_last gs f

of_one_push : (fs : List LoadedRows) (f : LoadedRows) (s : Option Static) → ((k : ℕ) → k < length fs → statics_at fs k ≡ s) → Some f.profile.statics ≡ s → (k : ℕ) → k < length (fs ++ f ∷ []) → statics_at (fs ++ f ∷ []) k ≡ s
of_one_push [] f s before this zero less = this
of_one_push [] f s before this (suc k) less = absurd (omega (arith, less))
of_one_push (g ∷ gs) f s before this zero less = before zero (omega arith)
of_one_push (g ∷ gs) f s before this (suc k) less = of_one_push gs f s (λ i l. before (suc i) (omega (arith, l))) this k (omega (arith, less))

some_files : (fs : List LoadedRows) (s : Static) → statics_at fs 0 ≡ Some s → 0 < length fs
some_files [] s is = absurd (cc is)
some_files (f ∷ fs) s is = omega arith

no_files : (fs : List LoadedRows) → statics_at fs 0 ≡ None → fs ≡ []
no_files [] is = refl
no_files (f ∷ fs) is = absurd (cc is)

if_none : (o : Option ℕ) (X : Type 0) → X → IfNone o X
if_none None X x = x
if_none (Some n) X x = tt

one_longer : (fs : List LoadedRows) (f : LoadedRows) → length (fs ++ f ∷ []) ≡ length fs + 1
one_longer fs f = length-append fs (f ∷ [])

pub begins : (fs : List LoadedRows) (s t : SumRows) (f : LoadedRows) → IsSumOver fs s → s.statics ≡ None → s.other ≡ None → IsSmall f → length f.profile.links < 2 ^ 25 → t.statics ≡ Some f.profile.statics → AreProcSums (f ∷ []) t.rows
    → t.other ≡ None → t.count ≡ s.count + 1 → IsSumOver (fs ++ f ∷ []) t
begins fs s t f so_far none one small few statics sums other count =
    let empty : fs ≡ [] = no_files fs (sym so_far.statics ∙ none) in
    subst (λ (gs : List LoadedRows). IsSumOver (gs ++ f ∷ []) t) (sym empty) (record {
      count = let n : s.count ≡ 0 = so_far.count ∙ ap length empty in omega (arith, n, count);
      statics = statics;
      small = all_push IsSmall [] f (λ k d less. absurd (omega (arith, less))) small;
      few_links = all_push (λ g. length g.profile.links < 2 ^ 25) [] f (λ k d less. absurd (omega (arith, less))) few;
      one = if_none t.other (AreOfOne (f ∷ [])) (of_one_push [] f (Some f.profile.statics) (λ k less. absurd (omega (arith, less))) refl);
      sums = if_none t.other (0 < 1 → AreProcSums (f ∷ []) t.rows) (λ less. sums);
      differs = subst (λ (o : Option ℕ). IfSome o (IsFirstOther (f ∷ []))) (sym other) tt;
    })

pub goes_on : (fs : List LoadedRows) (s t : SumRows) (f : LoadedRows) (first : Static) → IsSumOver fs s → s.statics ≡ Some first → s.other ≡ None → IsSmall f → length f.profile.links < 2 ^ 25 → f.profile.statics ≡ first → AreRowsMore f s.rows t.rows
    → t.statics ≡ s.statics → t.other ≡ None → t.count ≡ s.count + 1 → IsSumOver (fs ++ f ∷ []) t
goes_on fs s t f first so_far at none small few same rows statics other count =
    let there : statics_at fs 0 ≡ Some first = sym so_far.statics ∙ at in
    let some : 0 < length fs = some_files fs first there in
    let one : AreOfOne fs = subst (λ (o : Option ℕ). IfNone o (AreOfOne fs)) none so_far.one in
    let sums : AreProcSums fs s.rows = subst (λ (o : Option ℕ). IfNone o (0 < length fs → AreProcSums fs s.rows)) none so_far.sums some in record {
      count = let n = so_far.count in let m = one_longer fs f in omega (arith, n, m, count);
      statics = statics ∙ so_far.statics ∙ sym (first_stays fs f some);
      small = all_push IsSmall fs f so_far.small small;
      few_links = all_push (λ g. length g.profile.links < 2 ^ 25) fs f so_far.few_links few;
      one = if_none t.other (AreOfOne (fs ++ f ∷ [])) (λ k less. of_one_push fs f (statics_at fs 0) one (ap (λ (x : Static). Some x) same ∙ sym there) k less ∙ sym (first_stays fs f some));
      sums = if_none t.other (0 < length (fs ++ f ∷ []) → AreProcSums (fs ++ f ∷ []) t.rows) (λ less. sums_of_more fs f s.rows t.rows some sums rows);
      differs = subst (λ (o : Option ℕ). IfSome o (IsFirstOther (fs ++ f ∷ []))) (sym other) tt;
    }

pub finds_other : (fs : List LoadedRows) (s t : SumRows) (f : LoadedRows) (first : Static) → IsSumOver fs s → s.statics ≡ Some first → s.other ≡ None → IsSmall f → length f.profile.links < 2 ^ 25 → (f.profile.statics ≡ first → ⊥)
    → t.statics ≡ s.statics → t.other ≡ Some s.count → t.count ≡ s.count + 1 → IsSumOver (fs ++ f ∷ []) t
finds_other fs s t f first so_far at none small few differ statics other count =
    let there : statics_at fs 0 ≡ Some first = sym so_far.statics ∙ at in
    let some : 0 < length fs = some_files fs first there in
    let one : AreOfOne fs = subst (λ (o : Option ℕ). IfNone o (AreOfOne fs)) none so_far.one in
    let last : statics_at (fs ++ f ∷ []) s.count ≡ Some f.profile.statics = ap (statics_at (fs ++ f ∷ [])) so_far.count ∙ statics_last fs f in
    let found : IsFirstOther (fs ++ f ∷ []) s.count = record {
      there = let n = so_far.count in let m = one_longer fs f in omega (arith, n, m);
      other = λ e. differ (same_Some _ _ (sym last ∙ e ∙ first_stays fs f some ∙ there));
      before = λ k less. let below : k < length fs = (let n = so_far.count in omega (arith, n, less)) in statics_before fs f k below ∙ one k below ∙ sym (first_stays fs f some);
    } in record {
      count = let n = so_far.count in let m = one_longer fs f in omega (arith, n, m, count);
      statics = statics ∙ so_far.statics ∙ sym (first_stays fs f some);
      small = all_push IsSmall fs f so_far.small small;
      few_links = all_push (λ g. length g.profile.links < 2 ^ 25) fs f so_far.few_links few;
      one = subst (λ (o : Option ℕ). IfNone o (AreOfOne (fs ++ f ∷ []))) (sym other) tt;
      sums = subst (λ (o : Option ℕ). IfNone o (0 < length (fs ++ f ∷ []) → AreProcSums (fs ++ f ∷ []) t.rows)) (sym other) tt;
      differs = subst (λ (o : Option ℕ). IfSome o (IsFirstOther (fs ++ f ∷ []))) (sym other) found;
    }

pub stays_other : (fs : List LoadedRows) (s t : SumRows) (f : LoadedRows) (place : ℕ) → IsSumOver fs s → s.other ≡ Some place → IsSmall f → length f.profile.links < 2 ^ 25 → t.statics ≡ s.statics → t.other ≡ Some place → t.count ≡ s.count + 1
    → IsSumOver (fs ++ f ∷ []) t
stays_other fs s t f place so_far found small few statics other count =
    let was : IsFirstOther fs place = subst (λ (o : Option ℕ). IfSome o (IsFirstOther fs)) found so_far.differs in
    let some : 0 < length fs = (let p = was.there in omega (arith, p)) in
    let is : IsFirstOther (fs ++ f ∷ []) place = record {
      there = let p = was.there in let m = one_longer fs f in omega (arith, p, m);
      other = λ e. was.other (sym (statics_before fs f place was.there) ∙ e ∙ first_stays fs f some);
      before = λ k less. statics_before fs f k (let p = was.there in omega (arith, p, less)) ∙ was.before k less ∙ sym (first_stays fs f some);
    } in record {
      count = let n = so_far.count in let m = one_longer fs f in omega (arith, n, m, count);
      statics = statics ∙ so_far.statics ∙ sym (first_stays fs f some);
      small = all_push IsSmall fs f so_far.small small;
      few_links = all_push (λ g. length g.profile.links < 2 ^ 25) fs f so_far.few_links few;
      one = subst (λ (o : Option ℕ). IfNone o (AreOfOne (fs ++ f ∷ []))) (sym other) tt;
      sums = subst (λ (o : Option ℕ). IfNone o (0 < length (fs ++ f ∷ []) → AreProcSums (fs ++ f ∷ []) t.rows)) (sym other) tt;
      differs = subst (λ (o : Option ℕ). IfSome o (IsFirstOther (fs ++ f ∷ []))) (sym other) is;
    }

-- ---- the same as all at once

abbrev sums_from : ℕ → ℕ → ℕ → ℕ → ℕ → ℕ → ℕ → Sums
sums_from calls exits fails redos allocs words excps = record { calls = calls; exits = exits; fails = fails; redos = redos; allocs = allocs; words = words; excps = excps }

parts_same : (a b c d e f g a' b' c' d' e' f' g' : ℕ) → a ≡ a' → b ≡ b' → c ≡ c' → d ≡ d' → e ≡ e' → f ≡ f' → g ≡ g' → sums_from a b c d e f g ≡ sums_from a' b' c' d' e' f' g'
parts_same a b c d e f g a' b' c' d' e' f' g' calls exits fails redos allocs words excps = cc

sums_same : (a b : Sums) → ((m : Measure) → sum_of a m ≡ sum_of b m) → a ≡ b
sums_same a b same =
    parts_same a.calls a.exits a.fails a.redos a.allocs a.words a.excps b.calls b.exits b.fails b.redos b.allocs b.words b.excps (same Calls) (same Exits) (same Fails) (same Redos) (same Allocs) (same Words) (same Excps)

abbrev row_from : ℕ → Sums → Sums → ProcSum
row_from id own total = record { id = id; own = own; total = total }

row_parts : (a a' : ℕ) (b b' c c' : Sums) → a ≡ a' → b ≡ b' → c ≡ c' → row_from a b c ≡ row_from a' b' c'
row_parts a a' b b' c c' id own total = cc

row_same : (a b : ProcSum) → a.id ≡ b.id → a.own ≡ b.own → a.total ≡ b.total → a ≡ b
row_same a b = row_parts a.id b.id a.own b.own a.total b.total

proc_same : (fs : List LoadedRows) (id : ℕ) (a b : ProcSum) → HaveViews fs → IsProcSum fs id a → IsProcSum fs id b → a ≡ b
proc_same fs id a b views one other =
    row_same a b (one.is ∙ sym other.is)
    (sums_same a.own b.own (λ m. same_Some _ _ (sym (one.own views.0 m views.1) ∙ other.own views.0 m views.1)))
    (sums_same a.total b.total (λ m. same_Some _ _ (sym (one.total views.0 m views.1) ∙ other.total views.0 m views.1)))

rows_same : (fs : List LoadedRows) (rows others : List ProcSum) → HaveViews fs → AreProcSums fs rows → AreProcSums fs others → rows ≡ others
rows_same fs rows others views one other =
    let many : length rows ≡ length others = same_Some _ _ (one.each ∙ sym other.each) in
    same_lists rows others many (λ k d less. proc_same fs k (get_or rows k d) (get_or others k d) views (at_place fs rows k d less one.are) (at_place fs others k d (subst (λ (n : ℕ). k < n) many less) other.are))

pub gives_rows : (files : List LoadedRows) (s : SumRows) (rows : List ProcSum) → 0 < length files → IsSumOver files s → AreOfOne files → AreProcSums files rows → (s.other ≡ None) × (s.rows ≡ rows)
gives_rows files s rows some over one sums = by s.other refl
  where
    by : (o : Option ℕ) → s.other ≡ o → (s.other ≡ None) × (s.rows ≡ rows)
    by None is = (is, rows_same files s.rows rows (have_views files over.small) (subst (λ (o : Option ℕ). IfNone o (0 < length files → AreProcSums files s.rows)) is over.sums some) sums)
    by (Some place) is = let found : IsFirstOther files place = subst (λ (o : Option ℕ). IfSome o (IsFirstOther files)) is over.differs in absurd (found.other (one place found.there))

three : (a b : ℕ) → (a ≡ b) ⊎ ((a < b) ⊎ (b < a))
three zero zero = inl refl
three zero (suc b) = inr (inl (omega arith))
three (suc a) zero = inr (inr (omega arith))
three (suc a) (suc b) = by (three a b)
  where
    by : (a ≡ b) ⊎ ((a < b) ⊎ (b < a)) → (suc a ≡ suc b) ⊎ ((suc a < suc b) ⊎ (suc b < suc a))
    by (inl same) = inl (ap suc same)
    by (inr (inl less)) = inr (inl (omega (arith, less)))
    by (inr (inr more)) = inr (inr (omega (arith, more)))

pub gives_other : (files : List LoadedRows) (s : SumRows) (place : ℕ) → IsSumOver files s → IsFirstOther files place → s.other ≡ Some place
gives_other files s place over first = by s.other refl
  where
    same_place : (p : ℕ) → IsFirstOther files p → (p ≡ place) ⊎ ((p < place) ⊎ (place < p)) → Some p ≡ Some place
    same_place p found (inl same) = ap (λ (k : ℕ). Some k) same
    same_place p found (inr (inl less)) = absurd (found.other (first.before p less))
    same_place p found (inr (inr more)) = absurd (first.other (found.before place more))

    by : (o : Option ℕ) → s.other ≡ o → s.other ≡ Some place
    by None is = let one : AreOfOne files = subst (λ (o : Option ℕ). IfNone o (AreOfOne files)) is over.one in absurd (first.other (one place first.there))
    by (Some p) is = is ∙ same_place p (subst (λ (o : Option ℕ). IfSome o (IsFirstOther files)) is over.differs) (three p place)

-- ---- what a file that is added finds

pub none_yet : (o : Option ℕ) → is_some o ≡ false → o ≡ None
none_yet None is = refl
none_yet (Some n) is = absurd (cc is)

pub some_place : (o : Option ℕ) → is_some o ≡ true → (place : ℕ) × (o ≡ Some place)
some_place None is = absurd (cc is)
some_place (Some n) is = (n, refl)

module _ (fs : List LoadedRows) (s : SumRows) (first : Static) (over : IsSumOver fs s) (at : s.statics ≡ Some first) (none : s.other ≡ None) where
  first_there : statics_at fs 0 ≡ Some first
  first_there = sym over.statics ∙ at

  so_far : AreProcSums fs s.rows
  so_far = subst (λ (o : Option ℕ). IfNone o (0 < length fs → AreProcSums fs s.rows)) none over.sums (some_files fs first first_there)

  pub sums_there : All (λ row. row.id < length first.procs) s.rows
  sums_there = rows_there fs s.rows first first_there so_far

  pub sums_room : s.count < 16 → All HasRoom s.rows
  sums_room few = rows_room fs s.rows (let n = over.count in omega (arith, n, few)) over.small over.few_links so_far
