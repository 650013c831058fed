-- What is told of a view by sums.
use Rattle.std.proofs.Common.{◌≡◌, ℕ, List, length, map, take, min, Option, Some, ap, sym, ◌∙◌, arith}
use Rattle.std.specs.Prelude.{unwrap_or}
use Rattle.std.specs.List.{range_with_len}
use Rattle.std.proofs.lemmas.List.{take_min}
use Rattle.md_base.specs.declared.measure.Measure.{Measure}
use Rattle.md_static.specs.Tables.{Static}
use Rattle.md_dynamic.specs.Profile.{ProfileRows}
use Rattle.md_cost.specs.declared.sums.Sums.{Sums}
use Rattle.md_cost.specs.FileView.{IsFileView}
use Rattle.md_cost.specs.SumOf.{sum_of}
use Rattle.md_cost.specs.View.{View, OfProcedure, OfModule}
use Rattle.md_cost.specs.View.{Row as Counted}
use Rattle.md_table.specs.Table.{LineCells}
use Rattle.md_people.specs.Costs.{costs_line, costs_of}
use Rattle.md_people.specs.declared.sort.Sort.{Sort}
use Rattle.md_people.specs.Hot.{hot_procs, proc_line, sort_count}
use Rattle.md_people.specs.Ranked.{ranked}
use Rattle.md_people.specs.Find.{module_line}
use Rattle.md_people.specs.Words.{full_name, module_name}
use Rattle.md_people.specs.Counts.{own_counts, whole_of}

pub statics_are : (f : ProfileRows) (v : View) → IsFileView f v → v.statics ≡ f.statics
statics_are f v is = ap (λ (w : View). w.statics) is.is

-- numbers by measure that sums tell
told_by : (numbers : Measure → Option ℕ) (s : Sums) → ((m : Measure) → numbers m ≡ Some (sum_of s m)) → ◌≡◌ {A = Measure → ℕ} (λ m. sum_of s m) (λ m. unwrap_or (numbers m) 0)
told_by numbers s is = λ i m. sym (ap (λ (o : Option ℕ). unwrap_or o 0) (is m)) i

-- the line of a row of the view
pub costs_told : (v : View) (by : Measure) (r : Counted) (whole : ℕ) (own total : Sums) (last : List ℕ) (line : LineCells) → whole ≡ whole_of v by
    → ((m : Measure) → v.own r m ≡ Some (sum_of own m)) → ((m : Measure) → v.total r m ≡ Some (sum_of total m))
    → line ≡ costs_line by whole (λ m. sum_of own m) (λ m. sum_of total m) last → line ≡ costs_of v by r last
costs_told v by r whole own total last line whole_is own_is total_is is =
    is ∙ ap (λ (w : ℕ). costs_line by w (λ m. sum_of own m) (λ m. sum_of total m) last) whole_is
    ∙ ap (λ (n : Measure → ℕ). costs_line by (whole_of v by) n (λ m. sum_of total m) last) (told_by (v.own r) own own_is)
    ∙ ap (λ (n : Measure → ℕ). costs_line by (whole_of v by) (own_counts v r) n last) (told_by (v.total r) total total_is)

-- a name that is that of the file's tables
pub named : (f : ProfileRows) (v : View) → IsFileView f v → (by : Measure) (q : ℕ) (name : List ℕ) → name ≡ full_name f.statics q → costs_of v by (OfProcedure q) name ≡ proc_line v by q
named f v viewed by q name is = ap (λ (n : List ℕ). costs_of v by (OfProcedure q) n) (is ∙ ap (λ (s : Static). full_name s q) (sym (statics_are f v viewed)))

pub module_named : (f : ProfileRows) (v : View) → IsFileView f v → (by : Measure) (k : ℕ) (name : List ℕ) → name ≡ module_name f.statics k → costs_of v by (OfModule k) name ≡ module_line v by k
module_named f v viewed by k name is = ap (λ (n : List ℕ). costs_of v by (OfModule k) n) (is ∙ ap (λ (s : Static). module_name s k) (sym (statics_are f v viewed)))

-- the first procedures of the file's tables in order
pub hot_told : (f : ProfileRows) (v : View) → IsFileView f v → (by : Measure) (n : ℕ) (sort : Sort) (shown : ℕ) (ids : List ℕ) → shown ≡ min (length ids) n
    → ids ≡ ranked (sort_count v by sort) (range_with_len 0 (length f.statics.procs)) → map (proc_line v by) (take shown ids) ≡ map (proc_line v by) (hot_procs v by n sort)
hot_told f v viewed by n sort shown ids shown_is ids_are =
    let few : shown ≡ min n (length ids) = omega (arith, shown_is) in
    ap (λ (k : ℕ). map (proc_line v by) (take k ids)) few
    ∙ ap (λ (qs : List ℕ). map (proc_line v by) qs) (take_min n ids)
    ∙ ap (λ (qs : List ℕ). map (proc_line v by) (take n qs)) (ids_are ∙ ap (λ (s : Static). ranked (sort_count v by sort) (range_with_len 0 (length s.procs))) (sym (statics_are f v viewed)))
