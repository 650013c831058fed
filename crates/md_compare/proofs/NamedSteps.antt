-- Names put into a map from the last procedure to the first: the first one of a name stays.
use Rattle.std.proofs.Common.{◌≡◌, ℕ, suc, ◌+◌, ◌-◌, ◌<◌, Bool, true, false, cond, List, [], ◌∷◌, length, Option, Some, None, Ordering, Less, Equal, Greater, refl, sym, ap, ◌∙◌, inl, inr, arith}
use Rattle.std.specs.Prelude.{Vec}
use Rattle.std.specs.declared.alloc.Global.{Global}
use Rattle.std.specs.BTreeMap.{BTreeMap, insert_entry}
use Rattle.std.specs.Cmp.Lexicographic.{slice_cmp, nat_list_eq_equiv}
use Rattle.std.specs.List.{find, range_with_len}
use Rattle.std.specs.Map.{lookup}
use Rattle.std.specs.Option.{option_map}
use Rattle.std.specs.Ordering.{is_eq, match_ordering, nat_cmp}
use Rattle.std.specs.Str.{bytes_eq}
use Rattle.std.proofs.lemmas.Bool.{cases_Bool}
use Rattle.std.proofs.lemmas.Map.Lookups.{exact_bytes}
use Rattle.std.proofs.lemmas.Map.Text.{is_eq-slice_cmp}
use Rattle.md_base.specs.declared.measure.Measure.{Measure}
use Rattle.md_cost.specs.View.{View}
use Rattle.md_people.specs.Compare.{same_name}
use Rattle.md_people.specs.Words.{full_name}
use Rattle.md_compare.specs.Cost.{cost_named, cost_of}
use Rattle.md_compare.specs.Named.{cost_at}
use Rattle.md_compare.specs.declared.cost.Cost.{Cost}

-- what the first procedure of a name costs, of those from number i on
abbrev pub cost_from : View → Measure → (i : ℕ) → (name : List ℕ) → Option Cost
cost_from v by i name =
    option_map (cost_of v by) (find (λ q. same_name (full_name v.statics q) name) (range_with_len i (length v.statics.procs - i)))

abbrev Key : Type 0
Key = Vec ℕ Global

abbrev order : Key → Key → Ordering
order x y = slice_cmp nat_cmp x.items y.items

abbrev is_under : List ℕ → Key → Bool
is_under name key = is_eq (slice_cmp nat_cmp name key.items)

is_equal : (o : Ordering) → is_eq o ≡ true → o ≡ Equal
is_equal Less e = cc
is_equal Equal e = refl
is_equal Greater e = cc

-- two keys under one name are equal
both_under : (name : List ℕ) (x y : Key) → is_under name x ≡ true → is_under name y ≡ true → order x y ≡ Equal
both_under name x y hx hy =
    let ex : name ≡ x.items = exact_bytes name x.items (is_equal (slice_cmp nat_cmp name x.items) hx) in
    let ey : name ≡ y.items = exact_bytes name y.items (is_equal (slice_cmp nat_cmp name y.items) hy) in
    is_equal (order x y) (rw (← ex) hy)

-- what equal keys are under is the same
same_under : (name : List ℕ) (x y : Key) → order x y ≡ Equal → is_under name x ≡ is_under name y
same_under name x y e = ap (λ (bytes : List ℕ). is_eq (slice_cmp nat_cmp name bytes)) (exact_bytes x.items y.items e)

swap_conds : {X : Type 0} (a b : Bool) (x y z : X) → (a ≡ true → b ≡ true → ⊥) → cond a x (cond b y z) ≡ cond b y (cond a x z)
swap_conds true true x y z never = absurd (never refl refl)
swap_conds true false x y z never = refl
swap_conds false b x y z never = refl

one_cond : {X : Type 0} (a b : Bool) (x y z : X) → a ≡ b → cond a x z ≡ cond b x (cond a y z)
one_cond true true x y z e = refl
one_cond true false x y z e = cc
one_cond false true x y z e = cc
one_cond false false x y z e = refl

put_under : (name : List ℕ) (key : Key) (x : Cost) (es : List (Key × Cost)) → lookup (is_under name) (insert_entry order es key x) ≡ cond (is_under name key) (Some x) (lookup (is_under name) es)
put_under name key x [] = refl
put_under name key x (e ∷ es) = at (put_under name key x es) (order key e.0) refl
  where
    at : lookup (is_under name) (insert_entry order es key x) ≡ cond (is_under name key) (Some x) (lookup (is_under name) es) → (o : Ordering) → order key e.0 ≡ o
        → lookup (is_under name) (match_ordering o ((key, x) ∷ e ∷ es) ((e.0, x) ∷ es) (e ∷ insert_entry order es key x)) ≡ cond (is_under name key) (Some x) (cond (is_under name e.0) (Some e.1) (lookup (is_under name) es))
    at rest Less is = refl
    at rest Equal is = one_cond (is_under name e.0) (is_under name key) (Some x) (Some e.1) (lookup (is_under name) es) (sym (same_under name key e.0 is))
    at rest Greater is =
        ap (λ (o : Option Cost). cond (is_under name e.0) (Some e.1) o) rest
        ∙ swap_conds (is_under name e.0) (is_under name key) (Some e.1) (Some x) (lookup (is_under name) es) (λ he hk. (let equal = both_under name key e.0 hk he in cc))

-- one procedure more, before the others
first_from : (v : View) (by : Measure) (i : ℕ) (name : List ℕ) → i < length v.statics.procs → cost_from v by i name ≡ cond (same_name (full_name v.statics i) name) (Some (cost_of v by i)) (cost_from v by (i + 1) name)
first_from v by i name lt =
    let more : length v.statics.procs - i ≡ suc (length v.statics.procs - (i + 1)) = omega arith in
    elim (cases_Bool (same_name (full_name v.statics i) name)) [
      | inl same ↦ rw (more, same) refl
      | inr other ↦ rw (more, other) refl
    ]

none_from : (v : View) (by : Measure) (name : List ℕ) → cost_from v by (length v.statics.procs) name ≡ None
none_from v by name = let none : length v.statics.procs - length v.statics.procs ≡ 0 = omega arith in rw none refl

pub nothing_put : (v : View) (by : Measure) (costs : BTreeMap Key Cost) (n : ℕ) → costs.entries ≡ [] → n ≡ length v.statics.procs → (name : List ℕ) → cost_at costs name ≡ cost_from v by n name
nothing_put v by costs n empty is name = ap (λ (es : List (Key × Cost)). lookup (is_under name) es) empty ∙ sym (none_from v by name) ∙ ap (λ (k : ℕ). cost_from v by k name) (sym is)

pub all_from : (v : View) (by : Measure) (name : List ℕ) → cost_from v by 0 name ≡ cost_named v by name
all_from v by name = let all : length v.statics.procs - 0 ≡ length v.statics.procs = omega arith in rw all refl

pub name_put : (v : View) (by : Measure) (i : ℕ) (old new : BTreeMap Key Cost) (key : Key) (x : Cost) → i < length v.statics.procs → key.items ≡ full_name v.statics i → x ≡ cost_of v by i
    → new.entries ≡ insert_entry order old.entries key x → ((name : List ℕ) → cost_at old name ≡ cost_from v by (i + 1) name) → (name : List ℕ) → cost_at new name ≡ cost_from v by i name
name_put v by i old new key x lt key_is x_is put before name =
    let test : is_under name key ≡ same_name (full_name v.statics i) name =
    is_eq-slice_cmp name key.items ∙ ap (λ (bytes : List ℕ). bytes_eq name bytes) key_is ∙ nat_list_eq_equiv.symm name (full_name v.statics i) in
    ap (λ (es : List (Key × Cost)). lookup (is_under name) es) put
    ∙ put_under name key x old.entries
    ∙ ap (λ (o : Option Cost). cond (is_under name key) (Some x) o) (before name)
    ∙ ap (λ (b : Bool). cond b (Some x) (cost_from v by (i + 1) name)) test
    ∙ ap (λ (y : Cost). cond (same_name (full_name v.statics i) name) (Some y) (cost_from v by (i + 1) name)) x_is
    ∙ sym (first_from v by i name lt)
