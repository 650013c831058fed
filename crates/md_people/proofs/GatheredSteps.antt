-- The sums of one link more.
use Rattle.std.proofs.Common.{◌≡◌, ℕ, ◌+◌, ◌<◌, cond, List, [], ◌∷◌, ◌++◌, length, get_or, map, set, take, Option, Some, None, refl, sym, ap, ◌∙◌, ◌*◌, ◌^◌, ◌≤◌, IfSome, inl, inr, arith}
use Rattle.std.specs.Prelude.{unwrap_or}
use Rattle.std.specs.List.{sum_by}
use Rattle.std.proofs.lemmas.List.{append-nil, get_or_default, get_or-set_same, get_or-set_other, map_push}
use Rattle.std.proofs.lemmas.List.Sums.{sum_by-cons, sum_by_push}
use Rattle.std.proofs.lemmas.Bool.{cases_eq, cases_Bool, eq-eqb, ne_eqb}
use Rattle.md_trace.specs.Context.{same_option}
use Rattle.md_clique.specs.Places.{places}
use Rattle.md_base.specs.declared.measure.Measure.{Measure}
use Rattle.md_cost.specs.declared.sums.Sums.{Sums}
use Rattle.md_cost.specs.SumOf.{sum_of}
use Rattle.md_cost.specs.View.{View, OfLink}
use Rattle.md_cost.proofs.Measures.{each_measure}
use Rattle.md_people.specs.Callers.{row_if_any, sum_some}
use Rattle.md_people.specs.Counts.{own_counts, sums_by}
use Rattle.md_people.specs.declared.gathered.Gathered.{Gathered}
use Rattle.md_people.proofs.Links.{places_more, sums_told}
use Rattle.md_people.specs.Gathered.{HasSmallTotal, IsWithin, gathered_of, row_of, with_link}

some_one : (o : Option ℕ) → sum_some (o ∷ []) ≡ o
some_one None = refl
some_one (Some n) = ap (λ (k : ℕ). Some k) (let e : n + 0 ≡ n = omega arith in e)

-- a number or none, and those of two
two_some : (n : ℕ) (o t : Option ℕ) → Some (n + unwrap_or (sum_some (o ∷ t ∷ [])) 0) ≡ sum_some (Some (n + unwrap_or o 0) ∷ t ∷ [])
two_some n None t = ap (λ (k : ℕ). Some k) (let e : n + unwrap_or (sum_some (t ∷ [])) 0 ≡ n + 0 + unwrap_or (sum_some (t ∷ [])) 0 = omega arith in e)
two_some n (Some a) t = ap (λ (k : ℕ). Some k) (let e : n + (a + unwrap_or (sum_some (t ∷ [])) 0) ≡ n + a + unwrap_or (sum_some (t ∷ [])) 0 = omega arith in e)

some_push : (ts : List (Option ℕ)) (t : Option ℕ) → sum_some (ts ++ t ∷ []) ≡ sum_some (sum_some ts ∷ t ∷ [])
some_push [] t = refl
some_push (None ∷ ts) t = some_push ts t
some_push (Some n ∷ ts) t = ap (λ (o : Option ℕ). Some (n + unwrap_or o 0)) (some_push ts t) ∙ two_some n (sum_some ts) t

sums_same : (f g : Measure → ℕ) → ((m : Measure) → f m ≡ g m) → sums_by f ≡ sums_by g
sums_same f g same = λ i. sums_by (λ (m : Measure). same m i)

-- the sums of one link more
pub gathered_push : (v : View) (by : Measure) (ls : List ℕ) (l : ℕ) → gathered_of v by (ls ++ l ∷ []) ≡ Some (with_link v by (gathered_of v by ls) l)
gathered_push v by [] l = λ i. Some (record {
  total = some_one (v.total (OfLink l) by) i;
  own = sums_same (λ m. sum_by (λ k. own_counts v (OfLink k) m) (l ∷ [])) (own_counts v (OfLink l)) (λ m. (let split = sum_by-cons (λ (k : ℕ). own_counts v (OfLink k) m) l [] in omega arith)) i;
})
gathered_push v by (x ∷ ls) l = λ i. Some (record {
  total = (ap sum_some (map_push (λ (k : ℕ). v.total (OfLink k) by) (x ∷ ls) l) ∙ some_push (map (λ (k : ℕ). v.total (OfLink k) by) (x ∷ ls)) (v.total (OfLink l) by)) i;
  own = sums_same (λ m. sum_by (λ k. own_counts v (OfLink k) m) ((x ∷ ls) ++ l ∷ [])) (λ m. sum_of (sums_by (λ n. sum_by (λ k. own_counts v (OfLink k) n) (x ∷ ls))) m + own_counts v (OfLink l) m)
      (λ m. sum_by_push (λ (k : ℕ). own_counts v (OfLink k) m) (x ∷ ls) l ∙ ap (λ (n : ℕ). n + own_counts v (OfLink l) m) (sum_at (λ n. sum_by (λ k. own_counts v (OfLink k) n) (x ∷ ls)) m)) i;
})
  where
    sum_at : (f : Measure → ℕ) (m : Measure) → f m ≡ sum_of (sums_by f) m
    sum_at f = each_measure (λ (m : Measure). f m ≡ sum_of (sums_by f) m) refl refl refl refl refl refl refl

pub gathered_same : (t u : Option ℕ) (s : Sums) (f : Measure → ℕ) → t ≡ u → ((m : Measure) → sum_of s m ≡ f m) → ◌≡◌ {A = Gathered} (record { total = t; own = s }) (record { total = u; own = sums_by f })
gathered_same t u s f e same = λ i. record { total = e i; own = sums_told s f same i }

-- the next link, in its slot
pub more_gathered : (v : View) (by : Measure) (slots : List (Option ℕ)) (i k : ℕ) (s : Option ℕ) → i < length slots → get_or slots i None ≡ s
    → gathered_of v by (places (same_option (Some k)) (take (i + 1) slots))
    ≡ cond (same_option (Some k) s) (Some (with_link v by (gathered_of v by (places (same_option (Some k)) (take i slots))) i)) (gathered_of v by (places (same_option (Some k)) (take i slots)))
more_gathered v by slots i k s lt is =
    let before = places (same_option (Some k)) (take i slots) in
    ap (λ (ls : List ℕ). gathered_of v by ls) (places_more (same_option (Some k)) slots i s lt (sym is ∙ get_or_default slots i None s lt))
    ∙ elim (cases_Bool (same_option (Some k) s)) as (λ _. gathered_of v by (before ++ cond (same_option (Some k) s) (i ∷ []) []) ≡ cond (same_option (Some k) s) (Some (with_link v by (gathered_of v by before) i)) (gathered_of v by before)) [
      | inl its ↦ rw its (gathered_push v by before i)
      | inr other ↦ rw other (ap (λ (ls : List ℕ). gathered_of v by ls) (append-nil before))
    ]

-- sums of no more links are sums of no more than one more
pub within_more : (n : ℕ) (o : Option Gathered) → IfSome o (IsWithin n) → IfSome o (IsWithin (n + 1))
within_more n None h = tt
within_more n (Some g) h = record { total = total_more n g.total h.total; own = λ m. (let le = h.own m in omega arith) }
  where
    total_more : (n : ℕ) (o : Option ℕ) → IfSome o (λ t. t ≤ n * 2 ^ 64) → IfSome o (λ t. t ≤ (n + 1) * 2 ^ 64)
    total_more n None h = tt
    total_more n (Some t) h = let le : t ≤ n * 18446744073709551616 = h in omega arith

-- the slots of which one has a link more
pub slot_told : (v : View) (by : Measure) (found : List (Option Gathered)) (slots : List (Option ℕ)) (i s k : ℕ) (g : Gathered) → i < length slots → get_or slots i None ≡ Some s → s < length found
    → get_or found k None ≡ gathered_of v by (places (same_option (Some k)) (take i slots)) → get_or found s None ≡ gathered_of v by (places (same_option (Some s)) (take i slots))
    → g ≡ with_link v by (get_or found s None) i → get_or (set found s (Some g)) k None ≡ gathered_of v by (places (same_option (Some k)) (take (i + 1) slots))
slot_told v by found slots i s k g lt is below so_far its g_is = elim (cases_eq k s) [
  | inl e ↦ (
      let more = more_gathered v by slots i s (Some s) lt is in
      let told : gathered_of v by (places (same_option (Some s)) (take (i + 1) slots)) ≡ Some (with_link v by (gathered_of v by (places (same_option (Some s)) (take i slots))) i) = rw (eq-eqb s s refl) at more in
      rw e (get_or-set_same found s (Some g) None below ∙ ap (λ (x : Gathered). Some x) (g_is ∙ ap (λ (o : Option Gathered). with_link v by o i) its) ∙ sym told))
  | inr ne ↦ (
      let more = more_gathered v by slots i k (Some s) lt is in
      let told : gathered_of v by (places (same_option (Some k)) (take (i + 1) slots)) ≡ gathered_of v by (places (same_option (Some k)) (take i slots)) = rw (ne_eqb k s ne) at more in
      get_or-set_other found s k (Some g) None ne ∙ so_far ∙ sym told)
]

pub slot_within : (n : ℕ) (found : List (Option Gathered)) (s k : ℕ) (g : Gathered) → s < length found → IfSome (get_or found k None) (IsWithin n) → IsWithin (n + 1) g → IfSome (get_or (set found s (Some g)) k None) (IsWithin (n + 1))
slot_within n found s k g below so_far its = elim (cases_eq k s) [
  | inl e ↦ rw (e, get_or-set_same found s (Some g) None below) its
  | inr ne ↦ rw (get_or-set_other found s k (Some g) None ne) (within_more n (get_or found k None) so_far)
]

pub within_small : (n : ℕ) (o : Option Gathered) → n < 2 ^ 32 → IfSome o (IsWithin n) → IfSome o HasSmallTotal
within_small n None few h = tt
within_small n (Some g) few h = small n g.total few h.total
  where
    small : (n : ℕ) (o : Option ℕ) → n < 2 ^ 32 → IfSome o (λ t. t ≤ n * 2 ^ 64) → IfSome o (λ t. t < 2 ^ 118)
    small n None few h = tt
    small n (Some t) few h = let le : t ≤ n * 18446744073709551616 = h in omega arith

pub row_told : (v : View) (by : Measure) (ls last : List ℕ) → row_of (gathered_of v by ls) last ≡ row_if_any v by ls last
row_told v by [] last = refl
row_told v by (l ∷ ls) last = refl
