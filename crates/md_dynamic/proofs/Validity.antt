-- From what the checks of a profile tell to the rules.
use Rattle.std.proofs.Common.{◌≡◌, ◌≢◌, ◌↔◌, ℕ, ◌<◌, List, length, map, Option, Some, None, IsSome, IsSomeAnd, slice_get, refl, sym, ◌∙◌, ap, subst, inl, inr}
use Rattle.std.proofs.lemmas.Bool.{cases_lt}
use Rattle.std.proofs.lemmas.Option.{slice_get_past}
use Rattle.std.specs.Cmp.{nat_cmp_is}
use Rattle.std.specs.List.{AllPairs}
use Rattle.std.specs.Ordering.{nat_cmp, ordering_then}
use Rattle.std.specs.declared.cmp.Ordering.{Ordering}
use Rattle.std.specs.declared.cmp.Ordering.TheVariants.{Equal}
use Rattle.md_static.specs.declared.entry.Site.{Site}
use Rattle.md_static.specs.Tables.{Static}
use Rattle.md_static.proofs.Keys.{pairs_of, pairs_over, number_equal, both_equal}
use Rattle.md_dynamic.specs.declared.link.LinkRow.{LinkRow}
use Rattle.md_dynamic.specs.Valid.{MayCall, Joins, Fits, HasEnds, link_key, whole_key}

joined : (from : Option ℕ) (site : Option Site) (to : Option ℕ) → IsSomeAnd from (λ p. IsSomeAnd site (λ x. IsSomeAnd to (λ q. MayCall x p q))) → IsSome to
joined None site to h = absurd h
joined (Some p) None to h = absurd h
joined (Some p) (Some x) None h = absurd h
joined (Some p) (Some x) (Some q) h = refl

ends : (statics : Static) (nodes : List ℕ) (caller site : Option ℕ) (w : ℕ) → IsSomeAnd caller (λ v. IsSomeAnd site (λ s. Joins statics nodes v s w)) → IsSome caller × IsSome site × IsSome (slice_get nodes w)
ends statics nodes None site w h = absurd h
ends statics nodes (Some v) None w h = absurd h
ends statics nodes (Some v) (Some s) w h = (refl, refl, joined (slice_get nodes v) (slice_get statics.sites s) (slice_get nodes w) h)

within : (nodes : List ℕ) (w : ℕ) → IsSome (slice_get nodes w) → w < length nodes
within nodes w there = elim (cases_lt w (length nodes)) [
  | inl below ↦ below
  | inr past ↦ let none : slice_get nodes w ≡ None = slice_get_past nodes w past in absurd (empty (subst (λ (o : Option ℕ). IsSome o) none there))
]
  where
    empty : IsSome {T = ℕ} None → ⊥
    empty h = cc h

-- a link that fits has its ends
pub fits_ends : (statics : Static) (nodes : List ℕ) (link : LinkRow) → Fits statics nodes link → HasEnds nodes link
fits_ends statics nodes link h =
    let told = ends statics nodes link.caller link.site link.callee h in
    record { caller = told.0; site = told.1; callee = within nodes link.callee told.2 }

-- keys of three numbers compare equal exactly where they are one
abbrev three : ℕ × ℕ × ℕ → ℕ × ℕ × ℕ → Ordering
three a b = ordering_then (ordering_then (nat_cmp a.0 b.0) (nat_cmp a.1 b.1)) (nat_cmp a.2 b.2)

same_three : (a b : ℕ × ℕ × ℕ) → whole_key a ≡ whole_key b → three a b ≡ Equal
same_three a b same =
    let first : a.0 ≡ b.0 = cc (ap (λ (t : Option ℕ × Option ℕ × Option ℕ). t.0) same) in
    let second : a.1 ≡ b.1 = cc (ap (λ (t : Option ℕ × Option ℕ × Option ℕ). t.1) same) in
    let third : a.2 ≡ b.2 = cc (ap (λ (t : Option ℕ × Option ℕ × Option ℕ). t.2) same) in
    ap (λ (r : Ordering). ordering_then (ordering_then r (nat_cmp a.1 b.1)) (nat_cmp a.2 b.2)) (sym (nat_cmp_is a.0 b.0 Equal first))
    ∙ ap (λ (r : Ordering). ordering_then r (nat_cmp a.2 b.2)) (sym (nat_cmp_is a.1 b.1 Equal second))
    ∙ sym (nat_cmp_is a.2 b.2 Equal third)

three_same : (a b : ℕ × ℕ × ℕ) → three a b ≡ Equal → whole_key a ≡ whole_key b
three_same a b equal =
    let whole = both_equal _ _ equal in
    let front = both_equal _ _ whole.0 in
    let one : a.0 ≡ b.0 = number_equal a.0 b.0 front.0 in
    let two : a.1 ≡ b.1 = number_equal a.1 b.1 front.1 in
    let last : a.2 ≡ b.2 = number_equal a.2 b.2 whole.1 in
    λ i. (Some (one i), Some (two i), Some (last i))

pub keys_told : (nodes : List ℕ) (keys : List (ℕ × ℕ × ℕ)) (links : List LinkRow) → map whole_key keys ≡ map (link_key nodes) links
    → AllPairs (λ x y. three x y ≢ Equal) keys ↔ AllPairs (λ a b. link_key nodes a ≢ link_key nodes b) links
keys_told nodes keys links are = (
  λ all. pairs_of (link_key nodes) (λ s t. s ≢ t) links (subst (λ (xs : List (Option ℕ × Option ℕ × Option ℕ)). AllPairs (λ s t. s ≢ t) xs) are
      (pairs_over whole_key (λ s t. s ≢ t) keys (λ i j d less long same. all i j d less long (same_three _ _ same)))),
  λ all i j d less long equal.
      pairs_of whole_key (λ s t. s ≢ t) keys (subst (λ (xs : List (Option ℕ × Option ℕ × Option ℕ)). AllPairs (λ s t. s ≢ t) xs) (sym are)
      (pairs_over (link_key nodes) (λ s t. s ≢ t) links all)) i j d less long (three_same _ _ equal),
)
