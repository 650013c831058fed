-- A count over the activations of whole links is a sum over the links' own counts.
use Rattle.std.proofs.Common.{◌≡◌, ℕ, zero, suc, Bool, true, false, ◌&&◌, cond, List, [], ◌∷◌, map, Option, Some, None, refl, sym, ap, ◌∙◌, inl, inr, arith}
use Rattle.std.specs.List.{slice_get, sum_by}
use Rattle.std.proofs.lemmas.Bool.{cases_Bool, false≢true}
use Rattle.std.proofs.lemmas.List.Sums.{sum_by-cons}
use Rattle.md_base.specs.declared.measure.Measure.{Measure}
use Rattle.md_base.specs.declared.measure.Measure.TheVariants.{Calls, Exits, Fails, Redos, Allocs, Words, Excps}
use Rattle.md_trace.specs.declared.event.Event.{Event}
use Rattle.md_trace.specs.Activation.{activations, numbered}
use Rattle.md_trace.specs.PortHistory.{SiteTable, IsPortHistory}
use Rattle.md_trace.specs.Context.{Placed, placed_of, has_link, same_link}
use Rattle.md_trace.specs.Links.{Leading}
use Rattle.md_trace.specs.Count.{activation_of, capped, count_of, counts_by, count_over, passes, passing, sum_where}
use Rattle.md_trace.specs.Totals.{own}
use Rattle.md_trace.proofs.LinkFacts.{AreRight, are-calls, are-right, leading, links-distinct}
use Rattle.md_clique.specs.OneEntry.{links_of}
use Rattle.md_clique.proofs.Growing.{same_link_eq, same_link_refl}
use Rattle.md_dynamic.specs.declared.link.LinkRow.{LinkRow}
use Rattle.md_cost.specs.Totals.{sum_where as rows_where}
use Rattle.md_dynamic.specs.OfHistory.{row_of}

by_measure : (f : Measure → ℕ) (m : Measure) → count_of (counts_by f) m ≡ f m
by_measure f Calls = refl
by_measure f Exits = refl
by_measure f Fails = refl
by_measure f Redos = refl
by_measure f Allocs = refl
by_measure f Words = refl
by_measure f Excps = refl

events_same : (f g : ℕ → Bool) (m : Measure) (h : List Event) → ((a : ℕ) → f a ≡ g a) → sum_where f m h ≡ sum_where g m h
events_same f g m [] same = refl
events_same f g m (e ∷ h) same = rw (same (activation_of e), events_same f g m h same) refl

events_none : (f : ℕ → Bool) (m : Measure) (h : List Event) → ((a : ℕ) → f a ≡ false) → sum_where f m h ≡ 0
events_none f m [] none = refl
events_none f m (e ∷ h) none = rw (none (activation_of e), events_none f m h none) refl

both : (a b t : Bool) → (b ≡ true → a ≡ t) → (a && b) ≡ (t && b)
both a true t same = rw (same refl) refl
both true false true same = refl
both true false false same = refl
both false false true same = refl
both false false false same = refl

-- the activations of one link, all of them or none
whole : (P Q : ℕ → Bool) (t : Bool) (m : Measure) (h : List Event) → ((a : ℕ) → Q a ≡ true → P a ≡ t) → capped (sum_where (λ a. P a && Q a) m h) ≡ cond t (capped (sum_where Q m h)) 0
whole P Q true m h same = ap (λ (n : ℕ). capped n) (events_same (λ a. P a && Q a) Q m h (λ a. both (P a) (Q a) true (same a)))
whole P Q false m h same = ap (λ (n : ℕ). capped n) (events_none (λ a. P a && Q a) m h (λ a. both (P a) (Q a) false (same a)))

sum_mapped : {X Y : Type 0} (f : X → ℕ) (g : Y → ℕ) (r : X → Y) (xs : List X) → ((j : ℕ) (x : X) → slice_get xs j ≡ Some x → f x ≡ g (r x)) → sum_by f xs ≡ sum_by g (map r xs)
sum_mapped f g r [] same = refl
sum_mapped f g r (x ∷ xs) same =
    let first = same 0 x refl in
    let rest = sum_mapped f g r xs (λ j y at. same (suc j) y at) in
    let one = sum_by-cons f x xs in
    let other = sum_by-cons g (r x) (map r xs) in
    omega arith

passed : (o : Option Placed) (p : Placed → Bool) → passes p o ≡ true → (y : Placed) × (o ≡ Some y) × (p y ≡ true)
passed None p h = absurd (false≢true h)
passed (Some y) p h = (y, refl, h)

module _ (t : SiteTable) (h : List Event) (is : IsPortHistory t h) where
  abbrev xs : List Placed
  xs = placed_of t.main h

  pub right : AreRight t.main (placed_of t.main h)
  right = are-right t.main (activations h) (are-calls t h is)

  -- a link and an activation that has it
  known : (j a : ℕ) (l : Leading) → slice_get (links_of t.main h) j ≡ Some l → passing (placed_of t.main h) (has_link l.link) a ≡ true → (y : Placed) × (numbered (placed_of t.main h) a ≡ Some y) × (l ≡ leading y.link y.context)
  known j a l at holds =
      let y = passed (numbered (placed_of t.main h) a) (has_link l.link) holds in
      let same : l.link ≡ y.0.link = same_link_eq l.link y.0.link y.2 in
      let its = right.linked a y.0 y.1 in
      let place : j ≡ its.0 = links-distinct t.main (placed_of t.main h) j its.0 l (leading y.0.link y.0.context) at its.1 same in
      (y.0, y.1, one_link (links_of t.main h) j its.0 l (leading y.0.link y.0.context) place at its.1)
    where
      one_link : (ls : List Leading) (i k : ℕ) (a b : Leading) → i ≡ k → slice_get ls i ≡ Some a → slice_get ls k ≡ Some b → a ≡ b
      one_link ls i k a b e p q = let s : Some a ≡ Some b = sym p ∙ ap (slice_get ls) e ∙ q in cc

  -- a count over links, where the test asks for whole links
  pub count_links : (test : ℕ → Bool) (T : Leading → Bool) (m : Measure) → ((a : ℕ) (y : Placed) → numbered (placed_of t.main h) a ≡ Some y → test a ≡ T (leading y.link y.context))
      → count_over t.main h test m ≡ sum_by (λ l. cond (T l) (count_of (row_of t.main h l).own m) 0) (links_of t.main h)
  count_links test T m same = same_sums
      (λ l. capped (sum_where (λ a. test a && passing (placed_of t.main h) (has_link l.link) a) m h))
      (λ l. cond (T l) (count_of (row_of t.main h l).own m) 0)
      (links_of t.main h)
      (λ j l at.
      whole test (passing (placed_of t.main h) (has_link l.link)) (T l) m h (λ a holds. (let k = known j a l at holds in same a k.0 k.1 ∙ ap T (sym k.2)))
      ∙ ap (λ (n : ℕ). cond (T l) n 0) (sym (by_measure (λ n. capped (sum_where (passing (placed_of t.main h) (has_link l.link)) n h)) m)))
    where
      same_sums : (f g : Leading → ℕ) (ls : List Leading) → ((j : ℕ) (l : Leading) → slice_get ls j ≡ Some l → f l ≡ g l) → sum_by f ls ≡ sum_by g ls
      same_sums f g [] each = refl
      same_sums f g (x ∷ ls) each =
          let first = each 0 x refl in
          let rest = same_sums f g ls (λ j y at. each (suc j) y at) in
          let one = sum_by-cons f x ls in
          let other = sum_by-cons g x ls in
          omega arith

  -- the same as a sum over the rows of the profile
  pub count_rows : (test : ℕ → Bool) (T : LinkRow → Bool) (m : Measure) → ((a : ℕ) (y : Placed) → numbered (placed_of t.main h) a ≡ Some y → test a ≡ T (row_of t.main h (leading y.link y.context)))
      → count_over t.main h test m ≡ rows_where T m (map (row_of t.main h) (links_of t.main h))
  count_rows test T m same =
      count_links test (λ l. T (row_of t.main h l)) m same
      ∙ sum_mapped (λ l. cond (T (row_of t.main h l)) (count_of (row_of t.main h l).own m) 0) (λ r. cond (T r) (count_of r.own m) 0) (row_of t.main h) (links_of t.main h) (λ j l at. refl)

  -- the own count of one link
  pub count_one : (p : ℕ) (x : Leading) (m : Measure) → slice_get (links_of t.main h) p ≡ Some x → own t.main h (has_link x.link) m ≡ count_of (row_of t.main h x).own m
  count_one p x m at =
      count_links (passing (placed_of t.main h) (has_link x.link)) (λ l. same_link x.link l.link) m (λ a y there. ap (passes (has_link x.link)) there)
      ∙ one_of (λ l. count_of (row_of t.main h l).own m) (links_of t.main h) p x at (λ j k y z py pz same. links-distinct t.main (placed_of t.main h) j k y z py pz same)
    where
      none_of : (f : Leading → ℕ) (x : Leading) (ls : List Leading) → ((j : ℕ) (y : Leading) → slice_get ls j ≡ Some y → x.link ≡ y.link → ⊥) → sum_by (λ l. cond (same_link x.link l.link) (f l) 0) ls ≡ 0
      none_of f x [] apart = refl
      none_of f x (y ∷ ls) apart = elim (cases_Bool (same_link x.link y.link)) [
        | inl same ↦ absurd (apart 0 y refl (same_link_eq x.link y.link same))
        | inr other ↦ (
            let one = sum_by-cons (λ (l : Leading). cond (same_link x.link l.link) (f l) 0) y ls in
            let zero_y : cond (same_link x.link y.link) (f y) 0 ≡ 0 = rw other refl in
            let rest = none_of f x ls (λ j z at. apart (suc j) z at) in
            omega arith)
      ]

      one_of : (f : Leading → ℕ) (ls : List Leading) (p : ℕ) (x : Leading) → slice_get ls p ≡ Some x → ((j k : ℕ) (y z : Leading) → slice_get ls j ≡ Some y → slice_get ls k ≡ Some z → y.link ≡ z.link → j ≡ k) → sum_by (λ l. cond (same_link x.link l.link) (f l) 0) ls ≡ f x
      one_of f [] p x at distinct = cc
      one_of f (y ∷ ls) zero x at distinct =
          let same : y ≡ x = cc in
          let one = sum_by-cons (λ (l : Leading). cond (same_link x.link l.link) (f l) 0) y ls in
          let first : cond (same_link x.link y.link) (f y) 0 ≡ f x = rw same (rw same_link_refl refl) in
          let rest = none_of f x ls (λ j z there e. (let d : 0 ≡ suc j = distinct 0 (suc j) x z (ap (λ (w : Leading). Some w) same) there e in absurd (omega arith))) in
          omega arith
      one_of f (y ∷ ls) (suc p) x at distinct = elim (cases_Bool (same_link x.link y.link)) [
        | inl same ↦ (let d : suc p ≡ 0 = distinct (suc p) 0 x y at refl (same_link_eq x.link y.link same) in absurd (omega arith))
        | inr other ↦ (
            let one = sum_by-cons (λ (l : Leading). cond (same_link x.link l.link) (f l) 0) y ls in
            let zero_y : cond (same_link x.link y.link) (f y) 0 ≡ 0 = rw other refl in
            let rest = one_of f ls p x at (λ j k w z pw pz e. (let d : suc j ≡ suc k = distinct (suc j) (suc k) w z pw pz e in omega arith)) in
            omega arith)
      ]
