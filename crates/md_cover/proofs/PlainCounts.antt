-- Where no link has more than a count can show, a count over activations is the plain sum over their events.
use Rattle.std.proofs.Common.{◌≡◌, ℕ, zero, suc, ◌+◌, ◌<◌, ◌≤◌, Bool, true, false, ◌&&◌, ◌||◌, cond, List, [], ◌∷◌, length, Option, Some, None, refl, sym, ap, ◌∙◌, inl, inr, arith}
use Rattle.std.specs.List.{slice_get, sum_by, list_any}
use Rattle.std.proofs.lemmas.Bool.{cases_Bool, false≢true}
use Rattle.std.proofs.lemmas.List.Sums.{sum_by-cons}
use Rattle.md_base.specs.declared.measure.Measure.{Measure}
use Rattle.md_trace.specs.declared.event.Event.{Event}
use Rattle.md_trace.specs.Activation.{activations, numbered}
use Rattle.md_trace.specs.PortHistory.{SiteTable, IsPortHistory}
use Rattle.md_trace.specs.Context.{Placed, placed_of, has_link}
use Rattle.md_trace.specs.Links.{Leading, links}
use Rattle.md_trace.specs.Count.{activation_of, amount, capped, count_over, link_sum, passes, passing, sum_where}
use Rattle.md_trace.proofs.Counting.{sum-agree}
use Rattle.md_trace.proofs.Finds.{same-link-true, same-link-refl}
use Rattle.md_trace.proofs.LinkFacts.{are-calls, are-right, links-distinct}
use Rattle.md_trace.proofs.Numbered.{numbered-there}
use Rattle.md_trace.proofs.Placing.{length-placed}

-- ---- sums over events

pub sum_none : (f : ℕ → Bool) (m : Measure) (h : List Event) → ((a : ℕ) → f a ≡ false) → sum_where f m h ≡ 0
sum_none f m [] none = refl
sum_none f m (e ∷ h) none = rw (none (activation_of e), sum_none f m h none) refl

fewer_pass : (f p : Bool) (n : ℕ) → cond (f && p) n 0 ≤ cond p n 0
fewer_pass true p n = omega arith
fewer_pass false true n = omega arith
fewer_pass false false n = omega arith

-- a narrower test has no greater sum
sum_narrower : (f p : ℕ → Bool) (m : Measure) (h : List Event) → sum_where (λ a. f a && p a) m h ≤ sum_where p m h
sum_narrower f p m [] = omega arith
sum_narrower f p m (e ∷ h) =
    let here = fewer_pass (f (activation_of e)) (p (activation_of e)) (amount m e) in
    let rest = sum_narrower f p m h in
    omega (arith, here, rest)

one_or_other : (f p q : Bool) (n : ℕ) → (p ≡ true → q ≡ false) → cond (f && (p || q)) n 0 ≡ cond (f && p) n 0 + cond (f && q) n 0
one_or_other false p q n apart = omega arith
one_or_other true false q n apart = omega arith
one_or_other true true q n apart = rw (apart refl) (omega arith)

-- the sum over what passes one of two tests, of which nothing passes both
sum_either : (f p q : ℕ → Bool) (m : Measure) (h : List Event) → ((a : ℕ) → p a ≡ true → q a ≡ false)
    → sum_where (λ a. f a && (p a || q a)) m h ≡ sum_where (λ a. f a && p a) m h + sum_where (λ a. f a && q a) m h
sum_either f p q m [] apart = refl
sum_either f p q m (e ∷ h) apart =
    let here = one_or_other (f (activation_of e)) (p (activation_of e)) (q (activation_of e)) (amount m e) (apart (activation_of e)) in
    let rest = sum_either f p q m h apart in
    omega (arith, here, rest)

-- ---- activations and their links

-- the activation has the link
abbrev has : List Placed → ℕ → Leading → Bool
has xs a l = passing xs (has_link l.link) a

-- no two of these have one link
abbrev AreApart : List Leading → Type 0
AreApart ls = (j k : ℕ) (x y : Leading) → slice_get ls j ≡ Some x → slice_get ls k ≡ Some y → x.link ≡ y.link → j ≡ k

passed : (o : Option Placed) (l : Leading) → passes (has_link l.link) o ≡ true → (y : Placed) × (o ≡ Some y) × (l.link ≡ y.link)
passed None l holds = absurd (false≢true holds)
passed (Some y) l holds = (y, refl, same-link-true l.link y.link holds)

-- links of one activation are one
one_link : (xs : List Placed) (a : ℕ) (k l : Leading) → has xs a k ≡ true → has xs a l ≡ true → k.link ≡ l.link
one_link xs a k l first second =
    let y = passed (numbered xs a) k first in
    let z = passed (numbered xs a) l second in
    let same : y.0 ≡ z.0 = cc (sym y.1 ∙ z.1) in
    y.2 ∙ ap (λ (w : Placed). w.link) same ∙ sym z.2

no_other : (xs : List Placed) (a : ℕ) (l : Leading) (ls : List Leading) → ((j : ℕ) (k : Leading) → slice_get ls j ≡ Some k → l.link ≡ k.link → ⊥) → has xs a l ≡ true → list_any (has xs a) ls ≡ false
no_other xs a l [] apart holds = refl
no_other xs a l (k ∷ ls) apart holds = elim (cases_Bool (has xs a k)) [
  | inl too ↦ absurd (apart 0 k refl (one_link xs a l k holds too))
  | inr not ↦ rw not (no_other xs a l ls (λ j x at. apart (suc j) x at) holds)
]

some_has : (xs : List Placed) (a : ℕ) (ls : List Leading) (j : ℕ) (l : Leading) → slice_get ls j ≡ Some l → has xs a l ≡ true → list_any (has xs a) ls ≡ true
some_has xs a [] j l at holds = absurd (cc at)
some_has xs a (k ∷ ls) zero l at holds = let same : k ≡ l = cc at in rw same (rw holds refl)
some_has xs a (k ∷ ls) (suc j) l at holds = elim (cases_Bool (has xs a k)) [
  | inl one ↦ rw one refl
  | inr not ↦ rw not (some_has xs a ls j l at holds)
]

-- the sums of the links, together, are the sum over what has one of them
sum_links : (xs : List Placed) (f : ℕ → Bool) (m : Measure) (h : List Event) (ls : List Leading) → AreApart ls
    → sum_by (λ l. sum_where (λ a. f a && passing xs (has_link l.link) a) m h) ls ≡ sum_where (λ a. f a && list_any (has xs a) ls) m h
sum_links xs f m h [] apart = sym (sum_none (λ a. f a && false) m h (λ a. none (f a)))
  where
    none : (b : Bool) → (b && false) ≡ false
    none true = refl
    none false = refl
sum_links xs f m h (l ∷ ls) apart =
    let first = sum_by-cons (λ (k : Leading). sum_where (λ a. f a && passing xs (has_link k.link) a) m h) l ls in
    let rest = sum_links xs f m h ls (λ j k x y at there same. suc_same j k (apart (suc j) (suc k) x y at there same)) in
    let either = sum_either f (λ a. has xs a l) (λ a. list_any (has xs a) ls) m h (λ a. no_other xs a l ls (λ j k at same. alone j (apart 0 (suc j) l k refl at same))) in
    first ∙ ap (λ (n : ℕ). sum_where (λ a. f a && has xs a l) m h + n) rest ∙ sym either
  where
    suc_same : (j k : ℕ) → suc j ≡ suc k → j ≡ k
    suc_same j k same = omega (arith, same)

    alone : (j : ℕ) → 0 ≡ suc j → ⊥
    alone j same = absurd (omega (arith, same))

-- ---- counts

module _ (t : SiteTable) (h : List Event) (is : IsPortHistory t h) where
  -- each activation has a link
  has_one : (a : ℕ) → a < length (activations h) → list_any (has (placed_of t.main h) a) (links t.main (placed_of t.main h)) ≡ true
  has_one a below =
      let len = length-placed t.main (activations h) in
      let y = numbered-there (placed_of t.main h) a (omega (arith, len, below)) in
      let l = (are-right t.main (activations h) (are-calls t h is)).linked a y.0 y.1 in
      some_has (placed_of t.main h) a (links t.main (placed_of t.main h)) l.0 (record { link = y.0.link; to = y.0.context }) l.1 (ap (passes (has_link y.0.link)) y.1 ∙ same-link-refl y.0.link)

  -- where each link's sum can be shown, a count is the plain sum
  pub plain_count : (test : ℕ → Bool) (m : Measure) → ((j : ℕ) (l : Leading) → slice_get (links t.main (placed_of t.main h)) j ≡ Some l → link_sum t.main h l.link m < 4294967295) → count_over t.main h test m ≡ sum_where test m h
  plain_count test m few =
      whole (links t.main (placed_of t.main h)) few
      ∙ sum_links (placed_of t.main h) test m h (links t.main (placed_of t.main h)) (links-distinct t.main (placed_of t.main h))
      ∙ sum-agree t (λ a. test a && list_any (has (placed_of t.main h) a) (links t.main (placed_of t.main h))) test m h is (λ a below. rw (has_one a below) (kept (test a)))
    where
      kept : (b : Bool) → (b && true) ≡ b
      kept true = refl
      kept false = refl

      whole : (ls : List Leading) → ((j : ℕ) (l : Leading) → slice_get ls j ≡ Some l → link_sum t.main h l.link m < 4294967295)
          → sum_by (λ l. capped (sum_where (λ a. test a && passing (placed_of t.main h) (has_link l.link) a) m h)) ls ≡ sum_by (λ l. sum_where (λ a. test a && passing (placed_of t.main h) (has_link l.link) a) m h) ls
      whole [] few = refl
      whole (x ∷ ls) few =
          let below = few 0 x refl in
          let narrower = sum_narrower test (passing (placed_of t.main h) (has_link x.link)) m h in
          let rest = whole ls (λ j l at. few (suc j) l at) in
          let one = sum_by-cons (λ (l : Leading). capped (sum_where (λ a. test a && passing (placed_of t.main h) (has_link l.link) a) m h)) x ls in
          let other = sum_by-cons (λ (l : Leading). sum_where (λ a. test a && passing (placed_of t.main h) (has_link l.link) a) m h) x ls in
          omega (arith, below, narrower, rest, one, other)
