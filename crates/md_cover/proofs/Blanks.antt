-- Each round that takes something down leaves fewer quantities that aren't known.
use Rattle.std.proofs.Common.{◌≡◌, refl, sym, ap, ◌∙◌, subst, arith, inl, inr, ◌⊎◌, ℕ, zero, suc, ◌+◌, ◌-◌, ◌<◌, ◌≤◌, Bool, true, false, ◌||◌, cond, List, [], ◌∷◌, length, min, Option, Some, None, nat_lt, slice_set}
use Rattle.std.proofs.lemmas.Bool.{ltb-true}
use Rattle.md_cover.specs.declared.equation.Quantity.{Quantity}
use Rattle.md_cover.specs.declared.equation.Quantity.TheVariants.{Entries, Exits}
use Rattle.md_cover.specs.declared.equation.Equation.{Equation}
use Rattle.md_cover.specs.declared.solving.Unknown.{Unknown}
use Rattle.md_cover.specs.declared.solving.Unknown.TheVariants.{Nothing, One, More}
use Rattle.md_cover.specs.declared.solving.Settled.{Settled}
use Rattle.md_cover.specs.Known.{value_at, value_from, has_place, put_from, Table, know, has, or_zero, unknown_and, open_from, open_of, settled_by, settled_of, put_at, step_by, step, changes_by, changes_at, round_of, back_of, changes}

abbrev pub blank : Option ℕ → ℕ
blank None = 1
blank (Some n) = 0

abbrev pub blank_count : List (Option ℕ) → ℕ
blank_count [] = 0
blank_count (o ∷ os) = blank o + blank_count os

abbrev pub blanks : Table → ℕ
blanks t = blank_count t.entries + blank_count t.exits

fewer : (xs : List (Option ℕ)) (n v : ℕ) → blank_count (slice_set xs n (Some v)) ≤ blank_count xs
fewer [] n v = omega arith
fewer (o ∷ os) zero v = omega arith
fewer (o ∷ os) (suc n) v = let more = fewer os n v in omega (arith, more)

less : (xs : List (Option ℕ)) (n v : ℕ) → n < length xs → value_at xs n ≡ None → blank_count (slice_set xs n (Some v)) < blank_count xs
less [] n v there is = absurd (omega (arith, there))
less (None ∷ os) zero v there is = omega arith
less (Some w ∷ os) zero v there is = absurd (cc is)
less (o ∷ os) (suc n) v there is = let more = less os n v (omega (arith, there)) is in omega (arith, more)

fewer_from : (first : ℕ) (xs : List (Option ℕ)) (n v : ℕ) → blank_count (put_from first xs n v) ≤ blank_count xs
fewer_from first xs n v = by (nat_lt n first)
  where
    by : (b : Bool) → blank_count (cond b xs (slice_set xs (n - first) (Some v))) ≤ blank_count xs
    by true = omega arith
    by false = fewer xs (n - first) v

less_from : (first : ℕ) (xs : List (Option ℕ)) (n v : ℕ) → has_place first (length xs) n ≡ true → value_from first xs n ≡ None → blank_count (put_from first xs n v) < blank_count xs
less_from first xs n v = by (nat_lt n first)
  where
    by : (b : Bool) → cond b false (nat_lt (n - first) (length xs)) ≡ true → cond b None (value_at xs (n - first)) ≡ None → blank_count (cond b xs (slice_set xs (n - first) (Some v))) < blank_count xs
    by true there is = absurd (cc there)
    by false there is = less xs (n - first) v (ltb-true (n - first) (length xs) there) is

put_fewer : (t : Table) (q : Quantity) (v : ℕ) → blanks (put_at t q v) ≤ blanks t
put_fewer t (Entries n) v = let h = fewer_from t.first t.entries n v in omega (arith, h)
put_fewer t (Exits n) v = let h = fewer_from t.first t.exits n v in omega (arith, h)

put_less : (t : Table) (q : Quantity) (v : ℕ) → has t q ≡ true → know t q ≡ None → blanks (put_at t q v) < blanks t
put_less t (Entries n) v there is = let h = less_from t.first t.entries n v there is in omega (arith, h)
put_less t (Exits n) v there is = let h = less_from t.first t.exits n v there is in omega (arith, h)

-- a quantity that is the one unknown of a list isn't known
one_unknown : (k : Quantity → Option ℕ) (sum : ℕ) (u : Unknown) (qs : List Quantity) (q : Quantity) → (open_from k sum u qs).unknown ≡ One q → (u ≡ One q) ⊎ (k q ≡ None)
one_unknown k sum u [] q is = inl is
one_unknown k sum u (p ∷ qs) q is = by (k p) refl u refl (one_unknown k (min (sum + or_zero (k p)) 18446744073709551615) (unknown_and u (k p) p) qs q is)
  where
    by : (o : Option ℕ) → k p ≡ o → (w : Unknown) → u ≡ w → (unknown_and u (k p) p ≡ One q) ⊎ (k q ≡ None) → (u ≡ One q) ⊎ (k q ≡ None)
    by o at w same (inr none) = inr none
    by (Some n) at w same (inl is) = inl (sym (ap (λ (x : Option ℕ). unknown_and u x p) at) ∙ is)
    by None at Nothing same (inl is) =
        let this : One p ≡ One q = sym (ap (λ (x : Option ℕ). unknown_and u x p) at ∙ ap (λ (x : Unknown). unknown_and x None p) same) ∙ is in
        let one : p ≡ q = cc this in inr (subst (λ (r : Quantity). k r ≡ None) one at)
    by None at (One r) same (inl is) =
        let this : More ≡ One q = sym (ap (λ (x : Option ℕ). unknown_and u x p) at ∙ ap (λ (x : Unknown). unknown_and x None p) same) ∙ is in absurd (cc this)
    by None at More same (inl is) =
        let this : More ≡ One q = sym (ap (λ (x : Option ℕ). unknown_and u x p) at ∙ ap (λ (x : Unknown). unknown_and x None p) same) ∙ is in absurd (cc this)

by_unknown : (k : Quantity → Option ℕ) (whole : Quantity) (sum : ℕ) (o : Option ℕ) (u : Unknown) (s : Settled) → k whole ≡ o → ((q : Quantity) → u ≡ One q → k q ≡ None) → settled_by whole sum o u ≡ Some s → k s.quantity ≡ None
by_unknown k whole sum None Nothing s at one is = let same : whole ≡ s.quantity = cc is in subst (λ (q : Quantity). k q ≡ None) same at
by_unknown k whole sum None (One q) s at one is = absurd (cc is)
by_unknown k whole sum None More s at one is = absurd (cc is)
by_unknown k whole sum (Some n) Nothing s at one is = absurd (cc is)
by_unknown k whole sum (Some n) (One q) s at one is = let same : q ≡ s.quantity = cc is in subst (λ (p : Quantity). k p ≡ None) same (one q refl)
by_unknown k whole sum (Some n) More s at one is = absurd (cc is)

-- what is settled wasn't known
pub settled_unknown : (k : Quantity → Option ℕ) (e : Equation) (s : Settled) → settled_of k e ≡ Some s → k s.quantity ≡ None
settled_unknown k e s is =
    by_unknown k e.whole (open_of k e.number e.parts.items).sum (k e.whole) (open_of k e.number e.parts.items).unknown s refl
    (λ q one. elim (one_unknown k e.number Nothing e.parts.items q one) [
      | inl not ↦ absurd (cc not)
      | inr none ↦ none
    ]) is

step_fewer : (t : Table) (e : Equation) → blanks (step t e) ≤ blanks t
step_fewer t e = by (settled_of (know t) e)
  where
    by : (o : Option Settled) → blanks (step_by t o) ≤ blanks t
    by None = omega arith
    by (Some s) = put_fewer t s.quantity s.value

step_less : (t : Table) (e : Equation) → changes_at t e ≡ true → blanks (step t e) < blanks t
step_less t e = by (settled_of (know t) e) refl
  where
    by : (o : Option Settled) → settled_of (know t) e ≡ o → changes_by t o ≡ true → blanks (step_by t o) < blanks t
    by None at is = absurd (cc is)
    by (Some s) at is = put_less t s.quantity s.value is (settled_unknown (know t) e s at)

round_fewer : (t : Table) (es : List Equation) → blanks (round_of t es) ≤ blanks t
round_fewer t [] = omega arith
round_fewer t (e ∷ es) = let a = step_fewer t e in let b = round_fewer (step t e) es in omega (arith, a, b)

pub back_fewer : (t : Table) (es : List Equation) → blanks (back_of t es) ≤ blanks t
back_fewer t [] = omega arith
back_fewer t (e ∷ es) = let a = back_fewer t es in let b = step_fewer (back_of t es) e in omega (arith, a, b)

pub round_less : (t : Table) (es : List Equation) → changes t es ≡ true → blanks (round_of t es) < blanks t
round_less t [] is = absurd (cc is)
round_less t (e ∷ es) is = by (changes_at t e) refl is (λ more. round_less (step t e) es more)
  where
    by : (b : Bool) → changes_at t e ≡ b → (b || changes (step t e) es) ≡ true → (changes (step t e) es ≡ true → blanks (round_of (step t e) es) < blanks (step t e)) → blanks (round_of (step t e) es) < blanks t
    by true at is more = let a = step_less t e at in let b = round_fewer (step t e) es in omega (arith, a, b)
    by false at is more = let a = step_fewer t e in let b = more is in omega (arith, a, b)
