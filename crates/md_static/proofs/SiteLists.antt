-- The sites of a procedure are those from its first on.
use Rattle.std.proofs.Common.{ℕ, zero, suc, ◌≢◌, ◌++◌, ◌+◌, ◌-◌, ◌≡◌, ◌<◌, ◌≤◌, inl, inr, true, false, ltb, List, [], ◌∷◌, length, take, drop, Some, None, slice_get, refl, sym, ap, ◌∙◌, subst, arith}
use Rattle.std.proofs.lemmas.Bool.{eq-eqb, ne_eqb, lt-ltb, le-ltb, cases_order}
use Rattle.std.proofs.lemmas.Bool.Decides.{eqb_tells}
use Rattle.md_static.specs.declared.entry.Site.{Site}
use Rattle.md_static.specs.Sites.{OwnersRiseFrom, first_site, sites_of}

-- each later owner is at least as great
rises-from : (m n : ℕ) (xs : List Site) → m ≤ n → OwnersRiseFrom n xs → OwnersRiseFrom m xs
rises-from m n [] le rise = tt
rises-from m n (x ∷ xs) le rise = (omega (arith, rise.0), rise.1)

-- no site belongs to a procedure before the first owner
none-before : (p n : ℕ) (xs : List Site) → p ≤ n → OwnersRiseFrom n xs → first_site p xs ≡ 0
none-before p n [] le rise = refl
none-before p n (x ∷ xs) le rise =
    let above : p ≤ x.owner = omega (arith, rise.0) in
    rw (le-ltb x.owner p above) (omega (arith, none-before p x.owner xs above rise.1))

none-of : (p n : ℕ) (xs : List Site) → p < n → OwnersRiseFrom n xs → sites_of p xs ≡ []
none-of p n [] lt rise = refl
none-of p n (x ∷ xs) lt rise =
    let above : p < x.owner = omega (arith, rise.0) in
    rw (ne_eqb x.owner p (λ e. absurd (omega arith))) (none-of p x.owner xs above rise.1)

-- a site of procedure p stands at its place among the sites of p
pub site-place : (p s n : ℕ) (xs : List Site) (x : Site) → OwnersRiseFrom n xs → slice_get xs s ≡ Some x → x.owner ≡ p →
    (first_site p xs ≤ s) × (slice_get (sites_of p xs) (s - first_site p xs) ≡ Some x)
site-place p s n [] x rise is owner = absurd (cc)
site-place p zero n (y ∷ ys) x rise is owner =
    let same : y ≡ x = cc in
    let mine : y.owner ≡ p = ap (λ (z : Site). z.owner) same ∙ owner in
    let none : first_site p (y ∷ ys) ≡ 0 = none-before p y.owner (y ∷ ys) (omega (arith, mine)) (omega arith, rise.1) in
    (omega (arith, none), rw (none, eq-eqb y.owner p mine) is)
site-place p (suc s) n (y ∷ ys) x rise is owner =
    let rest = site-place p s y.owner ys x rise.1 is owner in
    elim (cases_order y.owner p) [
      | inl same ↦
          let none : first_site p ys ≡ 0 = none-before p y.owner ys (omega (arith, same)) rise.1 in
          let test : ltb y.owner p ≡ false = le-ltb y.owner p (omega (arith, same)) in
          let e : s - first_site p ys ≡ s = omega (arith, none) in
          let at : slice_get (sites_of p ys) s ≡ Some x = subst (λ (k : ℕ). slice_get (sites_of p ys) k ≡ Some x) e rest.1 in
          let first : first_site p (y ∷ ys) ≡ 0 = rw test (omega (arith, none)) in
          let here : slice_get (sites_of p (y ∷ ys)) (suc s) ≡ Some x = rw (eq-eqb y.owner p same) at in
          let stays : suc s ≡ suc s - first_site p (y ∷ ys) = omega (arith, first) in
          (omega (arith, first), subst (λ (k : ℕ). slice_get (sites_of p (y ∷ ys)) k ≡ Some x) stays here)
      | inr other ↦ elim other [
        | inl less ↦
            let test : ltb y.owner p ≡ true = lt-ltb y.owner p less in
            let e : suc s - (1 + first_site p ys) ≡ s - first_site p ys = omega arith in
            (rw test (omega (arith, rest.0)), rw (test, ne_eqb y.owner p (λ e. absurd (omega arith)), e) rest.1)
        | inr more ↦
            let none : sites_of p ys ≡ [] = none-of p y.owner ys more rise.1 in
            absurd (let empty : slice_get (sites_of p ys) (s - first_site p ys) ≡ None = rw none in cc (empty, rest.1))
      ]
    ]

-- the sites of p are those from its first on
pub sites_of-range : (p n : ℕ) (xs : List Site) → OwnersRiseFrom n xs → take (length (sites_of p xs)) (drop (first_site p xs) xs) ≡ sites_of p xs
sites_of-range p n [] rise = refl
sites_of-range p n (y ∷ ys) rise =
    let rest = sites_of-range p y.owner ys rise.1 in
    elim (cases_order y.owner p) [
      | inl same ↦
          let none : first_site p ys ≡ 0 = none-before p y.owner ys (omega (arith, same)) rise.1 in
          let first : first_site p (y ∷ ys) ≡ 0 = rw (le-ltb y.owner p (omega (arith, same))) (omega (arith, none)) in
          let mine : sites_of p (y ∷ ys) ≡ y ∷ sites_of p ys = rw (eq-eqb y.owner p same) in
          let tail : take (length (sites_of p ys)) ys ≡ sites_of p ys = subst (λ (k : ℕ). take (length (sites_of p ys)) (drop k ys) ≡ sites_of p ys) none rest in
          ap (λ k. take (length (sites_of p (y ∷ ys))) (drop k (y ∷ ys))) first ∙ ap (λ zs. take (length zs) (y ∷ ys)) mine ∙ ap (λ zs. y ∷ zs) tail ∙ sym mine
      | inr other ↦ elim other [
        | inl less ↦
            let first : first_site p (y ∷ ys) ≡ suc (first_site p ys) = rw (lt-ltb y.owner p less) (omega arith) in
            let mine : sites_of p (y ∷ ys) ≡ sites_of p ys = rw (ne_eqb y.owner p (λ e. absurd (omega arith))) in
            ap (λ k. take (length (sites_of p (y ∷ ys))) (drop k (y ∷ ys))) first ∙ ap (λ zs. take (length zs) (drop (first_site p ys) ys)) mine ∙ rest ∙ sym mine
        | inr more ↦
            let mine : sites_of p (y ∷ ys) ≡ sites_of p ys = rw (ne_eqb y.owner p (λ e. absurd (omega arith))) in
            let none : sites_of p (y ∷ ys) ≡ [] = mine ∙ none-of p y.owner ys more rise.1 in
            ap (λ zs. take (length zs) (drop (first_site p (y ∷ ys)) (y ∷ ys))) none ∙ sym none
      ]
    ]

-- the sites of p, then those of the next
pub first_site-next : (p : ℕ) (xs : List Site) → first_site (p + 1) xs ≡ first_site p xs + length (sites_of p xs)
first_site-next p [] = refl
first_site-next p (y ∷ ys) =
    let rest = first_site-next p ys in
    elim (cases_order y.owner p) [
      | inl same ↦ rw (lt-ltb y.owner (p + 1) (omega (arith, same)), le-ltb y.owner p (omega (arith, same)), eq-eqb y.owner p same) (omega (arith, rest))
      | inr other ↦ elim other [
        | inl less ↦ rw (lt-ltb y.owner (p + 1) (omega arith), lt-ltb y.owner p less, ne_eqb y.owner p (λ e. absurd (omega arith))) (omega (arith, rest))
        | inr more ↦ rw (le-ltb y.owner (p + 1) (omega arith), le-ltb y.owner p (omega arith), ne_eqb y.owner p (λ e. absurd (omega arith))) (omega (arith, rest))
      ]
    ]

pub first_site-zero : (xs : List Site) → first_site 0 xs ≡ 0
first_site-zero [] = refl
first_site-zero (y ∷ ys) = rw (le-ltb y.owner 0 (omega arith)) (omega (arith, first_site-zero ys))

-- all of them are among the sites
pub first_site-le : (p : ℕ) (xs : List Site) → first_site p xs + length (sites_of p xs) ≤ length xs
first_site-le p [] = omega arith
first_site-le p (y ∷ ys) =
    let rest = first_site-le p ys in
    elim (cases_order y.owner p) [
      | inl same ↦ rw (le-ltb y.owner p (omega (arith, same)), eq-eqb y.owner p same) (omega (arith, rest))
      | inr other ↦ elim other [
        | inl less ↦ rw (lt-ltb y.owner p less, ne_eqb y.owner p (λ e. absurd (omega arith))) (omega (arith, rest))
        | inr more ↦ rw (le-ltb y.owner p (omega arith), ne_eqb y.owner p (λ e. absurd (omega arith))) (omega (arith, rest))
      ]
    ]

-- one more site is one more of its owner
pub sites_of-push-same : (p : ℕ) (xs : List Site) (x : Site) → x.owner ≡ p → length (sites_of p (xs ++ x ∷ [])) ≡ length (sites_of p xs) + 1
sites_of-push-same p [] x is = rw (eq-eqb x.owner p is) refl
sites_of-push-same p (y ∷ ys) x is =
    let rest = sites_of-push-same p ys x is in
    elim (eqb_tells y.owner p) [ inl e ↦ rw e.0 (omega (arith, rest)) | inr e ↦ rw e.0 (omega (arith, rest)) ]

pub sites_of-push-other : (p : ℕ) (xs : List Site) (x : Site) → x.owner ≢ p → length (sites_of p (xs ++ x ∷ [])) ≡ length (sites_of p xs)
sites_of-push-other p [] x is = rw (ne_eqb x.owner p is) refl
sites_of-push-other p (y ∷ ys) x is =
    let rest = sites_of-push-other p ys x is in
    elim (eqb_tells y.owner p) [ inl e ↦ rw e.0 (omega (arith, rest)) | inr e ↦ rw e.0 rest ]

pub sites_of-le : (p : ℕ) (xs : List Site) → length (sites_of p xs) ≤ length xs
sites_of-le p xs = omega (arith, first_site-le p xs)
