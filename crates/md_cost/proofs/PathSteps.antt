-- A path that may go one clique further: it takes one more step exactly where it has come to that clique.
use Rattle.std.proofs.Common.{◌≡◌, ℕ, zero, suc, ◌<◌, ◌≤◌, Bool, true, false, ◌&&◌, ◌||◌, eqb, List, [], ◌∷◌, get_or, refl, ◌∙◌, inl, inr, arith}
use Rattle.std.specs.List.{list_any}
use Rattle.std.proofs.lemmas.Bool.{cases_lt, cases_order, cases_Bool, eq-eqb, ne_eqb, eqb-true, le-leb, lt-leb, false≢true}
use Rattle.md_cost.specs.Paths.{path_to}

-- a test of one context that is asked of a list of it
pub any_one : (p : ℕ → Bool) (c : ℕ) → list_any p (c ∷ []) ≡ p c
any_one p c = elim (cases_Bool (p c)) [ inl h ↦ rw h refl | inr h ↦ rw h refl ]

before_it : (x t : Bool) → (x || false) ≡ ((x || false) || ((false || false) && t))
before_it true t = refl
before_it false t = refl

at_it : (x t : Bool) → (x || (t || false)) ≡ ((x || false) || ((true || false) && t))
at_it true t = refl
at_it false true = refl
at_it false false = refl

past_it : (x l p t : Bool) → (x || (l || (p && t))) ≡ ((x || l) || ((false || p) && t))
past_it true l p t = refl
past_it false l p t = refl

module _ (cliques : List ℕ) (starts : ℕ → ℕ) where
  -- a path stops in a clique of number q or lower
  pub path_stops : (q n c : ℕ) → get_or cliques c 0 ≤ q → path_to cliques starts q n c ≡ c ∷ []
  path_stops q zero c le = refl
  path_stops q (suc n) c le = rw (le-leb (get_or cliques c 0) q le) refl

  pub path_goes : (q n c : ℕ) → q < get_or cliques c 0 → path_to cliques starts q (suc n) c ≡ c ∷ path_to cliques starts q n (starts (get_or cliques c 0))
  path_goes q n c lt = rw (lt-leb (get_or cliques c 0) q lt) refl

  module _ (count : ℕ) (rises : (k : ℕ) → 0 < k → k < count → get_or cliques (starts k) 0 < k) where
    -- a path that has come to clique q + 1 takes one step more where it may go on to q
    pub one_further : (q : ℕ) (test : ℕ → Bool) → suc q < count → (n c : ℕ) → get_or cliques c 0 ≤ n → get_or cliques c 0 < count →
        list_any test (path_to cliques starts q n c) ≡ (list_any test (path_to cliques starts (suc q) n c) || (list_any (λ d. eqb (get_or cliques d 0) (suc q)) (path_to cliques starts (suc q) n c) && test (starts (suc q))))
    one_further q test few zero c le lt = rw (ne_eqb (get_or cliques c 0) (suc q) (λ e. absurd (omega arith))) (before_it (test c) (test (starts (suc q))))
    one_further q test few (suc n) c le lt = elim (cases_order (get_or cliques c 0) (suc q)) [
      | inl is ↦ (
          let low = rises (suc q) (omega arith) few in
          let stop : path_to cliques starts q n (starts (suc q)) ≡ starts (suc q) ∷ [] = path_stops q n (starts (suc q)) (omega arith) in
          let go : path_to cliques starts q (suc n) c ≡ c ∷ starts (suc q) ∷ [] = path_goes q n c (omega arith) ∙ (rw (is, stop) refl) in
          rw (go, path_stops (suc q) (suc n) c (omega arith), eq-eqb (get_or cliques c 0) (suc q) is) (at_it (test c) (test (starts (suc q)))))
      | inr apart ↦ elim apart [
        | inl below ↦ rw (path_stops q (suc n) c (omega arith), path_stops (suc q) (suc n) c (omega arith), ne_eqb (get_or cliques c 0) (suc q) (λ e. absurd (omega arith))) (before_it (test c) (test (starts (suc q))))
        | inr above ↦ (
            let low = rises (get_or cliques c 0) (omega arith) lt in
            let rest = one_further q test few n (starts (get_or cliques c 0)) (omega arith) (omega arith) in
            rw (path_goes q n c (omega arith), path_goes (suc q) n c above, ne_eqb (get_or cliques c 0) (suc q) (λ e. absurd (omega arith)), rest)
            (past_it (test c) (list_any test (path_to cliques starts (suc q) n (starts (get_or cliques c 0)))) (list_any (λ d. eqb (get_or cliques d 0) (suc q)) (path_to cliques starts (suc q) n (starts (get_or cliques c 0)))) (test (starts (suc q)))))
      ]
    ]

    -- what passes with the start of the entering link isn't on the path before
    pub not_before : (q : ℕ) (test : ℕ → Bool) → suc q < count → test (starts (suc q)) ≡ true → ((d : ℕ) → test d ≡ true → get_or cliques d 0 ≡ get_or cliques (starts (suc q)) 0) → (n c : ℕ) → get_or cliques c 0 ≤ n → get_or cliques c 0 < count →
        list_any (λ d. eqb (get_or cliques d 0) (suc q)) (path_to cliques starts (suc q) n c) ≡ true → list_any test (path_to cliques starts (suc q) n c) ≡ false
    not_before q test few at_start same zero c le lt passes =
        let none : eqb (get_or cliques c 0) (suc q) ≡ false = ne_eqb (get_or cliques c 0) (suc q) (λ e. absurd (omega arith)) in
        absurd (false≢true (rw none at passes))
    not_before q test few at_start same (suc n) c le lt passes =
        let low = rises (suc q) (omega arith) few in
        elim (cases_lt (suc q) (get_or cliques c 0)) [
          | inl above ↦ (
              let lower = rises (get_or cliques c 0) (omega arith) lt in
              let other = ne_eqb (get_or cliques c 0) (suc q) (λ e. absurd (omega arith)) in
              let rest = not_before q test few at_start same n (starts (get_or cliques c 0)) (omega arith) (omega arith) (rw (path_goes (suc q) n c above, other) at passes) in
              rw (path_goes (suc q) n c above, rest) (elim (cases_Bool (test c)) [
                | inl yes_c ↦ (let e = same c yes_c in absurd (omega arith))
                | inr fails ↦ rw fails refl
              ]))
          | inr at ↦ (
              let stop = path_stops (suc q) (suc n) c at in
              let one = rw (stop, any_one) at passes in
              let is = eqb-true (get_or cliques c 0) (suc q) one in
              rw (stop, any_one) (elim (cases_Bool (test c)) [
                | inl yes_c ↦ (let e = same c yes_c in absurd (omega arith))
                | inr fails ↦ fails
              ]))
        ]
