-- On each path one context at most has a key as its mark, and one has exactly where some context has the key.
use Rattle.std.proofs.Common.{◌≡◌, ℕ, zero, suc, ◌<◌, Bool, true, false, ◌&&◌, ◌||◌, eqb, ltb, cond, List, [], ◌∷◌, length, get_or, Option, Some, None, refl, sym, ap, ◌∙◌, inl, inr, arith}
use Rattle.std.specs.List.{list_any}
use Rattle.std.proofs.lemmas.Bool.{cases_eq, cases_lt, cases_Bool, eq-eqb, ne_eqb, eqb-true, lt-ltb, false≢true}
use Rattle.md_trace.specs.Context.{same_option}
use Rattle.md_clique.specs.Cliques.{clique_count}
use Rattle.md_cost.specs.Walking.{above, upward, mark_of, marked, AreMarks}
use Rattle.md_cost.proofs.Exchange.{any_member}
use Rattle.md_cost.proofs.WalkSteps.{up_goes, up_ends, parent_there, parent_lower}

pub same_key : (q : ℕ) (o : Option ℕ) → same_option (Some q) o ≡ true → o ≡ Some q
same_key q None h = absurd (false≢true h)
same_key q (Some p) h = let e : q ≡ p = eqb-true q p h in rw e refl

pub key_same : (q : ℕ) (o : Option ℕ) → o ≡ Some q → same_option (Some q) o ≡ true
key_same q o e = rw e (eq-eqb q q refl)

-- each has its mark, by those behind it
abbrev pub AllMarked : ℕ → (ℕ → Option ℕ) → (ℕ → Option ℕ) → List ℕ → Type 0
AllMarked n key mark [] = Unit {0}
AllMarked n key mark (x ∷ xs) = (x < n) × (mark x ≡ mark_of key x xs) × AllMarked n key mark xs

mark_some : (b : Bool) (q : ℕ) (o : Option ℕ) → same_option (Some q) (cond b None o) ≡ true → (b ≡ false) × (o ≡ Some q)
mark_some true q o h = absurd (false≢true h)
mark_some false q o h = (refl, same_key q o h)

mark_none : (b : Bool) (q : ℕ) (o : Option ℕ) → same_option (Some q) o ≡ false → same_option (Some q) (cond b None o) ≡ false
mark_none true q o h = refl
mark_none false q o h = h

module _ (n : ℕ) (key mark : ℕ → Option ℕ) where
  abbrev has_mark : ℕ → ℕ → Bool
  has_mark q e = ltb e n && same_option (Some q) (mark e)

  abbrev has_key : ℕ → ℕ → Bool
  has_key q e = same_option (Some q) (key e)

  pub marked_any : (q : ℕ) (xs : List ℕ) → AllMarked n key mark xs → list_any (λ e. ltb e n && same_option (Some q) (mark e)) xs ≡ list_any (λ e. same_option (Some q) (key e)) xs
  marked_any q [] all = refl
  marked_any q (x ∷ xs) all = elim (cases_Bool (has_key q x)) [
    | inl some ↦ (
        let rest = marked_any q xs all.2 in
        let is : key x ≡ Some q = same_key q (key x) some in
        let its : mark x ≡ cond (list_any (has_key q) xs) None (Some q) = all.1 ∙ (rw is refl) in
        rw (some, lt-ltb x n all.0, its, rest) (one (list_any (has_key q) xs) q))
    | inr none ↦ (
        let rest = marked_any q xs all.2 in
        let its : same_option (Some q) (mark x) ≡ false = rw all.1 (mark_none (list_any (λ e. same_option (key x) (key e)) xs) q (key x) none) in
        rw (none, lt-ltb x n all.0, its) rest)
  ]
    where
      one : (b : Bool) (k : ℕ) → ((true && same_option (Some k) (cond b None (Some k))) || b) ≡ true
      one true k = refl
      one false k = rw (eq-eqb k k refl) refl

  member_there : (xs : List ℕ) (e : ℕ) → AllMarked n key mark xs → list_any (λ x. eqb x e) xs ≡ true → e < n
  member_there [] e all on = absurd (false≢true on)
  member_there (x ∷ xs) e all on = elim (cases_eq x e) [
    | inl same ↦ rw (← same) all.0
    | inr other ↦ member_there xs e all.2 (rw (ne_eqb x e other) at on)
  ]

  -- what has a mark has nothing with that key behind it
  behind : (q x e : ℕ) (xs : List ℕ) → AllMarked n key mark (x ∷ xs) → same_option (Some q) (mark x) ≡ true → same_option (Some q) (mark e) ≡ true → list_any (λ y. eqb y e) xs ≡ true → ⊥
  behind q x e xs all has also on =
      let its = mark_some (list_any (λ y. same_option (key x) (key y)) xs) q (key x) (rw all.1 at has) in
      let none : list_any (has_key q) xs ≡ false = ap (λ (o : Option ℕ). list_any (λ y. same_option o (key y)) xs) (sym its.1) ∙ its.0 in
      let there = member_there xs e all.2 on in
      let found : list_any (has_mark q) xs ≡ true = any_member (has_mark q) xs e on (rw (lt-ltb e n there, also) refl) in
      false≢true (sym none ∙ sym (marked_any q xs all.2) ∙ found)

  pub marked_alone : (q d e : ℕ) (xs : List ℕ) → AllMarked n key mark xs → same_option (Some q) (mark d) ≡ true → same_option (Some q) (mark e) ≡ true
      → list_any (λ x. eqb x d) xs ≡ true → list_any (λ x. eqb x e) xs ≡ true → d ≡ e
  marked_alone q d e [] all hd he od oe = absurd (false≢true od)
  marked_alone q d e (x ∷ xs) all hd he od oe = elim (cases_eq x d) [
    | inl is_d ↦ elim (cases_eq x e) [
      | inl is_e ↦ sym is_d ∙ is_e
      | inr not_e ↦ absurd (behind q x e xs all (rw is_d hd) he (rw (ne_eqb x e not_e) at oe))
    ]
    | inr not_d ↦ elim (cases_eq x e) [
      | inl is_e ↦ absurd (behind q x d xs all (rw is_e he) hd (rw (ne_eqb x d not_d) at od))
      | inr not_e ↦ marked_alone q d e xs all.2 hd he (rw (ne_eqb x d not_d) at od) (rw (ne_eqb x e not_e) at oe)
    ]
  ]

-- so it is on the path of each context
pub marked_up : (cliques : List ℕ) (starts : ℕ → ℕ) (rises : (k : ℕ) → 0 < k → k < clique_count cliques → get_or cliques (starts k) 0 < k) (starts_there : (k : ℕ) → 0 < k → k < clique_count cliques → starts k < length cliques)
    (key : ℕ → Option ℕ) (flags : List Bool) → AreMarks cliques starts key flags → (k d : ℕ) → get_or cliques d 0 < k → d < length cliques → AllMarked (length cliques) key (marked key flags) (upward cliques starts d)
marked_up cliques starts rises starts_there key flags are zero d low lt = absurd (omega arith)
marked_up cliques starts rises starts_there key flags are (suc k) d low lt =
    rw (up_goes cliques starts rises starts_there d lt) (
      lt,
      are.told d lt,
      elim (cases_lt (above cliques starts d) (length cliques)) [
        | inl inside ↦ (let less = parent_lower cliques starts rises starts_there d lt inside in marked_up cliques starts rises starts_there key flags are k (above cliques starts d) (omega arith) inside)
        | inr outside ↦ (let le = parent_there cliques starts rises starts_there d lt in let top : above cliques starts d ≡ length cliques = omega arith in rw (top, up_ends cliques starts rises starts_there) tt)
      ],
    )
