-- The sum over a clique's contexts is that of the links whose path has one of them, since no path has two.
use Rattle.std.proofs.Common.{◌≡◌, ℕ, zero, suc, ◌+◌, ◌<◌, ◌≤◌, ◌^◌, ◌⊎◌, Bool, true, ◌&&◌, eqb, ltb, cond, List, [], ◌∷◌, ◌++◌, length, take, get_or, Option, Some, None, refl, sym, ap, ◌∙◌, inl, inr, arith, add-one}
use Rattle.std.specs.List.{list_any, slice_get, sum_by}
use Rattle.std.proofs.lemmas.Bool.{cases_eq, cases_lt, eq-eqb, ne_eqb, eqb-true, lt-ltb, false≢true}
use Rattle.std.proofs.lemmas.List.{append-nil, get_or_default, take_all, take_more, length-take-le}
use Rattle.std.proofs.lemmas.List.Sums.{sum_by_push}
use Rattle.std.proofs.lemmas.Option.{slice_get_read, slice_get_within}
use Rattle.md_base.specs.declared.measure.Measure.{Measure}
use Rattle.md_base.specs.Counts.{count_of}
use Rattle.md_trace.specs.Context.{same_option}
use Rattle.md_dynamic.specs.declared.link.LinkRow.{LinkRow}
use Rattle.md_clique.specs.Cliques.{clique_count, members_of}
use Rattle.md_clique.proofs.EntryPlaces.{places_from-push}
use Rattle.md_clique.proofs.Naming.{lt_clique_count}
use Rattle.md_cost.specs.declared.sums.Sums.{Sums}
use Rattle.md_cost.specs.SumOf.{sum_of, zero_sums}
use Rattle.md_cost.specs.Paths.{path_to}
use Rattle.md_cost.specs.Climbing.{AreSmall, member_sum}
use Rattle.md_cost.specs.Keys.{key_sum}
use Rattle.md_cost.proofs.PathSteps.{any_one, path_stops, path_goes}
use Rattle.md_cost.proofs.EntrySteps.{place_passes}
use Rattle.md_cost.proofs.SumSteps.{sum_same}
use Rattle.md_cost.proofs.OwnSteps.{part_le}
use Rattle.md_cost.proofs.Exchange.{upto}
use Rattle.md_cost.proofs.ClimbSteps.{climbed}

-- the cliques as keys
abbrev named : List ℕ → ℕ → Option ℕ
named [] d = None
named (k ∷ ks) zero = Some k
named (k ∷ ks) (suc d) = named ks d

named_at : (ks : List ℕ) (d : ℕ) → d < length ks → named ks d ≡ Some (get_or ks d 0)
named_at [] d lt = absurd (omega arith)
named_at (k ∷ ks) zero lt = refl
named_at (k ∷ ks) (suc d) lt = named_at ks d (omega arith)

named_is : (ks : List ℕ) (d q : ℕ) → same_option (Some q) (named ks d) ≡ true → get_or ks d 0 ≡ q
named_is [] d q h = absurd (false≢true h)
named_is (k ∷ ks) zero q h = sym (eqb-true q k h)
named_is (k ∷ ks) (suc d) q h = named_is ks d q h

turned : (a b : ℕ) → eqb a b ≡ eqb b a
turned a b = elim (cases_eq a b) [
  | inl same ↦ eq-eqb a b same ∙ sym (eq-eqb b a (sym same))
  | inr other ↦ ne_eqb a b other ∙ sym (ne_eqb b a (λ (e : b ≡ a). other (sym e)))
]

-- the sum over members is a sum by key
module _ (cliques : List ℕ) (values : List Sums) (k : ℕ) (m : Measure) where
  abbrev value : ℕ → ℕ
  value c = sum_of (get_or values c zero_sums) m

  upto_member : (i : ℕ) → i ≤ length cliques → key_sum (named cliques) values i k m ≡ sum_by value (members_of (take i cliques) k)
  upto_member zero le = refl
  upto_member (suc i) le =
      let before = upto_member i (omega arith) in
      let next : take (suc i) cliques ≡ take i cliques ++ get_or cliques i 0 ∷ [] = rw (add-one i) at (take_more cliques i 0 (omega arith)) in
      let length_is = length-take-le i cliques (omega arith) in
      let size : 0 + length (take i cliques) ≡ i = omega arith in
      let pushed = places_from-push (λ n. eqb n k) 0 (take i cliques) (get_or cliques i 0) in
      let key = named_at cliques i (omega arith) in
      elim (cases_eq (get_or cliques i 0) k) [
        | inl is ↦ (
            let more : members_of (take (suc i) cliques) k ≡ members_of (take i cliques) k ++ i ∷ [] = ap (λ (xs : List ℕ). members_of xs k) next ∙ pushed ∙ (rw (eq-eqb (get_or cliques i 0) k is, size) refl) in
            let sum = sum_by_push value (members_of (take i cliques) k) i in
            rw (more, key, eq-eqb k (get_or cliques i 0) (sym is)) (omega arith))
        | inr other ↦ (
            let same : members_of (take (suc i) cliques) k ≡ members_of (take i cliques) k ++ [] = ap (λ (xs : List ℕ). members_of xs k) next ∙ pushed ∙ (rw (ne_eqb (get_or cliques i 0) k other) refl) in
            rw (same, append-nil, key, ne_eqb k (get_or cliques i 0) (λ (e : k ≡ get_or cliques i 0). other (sym e))) (omega arith))
      ]

  member_keys : member_sum cliques values k m ≡ key_sum (named cliques) values (length cliques) k m
  member_keys = sym (upto_member (length cliques) (omega arith) ∙ ap (λ (xs : List ℕ). sum_by value (members_of xs k)) (take_all (length cliques) cliques (omega arith)))

-- each member is a context
pub member_there : (cliques : List ℕ) (k i : ℕ) → i < length (members_of cliques k) → get_or (members_of cliques k) i 0 < length cliques
member_there cliques k i lt =
    let at : slice_get (members_of cliques k) i ≡ Some (get_or (members_of cliques k) i 0) = slice_get_read (members_of cliques k) (length (members_of cliques k)) i (get_or (members_of cliques k) i 0) refl lt (get_or_default (members_of cliques k) i 0 (get_or (members_of cliques k) i 0) lt) in
    let passes = place_passes (λ n. eqb n k) 0 cliques i (get_or (members_of cliques k) i 0) at in
    let there = slice_get_within cliques passes.i passes.x passes.there in
    let is = passes.is in
    omega arith

module _ (cliques : List ℕ) (starts : ℕ → ℕ) (rises : (k : ℕ) → 0 < k → k < clique_count cliques → get_or cliques (starts k) 0 < k) (starts_there : (k : ℕ) → 0 < k → k < clique_count cliques → starts k < length cliques) where
  -- what is on the path of a context is it, or in a lower clique
  it_or_lower : (q n c d : ℕ) → get_or cliques c 0 ≤ n → c < length cliques → list_any (λ e. eqb e d) (path_to cliques starts q n c) ≡ true → (d ≡ c) ⊎ (get_or cliques d 0 < get_or cliques c 0)
  it_or_lower q zero c d le lt on = inl (sym (eqb-true c d (sym (any_one (λ e. eqb e d) c) ∙ on)))
  it_or_lower q (suc n) c d le lt on = elim (cases_lt q (get_or cliques c 0)) as (λ _. (d ≡ c) ⊎ (get_or cliques d 0 < get_or cliques c 0)) [
    | inl goes ↦ elim (cases_eq c d) as (λ _. (d ≡ c) ⊎ (get_or cliques d 0 < get_or cliques c 0)) [
      | inl same ↦ inl (sym same)
      | inr other ↦ (
          let below = lt_clique_count cliques c lt in
          let low = rises (get_or cliques c 0) (omega arith) below in
          let there = starts_there (get_or cliques c 0) (omega arith) below in
          elim (it_or_lower q n (starts (get_or cliques c 0)) d (omega arith) there (rw (path_goes cliques starts q n c goes, ne_eqb c d other) at on)) as (λ _. (d ≡ c) ⊎ (get_or cliques d 0 < get_or cliques c 0)) [
            | inl it ↦ inr (let same = ap (λ (x : ℕ). get_or cliques x 0) it in omega arith)
            | inr less ↦ inr (omega arith)
          ])
    ]
    | inr stops ↦ (
        let one : list_any (λ e. eqb e d) (c ∷ []) ≡ true = rw (path_stops cliques starts q (suc n) c stops) at on in
        inl (sym (eqb-true c d (sym (any_one (λ e. eqb e d) c) ∙ one))))
  ]

  -- no path has two contexts of a clique
  one_of_clique : (q n c d e : ℕ) → get_or cliques c 0 ≤ n → c < length cliques → get_or cliques d 0 ≡ get_or cliques e 0
      → list_any (λ x. eqb x d) (path_to cliques starts q n c) ≡ true → list_any (λ x. eqb x e) (path_to cliques starts q n c) ≡ true → d ≡ e
  one_of_clique q zero c d e le lt same od oe = sym (eqb-true c d (sym (any_one (λ x. eqb x d) c) ∙ od)) ∙ eqb-true c e (sym (any_one (λ x. eqb x e) c) ∙ oe)
  one_of_clique q (suc n) c d e le lt same od oe = elim (it_or_lower q (suc n) c d le lt od) [
    | inl d_is ↦ elim (it_or_lower q (suc n) c e le lt oe) [
      | inl e_is ↦ d_is ∙ sym e_is
      | inr e_low ↦ (let at = ap (λ (x : ℕ). get_or cliques x 0) d_is in absurd (omega arith))
    ]
    | inr d_low ↦ elim (it_or_lower q (suc n) c e le lt oe) [
      | inl e_is ↦ (let at = ap (λ (x : ℕ). get_or cliques x 0) e_is in absurd (omega arith))
      | inr e_low ↦ (
          let not_d : c ≡ d → ⊥ = λ is. let at = ap (λ (x : ℕ). get_or cliques x 0) is in absurd (omega arith) in
          let not_e : c ≡ e → ⊥ = λ is. let at = ap (λ (x : ℕ). get_or cliques x 0) is in absurd (omega arith) in
          elim (cases_lt q (get_or cliques c 0)) [
            | inl goes ↦ (
                let below = lt_clique_count cliques c lt in
                let low = rises (get_or cliques c 0) (omega arith) below in
                let there = starts_there (get_or cliques c 0) (omega arith) below in
                one_of_clique q n (starts (get_or cliques c 0)) d e (omega arith) there same
                (rw (path_goes cliques starts q n c goes, ne_eqb c d not_d) at od)
                (rw (path_goes cliques starts q n c goes, ne_eqb c e not_e) at oe))
            | inr stops ↦ (
                let one : list_any (λ x. eqb x d) (c ∷ []) ≡ true = rw (path_stops cliques starts q (suc n) c stops) at od in
                absurd (not_d (eqb-true c d (sym (any_one (λ x. eqb x d) c) ∙ one))))
          ])
    ]
  ]

  -- tests that agree on contexts agree on paths
  path_same : (p r : ℕ → Bool) → ((e : ℕ) → e < length cliques → p e ≡ r e) → (q n c : ℕ) → get_or cliques c 0 ≤ n → c < length cliques → list_any p (path_to cliques starts q n c) ≡ list_any r (path_to cliques starts q n c)
  path_same p r agree q zero c le lt = any_one p c ∙ agree c lt ∙ sym (any_one r c)
  path_same p r agree q (suc n) c le lt = elim (cases_lt q (get_or cliques c 0)) [
    | inl goes ↦ (
        let below = lt_clique_count cliques c lt in
        let low = rises (get_or cliques c 0) (omega arith) below in
        let rest = path_same p r agree q n (starts (get_or cliques c 0)) (omega arith) (starts_there (get_or cliques c 0) (omega arith) below) in
        rw (path_goes cliques starts q n c goes, agree c lt, rest) refl)
    | inr stops ↦ rw (path_stops cliques starts q (suc n) c stops) (any_one p c ∙ agree c lt ∙ sym (any_one r c))
  ]

  module _ (rows : List LinkRow) (ends : (i : ℕ) (r : LinkRow) → slice_get rows i ≡ Some r → r.callee < length cliques) (q : ℕ) (values : List Sums) (values_are : (c : ℕ) (m : Measure) → c < length cliques → sum_of (get_or values c zero_sums) m ≡ climbed cliques starts rows q (λ d. eqb d c) m) (k : ℕ) (m : Measure) where
    named_test : (e : ℕ) → e < length cliques → (ltb e (length cliques) && same_option (Some k) (named cliques e)) ≡ eqb (get_or cliques e 0) k
    named_test e lt = rw (lt-ltb e (length cliques) lt, named_at cliques e lt) (turned k (get_or cliques e 0))

    pub members_climbed : member_sum cliques values k m ≡ climbed cliques starts rows q (λ d. eqb (get_or cliques d 0) k) m
    members_climbed =
        member_keys cliques values k m
        ∙ upto rows (λ r. path_to cliques starts q (get_or cliques r.callee 0) r.callee) (named cliques) values (length cliques) values_are
        (λ i r at x d e hd he od oe. one_of_clique q (get_or cliques r.callee 0) r.callee d e (omega arith) (ends i r at) (named_is cliques d x hd ∙ sym (named_is cliques e x he)) od oe)
        (length cliques) k m (omega arith)
        ∙ sum_same
        (λ r. cond (list_any (λ e. ltb e (length cliques) && same_option (Some k) (named cliques e)) (path_to cliques starts q (get_or cliques r.callee 0) r.callee)) (count_of r.own m) 0)
        (λ r. cond (list_any (λ d. eqb (get_or cliques d 0) k) (path_to cliques starts q (get_or cliques r.callee 0) r.callee)) (count_of r.own m) 0)
        rows
        (λ i r at. ap (λ (b : Bool). cond b (count_of r.own m) 0) (path_same (λ e. ltb e (length cliques) && same_option (Some k) (named cliques e)) (λ d. eqb (get_or cliques d 0) k) named_test q (get_or cliques r.callee 0) r.callee (omega arith) (ends i r at)))

    pub members_room : length rows < 4294967296 → AreSmall rows → member_sum cliques values k m < 2 ^ 64
    members_room few small =
        let is = members_climbed in
        let part = part_le (λ r. list_any (λ d. eqb (get_or cliques d 0) k) (path_to cliques starts q (get_or cliques r.callee 0) r.callee)) m rows in
        let all = small m in
        omega arith
