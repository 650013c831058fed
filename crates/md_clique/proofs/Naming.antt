-- Classes are numbered as their least nodes are met.
use Rattle.std.proofs.Common.{◌≡◌, ℕ, zero, suc, ◌+◌, ◌-◌, ◌<◌, ◌≤◌, List, [], ◌∷◌, ◌++◌, length, get_or, set, Option, Some, None, MatchOption, refl, sym, ◌∙◌, inl, inr, arith}
use Rattle.std.proofs.lemmas.Bool.{cases_lt, cases_eq}
use Rattle.std.proofs.lemmas.List.{get_or-set_same, get_or-set_other, length-set, get_or_append_left, get_or_push, length_push}
use Rattle.md_clique.specs.declared.search.State.{State}
use Rattle.md_trace.specs.Reaches.{ReachesBoth}
use Rattle.md_clique.specs.Search.{state_of, class_of, AreClasses}
use Rattle.md_trace.specs.Cliques.{AreCliques}
use Rattle.md_clique.specs.Cliques.{clique_count}
use Rattle.md_clique.specs.Numbering.{AreNumbers}

-- each number is below the count
pub lt_clique_count : (numbers : List ℕ) (v : ℕ) → v < length numbers → get_or numbers v 0 < clique_count numbers
lt_clique_count [] v h = absurd (omega arith)
lt_clique_count (k ∷ ks) zero h = omega arith
lt_clique_count (k ∷ ks) (suc v) h = let r = lt_clique_count ks v (omega arith) in omega arith

pub clique_count_le : (numbers : List ℕ) (m : ℕ) → ((v : ℕ) → v < length numbers → get_or numbers v 0 < m) → clique_count numbers ≤ m
clique_count_le [] m h = omega arith
clique_count_le (k ∷ ks) m h =
    let first : k < m = h 0 (omega arith) in
    let rest : clique_count ks ≤ m = clique_count_le ks m (λ v lt. h (suc v) (omega arith)) in
    omega arith

-- what is kept after the first i nodes
pub record Naming (states : List State) (classes i : ℕ) (names : List (Option ℕ)) (numbers : List ℕ) (count : ℕ) : Type 0 where
  pub each : length names ≡ classes
  pub size : length numbers ≡ i
  pub room : count ≤ i
  pub named : (v : ℕ) → v < i → get_or names (class_of (state_of states v)) None ≡ Some (get_or numbers v 0)
  pub used : (c k : ℕ) → get_or names c None ≡ Some k → k < count
  pub apart : (c d k : ℕ) → get_or names c None ≡ Some k → get_or names d None ≡ Some k → c ≡ d
  pub below : (k : ℕ) → k < count → (u : ℕ) × (u < i) × (get_or numbers u 0 ≡ k)
  pub by_least : (v k : ℕ) → v < i → k < get_or numbers v 0 → (u : ℕ) × (u < v) × (get_or numbers u 0 ≡ k)

pub naming_none : (states : List State) (classes : ℕ) (names : List (Option ℕ)) → length names ≡ classes → ((c : ℕ) → get_or names c None ≡ None) → Naming states classes 0 names [] 0
naming_none states classes names each none = record {
  each = each;
  size = refl;
  room = omega arith;
  named = λ v h. absurd (omega arith);
  used = λ c k h. let e : None ≡ Some k = sym (none c) ∙ h in cc;
  apart = λ c d k h g. let e : None ≡ Some k = sym (none c) ∙ h in cc;
  below = λ k h. absurd (omega arith);
  by_least = λ v k h g. absurd (omega arith);
}

module _ (states : List State) (classes i : ℕ) (names : List (Option ℕ)) (numbers : List ℕ) (count : ℕ) (is : Naming states classes i names numbers count) where
  old : (number v : ℕ) → v < i → get_or (numbers ++ number ∷ []) v 0 ≡ get_or numbers v 0
  old number v h = let e = is.size in get_or_append_left numbers (number ∷ []) 0 v (omega arith)

  new : (number : ℕ) → get_or (numbers ++ number ∷ []) i 0 ≡ number
  new number = get_or_push numbers number 0 i is.size

  -- the numbers below a new node's are those of lesser nodes
  lesser : (number : ℕ) → number ≤ count → (v k : ℕ) → v < i + 1 → k < get_or (numbers ++ number ∷ []) v 0 → (u : ℕ) × (u < v) × (get_or (numbers ++ number ∷ []) u 0 ≡ k)
  lesser number le v k h lt = elim (cases_lt v i) [
    | inl l ↦ (let w = is.by_least v k l (rw (old number v l) at lt) in let below : w.0 < v = w.1 in (w.0, w.1, old number w.0 (omega arith) ∙ w.2))
    | inr g ↦ (let e : v ≡ i = omega arith in
        let small : k < number = rw (e, new number) at lt in
        let w = is.below k (omega arith) in
        let under : w.0 < i = w.1 in
        (w.0, omega arith, old number w.0 w.1 ∙ w.2))
  ]

  keeps_below : (number k : ℕ) → k < count → (u : ℕ) × (u < i + 1) × (get_or (numbers ++ number ∷ []) u 0 ≡ k)
  keeps_below number k h = let w = is.below k h in let under : w.0 < i = w.1 in (w.0, omega arith, old number w.0 w.1 ∙ w.2)

  pub naming_known : (number : ℕ) → get_or names (class_of (state_of states i)) None ≡ Some number → Naming states classes (i + 1) names (numbers ++ number ∷ []) count
  naming_known number known = record {
    each = is.each;
    size = let e = is.size in let n = length_push numbers number in omega arith;
    room = let r = is.room in omega arith;
    named = λ v h. elim (cases_lt v i) [
      | inl l ↦ rw (old number v l) (is.named v l)
      | inr g ↦ (let e : v ≡ i = omega arith in rw (e, new number) known)
    ];
    used = is.used;
    apart = is.apart;
    below = keeps_below number;
    by_least = lesser number (let u = is.used (class_of (state_of states i)) number known in omega arith);
  }

  module _ (c : ℕ) (its : c ≡ class_of (state_of states i)) (there : c < classes) (unknown : get_or names c None ≡ None) where
    at_c : get_or (set names c (Some count)) c None ≡ Some count
    at_c = let e = is.each in get_or-set_same names c (Some count) None (omega arith)

    elsewhere : (d : ℕ) → (d ≡ c → ⊥) → get_or (set names c (Some count)) d None ≡ get_or names d None
    elsewhere d ne = get_or-set_other names c d (Some count) None ne

    pub naming_new : Naming states classes (i + 1) (set names c (Some count)) (numbers ++ count ∷ []) (count + 1)
    naming_new = record {
      each = length-set names c (Some count) ∙ is.each;
      size = let e = is.size in let n = length_push numbers count in omega arith;
      room = let r = is.room in omega arith;
      named = λ v h. elim (cases_lt v i) [
        | inl l ↦ (let other : class_of (state_of states v) ≡ c → ⊥ = λ (e : class_of (state_of states v) ≡ c).
            (let q : Some (get_or numbers v 0) ≡ None = sym (is.named v l) ∙ (rw e unknown) in cc) in
            rw (elsewhere (class_of (state_of states v)) other, old count v l) (is.named v l))
        | inr g ↦ (let e : v ≡ i = omega arith in rw (e, ← its, new count) at_c)
      ];
      used = λ d k h. elim (cases_eq d c) [
        | inl e ↦ (let q : Some count ≡ Some k = sym at_c ∙ (rw e at h) in let same : count ≡ k = cc in omega arith)
        | inr ne ↦ (let u = is.used d k (sym (elsewhere d ne) ∙ h) in omega arith)
      ];
      apart = λ a b k ha hb. elim (cases_eq a c) [
        | inl ea ↦ elim (cases_eq b c) [
          | inl eb ↦ ea ∙ sym eb
          | inr nb ↦ (let q : Some count ≡ Some k = sym at_c ∙ (rw ea at ha) in let same : count ≡ k = cc in
              let u = is.used b k (sym (elsewhere b nb) ∙ hb) in absurd (omega arith))
        ]
        | inr na ↦ elim (cases_eq b c) [
          | inl eb ↦ (let q : Some count ≡ Some k = sym at_c ∙ (rw eb at hb) in let same : count ≡ k = cc in
              let u = is.used a k (sym (elsewhere a na) ∙ ha) in absurd (omega arith))
          | inr nb ↦ is.apart a b k (sym (elsewhere a na) ∙ ha) (sym (elsewhere b nb) ∙ hb)
        ]
      ];
      below = λ k h. elim (cases_lt k count) as (λ _. (u : ℕ) × (u < i + 1) × (get_or (numbers ++ count ∷ []) u 0 ≡ k)) [
        | inl l ↦ keeps_below count k l
        | inr g ↦ (let e : count ≡ k = omega arith in (i, omega arith, new count ∙ e))
      ];
      by_least = lesser count (omega arith);
    }

-- the three clauses of one node's number
pub naming_more : (states : List State) (classes i : ℕ) (names : List (Option ℕ)) (numbers : List ℕ) (count : ℕ) → Naming states classes i names numbers count → (c : ℕ) → c ≡ class_of (state_of states i) → c < classes → (o : Option ℕ) → get_or names c None ≡ o → (number : ℕ) (new_count : ℕ) (new_names : List (Option ℕ)) → MatchOption o (number ≡ count) (λ k. number ≡ k) → MatchOption o (new_count ≡ count + 1) (λ k. new_count ≡ count) → MatchOption o (new_names ≡ set names c (Some count)) (λ k. new_names ≡ names) → Naming states classes (i + 1) new_names (numbers ++ number ∷ []) new_count
naming_more states classes i names numbers count is c its there None e number new_count new_names known counts names_are =
    rw (known, counts, names_are) (naming_new states classes i names numbers count is c its there e)
naming_more states classes i names numbers count is c its there (Some k) e number new_count new_names known counts names_are =
    rw (known, counts, names_are) (naming_known states classes i names numbers count is k (rw (← its) e))

module _ (states : List State) (classes : ℕ) (names : List (Option ℕ)) (numbers : List ℕ) (count : ℕ) (is : Naming states classes (length states) names numbers count) where
  pub are_numbers : AreNumbers states numbers
  are_numbers = record {
    each = is.size;
    together = λ a b la lb. (
      (λ (e : get_or numbers a 0 ≡ get_or numbers b 0). is.apart (class_of (state_of states a)) (class_of (state_of states b)) (get_or numbers b 0) (rw (← e) (is.named a la)) (is.named b lb)),
      (λ (e : class_of (state_of states a) ≡ class_of (state_of states b)).
          let q : Some (get_or numbers a 0) ≡ Some (get_or numbers b 0) = sym (is.named a la) ∙ (rw e (is.named b lb)) in cc),
    );
    in_order = is.by_least;
  }

  pub count_is : count ≡ clique_count numbers
  count_is =
      let up : clique_count numbers ≤ count = clique_count_le numbers count (λ v h. let e = is.size in is.used (class_of (state_of states v)) (get_or numbers v 0) (is.named v (omega arith))) in
      elim (cases_lt 0 count) [
        | inl some ↦ (let w = is.below (count - 1) (omega arith) in let e = is.size in let under : w.0 < length states = w.1 in
            let lt : get_or numbers w.0 0 < clique_count numbers = lt_clique_count numbers w.0 (omega arith) in
            let q : get_or numbers w.0 0 ≡ count - 1 = w.2 in omega arith)
        | inr none ↦ omega arith
      ]

-- numbers of classes of mutual reachability are numbers of cliques
pub are_cliques : (links : List (ℕ × ℕ)) (nodes count : ℕ) (states : List State) (numbers : List ℕ) → AreClasses links nodes states count → AreNumbers states numbers → AreCliques nodes links numbers
are_cliques links nodes count states numbers found is =
    let size = found.each in record {
      each = is.each ∙ found.each;
      classes = λ a b la lb.
          let t = is.together a b (omega arith) (omega arith) in (
            (λ (e : get_or numbers a 0 ≡ get_or numbers b 0). found.together a b la lb (t.0 e)),
            (λ (both : ReachesBoth links a b). t.1 (found.apart a b la lb both)),
          );
      in_order = λ v k lt. is.in_order v k (omega arith);
    }
