-- Each graph has cliques: of each node the least node is found with which it reaches each other, and these are numbered.
use Rattle.std.proofs.Common.{◌≡◌, ℕ, zero, suc, ◌+◌, ◌<◌, ◌≤◌, List, [], ◌∷◌, ◌++◌, length, get_or, set, Option, Some, None, refl, sym, ap, ◌∙◌, ◌⊎◌, inl, inr, arith}
use Rattle.std.proofs.lemmas.Bool.{cases_eq, cases_order}
use Rattle.std.proofs.lemmas.List.{get_or_append_left, get_or_push, length_push}
use Rattle.md_trace.specs.Cliques.{AreCliques}
use Rattle.md_trace.specs.Reaches.{ReachesBoth, here}
use Rattle.md_clique.specs.Search.{AreClasses, class_of, state_of}
use Rattle.md_clique.specs.declared.search.State.{State}
use Rattle.md_clique.specs.declared.search.State.TheVariants.{New, Closed}
use Rattle.md_clique.proofs.Naming.{Naming, are_cliques, are_numbers, naming_known, naming_new, naming_none}
use Rattle.md_clique.proofs.Walks.{walk_on}
use Rattle.law_files.proofs.Reaching.{both_or_not}

module _ (links : List (ℕ × ℕ)) where
  both_on : (a b c : ℕ) → ReachesBoth links a b → ReachesBoth links b c → ReachesBoth links a c
  both_on a b c first second = record { forth = walk_on links a b c first.forth second.forth; back = walk_on links c b a second.back first.back }

  turned : (a b : ℕ) → ReachesBoth links a b → ReachesBoth links b a
  turned a b both = record { forth = both.back; back = both.forth }

  -- the least node below a bound that reaches a node and is reached from it, or none does
  record IsLeast (v least : ℕ) : Type 0 where
    pub both : ReachesBoth links least v
    pub lowest : (u : ℕ) → u < least → ReachesBoth links u v → ⊥

  least_below : (v n : ℕ) → ((least : ℕ) × (least < n) × IsLeast v least) ⊎ ((u : ℕ) → u < n → ReachesBoth links u v → ⊥)
  least_below v zero = inr (λ u lt. absurd (omega arith))
  least_below v (suc n) = elim (least_below v n) as (λ _. ((least : ℕ) × (least < suc n) × IsLeast v least) ⊎ ((u : ℕ) → u < suc n → ReachesBoth links u v → ⊥)) [
    | inl found ↦ (let lt : found.0 < n = found.1 in inl (found.0, omega arith, found.2))
    | inr none ↦ elim (both_or_not links n v) as (λ _. ((least : ℕ) × (least < suc n) × IsLeast v least) ⊎ ((u : ℕ) → u < suc n → ReachesBoth links u v → ⊥)) [
      | inl both ↦ inl (n, omega arith, record { both = both; lowest = none })
      | inr apart ↦ inr (λ u lt both. elim (cases_eq u n) [ inl same ↦ apart (rw same at both) | inr other ↦ none u (omega arith) both ])
    ]
  ]

  least_of : (v : ℕ) → (least : ℕ) × (least < suc v) × IsLeast v least
  least_of v = elim (least_below v (suc v)) [
    | inl found ↦ found
    | inr none ↦ absurd (none v (omega arith) (record { forth = here v; back = here v }))
  ]

  -- nodes that reach each other have the same
  one_least : (v w : ℕ) → ReachesBoth links v w → (least_of v).0 ≡ (least_of w).0
  one_least v w both =
      let a = least_of v in
      let b = least_of w in
      elim (cases_order a.0 b.0) [
        | inl same ↦ same
        | inr apart ↦ elim apart [
          | inl lower ↦ absurd (b.2.lowest a.0 lower (both_on a.0 v w a.2.both both))
          | inr higher ↦ absurd (a.2.lowest b.0 higher (both_on b.0 w v b.2.both (turned v w both)))
        ]
      ]

  -- each node below n as closed, by its least node
  abbrev closed : (n : ℕ) → List State
  closed zero = []
  closed (suc n) = closed n ++ Closed (least_of n).0 ∷ []

  closed_size : (n : ℕ) → length (closed n) ≡ n
  closed_size zero = refl
  closed_size (suc n) = let before = closed_size n in let push = length_push (closed n) (Closed (least_of n).0) in omega arith

  closed_at : (n v : ℕ) → v < n → state_of (closed n) v ≡ Closed (least_of v).0
  closed_at zero v lt = absurd (omega arith)
  closed_at (suc n) v lt = let size = closed_size n in elim (cases_eq v n) [
    | inl same ↦ rw same (get_or_push (closed n) (Closed (least_of n).0) New n size)
    | inr other ↦ get_or_append_left (closed n) (Closed (least_of n).0 ∷ []) New v (omega arith) ∙ closed_at n v (omega arith)
  ]

  class_at : (n v : ℕ) → v < n → class_of (state_of (closed n) v) ≡ (least_of v).0
  class_at n v lt = ap class_of (closed_at n v lt)

  are_classes : (n : ℕ) → AreClasses links n (closed n) n
  are_classes n = record {
    each = closed_size n;
    below = λ v lt. (let l = least_of v in let le : l.0 < suc v = l.1 in let is = class_at n v lt in omega arith);
    apart = λ a b la lb both. class_at n a la ∙ one_least a b both ∙ sym (class_at n b lb);
    together = λ a b la lb same.
        let least : (least_of a).0 ≡ (least_of b).0 = sym (class_at n a la) ∙ same ∙ class_at n b lb in
        let first = (least_of a).2.both in
        let second : ReachesBoth links (least_of a).0 b = rw least (least_of b).2.both in
        both_on a (least_of a).0 b (turned (least_of a).0 a first) second;
  }

  -- nodes are numbered as their classes are met
  record Named (n i : ℕ) : Type 0 where
    pub names : List (Option ℕ)
    pub numbers : List ℕ
    pub count : ℕ
    pub naming : Naming (closed n) n i names numbers count

  abbrev unnamed : (n : ℕ) → List (Option ℕ)
  unnamed zero = []
  unnamed (suc n) = None ∷ unnamed n

  unnamed_size : (n : ℕ) → length (unnamed n) ≡ n
  unnamed_size zero = refl
  unnamed_size (suc n) = ap suc (unnamed_size n)

  unnamed_at : (n c : ℕ) → get_or (unnamed n) c None ≡ None
  unnamed_at zero c = refl
  unnamed_at (suc n) zero = refl
  unnamed_at (suc n) (suc c) = unnamed_at n c

  one_more : (n i : ℕ) → i < n → (m : Named n i) → (o : Option ℕ) → get_or m.names (class_of (state_of (closed n) i)) None ≡ o → Named n (i + 1)
  one_more n i lt m None unknown = record {
    names = set m.names (class_of (state_of (closed n) i)) (Some m.count);
    numbers = m.numbers ++ m.count ∷ [];
    count = m.count + 1;
    naming = naming_new (closed n) n i m.names m.numbers m.count m.naming (class_of (state_of (closed n) i)) refl ((are_classes n).below i lt) unknown;
  }
  one_more n i lt m (Some number) known = record {
    names = m.names;
    numbers = m.numbers ++ number ∷ [];
    count = m.count;
    naming = naming_known (closed n) n i m.names m.numbers m.count m.naming number known;
  }

  named : (n i : ℕ) → i ≤ n → Named n i
  named n zero le = record { names = unnamed n; numbers = []; count = 0; naming = naming_none (closed n) n (unnamed n) (unnamed_size n) (unnamed_at n) }
  named n (suc i) le =
      let m = named n i (omega arith) in
      let e : i + 1 ≡ suc i = omega arith in
      rw (← e) (one_more n i (omega arith) m (get_or m.names (class_of (state_of (closed n) i)) None) refl)

  pub cliques_there : (n : ℕ) → (cliques : List ℕ) × AreCliques n links cliques
  cliques_there n =
      let m = named n n (omega arith) in
      let size = closed_size n in
      let all : Naming (closed n) n (length (closed n)) m.names m.numbers m.count = rw size m.naming in
      (m.numbers, are_cliques links n n (closed n) m.numbers (are_classes n) (are_numbers (closed n) n m.names m.numbers m.count all))
