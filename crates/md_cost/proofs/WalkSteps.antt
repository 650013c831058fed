-- One step of the walk down the tree of contexts, and what it has told in the end.
use Rattle.std.proofs.Common.{◌≡◌, ℕ, zero, suc, ◌+◌, ◌-◌, ◌*◌, ◌<◌, ◌≤◌, ◌⊎◌, Bool, true, false, ◌||◌, eqb, cond, List, [], ◌∷◌, length, get_or, set, Option, Some, None, IfSome, replicate, refl, sym, ap, ◌∙◌, inl, inr, subst, arith}
use Rattle.std.specs.List.{list_any, sum_by}
use Rattle.std.proofs.lemmas.Bool.{cases_eq, cases_lt, cases_order, cases_Bool, eq-eqb, ne_eqb, lt-ltb, le-ltb, false≢true}
use Rattle.std.proofs.lemmas.List.{get_or-set_same, get_or-set_other, length-set, get_or-replicate, length-replicate}
use Rattle.std.proofs.lemmas.List.Sums.{sum_by-set}
use Rattle.std.proofs.Math.Nat.{mul-le-mul_right}
use Rattle.md_trace.specs.Context.{same_option}
use Rattle.md_clique.specs.Cliques.{clique_count}
use Rattle.md_clique.proofs.Naming.{lt_clique_count}
use Rattle.md_cost.specs.Paths.{path_to}
use Rattle.md_cost.specs.Walking.{above, upward, IsFirst, AreNexts, AreThreaded, mark_of, marked, AreMarks, claimed, is_free, with_key, without_key, IsEntered, AllEntered, Stands, left_of, rank, work}
use Rattle.md_cost.proofs.PathSteps.{path_stops, path_goes}

some_is : {X : Type 0} (x y : X) → Some x ≡ Some y → x ≡ y
some_is x y e = cc

pub below_top : (a n : ℕ) → a ≤ n → (a ≡ n → ⊥) → a < n
below_top a n le apart = elim (cases_eq a n) [
  | inl same ↦ absurd (apart same)
  | inr other ↦ omega arith
]

pub key_below : (count : ℕ) (o : Option ℕ) → ((q : ℕ) → o ≡ Some q → q < count) → IfSome o (λ q. q < count)
key_below count None h = tt
key_below count (Some q) h = h q refl

module _ (cliques : List ℕ) (starts : ℕ → ℕ) (rises : (k : ℕ) → 0 < k → k < clique_count cliques → get_or cliques (starts k) 0 < k) (starts_there : (k : ℕ) → 0 < k → k < clique_count cliques → starts k < length cliques) where
  abbrev n : ℕ
  n = length cliques

  abbrev parent : ℕ → ℕ
  parent d = above cliques starts d

  abbrev up : ℕ → List ℕ
  up d = upward cliques starts d

  -- what is above a context of clique 0, and above any other
  pub parent_none : (d : ℕ) → get_or cliques d 0 ≡ 0 → above cliques starts d ≡ length cliques
  parent_none d e = rw (eq-eqb (get_or cliques d 0) 0 e) refl

  pub parent_some : (d : ℕ) → 0 < get_or cliques d 0 → above cliques starts d ≡ starts (get_or cliques d 0)
  parent_some d lt = rw (ne_eqb (get_or cliques d 0) 0 (λ e. absurd (omega arith))) refl

  pub parent_there : (d : ℕ) → d < length cliques → above cliques starts d ≤ length cliques
  parent_there d lt = elim (cases_lt 0 (get_or cliques d 0)) [
    | inl some ↦ (let below = lt_clique_count cliques d lt in let s = starts_there (get_or cliques d 0) some below in rw (parent_some d some) (omega arith))
    | inr none ↦ rw (parent_none d (omega arith)) (omega arith)
  ]

  -- a context above is in a lower clique
  pub parent_lower : (d : ℕ) → d < length cliques → above cliques starts d < length cliques → get_or cliques (above cliques starts d) 0 < get_or cliques d 0
  parent_lower d lt there = elim (cases_lt 0 (get_or cliques d 0)) [
    | inl some ↦ (let below = lt_clique_count cliques d lt in rw (parent_some d some) (rises (get_or cliques d 0) some below))
    | inr none ↦ (let top = parent_none d (omega arith) in absurd (omega arith))
  ]

  -- a path doesn't depend on the steps that it may take, where they are enough
  pub path_enough : (i j c : ℕ) → get_or cliques c 0 ≤ i → get_or cliques c 0 ≤ j → get_or cliques c 0 < clique_count cliques → path_to cliques starts 0 i c ≡ path_to cliques starts 0 j c
  path_enough zero j c le also below = sym (path_stops cliques starts 0 j c le)
  path_enough (suc i) zero c le also below = path_stops cliques starts 0 (suc i) c also
  path_enough (suc i) (suc j) c le also below = elim (cases_lt 0 (get_or cliques c 0)) [
    | inl some ↦ (
        let lower = rises (get_or cliques c 0) some below in
        path_goes cliques starts 0 i c some
        ∙ ap (λ (ds : List ℕ). c ∷ ds) (path_enough i j (starts (get_or cliques c 0)) (omega arith) (omega arith) (omega arith))
        ∙ sym (path_goes cliques starts 0 j c some))
    | inr none ↦ path_stops cliques starts 0 (suc i) c none ∙ sym (path_stops cliques starts 0 (suc j) c none)
  ]

  pub up_ends : upward cliques starts (length cliques) ≡ []
  up_ends = rw (le-ltb (length cliques) (length cliques) (omega arith)) refl

  pub up_there : (d : ℕ) → d < length cliques → upward cliques starts d ≡ path_to cliques starts 0 (get_or cliques d 0) d
  up_there d lt = rw (lt-ltb d (length cliques) lt) refl

  pub up_goes : (d : ℕ) → d < length cliques → upward cliques starts d ≡ d ∷ upward cliques starts (above cliques starts d)
  up_goes d lt = elim (cases_lt 0 (get_or cliques d 0)) [
    | inl some ↦ (
        let below = lt_clique_count cliques d lt in
        let there = starts_there (get_or cliques d 0) some below in
        let lower = rises (get_or cliques d 0) some below in
        let steps : get_or cliques d 0 ≡ suc (get_or cliques d 0 - 1) = omega arith in
        up_there d lt
        ∙ ap (λ (i : ℕ). path_to cliques starts 0 i d) steps
        ∙ path_goes cliques starts 0 (get_or cliques d 0 - 1) d some
        ∙ ap (λ (ds : List ℕ). d ∷ ds) (path_enough (get_or cliques d 0 - 1) (get_or cliques (starts (get_or cliques d 0)) 0) (starts (get_or cliques d 0)) (omega arith) (omega arith) (omega arith) ∙ sym (up_there (starts (get_or cliques d 0)) there))
        ∙ ap (λ (p : ℕ). d ∷ upward cliques starts p) (sym (parent_some d some)))
    | inr none ↦ (
        let top = parent_none d (omega arith) in
        up_there d lt ∙ path_stops cliques starts 0 (get_or cliques d 0) d none ∙ ap (λ (ds : List ℕ). d ∷ ds) (sym up_ends) ∙ ap (λ (p : ℕ). d ∷ upward cliques starts p) (sym top))
  ]

  all_entered : (first now : List (Option ℕ)) → ((d : ℕ) → IsEntered parent first d → IsEntered parent now d) → (ds : List ℕ) → AllEntered parent first ds → AllEntered parent now ds
  all_entered first now more [] h = tt
  all_entered first now more (d ∷ ds) h = (more d h.0, all_entered first now more ds h.1)

  -- no later child lies before the next one
  not_past : (t c d : ℕ) (o : Option ℕ) → IsFirst n parent t (suc c) o → ((e : ℕ) → o ≡ Some e → d < e) → c < d → d < n → parent d ≡ t → ⊥
  not_past t c d None is before past lt at = is d (omega arith) lt at
  not_past t c d (Some e) is before past lt at = is.3 d (omega arith) (before e refl) at

  next_later : (t c e : ℕ) (o : Option ℕ) → IsFirst n parent t (suc c) o → o ≡ Some e → (c < e) × (e < n) × (parent e ≡ t)
  next_later t c e None is at = cc
  next_later t c e (Some x) is at = let q : x ≡ e = some_is x e at in let lt : c < x = omega (arith, is.0) in (rw q at lt, rw q at is.1, rw q at is.2)

  fewer : (t c : ℕ) (o : Option ℕ) → c < n → IsFirst n parent t (suc c) o → left_of n o < left_of n (Some c)
  fewer t c None lt is = omega arith
  fewer t c (Some e) lt is = let more = is.0 in let there = is.1 in omega arith

  -- a product falls with its first factor, by more than any rest below the second
  falls : (s now k r old : ℕ) → now < s → r < k → now * k + r < s * k + old
  falls s now k r old less below =
      let more : (now + 1) * k ≤ s * k = mul_le (now + 1) s k (omega arith) in
      let split : (now + 1) * k ≡ now * k + k = one_more_times now k in
      omega arith
    where
      one_more_times : (a b : ℕ) → (a + 1) * b ≡ a * b + b
      one_more_times a b = omega arith

      mul_le : (a b c : ℕ) → a ≤ b → a * c ≤ b * c
      mul_le a b c le = mul-le-mul_right c le

  rank_below : (d : ℕ) → d ≤ n → rank cliques d < clique_count cliques + 1
  rank_below d le = elim (cases_lt d n) [
    | inl lt ↦ (let below = lt_clique_count cliques d lt in rw (lt-ltb d n lt) (omega arith))
    | inr past ↦ rw (le-ltb d n past) (omega arith)
  ]

  module _ (key : ℕ → Option ℕ) (count : ℕ) (below : (d q : ℕ) → d < length cliques → key d ≡ Some q → q < count) where
    -- the keys of an item and of those above it
    claim_held : (q c : ℕ) (active : List Bool) (ups : List ℕ) (o : Option ℕ) → length active ≡ count → q < count
        → ((p : ℕ) → o ≡ Some p → p < count)
        → ((p : ℕ) → p < count → get_or active p false ≡ list_any (λ e. same_option (Some p) (key e)) ups)
        → get_or (with_key active (claimed active o)) q false ≡ (same_option (Some q) o || list_any (λ e. same_option (Some q) (key e)) ups)
    claim_held q c active ups None size lt under held = held q lt
    claim_held q c active ups (Some p) size lt under held = elim (cases_Bool (get_or active p false)) [
      | inl yes_p ↦ (
          let same : with_key active (claimed active (Some p)) ≡ active = rw yes_p refl in
          rw same (elim (cases_eq q p) [
            | inl is ↦ rw (eq-eqb q p is) (rw is yes_p)
            | inr ne ↦ rw (ne_eqb q p ne) (held q lt)
          ]))
      | inr no_p ↦ (
          let same : with_key active (claimed active (Some p)) ≡ set active p true = rw no_p refl in
          let there = under p refl in
          rw same (elim (cases_eq q p) [
            | inl is ↦ rw (eq-eqb q p is) (rw is (get_or-set_same active p true false (omega arith)))
            | inr ne ↦ rw (ne_eqb q p ne) (get_or-set_other active p q true false ne ∙ held q lt)
          ]))
    ]

    claim_is : (active : List Bool) (ups : List ℕ) (o : Option ℕ)
        → ((p : ℕ) → o ≡ Some p → p < count)
        → ((p : ℕ) → p < count → get_or active p false ≡ list_any (λ e. same_option (Some p) (key e)) ups)
        → claimed active o ≡ cond (list_any (λ e. same_option o (key e)) ups) None o
    claim_is active ups None under held = elim (cases_Bool (list_any (λ e. same_option None (key e)) ups)) [
      | inl h ↦ rw h refl
      | inr h ↦ rw h refl
    ]
    claim_is active ups (Some p) under held = ap (λ (b : Bool). cond b None (Some p)) (held p (under p refl))

    -- what is free is claimed
    free_is : (active : List Bool) (o : Option ℕ) → cond (is_free active o) o None ≡ claimed active o
    free_is active None = refl
    free_is active (Some p) = elim (cases_Bool (get_or active p false)) [
      | inl taken ↦ rw taken refl
      | inr free ↦ rw free refl
    ]

    release_held : (q : ℕ) (active : List Bool) (ups : List ℕ) (o : Option ℕ) → length active ≡ count → q < count
        → ((p : ℕ) → o ≡ Some p → p < count)
        → ((p : ℕ) → p < count → get_or active p false ≡ (same_option (Some p) o || list_any (λ e. same_option (Some p) (key e)) ups))
        → get_or (without_key active (cond (list_any (λ e. same_option o (key e)) ups) None o)) q false ≡ list_any (λ e. same_option (Some q) (key e)) ups
    release_held q active ups None size lt under held = elim (cases_Bool (list_any (λ e. same_option None (key e)) ups)) [
      | inl h ↦ rw h (held q lt)
      | inr h ↦ rw h (held q lt)
    ]
    release_held q active ups (Some p) size lt under held = elim (cases_Bool (list_any (λ e. same_option (Some p) (key e)) ups)) [
      | inl again ↦ rw again (elim (cases_eq q p) [
        | inl is ↦ (let old = held q lt in rw is (rw (is, eq-eqb p p refl) at old ∙ sym again))
        | inr ne ↦ (let old = held q lt in rw (ne_eqb q p ne) at old)
      ])
      | inr last ↦ (let there = under p refl in rw last (elim (cases_eq q p) [
        | inl is ↦ rw is (get_or-set_same active p false false (omega arith) ∙ sym last)
        | inr ne ↦ (let old = held q lt in get_or-set_other active p q false false ne ∙ (rw (ne_eqb q p ne) at old))
      ]))
    ]

    length-with : (active : List Bool) (o : Option ℕ) → length (with_key active o) ≡ length active
    length-with active None = refl
    length-with active (Some q) = length-set active q true

    length-without : (active : List Bool) (o : Option ℕ) → length (without_key active o) ≡ length active
    length-without active None = refl
    length-without active (Some q) = length-set active q false

    module _ (next : List (Option ℕ)) (nexts : AreNexts (length cliques) parent next) (first : List (Option ℕ)) (active : List Bool) (flags : List Bool) (at : ℕ) (is : Stands cliques starts key count first active flags at) where
      module _ (c : ℕ) (child : get_or first at None ≡ Some c) where
        abbrev now : List (Option ℕ)
        now = set first at (get_or next c None)

        pub c_there : c < length cliques
        c_there = (is.firsts at c is.at_there child).0

        c_below : above cliques starts c ≡ at
        c_below = (is.firsts at c is.at_there child).1

        next_is : IsFirst n parent at (suc c) (get_or next c None)
        next_is = subst (λ (p : ℕ). IsFirst n parent p (suc c) (get_or next c None)) c_below (nexts.is c c_there)

        here : get_or now at None ≡ get_or next c None
        here = let size = is.each_first in let le = is.at_there in get_or-set_same first at (get_or next c None) None (omega arith)

        stays : (d : ℕ) → IsEntered parent first d → IsEntered parent now d
        stays d was e first_e = elim (cases_eq (parent d) at) [
          | inl same ↦ (
              let later = next_later at c e (get_or next c None) next_is (sym here ∙ (rw same at first_e)) in
              let before : d < c = was c (ap (λ (p : ℕ). get_or first p None) same ∙ child) in
              let above_c : c < e = later.0 in
              omega arith)
          | inr other ↦ was e (sym (get_or-set_other first at (parent d) (get_or next c None) None other) ∙ first_e)
        ]

        newly : IsEntered parent now c
        newly e first_e = (next_later at c e (get_or next c None) next_is (sym here ∙ (rw c_below at first_e))).0

        or_before : (d : ℕ) → d < length cliques → IsEntered parent now d → (d ≡ c) ⊎ IsEntered parent first d
        or_before d lt entered = elim (cases_eq (parent d) at) as (λ _. (d ≡ c) ⊎ IsEntered parent first d) [
          | inr other ↦ inr (λ e first_e. entered e (get_or-set_other first at (parent d) (get_or next c None) None other ∙ first_e))
          | inl same ↦ elim (cases_order d c) as (λ _. (d ≡ c) ⊎ IsEntered parent first d) [
            | inl it ↦ inl it
            | inr apart ↦ elim apart as (λ _. (d ≡ c) ⊎ IsEntered parent first d) [
              | inl before ↦ inr (λ e first_e. (let q : c ≡ e = some_is c e (sym child ∙ ap (λ (p : ℕ). get_or first p None) (sym same) ∙ first_e) in rw q at before))
              | inr past ↦ absurd (not_past at c d (get_or next c None) next_is (λ e is_e. entered e (ap (λ (p : ℕ). get_or now p None) same ∙ here ∙ is_e)) past lt same)
            ]
          ]
        ]

        up_c : upward cliques starts c ≡ c ∷ upward cliques starts at
        up_c = up_goes c c_there ∙ ap (λ (p : ℕ). c ∷ upward cliques starts p) c_below

        mark_is : claimed active (key c) ≡ mark_of key c (upward cliques starts at)
        mark_is = claim_is active (upward cliques starts at) (key c) (λ p e. below c p c_there e) is.held

        pub entered : Stands cliques starts key count (set first at (get_or next c None)) (with_key active (claimed active (key c))) (set flags c (is_free active (key c))) c
        entered = record {
          each_first = length-set first at (get_or next c None) ∙ is.each_first;
          each_active = length-with active (claimed active (key c)) ∙ is.each_active;
          each_flag = length-set flags c (is_free active (key c)) ∙ is.each_flag;
          at_there = (let lt = c_there in omega arith);
          firsts = λ p e le first_e. elim (cases_eq p at) as (λ _. (e < length cliques) × (above cliques starts e ≡ p)) [
            | inl same ↦ (let later = next_later at c e (get_or next c None) next_is (sym here ∙ (rw same at first_e)) in (later.1, later.2 ∙ sym same))
            | inr other ↦ is.firsts p e le (sym (get_or-set_other first at p (get_or next c None) None other) ∙ first_e)
          ];
          line = rw up_c (newly, all_entered first now stays (upward cliques starts at) is.line);
          done = λ d lt entered_d. elim (or_before d lt entered_d) as (λ _. (get_or now d None ≡ None) ⊎ (list_any (λ e. eqb e d) (upward cliques starts c) ≡ true)) [
            | inl it ↦ inr (rw (up_c, eq-eqb c d (sym it)) refl)
            | inr before ↦ elim (is.done d lt before) as (λ _. (get_or now d None ≡ None) ⊎ (list_any (λ e. eqb e d) (upward cliques starts c) ≡ true)) [
              | inl over ↦ elim (cases_eq d at) as (λ _. (get_or now d None ≡ None) ⊎ (list_any (λ e. eqb e d) (upward cliques starts c) ≡ true)) [
                | inl same ↦ (let q : None ≡ Some c = sym over ∙ ap (λ (p : ℕ). get_or first p None) same ∙ child in cc)
                | inr other ↦ inl (get_or-set_other first at d (get_or next c None) None other ∙ over)
              ]
              | inr on ↦ inr (rw (up_c, on) (or_true (eqb c d)))
            ]
          ];
          told = λ d lt entered_d. elim (cases_eq d c) [
            | inl it ↦ (
                let size = is.each_flag in
                let there = c_there in
                rw it (ap (λ (b : Bool). cond b (key c) None) (get_or-set_same flags c (is_free active (key c)) false (omega arith)) ∙ free_is active (key c) ∙ mark_is ∙ ap (λ (p : ℕ). mark_of key c (upward cliques starts p)) (sym c_below)))
            | inr other ↦ elim (or_before d lt entered_d) [
              | inl it ↦ absurd (other it)
              | inr before ↦ ap (λ (b : Bool). cond b (key d) None) (get_or-set_other flags c d (is_free active (key c)) false other) ∙ is.told d lt before
            ]
          ];
          held = λ q lt. rw up_c (claim_held q c active (upward cliques starts at) (key c) is.each_active lt (λ p e. below c p c_there e) is.held);
        }
          where
            or_true : (b : Bool) → (b || true) ≡ true
            or_true true = refl
            or_true false = refl

        pub entered_less : work cliques (set first at (get_or next c None)) c < work cliques first at
        entered_less =
            let size = is.each_first in
            let le = is.at_there in
            let lt = c_there in
            let sums = sum_by-set (left_of n) first at (get_or next c None) None (omega arith) in
            let was : left_of n (get_or first at None) ≡ left_of n (Some c) = ap (left_of n) child in
            let less = fewer at c (get_or next c None) c_there next_is in
            falls (sum_by (left_of n) first) (sum_by (left_of n) now) (clique_count cliques + 1) (rank cliques c) (rank cliques at) (omega arith) (rank_below c (omega arith))

      module _ (there : at < length cliques) (over : get_or first at None ≡ None) where
        up_at : upward cliques starts at ≡ at ∷ upward cliques starts (above cliques starts at)
        up_at = up_goes at there

        line : AllEntered parent first (at ∷ upward cliques starts (above cliques starts at))
        line = rw up_at at is.line

        mark_at : marked key flags at ≡ mark_of key at (upward cliques starts (above cliques starts at))
        mark_at = is.told at there line.0

        pub mark_below : IfSome (marked key flags at) (λ q. q < count)
        mark_below = rw mark_at (unmarked (list_any (λ e. same_option (key at) (key e)) (upward cliques starts (above cliques starts at))) (key_below count (key at) (λ q e. below at q there e)))
          where
            unmarked : (b : Bool) → IfSome (key at) (λ q. q < count) → IfSome (cond b None (key at)) (λ q. q < count)
            unmarked true h = tt
            unmarked false h = h

        pub left : Stands cliques starts key count first (without_key active (marked key flags at)) flags (above cliques starts at)
        left = record {
          each_first = is.each_first;
          each_active = length-without active (marked key flags at) ∙ is.each_active;
          each_flag = is.each_flag;
          at_there = parent_there at there;
          firsts = is.firsts;
          line = line.1;
          done = λ d lt entered_d. elim (is.done d lt entered_d) as (λ _. (get_or first d None ≡ None) ⊎ (list_any (λ e. eqb e d) (upward cliques starts (above cliques starts at)) ≡ true)) [
            | inl none ↦ inl none
            | inr on ↦ elim (cases_eq at d) as (λ _. (get_or first d None ≡ None) ⊎ (list_any (λ e. eqb e d) (upward cliques starts (above cliques starts at)) ≡ true)) [
              | inl it ↦ inl (rw (← it) over)
              | inr other ↦ inr (rw (up_at, ne_eqb at d other) at on)
            ]
          ];
          told = is.told;
          held = λ q lt. rw mark_at (release_held q active (upward cliques starts (above cliques starts at)) (key at) is.each_active lt (λ p e. below at p there e) (λ p lp. (let old = is.held p lp in rw up_at at old)));
        }

        pub left_less : work cliques first (above cliques starts at) < work cliques first at
        left_less =
            let lower : rank cliques (above cliques starts at) < rank cliques at = elim (cases_lt (above cliques starts at) n) [
              | inl below_n ↦ (let less = parent_lower at there below_n in rw (lt-ltb (above cliques starts at) n below_n, lt-ltb at n there) (omega arith))
              | inr top ↦ rw (le-ltb (above cliques starts at) n top, lt-ltb at n there) (omega arith)
            ] in
            omega arith

      -- who has no parent left to enter was entered
      pub finished : at ≡ length cliques → get_or first at None ≡ None → AreMarks cliques starts key flags
      finished top none = record {
        each = is.each_flag;
        told = λ d lt. is.told d lt (all (suc (get_or cliques d 0)) d (omega arith) lt);
      }
        where
          from_none : (d p : ℕ) → parent d ≡ p → get_or first p None ≡ None → IsEntered parent first d
          from_none d p same is_none e first_e = let q : None ≡ Some e = sym is_none ∙ ap (λ (x : ℕ). get_or first x None) (sym same) ∙ first_e in cc

          none_on : (d : ℕ) → list_any (λ e. eqb e d) (upward cliques starts at) ≡ true → ⊥
          none_on d on = let gone : upward cliques starts at ≡ [] = rw top up_ends in false≢true (rw gone at on)

          all : (k d : ℕ) → get_or cliques d 0 < k → d < length cliques → IsEntered parent first d
          all zero d low lt = absurd (omega arith)
          all (suc k) d low lt = elim (cases_lt (parent d) n) [
            | inl inside ↦ (
                let less = parent_lower d lt inside in
                let p_entered = all k (parent d) (omega arith) inside in
                elim (is.done (parent d) inside p_entered) [
                  | inl no_more ↦ from_none d (parent d) refl no_more
                  | inr on ↦ absurd (none_on (parent d) on)
                ])
            | inr outside ↦ (
                let le = parent_there d lt in
                let it : parent d ≡ at = omega (arith, top) in
                from_none d at it none)
          ]

    -- before the walk: nothing was entered
    pub begun : (first next : List (Option ℕ)) → AreThreaded (length cliques) (λ d. above cliques starts d) first next
        → Stands cliques starts key count first (replicate count false) (replicate (length cliques) false) (length cliques)
    begun first next threaded = record {
      each_first = threaded.each_first;
      each_active = length-replicate count false;
      each_flag = length-replicate (length cliques) false;
      at_there = omega arith;
      firsts = λ p c le e. first_is p c (get_or first p None) (threaded.firsts p le) e;
      line = rw up_ends tt;
      done = λ d lt entered_d. absurd (none_entered d lt (get_or first (parent d) None) (threaded.firsts (parent d) (parent_there d lt)) entered_d);
      told = λ d lt entered_d. absurd (none_entered d lt (get_or first (parent d) None) (threaded.firsts (parent d) (parent_there d lt)) entered_d);
      held = λ q lt. rw up_ends (get_or-replicate count q false false lt);
    }
      where
        first_is : (p c : ℕ) (o : Option ℕ) → IsFirst n parent p 0 o → o ≡ Some c → (c < n) × (parent c ≡ p)
        first_is p c None is e = cc
        first_is p c (Some x) is e = let q : x ≡ c = some_is x c e in (rw q at is.1, rw q at is.2)

        none_entered : (d : ℕ) → d < n → (o : Option ℕ) → IsFirst n parent (parent d) 0 o → ((c : ℕ) → o ≡ Some c → d < c) → ⊥
        none_entered d lt None is before = is d (omega arith) lt refl
        none_entered d lt (Some c) is before = is.3 d (omega arith) (before c refl) refl
