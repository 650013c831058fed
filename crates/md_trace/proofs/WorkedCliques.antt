-- Cliques, computed on the contexts and links of three small programs.
use Rattle.std.proofs.Common.{ℕ, zero, suc, ◌≡◌, ◌<◌, ◌≤◌, inl, inr, List, [], ◌∷◌, length, Some, refl, sym, ap, subst, slice_get, arith}
use Rattle.std.proofs.lemmas.Bool.{cases_eq}
use Rattle.std.specs.Prelude.{slice_index}
use Rattle.md_trace.specs.Cliques.{AreCliques, edges}
use Rattle.md_trace.specs.Reaches.{Reaches, ReachesBoth, here, more}
use Rattle.md_trace.proofs.Worked.{order1, order2, even, all_links}

-- what holds of each number below n
abbrev EachBelow : (ℕ → Type 0) → ℕ → Type 0
EachBelow P zero = Unit {0}
EachBelow P (suc n) = P n × EachBelow P n

below : (P : ℕ → Type 0) (n a : ℕ) → EachBelow P n → a < n → P a
below P zero a each h = absurd (omega arith)
below P (suc n) a each h =
    elim (cases_eq a n) [
      | inl same ↦ subst P (sym same) each.0
      | inr other ↦ below P n a each.1 (omega (arith, other))
    ]

-- walks, one after the other
walk_on : (es : List (ℕ × ℕ)) (a b c : ℕ) → Reaches es a b → Reaches es b c → Reaches es a c
walk_on es _ b c (here a) next = next
walk_on es _ b c (more k a y z is rest) next = more k a y c is (walk_on es y b c rest next)

-- where each edge leads to a clique that isn't lower, so does each walk
abbrev RiseAlong : List (ℕ × ℕ) → List ℕ → Type 0
RiseAlong es cliques = (k a b : ℕ) → slice_get es k ≡ Some (a, b) → slice_index cliques a ≤ slice_index cliques b

rises : (es : List (ℕ × ℕ)) (cliques : List ℕ) (a b : ℕ) → RiseAlong es cliques → Reaches es a b → slice_index cliques a ≤ slice_index cliques b
rises es cliques _ _ rise (here a) = omega arith
rises es cliques _ _ rise (more k a y b is rest) =
    let first = rise k a y is in
    let then = rises es cliques y b rise rest in
    omega (arith, first, then)

-- each context and the least of its clique reach each other
abbrev Meets : List (ℕ × ℕ) → List ℕ → List ℕ → ℕ → Type 0
Meets es cliques least a = ReachesBoth es a (slice_index least (slice_index cliques a))

-- what shows that these are the cliques: edges don't lead to lower cliques, each context and the least of its clique
-- reach each other, and the least contexts rise
are : (n : ℕ) (es : List (ℕ × ℕ)) (cliques least : List ℕ) → length cliques ≡ n → RiseAlong es cliques → EachBelow (Meets es cliques least) n →
    ((b k : ℕ) → b < n → k < slice_index cliques b → (a : ℕ) × (a < b) × (slice_index cliques a ≡ k)) → AreCliques n es cliques
are n es cliques least len rise meet ordered =
    record {
      each = len;
      classes = λ a b la lb. (
        λ same.
            let up = below (Meets es cliques least) n a meet la in
            let down = below (Meets es cliques least) n b meet lb in
            let at : slice_index least (slice_index cliques b) ≡ slice_index least (slice_index cliques a) = ap (slice_index least) (sym same) in
            let P : ℕ → Type 0 = λ c. ReachesBoth es b c in
            let met = subst P at down in
            let mid = slice_index least (slice_index cliques a) in
            record { forth = walk_on es a mid b up.forth met.back; back = walk_on es b mid a met.forth up.back },
        λ both.
            let forth = rises es cliques a b rise both.forth in
            let back = rises es cliques b a rise both.back in
            omega (arith, forth, back),
      );
      in_order = ordered;
    }

-- each of these edges leads to a clique that isn't lower
abbrev EachRises : List ℕ → List (ℕ × ℕ) → Type 0
EachRises cliques [] = Unit {0}
EachRises cliques (x ∷ es) = (slice_index cliques x.0 ≤ slice_index cliques x.1) × EachRises cliques es

along : (es : List (ℕ × ℕ)) (cliques : List ℕ) → EachRises cliques es → RiseAlong es cliques
along [] cliques each k a b is = absurd (cc)
along (x ∷ es) cliques each zero a b is =
    let same : x ≡ (a, b) = cc in
    let P : ℕ × ℕ → Type 0 = λ e. slice_index cliques e.0 ≤ slice_index cliques e.1 in
    subst P same each.0
along (x ∷ es) cliques each (suc k) a b is = along es cliques each.1 k a b is

alone : (es : List (ℕ × ℕ)) (a : ℕ) → ReachesBoth es a a
alone es a = record { forth = here a; back = here a }

step : (es : List (ℕ × ℕ)) (k a b : ℕ) → slice_get es k ≡ Some (a, b) → Reaches es a b
step es k a b is = more k a b b is (here b)

-- x, n and r are in one clique
abbrev pub order1_cliques : List ℕ
order1_cliques = 0 ∷ 1 ∷ 1 ∷ 1 ∷ []

order1_ordered : (b k : ℕ) → b < 4 → k < slice_index order1_cliques b → (a : ℕ) × (a < b) × (slice_index order1_cliques a ≡ k)
order1_ordered zero k h less = let l : k < 0 = less in absurd (omega arith)
order1_ordered (suc zero) k h less = let l : k < 1 = less in (0, omega arith, omega arith)
order1_ordered (suc (suc zero)) k h less = let l : k < 1 = less in (0, omega arith, omega arith)
order1_ordered (suc (suc (suc zero))) k h less = let l : k < 1 = less in (0, omega arith, omega arith)
order1_ordered (suc (suc (suc (suc b)))) k h less = absurd (omega arith)

pub order1_are : AreCliques 4 (edges (all_links order1)) order1_cliques
order1_are =
    let es = edges (all_links order1) in
    are 4 es order1_cliques (0 ∷ 1 ∷ []) refl
    (along es order1_cliques (omega arith, (omega arith, (omega arith, (omega arith, (omega arith, tt)))))) (
      record { forth = more 4 3 2 1 refl (step es 2 2 1 refl); back = step es 3 1 3 refl },
      (record { forth = step es 2 2 1 refl; back = step es 1 1 2 refl }, (alone es 1, (alone es 0, tt))),
    )
    order1_ordered

-- the first context of x and the context of n that it calls second are in one clique
abbrev pub order2_cliques : List ℕ
order2_cliques = 0 ∷ 1 ∷ 2 ∷ 3 ∷ 1 ∷ []

order2_ordered : (b k : ℕ) → b < 5 → k < slice_index order2_cliques b → (a : ℕ) × (a < b) × (slice_index order2_cliques a ≡ k)
order2_ordered zero k h less = let l : k < 0 = less in absurd (omega arith)
order2_ordered (suc zero) k h less = let l : k < 1 = less in (0, omega arith, omega arith)
order2_ordered (suc (suc zero)) zero h less = (0, omega arith, refl)
order2_ordered (suc (suc zero)) (suc zero) h less = (1, omega arith, refl)
order2_ordered (suc (suc zero)) (suc (suc k)) h less = let l : suc (suc k) < 2 = less in absurd (omega arith)
order2_ordered (suc (suc (suc zero))) zero h less = (0, omega arith, refl)
order2_ordered (suc (suc (suc zero))) (suc zero) h less = (1, omega arith, refl)
order2_ordered (suc (suc (suc zero))) (suc (suc zero)) h less = (2, omega arith, refl)
order2_ordered (suc (suc (suc zero))) (suc (suc (suc k))) h less = let l : suc (suc (suc k)) < 3 = less in absurd (omega arith)
order2_ordered (suc (suc (suc (suc zero)))) k h less = let l : k < 1 = less in (0, omega arith, omega arith)
order2_ordered (suc (suc (suc (suc (suc b))))) k h less = absurd (omega arith)

pub order2_are : AreCliques 5 (edges (all_links order2)) order2_cliques
order2_are =
    let es = edges (all_links order2) in
    are 5 es order2_cliques (0 ∷ 1 ∷ 2 ∷ 3 ∷ []) refl
    (along es order2_cliques (omega arith, (omega arith, (omega arith, (omega arith, (omega arith, tt))))))
    (record { forth = step es 4 4 1 refl; back = step es 3 1 4 refl }, (alone es 3, (alone es 2, (alone es 1, (alone es 0, tt)))))
    order2_ordered

-- even and odd are in one clique
abbrev pub even_cliques : List ℕ
even_cliques = 0 ∷ 1 ∷ 1 ∷ []

even_ordered : (b k : ℕ) → b < 3 → k < slice_index even_cliques b → (a : ℕ) × (a < b) × (slice_index even_cliques a ≡ k)
even_ordered zero k h less = let l : k < 0 = less in absurd (omega arith)
even_ordered (suc zero) k h less = let l : k < 1 = less in (0, omega arith, omega arith)
even_ordered (suc (suc zero)) k h less = let l : k < 1 = less in (0, omega arith, omega arith)
even_ordered (suc (suc (suc b))) k h less = absurd (omega arith)

pub even_are : AreCliques 3 (edges (all_links even)) even_cliques
even_are =
    let es = edges (all_links even) in
    are 3 es even_cliques (0 ∷ 1 ∷ []) refl
    (along es even_cliques (omega arith, (omega arith, (omega arith, tt))))
    (record { forth = step es 2 2 1 refl; back = step es 1 1 2 refl }, (alone es 1, (alone es 0, tt)))
    even_ordered

-- nor do all contexts of even make one clique: main isn't reached from even
even_is_not_one : AreCliques 3 (edges (all_links even)) (0 ∷ 0 ∷ 0 ∷ []) → ⊥
even_is_not_one one =
    let both = (one.classes 1 0 (omega arith) (omega arith)).0 refl in
    let up = rises (edges (all_links even)) even_cliques 1 0 (along (edges (all_links even)) even_cliques (omega arith, (omega arith, (omega arith, tt)))) both.forth in
    omega (arith, up)
