-- The links that lists have are listed so, and they are those of each graph that is.
use Rattle.std.proofs.Common.{◌≡◌, ℕ, zero, suc, ◌+◌, ◌-◌, ◌<◌, ◌≤◌, List, ◌++◌, length, map, take, drop, get_or, refl, sym, ap, subst, ◌∙◌, inl, inr, arith, length-append}
use Rattle.std.proofs.lemmas.Bool.{cases_eq, cases_lt}
use Rattle.std.proofs.lemmas.List.{get_or-append-add, get_or_append_left, get_or-drop, get_or-map, get_or-take, length-drop, length-map, length-take-le}
use Rattle.std.specs.Prelude.{All}
use Rattle.md_trace.specs.Cliques.{AreCliques}
use Rattle.md_clique.specs.Links.{AreAmong, AreListed, AreLists, AreWithin, HaveSame, end_of, links_from, links_of, start_of}
use Rattle.md_clique.proofs.SameLinks.{cliques_same}

module _ (starts ends : List ℕ) where
  -- node v's ends, and its links
  abbrev list_at : ℕ → List ℕ
  list_at v = take (get_or starts (v + 1) 0 - get_or starts v 0) (drop (get_or starts v 0) ends)

  abbrev here : ℕ → List (ℕ × ℕ)
  here v = map (λ e. (v, e)) (list_at v)

  module _ (v : ℕ) (rising : get_or starts v 0 ≤ get_or starts (v + 1) 0) (within : get_or starts (v + 1) 0 ≤ length ends) where
    long : length (list_at v) ≡ get_or starts (v + 1) 0 - get_or starts v 0
    long = let rest = length-drop (get_or starts v 0) ends in length-take-le (get_or starts (v + 1) 0 - get_or starts v 0) (drop (get_or starts v 0) ends) (omega arith)

    pub as_many : length (here v) ≡ get_or starts (v + 1) 0 - get_or starts v 0
    as_many = length-map (list_at v) (λ (e : ℕ). (v, e)) ∙ long

    pub is_link : (i : ℕ) → i < get_or starts (v + 1) 0 - get_or starts v 0 → get_or (here v) i (0, 0) ≡ (v, get_or ends (get_or starts v 0 + i) 0)
    is_link i lt =
        let size = long in
        get_or-map (λ (e : ℕ). (v, e)) (list_at v) i 0 (0, 0) (omega arith)
        ∙ ap (λ (e : ℕ). (v, e)) (get_or-take (get_or starts (v + 1) 0 - get_or starts v 0) (drop (get_or starts v 0) ends) i 0 lt ∙ get_or-drop (get_or starts v 0) ends i 0)

  module _ (nodes : ℕ) (are : AreLists nodes starts ends) where
    -- what a list has is a link
    pub found : (a k : ℕ) → a + k ≤ nodes → (v p : ℕ) → a ≤ v → v < a + k → get_or starts v 0 ≤ p → p < get_or starts (v + 1) 0
        → (t : ℕ) × (t < length (links_from starts ends a k)) × (get_or (links_from starts ends a k) t (0, 0) ≡ (v, get_or ends p 0))
    found a zero le v p low high from to = absurd (omega arith)
    found a (suc k) le v p low high from to = elim (cases_eq v a) as (λ _. (t : ℕ) × (t < length (links_from starts ends a (suc k))) × (get_or (links_from starts ends a (suc k)) t (0, 0) ≡ (v, get_or ends p 0))) [
      | inl same ↦ (
          let there : v < nodes = omega arith in
          let rising = are.rising v there in
          let within = are.within v there in
          let many = as_many v rising within in
          let sum : get_or starts v 0 + (p - get_or starts v 0) ≡ p = omega arith in
          let at : get_or (here v) (p - get_or starts v 0) (0, 0) ≡ (v, get_or ends p 0) = rw sum at (is_link v rising within (p - get_or starts v 0) (omega arith)) in
          let all = length-append (here v) (links_from starts ends (v + 1) k) in
          subst (λ (b : ℕ). (t : ℕ) × (t < length (links_from starts ends b (suc k))) × (get_or (links_from starts ends b (suc k)) t (0, 0) ≡ (v, get_or ends p 0))) same
          (p - get_or starts v 0, omega arith, get_or_append_left (here v) (links_from starts ends (v + 1) k) (0, 0) (p - get_or starts v 0) (omega arith) ∙ at))
      | inr other ↦ (
          let w = found (a + 1) k (omega arith) v p (omega arith) (omega arith) from to in
          let below : w.0 < length (links_from starts ends (a + 1) k) = w.1 in
          let all = length-append (here a) (links_from starts ends (a + 1) k) in
          (length (here a) + w.0, omega arith, get_or-append-add (here a) (links_from starts ends (a + 1) k) w.0 (0, 0) ∙ w.2))
    ]

    -- and each link stands in a list
    pub listed_at : (a k : ℕ) → a + k ≤ nodes → (t : ℕ) → t < length (links_from starts ends a k)
        → (v : ℕ) × (p : ℕ) × (v < a + k) × (get_or starts v 0 ≤ p) × (p < get_or starts (v + 1) 0) × (get_or (links_from starts ends a k) t (0, 0) ≡ (v, get_or ends p 0))
    listed_at a zero le t lt = absurd (omega arith)
    listed_at a (suc k) le t lt =
        let there : a < nodes = omega arith in
        let rising = are.rising a there in
        let within = are.within a there in
        let many = as_many a rising within in
        let all = length-append (here a) (links_from starts ends (a + 1) k) in
        elim (cases_lt t (length (here a))) as (λ _. (v : ℕ) × (p : ℕ) × (v < a + suc k) × (get_or starts v 0 ≤ p) × (p < get_or starts (v + 1) 0) × (get_or (links_from starts ends a (suc k)) t (0, 0) ≡ (v, get_or ends p 0))) [
          | inl less ↦ (a, get_or starts a 0 + t, omega arith, omega arith, omega arith, get_or_append_left (here a) (links_from starts ends (a + 1) k) (0, 0) t less ∙ is_link a rising within t (omega arith))
          | inr more ↦ (
              let w = listed_at (a + 1) k (omega arith) (t - length (here a)) (omega arith) in
              let low : w.0 < a + 1 + k = w.2 in
              let sum : length (here a) + (t - length (here a)) ≡ t = omega arith in
              let at : get_or (here a ++ links_from starts ends (a + 1) k) t (0, 0) ≡ get_or (links_from starts ends (a + 1) k) (t - length (here a)) (0, 0) = rw sum at (get_or-append-add (here a) (links_from starts ends (a + 1) k) (t - length (here a)) (0, 0)) in
              (w.0, w.1, omega arith, w.3, w.4, at ∙ w.5))
        ]

    pub links_within : AreWithin (links_of nodes starts ends) nodes
    links_within = record {
      starts = λ t lt. let w = listed_at 0 nodes (omega arith) t lt in let low : w.0 < 0 + nodes = w.2 in let is : start_of (links_of nodes starts ends) t ≡ w.0 = ap (λ (l : ℕ × ℕ). l.0) w.5 in omega arith;
      ends = λ t lt. let w = listed_at 0 nodes (omega arith) t lt in let there : w.0 < 0 + nodes = w.2 in let is : end_of (links_of nodes starts ends) t ≡ get_or ends w.1 0 = ap (λ (l : ℕ × ℕ). l.1) w.5 in let low = are.low w.0 w.1 (omega arith) w.3 w.4 in omega arith;
    }

    pub links_listed : AreListed (links_of nodes starts ends) nodes starts ends
    links_listed = record {
      each = are.each;
      rising = are.rising;
      within = are.within;
      theirs = λ v p there from to. let w = found 0 nodes (omega arith) v p (omega arith) (omega arith) from to in (w.0, w.1, ap (λ (l : ℕ × ℕ). l.0) w.2, ap (λ (l : ℕ × ℕ). l.1) w.2);
      all = λ t lt.
          let w = listed_at 0 nodes (omega arith) t lt in
          let start : start_of (links_of nodes starts ends) t ≡ w.0 = ap (λ (l : ℕ × ℕ). l.0) w.5 in
          let end : end_of (links_of nodes starts ends) t ≡ get_or ends w.1 0 = ap (λ (l : ℕ × ℕ). l.1) w.5 in
          (w.1, rw start w.3, rw start w.4, sym end);
    }

-- what is listed stands in lists
pub are_lists : (links : List (ℕ × ℕ)) (nodes : ℕ) (starts ends : List ℕ) → AreWithin links nodes → AreListed links nodes starts ends → AreLists nodes starts ends
are_lists links nodes starts ends within listed = record {
  each = listed.each;
  rising = listed.rising;
  within = listed.within;
  low = λ v p there from to. let t = listed.theirs v p there from to in rw (t.3) at (within.ends t.0 t.1);
}

pair_same : (a b : ℕ × ℕ) → a.0 ≡ b.0 → a.1 ≡ b.1 → a ≡ b
pair_same (a, b) (c, d) first second = rw (first, second) refl

among : (links others : List (ℕ × ℕ)) (nodes : ℕ) (starts ends : List ℕ) → AreWithin links nodes → AreListed links nodes starts ends → AreListed others nodes starts ends → AreAmong links others
among links others nodes starts ends within listed same = λ t lt.
    let p = listed.all t lt in
    let s = same.theirs (start_of links t) p.0 (within.starts t lt) p.1 p.2 in
    (s.0, s.1, pair_same (get_or others s.0 (0, 0)) (get_or links t (0, 0)) s.2 (s.3 ∙ p.3))

pub same_listed : (links others : List (ℕ × ℕ)) (nodes : ℕ) (starts ends : List ℕ) → AreWithin links nodes → AreWithin others nodes → AreListed links nodes starts ends → AreListed others nodes starts ends → HaveSame links others
same_listed links others nodes starts ends low below listed same = record {
  forth = among links others nodes starts ends low listed same;
  back = among others links nodes starts ends below same listed;
}

-- the cliques of the links that the lists have are those of the graph
pub cliques_listed : (links : List (ℕ × ℕ)) (nodes : ℕ) (starts ends cliques : List ℕ) → AreWithin links nodes → AreListed links nodes starts ends
    → AreCliques nodes (links_of nodes starts ends) cliques → AreCliques nodes links cliques
cliques_listed links nodes starts ends cliques within listed are =
    let lists = are_lists links nodes starts ends within listed in
    cliques_same links (links_of nodes starts ends) nodes cliques
    (same_listed links (links_of nodes starts ends) nodes starts ends within (links_within starts ends nodes lists) listed (links_listed starts ends nodes lists)) are

pub within_all : (links : List (ℕ × ℕ)) (nodes : ℕ) → All (λ link. (link.0 < nodes) × (link.1 < nodes)) links → AreWithin links nodes
within_all links nodes all = record {
  starts = λ t lt. (all t (0, 0) lt).0;
  ends = λ t lt. (all t (0, 0) lt).1;
}
