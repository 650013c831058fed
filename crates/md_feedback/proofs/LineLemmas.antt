-- Lines: where they end, and what stands on the lines of a feedback's text.
use Rattle.std.proofs.Common.{Bool, true, false, ◌==◌, eq-eqb, ℕ, ◌≡◌, ◌∙◌, ◌<◌, ◌≤◌, refl, sym, ap, subst, arith, List, [], ◌++◌, append_assoc, append-nil, length, ◌^◌, decimal, codes}
use Rattle.md_feedback.specs.declared.pairs.Pair.{Pair}
use Rattle.md_feedback.specs.Text.{numbered, pair_words}
use Rattle.md_feedback.specs.Lines.{IsNumberAfter, IsPairLine, IsLeastLine}
use Rattle.md_feedback.proofs.Digits.{NoDigit, number_is_one}

-- ---- the numbers on the line of a pair

-- what stands on it behind the procedure, behind the first site, and so on
abbrev pub after_second : Pair → List ℕ
after_second p = numbered (codes " ") p.a ++ numbered (codes " ") p.b

abbrev pub after_first : Pair → List ℕ
after_first p = numbered (codes " ") p.second ++ after_second p

abbrev pub after_proc : Pair → List ℕ
after_proc p = numbered (codes " ") p.first ++ after_first p

stands : (words : List ℕ) (n : ℕ) (rest : List ℕ) → n < 2 ^ 64 → NoDigit rest → IsNumberAfter words (numbered words n ++ rest) n rest
stands words n rest small none = record { small = small; is = append_assoc words (decimal n) rest; ends = none }

last_stands : (words : List ℕ) (n : ℕ) → n < 2 ^ 64 → IsNumberAfter words (numbered words n) n []
last_stands words n small = record { small = small; is = ap (λ xs. words ++ xs) (sym (append-nil (decimal n))); ends = refl }

-- a number that was read is the one that stands there, and the rest what follows it
read_here : (words text other r s : List ℕ) (m n : ℕ) → text ≡ other → IsNumberAfter words text m r → IsNumberAfter words other n s → (m ≡ n) × (r ≡ s)
read_here words text other r s m n same a b = number_is_one words other r s m n (subst (λ (t : List ℕ). IsNumberAfter words t m r) same a) b

pub same_proc : (words r1 : List ℕ) (n1 : ℕ) (p : Pair) → IsNumberAfter (codes "pair ") words n1 r1 → IsPairLine p words → (n1 ≡ p.proc) × (r1 ≡ after_proc p)
same_proc words r1 n1 p h1 l =
    read_here (codes "pair ") words (pair_words p) r1 (after_proc p) n1 p.proc l.1 h1
    (stands (codes "pair ") p.proc (after_proc p) (let small : p.proc < 4294967295 = l.0.proc in omega arith) refl)

pub same_first : (words r1 r2 : List ℕ) (n1 n2 : ℕ) (p : Pair) → IsNumberAfter (codes "pair ") words n1 r1 → IsNumberAfter (codes " ") r1 n2 r2 → IsPairLine p words
    → (n2 ≡ p.first) × (r2 ≡ after_first p)
same_first words r1 r2 n1 n2 p h1 h2 l =
    read_here (codes " ") r1 (after_proc p) r2 (after_first p) n2 p.first (same_proc words r1 n1 p h1 l).1 h2
    (stands (codes " ") p.first (after_first p) (let small : p.first < 4294967295 = l.0.first in omega arith) refl)

pub same_second : (words r1 r2 r3 : List ℕ) (n1 n2 n3 : ℕ) (p : Pair) → IsNumberAfter (codes "pair ") words n1 r1 → IsNumberAfter (codes " ") r1 n2 r2 → IsNumberAfter (codes " ") r2 n3 r3
    → IsPairLine p words → (n3 ≡ p.second) × (r3 ≡ after_second p)
same_second words r1 r2 r3 n1 n2 n3 p h1 h2 h3 l =
    read_here (codes " ") r2 (after_first p) r3 (after_second p) n3 p.second (same_first words r1 r2 n1 n2 p h1 h2 l).1 h3
    (stands (codes " ") p.second (after_second p) (let small : p.second < 4294967295 = l.0.second in omega arith) refl)

pub same_a : (words r1 r2 r3 r4 : List ℕ) (n1 n2 n3 n4 : ℕ) (p : Pair) → IsNumberAfter (codes "pair ") words n1 r1 → IsNumberAfter (codes " ") r1 n2 r2 → IsNumberAfter (codes " ") r2 n3 r3
    → IsNumberAfter (codes " ") r3 n4 r4 → IsPairLine p words → (n4 ≡ p.a) × (r4 ≡ numbered (codes " ") p.b)
same_a words r1 r2 r3 r4 n1 n2 n3 n4 p h1 h2 h3 h4 l =
    read_here (codes " ") r3 (after_second p) r4 (numbered (codes " ") p.b) n4 p.a (same_second words r1 r2 r3 n1 n2 n3 p h1 h2 h3 l).1 h4
    (stands (codes " ") p.a (numbered (codes " ") p.b) l.0.a refl)

pub same_b : (words r1 r2 r3 r4 r5 : List ℕ) (n1 n2 n3 n4 n5 : ℕ) (p : Pair) → IsNumberAfter (codes "pair ") words n1 r1 → IsNumberAfter (codes " ") r1 n2 r2 → IsNumberAfter (codes " ") r2 n3 r3
    → IsNumberAfter (codes " ") r3 n4 r4 → IsNumberAfter (codes " ") r4 n5 r5 → IsPairLine p words → (n5 ≡ p.b) × (r5 ≡ [])
same_b words r1 r2 r3 r4 r5 n1 n2 n3 n4 n5 p h1 h2 h3 h4 h5 l =
    read_here (codes " ") r4 (numbered (codes " ") p.b) r5 [] n5 p.b (same_a words r1 r2 r3 r4 n1 n2 n3 n4 p h1 h2 h3 h4 l).1 h5
    (last_stands (codes " ") p.b l.0.b)

-- where no number is read, there is no pair
pub no_proc : (words : List ℕ) → ((n : ℕ) (r : List ℕ) → IsNumberAfter (codes "pair ") words n r → ⊥) → (p : Pair) → IsPairLine p words → ⊥
no_proc words none p l =
    none p.proc (after_proc p) (subst (λ (t : List ℕ). IsNumberAfter (codes "pair ") t p.proc (after_proc p)) (sym l.1)
    (stands (codes "pair ") p.proc (after_proc p) (let small : p.proc < 4294967295 = l.0.proc in omega arith) refl))

pub no_first : (words r1 : List ℕ) (n1 : ℕ) → IsNumberAfter (codes "pair ") words n1 r1 → ((n : ℕ) (r : List ℕ) → IsNumberAfter (codes " ") r1 n r → ⊥) → (p : Pair) → IsPairLine p words → ⊥
no_first words r1 n1 h1 none p l =
    none p.first (after_first p) (subst (λ (t : List ℕ). IsNumberAfter (codes " ") t p.first (after_first p)) (sym (same_proc words r1 n1 p h1 l).1)
    (stands (codes " ") p.first (after_first p) (let small : p.first < 4294967295 = l.0.first in omega arith) refl))

pub no_second : (words r1 r2 : List ℕ) (n1 n2 : ℕ) → IsNumberAfter (codes "pair ") words n1 r1 → IsNumberAfter (codes " ") r1 n2 r2 → ((n : ℕ) (r : List ℕ) → IsNumberAfter (codes " ") r2 n r → ⊥)
    → (p : Pair) → IsPairLine p words → ⊥
no_second words r1 r2 n1 n2 h1 h2 none p l =
    none p.second (after_second p) (subst (λ (t : List ℕ). IsNumberAfter (codes " ") t p.second (after_second p)) (sym (same_first words r1 r2 n1 n2 p h1 h2 l).1)
    (stands (codes " ") p.second (after_second p) (let small : p.second < 4294967295 = l.0.second in omega arith) refl))

pub no_a : (words r1 r2 r3 : List ℕ) (n1 n2 n3 : ℕ) → IsNumberAfter (codes "pair ") words n1 r1 → IsNumberAfter (codes " ") r1 n2 r2 → IsNumberAfter (codes " ") r2 n3 r3
    → ((n : ℕ) (r : List ℕ) → IsNumberAfter (codes " ") r3 n r → ⊥) → (p : Pair) → IsPairLine p words → ⊥
no_a words r1 r2 r3 n1 n2 n3 h1 h2 h3 none p l =
    none p.a (numbered (codes " ") p.b) (subst (λ (t : List ℕ). IsNumberAfter (codes " ") t p.a (numbered (codes " ") p.b)) (sym (same_second words r1 r2 r3 n1 n2 n3 p h1 h2 h3 l).1)
    (stands (codes " ") p.a (numbered (codes " ") p.b) l.0.a refl))

pub no_b : (words r1 r2 r3 r4 : List ℕ) (n1 n2 n3 n4 : ℕ) → IsNumberAfter (codes "pair ") words n1 r1 → IsNumberAfter (codes " ") r1 n2 r2 → IsNumberAfter (codes " ") r2 n3 r3
    → IsNumberAfter (codes " ") r3 n4 r4 → ((n : ℕ) (r : List ℕ) → IsNumberAfter (codes " ") r4 n r → ⊥) → (p : Pair) → IsPairLine p words → ⊥
no_b words r1 r2 r3 r4 n1 n2 n3 n4 h1 h2 h3 h4 none p l =
    none p.b [] (subst (λ (t : List ℕ). IsNumberAfter (codes " ") t p.b []) (sym (same_a words r1 r2 r3 r4 n1 n2 n3 n4 p h1 h2 h3 h4 l).1) (last_stands (codes " ") p.b l.0.b))

-- what was read of the line of a pair passes the tests
pub tests_pass : (words r1 r2 r3 r4 r5 : List ℕ) (n1 n2 n3 n4 n5 : ℕ) (p : Pair) → IsNumberAfter (codes "pair ") words n1 r1 → IsNumberAfter (codes " ") r1 n2 r2 → IsNumberAfter (codes " ") r2 n3 r3
    → IsNumberAfter (codes " ") r3 n4 r4 → IsNumberAfter (codes " ") r4 n5 r5 → IsPairLine p words → (length r5 ≡ 0) × (n1 < 4294967295) × (n2 < n3) × (n3 < 4294967295)
tests_pass words r1 r2 r3 r4 r5 n1 n2 n3 n4 n5 p h1 h2 h3 h4 h5 l =
    let e1 : n1 ≡ p.proc = (same_proc words r1 n1 p h1 l).0 in
    let e2 : n2 ≡ p.first = (same_first words r1 r2 n1 n2 p h1 h2 l).0 in
    let e3 : n3 ≡ p.second = (same_second words r1 r2 r3 n1 n2 n3 p h1 h2 h3 l).0 in
    let e5 : r5 ≡ [] = (same_b words r1 r2 r3 r4 r5 n1 n2 n3 n4 n5 p h1 h2 h3 h4 h5 l).1 in
    let proc : p.proc < 4294967295 = l.0.proc in
    let second : p.second < 4294967295 = l.0.second in
    let order : p.first < p.second = l.0.order in
    (ap length e5, omega arith, omega arith, omega arith)

-- ---- the number on the line of the least share

least_stands : (words : List ℕ) (k : ℕ) → IsLeastLine k words → IsNumberAfter (codes "least ") words k []
least_stands words k l =
    let low : 1 ≤ k = l.0.0 in
    let high : k ≤ 4294967295 = l.0.1 in
    subst (λ (t : List ℕ). IsNumberAfter (codes "least ") t k []) (sym l.1) (last_stands (codes "least ") k (omega arith))

pub no_least : (words : List ℕ) → ((n : ℕ) (r : List ℕ) → IsNumberAfter (codes "least ") words n r → ⊥) → (k : ℕ) → IsLeastLine k words → ⊥
no_least words none k l = none k [] (least_stands words k l)

pub least_passes : (words rest : List ℕ) (n k : ℕ) → IsNumberAfter (codes "least ") words n rest → IsLeastLine k words → (length rest ≡ 0) × (1 ≤ n) × (n ≤ 4294967295)
least_passes words rest n k h l =
    let same : (n ≡ k) × (rest ≡ []) = number_is_one (codes "least ") words rest [] n k h (least_stands words k l) in
    let low : 1 ≤ k = l.0.0 in
    let high : k ≤ 4294967295 = l.0.1 in
    (ap length same.1, omega (arith, same.0), omega (arith, same.0))

-- a list without elements that a test finds to have some
pub not_empty : (rest : List ℕ) (empty : Bool) → length rest ≡ 0 → empty ≡ (length rest == 0) → empty ≡ false → ⊥
not_empty rest empty none is not =
    let there : (length rest == 0) ≡ true = eq-eqb (length rest) 0 none in
    absurd (cc)

-- ---- a line gives one pair

pair_with : (proc first second a b : ℕ) → Pair
pair_with proc first second a b = record { proc = proc; first = first; second = second; a = a; b = b }

same_parts : (p q : Pair) → p.proc ≡ q.proc → p.first ≡ q.first → p.second ≡ q.second → p.a ≡ q.a → p.b ≡ q.b → p ≡ q
unfolding pair_with
same_parts p q e1 e2 e3 e4 e5 =
    ap (λ n. pair_with n p.first p.second p.a p.b) e1
    ∙ (ap (λ n. pair_with q.proc n p.second p.a p.b) e2
    ∙ (ap (λ n. pair_with q.proc q.first n p.a p.b) e3
    ∙ (ap (λ n. pair_with q.proc q.first q.second n p.b) e4
    ∙ ap (λ n. pair_with q.proc q.first q.second q.a n) e5)))

pub same_pair : (words : List ℕ) (p q : Pair) → IsPairLine p words → IsPairLine q words → p ≡ q
same_pair words p q l m =
    let proc : p.proc < 4294967295 = l.0.proc in
    let first : p.first < 4294967295 = l.0.first in
    let second : p.second < 4294967295 = l.0.second in
    let h1 : IsNumberAfter (codes "pair ") words p.proc (after_proc p)
    = subst (λ (t : List ℕ). IsNumberAfter (codes "pair ") t p.proc (after_proc p)) (sym l.1) (stands (codes "pair ") p.proc (after_proc p) (omega arith) refl) in
    let h2 : IsNumberAfter (codes " ") (after_proc p) p.first (after_first p) = stands (codes " ") p.first (after_first p) (omega arith) refl in
    let h3 : IsNumberAfter (codes " ") (after_first p) p.second (after_second p) = stands (codes " ") p.second (after_second p) (omega arith) refl in
    let h4 : IsNumberAfter (codes " ") (after_second p) p.a (numbered (codes " ") p.b) = stands (codes " ") p.a (numbered (codes " ") p.b) l.0.a refl in
    let h5 : IsNumberAfter (codes " ") (numbered (codes " ") p.b) p.b [] = last_stands (codes " ") p.b l.0.b in
    same_parts p q
    (same_proc words (after_proc p) p.proc q h1 m).0
    (same_first words (after_proc p) (after_first p) p.proc p.first q h1 h2 m).0
    (same_second words (after_proc p) (after_first p) (after_second p) p.proc p.first p.second q h1 h2 h3 m).0
    (same_a words (after_proc p) (after_first p) (after_second p) (numbered (codes " ") p.b) p.proc p.first p.second p.a q h1 h2 h3 h4 m).0
    (same_b words (after_proc p) (after_first p) (after_second p) (numbered (codes " ") p.b) [] p.proc p.first p.second p.a p.b q h1 h2 h3 h4 h5 m).0
