-- Whether a node is reached from another can be told: link by link, a walk takes the link or it doesn't.
use Rattle.std.proofs.Common.{◌≡◌, ℕ, zero, suc, List, [], ◌∷◌, Option, Some, refl, ap, ◌⊎◌, inl, inr}
use Rattle.std.specs.List.{slice_get}
use Rattle.std.proofs.lemmas.Bool.{cases_eq}
use Rattle.md_trace.specs.Reaches.{Reaches, ReachesBoth, here, more}
use Rattle.md_clique.proofs.Walks.{walk_on}

-- a walk is one among more links
with_link : (links : List (ℕ × ℕ)) (link : ℕ × ℕ) (a b : ℕ) → Reaches links a b → Reaches (link ∷ links) a b
with_link links link a b (here x) = here x
with_link links link a b (more k x y z is rest) = more (suc k) x y z is (with_link links link y z rest)

-- a walk over a link more does without it, or leads to where it starts and on from where it ends
abbrev Parts : List (ℕ × ℕ) → ℕ → ℕ → ℕ → ℕ → Type 0
Parts links from to a b = Reaches links a b ⊎ (Reaches links a from × Reaches links to b)

step_before : (links : List (ℕ × ℕ)) (from to k a b c : ℕ) → slice_get links k ≡ Some (a, b) → Parts links from to b c → Parts links from to a c
step_before links from to k a b c is (inl walk) = inl (more k a b c is walk)
step_before links from to k a b c is (inr both) = inr (more k a b from is both.0, both.1)

link_before : (links : List (ℕ × ℕ)) (from to a b c : ℕ) → ◌≡◌ {A = Option (ℕ × ℕ)} (Some (from, to)) (Some (a, b)) → Parts links from to b c → Parts links from to a c
link_before links from to a b c is parts =
    let same : ◌≡◌ {A = ℕ × ℕ} (from, to) (a, b) = cc in
    let start : from ≡ a = ap (λ (p : ℕ × ℕ). p.0) same in
    let end : to ≡ b = ap (λ (p : ℕ × ℕ). p.1) same in
    let begun : Reaches links a from = rw start (here a) in
    elim parts [
      | inl walk ↦ inr (begun, rw end walk)
      | inr both ↦ inr (begun, both.1)
    ]

parts_of : (links : List (ℕ × ℕ)) (from to a b : ℕ) → Reaches ((from, to) ∷ links) a b → Parts links from to a b
parts_of links from to a b (here x) = inl (here x)
parts_of links from to a b (more zero x y z is rest) = link_before links from to x y z is (parts_of links from to y z rest)
parts_of links from to a b (more (suc k) x y z is rest) = step_before links from to k x y z is (parts_of links from to y z rest)

not_over_nothing : (a b : ℕ) → (a ≡ b → ⊥) → Reaches [] a b → ⊥
not_over_nothing a b apart (here x) = apart refl
not_over_nothing a b apart (more k x y z is rest) = cc

pub reaches_or_not : (links : List (ℕ × ℕ)) (a b : ℕ) → Reaches links a b ⊎ (Reaches links a b → ⊥)
reaches_or_not [] a b = elim (cases_eq a b) [
  | inl same ↦ inl (rw same (here b))
  | inr apart ↦ inr (λ walk. not_over_nothing a b apart walk)
]
reaches_or_not ((from, to) ∷ links) a b = elim (reaches_or_not links a b) [
  | inl walk ↦ inl (with_link links (from, to) a b walk)
  | inr none ↦ elim (reaches_or_not links a from) [
    | inl first ↦ elim (reaches_or_not links to b) [
      | inl second ↦ inl (walk_on ((from, to) ∷ links) a from b (with_link links (from, to) a from first) (more zero from to b refl (with_link links (from, to) to b second)))
      | inr not_on ↦ inr (λ walk. elim (parts_of links from to a b walk) [ inl without ↦ none without | inr both ↦ not_on both.1 ])
    ]
    | inr not_there ↦ inr (λ walk. elim (parts_of links from to a b walk) [ inl without ↦ none without | inr both ↦ not_there both.0 ])
  ]
]

pub both_or_not : (links : List (ℕ × ℕ)) (a b : ℕ) → ReachesBoth links a b ⊎ (ReachesBoth links a b → ⊥)
both_or_not links a b = elim (reaches_or_not links a b) [
  | inl forth ↦ elim (reaches_or_not links b a) [
    | inl back ↦ inl (record { forth = forth; back = back })
    | inr no_back ↦ inr (λ both. no_back both.back)
  ]
  | inr no_forth ↦ inr (λ both. no_forth both.forth)
]
