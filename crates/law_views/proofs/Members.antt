-- Chains and stations: what holds of each member, and what some member passes.
use Rattle.std.proofs.Common.{◌≡◌, ℕ, ◌<◌, Bool, true, false, ◌||◌, ◌&&◌, not, eqb, List, [], ◌∷◌, length, map, filter, get_or, Option, Some, None, refl, sym, ap, ◌∙◌, inl, inr, arith}
use Rattle.std.specs.List.{list_any}
use Rattle.std.specs.Option.{option_map}
use Rattle.std.proofs.lemmas.Bool.{cases_Bool, cases_eq, eq-eqb, ne_eqb, false≢true}
use Rattle.md_trace.specs.Activation.{Activation, numbered}
use Rattle.md_trace.specs.Context.{Placed, chain, context_of, link_of, place, placed}
use Rattle.md_trace.specs.Totals.{stations}
use Rattle.md_trace.proofs.Chains.{chain-none}
use Rattle.md_trace.proofs.LinkFacts.{AreCalls, IsCall}
use Rattle.md_trace.proofs.Numbered.{numbered-new, numbered-more, numbered-below, numbered-there}
use Rattle.md_trace.proofs.Placing.{length-placed}
use Rattle.md_clique.specs.Entries.{is_outside}
use Rattle.md_clique.proofs.Growing.{chain_head}

abbrev pub AllOf : (Placed → Type 0) → List Placed → Type 0
AllOf P [] = Unit {0}
AllOf P (x ∷ xs) = P x × AllOf P xs

pub all_chain : (P : Placed → Type 0) (xs : List Placed) (o : Option ℕ) → ((a : ℕ) (y : Placed) → numbered xs a ≡ Some y → P y) → AllOf P (chain xs o)
all_chain P [] o each = tt
all_chain P (x ∷ xs) None each = tt
all_chain P (x ∷ xs) (Some a) each = elim (cases_Bool (eqb a (length xs))) [
  | inl new ↦ rw new (each (length xs) x (numbered-new x xs), all_chain P xs x.parent (λ b y there. each b y (numbered-more x xs b (numbered-below xs b y there) ∙ there)))
  | inr old ↦ rw old (all_chain P xs (Some a) (λ b y there. each b y (numbered-more x xs b (numbered-below xs b y there) ∙ there)))
]

all_filter : (P : Placed → Type 0) (p : Placed → Bool) (xs : List Placed) → AllOf P xs → AllOf P (filter p xs)
all_filter P p [] all = tt
all_filter P p (x ∷ xs) all = elim (cases_Bool (p x)) [
  | inl holds ↦ rw holds (all.0, all_filter P p xs all.1)
  | inr fails ↦ rw fails (all_filter P p xs all.1)
]

pub all_stations : (P : Placed → Type 0) (cliques : List ℕ) (xs : List Placed) → AllOf P xs → AllOf P (stations cliques xs)
all_stations P cliques [] all = tt
all_stations P cliques (x ∷ xs) all = (all.0, all_filter P (λ y. not (eqb (get_or cliques y.context 0) (get_or cliques x.context 0))) (stations cliques xs) (all_stations P cliques xs all.1))

pub any_each : (p q : Placed → Bool) (xs : List Placed) → AllOf (λ x. p x ≡ q x) xs → list_any p xs ≡ list_any q xs
any_each p q [] all = refl
any_each p q (x ∷ xs) all = rw (all.0, any_each p q xs all.1) refl

pub all_more : (P Q : Placed → Type 0) (xs : List Placed) → ((x : Placed) → P x → Q x) → AllOf P xs → AllOf Q xs
all_more P Q [] more all = tt
all_more P Q (x ∷ xs) more all = (more x all.0, all_more P Q xs more all.1)

pub any_contexts : (q : ℕ → Bool) (xs : List Placed) → list_any (λ x. q x.context) xs ≡ list_any q (map (λ x. x.context) xs)
any_contexts q [] = refl
any_contexts q (x ∷ xs) = rw (any_contexts q xs) refl

-- each is called from the context of the next, and the last one by none
abbrev pub AreCalled : List Placed → Type 0
AreCalled [] = Unit {0}
AreCalled (x ∷ []) = x.link.caller ≡ None
AreCalled (x ∷ y ∷ ys) = (x.link.caller ≡ Some y.context) × AreCalled (y ∷ ys)

called_from : (before : List Placed) (o : Option ℕ) (x : Placed) → x.link.caller ≡ context_of before o → ((p : ℕ) → o ≡ Some p → p < length before) → AreCalled (chain before o) → AreCalled (x ∷ chain before o)
called_from before None x caller there all = rw chain-none caller
called_from before (Some p) x caller there all =
    let z = numbered-there before p (there p refl) in
    let head = chain_head before p z.0 z.1 in
    let from : x.link.caller ≡ Some z.0.context = caller ∙ ap (option_map (λ (w : Placed). w.context)) z.1 in
    rw head.1 (from, rw head.1 at all)

parent_there : (m p : ℕ) (xs : List Activation) (o site : Option ℕ) (q : ℕ) → IsCall m xs o site q → o ≡ Some p → p < length xs
parent_there m p xs None site q call e = cc
parent_there m p xs (Some r) None q call e = absurd call
parent_there m p xs (Some r) (Some s) q call e = let same : r ≡ p = cc in rw same at call

pub called_chain : (m : ℕ) (acts : List Activation) → AreCalls m acts → (o : Option ℕ) → AreCalled (chain (placed m acts) o)
called_chain m [] calls o = tt
called_chain m (x ∷ xs) calls None = tt
called_chain m (x ∷ xs) calls (Some a) = elim (cases_Bool (eqb a (length (placed m xs)))) [
  | inl new ↦ rw new (called_from (placed m xs) x.parent (place m (placed m xs) x.parent (link_of (placed m xs) x)) refl
      (λ p e. (let lt = parent_there m p xs x.parent x.site x.procedure calls.0 e in let size = length-placed m xs in omega arith)) (called_chain m xs calls.1 x.parent))
  | inr old ↦ rw old (called_chain m xs calls.1 (Some a))
]

module _ (cliques : List ℕ) (U : ℕ → Bool) where
  abbrev class : Placed → ℕ
  class x = get_or cliques x.context 0

  none_outside : (k : ℕ) (xs : List Placed) → U k ≡ false → list_any (λ x. U (class x)) (filter (λ y. not (eqb (class y) k)) xs) ≡ list_any (λ x. U (class x)) xs
  none_outside k [] no_k = refl
  none_outside k (x ∷ xs) no_k = elim (cases_eq (class x) k) [
    | inl same ↦ (let out : U (class x) ≡ false = ap U same ∙ no_k in rw (eq-eqb (class x) k same, out) (none_outside k xs no_k))
    | inr other ↦ rw (ne_eqb (class x) k other) (rw (none_outside k xs no_k) refl)
  ]

  -- a chain meets the cliques of its stations
  pub any_stations : (xs : List Placed) → list_any (λ x. U (get_or cliques x.context 0)) xs ≡ list_any (λ x. U (get_or cliques x.context 0)) (stations cliques xs)
  any_stations [] = refl
  any_stations (x ∷ xs) = elim (cases_Bool (U (class x))) [
    | inl some ↦ rw some refl
    | inr none ↦ rw none (any_stations xs ∙ sym (none_outside (class x) (stations cliques xs) none))
  ]

  -- it comes into each of them from outside
  pub any_entered : (xs : List Placed) → AreCalled xs → list_any (λ x. is_outside cliques (get_or cliques x.context 0) x.link.caller && U (get_or cliques x.context 0)) xs ≡ list_any (λ x. U (get_or cliques x.context 0)) xs
  any_entered [] called = refl
  any_entered (x ∷ []) called = rw called refl
  any_entered (x ∷ y ∷ ys) called =
      let rest = any_entered (y ∷ ys) called.1 in
      elim (cases_eq (class y) (class x)) [
        | inl same ↦ rw (called.0, eq-eqb (class y) (class x) same) (rest ∙ inside (U (class x)) (U (class y)) (list_any (λ z. U (class z)) ys) (ap U same))
        | inr other ↦ rw (called.0, ne_eqb (class y) (class x) other) (ap (λ (b : Bool). U (class x) || b) rest)
      ]
    where
      inside : (a b r : Bool) → b ≡ a → (b || r) ≡ (a || (b || r))
      inside true true r e = refl
      inside true false r e = absurd (false≢true e)
      inside false b r e = refl
