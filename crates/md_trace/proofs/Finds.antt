-- Finding an activation by its link or its procedure.
use Rattle.std.proofs.Common.{ℕ, ◌≡◌, ◌≢◌, ◌⊎◌, ◌&&◌, inl, inr, Bool, true, false, eqb, List, [], ◌∷◌, length, find, Option, Some, None, refl, sym, ap, ◌∙◌, subst}
use Rattle.std.proofs.lemmas.Bool.{false≢true, cases_Bool, and_parts, eq-eqb, eqb-true}
use Rattle.std.proofs.lemmas.Bool.Decides.{eqb_tells}
use Rattle.md_trace.specs.Activation.{numbered}
use Rattle.md_trace.specs.Context.{Link, Placed, chain, same_option, same_link}
use Rattle.md_trace.proofs.Numbered.{numbered-more, numbered-new, numbered-below, numbered-either}

-- what is found passes the test
pub find-passes : {A : Type 0} (test : A → Bool) (xs : List A) (y : A) → find test xs ≡ Some y → test y ≡ true
find-passes test [] y is = absurd (cc)
find-passes test (x ∷ xs) y is =
    elim (cases_Bool (test x)) [
      | inl good ↦ let here : Some x ≡ Some y = rw good at is in let same : x ≡ y = cc in subst (λ z. test z ≡ true) same good
      | inr bad ↦ find-passes test xs y (rw bad at is)
    ]

-- and is there
pub find-there : (test : Placed → Bool) (xs : List Placed) (y : Placed) → find test xs ≡ Some y → (a : ℕ) × (numbered xs a ≡ Some y)
find-there test [] y is = absurd (cc)
find-there test (x ∷ xs) y is =
    elim (cases_Bool (test x)) [
      | inl good ↦ let here : Some x ≡ Some y = rw good at is in (length xs, numbered-new x xs ∙ here)
      | inr bad ↦ let rest = find-there test xs y (rw bad at is) in (rest.0, numbered-more x xs rest.0 (numbered-below xs rest.0 y rest.1) ∙ rest.1)
    ]

-- nothing is found where nobody passes
pub find-none : (test : Placed → Bool) (xs : List Placed) (a : ℕ) (y : Placed) → find test xs ≡ None → numbered xs a ≡ Some y → test y ≡ false
find-none test [] a y miss is = absurd (cc)
find-none test (x ∷ xs) a y miss is =
    elim (cases_Bool (test x)) [
      | inl good ↦ absurd (let here : Some x ≡ None = rw good at miss in cc)
      | inr bad ↦ elim (numbered-either x xs a y is) [
        | inl new ↦ subst (λ z. test z ≡ false) (sym new.1) bad
        | inr old ↦ find-none test xs a y (rw bad at miss) old
      ]
    ]

pub none-finds : (test : Placed → Bool) (xs : List Placed) → ((a : ℕ) (y : Placed) → numbered xs a ≡ Some y → test y ≡ false) → find test xs ≡ None
none-finds test [] fails = refl
none-finds test (x ∷ xs) fails =
    rw (fails (length xs) x (numbered-new x xs)) (none-finds test xs (λ a y is. fails a y (numbered-more x xs a (numbered-below xs a y is) ∙ is)))

-- a chain's members are among the activations
pub chain-there : (test : Placed → Bool) (xs : List Placed) (o : Option ℕ) (y : Placed) → find test (chain xs o) ≡ Some y → (a : ℕ) × (numbered xs a ≡ Some y)
chain-there test [] o y is = absurd (cc)
chain-there test (x ∷ xs) None y is = absurd (cc)
chain-there test (x ∷ xs) (Some a) y is =
    elim (eqb_tells a (length xs)) [
      | inl e ↦
          let here : find test (x ∷ chain xs x.parent) ≡ Some y = rw e.0 at is in
          elim (cases_Bool (test x)) [
            | inl good ↦ let first : Some x ≡ Some y = rw good at here in (length xs, numbered-new x xs ∙ first)
            | inr bad ↦ let rest = chain-there test xs x.parent y (rw bad at here) in (rest.0, numbered-more x xs rest.0 (numbered-below xs rest.0 y rest.1) ∙ rest.1)
          ]
      | inr e ↦ let rest = chain-there test xs (Some a) y (rw e.0 at is) in (rest.0, numbered-more x xs rest.0 (numbered-below xs rest.0 y rest.1) ∙ rest.1)
    ]

-- tests of numbers and links tell
pub same-option-true : (a b : Option ℕ) → same_option a b ≡ true → a ≡ b
same-option-true None None is = refl
same-option-true None (Some b) is = absurd (false≢true is)
same-option-true (Some a) None is = absurd (false≢true is)
same-option-true (Some a) (Some b) is = ap Some (eqb-true a b is)

pub same-option-refl : (a : Option ℕ) → same_option a a ≡ true
same-option-refl None = refl
same-option-refl (Some a) = eq-eqb a a refl

pub same-link-true : (a b : Link) → same_link a b ≡ true → a ≡ b
same-link-true a b is =
    let outer = and_parts (same_option a.caller b.caller && same_option a.site b.site) (eqb a.procedure b.procedure) is in
    let inner = and_parts (same_option a.caller b.caller) (same_option a.site b.site) outer.0 in
    let made : Option ℕ → Option ℕ → ℕ → Link = λ c s q. record { caller = c; site = s; procedure = q } in
    ap (λ c. made c a.site a.procedure) (same-option-true a.caller b.caller inner.0) ∙ ap (λ s. made b.caller s a.procedure) (same-option-true a.site b.site inner.1) ∙ ap (λ q. made b.caller b.site q) (eqb-true a.procedure b.procedure outer.1)

pub same-link-refl : (a : Link) → same_link a a ≡ true
same-link-refl a = rw (same-option-refl a.caller, same-option-refl a.site, eq-eqb a.procedure a.procedure refl)

pub same-link-tells : (a b : Link) → ((same_link a b ≡ true) × (a ≡ b)) ⊎ ((same_link a b ≡ false) × (a ≢ b))
same-link-tells a b = elim (cases_Bool (same_link a b)) [
  | inl good ↦ inl (good, same-link-true a b good)
  | inr bad ↦ inr (bad, λ e. false≢true (sym bad ∙ (let P : Link → Type 0 = λ z. same_link a z ≡ true in subst P e (same-link-refl a))))
]
