-- What the code's fold over the parts of an equation finds: their sum, as far as they are known, and those that aren't.
use Rattle.std.proofs.Common.{◌≡◌, refl, sym, ap, ◌∙◌, subst, arith, inl, inr, ◌⊎◌, ℕ, zero, suc, ◌+◌, ◌-◌, ◌≤◌, Bool, true, false, cond, List, [], ◌∷◌, ◌++◌, length, min, append_assoc, append-nil, length-append, Option, Some, None, nat_lt, slice_get, slice_set}
use Rattle.std.proofs.lemmas.Bool.{ltb-false}
use Rattle.std.specs.Prelude.{⊤}
use Rattle.law_turns.specs.Equations as spec
use Rattle.law_turns.specs.Derived.{IsDerived}
use Rattle.md_cover.specs.declared.equation.Quantity.{Quantity}
use Rattle.md_cover.specs.declared.equation.Quantity.TheVariants.{Entries, Exits}
use Rattle.md_cover.specs.declared.equation.Equation.{Equation}
use Rattle.md_cover.specs.declared.solving.Settled.{Settled}
use Rattle.md_cover.specs.declared.solving.Unknown.{Unknown}
use Rattle.md_cover.specs.declared.solving.Unknown.TheVariants.{Nothing, One, More}
use Rattle.md_cover.specs.Told.{quantity_of, quantities_of, equation_of, equations_of}
use Rattle.md_cover.specs.Known.{value_at, value_from, put_from, Table, know, or_zero, unknown_and, open_from, open_of, settled_by, settled_of, put_at, put, step_by, step, round_of, back_of, Rounds, last, more}
use Rattle.md_cover.proofs.Settling.{Knowledge, unless_known, unknown_in, number_of, known_sum, IsSound, IsClosed, settles_derived, settles_whole, settles_part}

-- a table as knowledge
abbrev pub told : Table → Knowledge
told t (spec.Entries n) = value_from t.first t.entries n
told t (spec.Exits n) = value_from t.first t.exits n

pub same-told : (t : Table) (q : Quantity) → told t (quantity_of q) ≡ know t q
same-told t (Entries n) = refl
same-told t (Exits n) = refl

same-number : (o : Option ℕ) → number_of o ≡ or_zero o
same-number None = refl
same-number (Some n) = refl

pub open-sum : (t : Table) (s : ℕ) (u : Unknown) (qs : List Quantity) → s ≤ 18446744073709551615 → (open_from (know t) s u qs).sum ≡ min (s + known_sum (told t) (quantities_of qs)) 18446744073709551615
open-sum t s u [] small = omega (arith, small)
open-sum t s u (q ∷ qs) small =
    let more = open-sum t (min (s + or_zero (know t q)) 18446744073709551615) (unknown_and u (know t q) q) qs (omega arith) in
    let here = ap number_of (same-told t q) ∙ same-number (know t q) in
    omega (arith, more, here)

-- none, one, or more
abbrev pub IsOf : Unknown → List spec.Quantity → Type 0
IsOf Nothing us = us ≡ []
IsOf (One q) us = us ≡ quantity_of q ∷ []
IsOf More us = 2 ≤ length us

one-more : (u : Unknown) (us : List spec.Quantity) (q : Quantity) (o : Option ℕ) → IsOf u us → IsOf (unknown_and u o q) (us ++ unless_known o (quantity_of q) [])
one-more u us q (Some n) h = subst (λ (vs : List spec.Quantity). IsOf u vs) (sym (append-nil us)) h
one-more Nothing us q None h = ap (λ vs. vs ++ quantity_of q ∷ []) h
one-more (One p) us q None h = let two = ap (λ (vs : List spec.Quantity). length (vs ++ quantity_of q ∷ [])) h in omega (arith, two)
one-more More us q None h = let long = length-append us (quantity_of q ∷ []) in omega (arith, long, h)

unless-append : (o : Option ℕ) (q : spec.Quantity) (us vs : List spec.Quantity) → (us ++ unless_known o q []) ++ vs ≡ us ++ unless_known o q vs
unless-append None q us vs = append_assoc us (q ∷ []) vs
unless-append (Some n) q us vs = ap (λ ws. ws ++ vs) (append-nil us)

pub open-unknown : (t : Table) (s : ℕ) (u : Unknown) (us : List spec.Quantity) (qs : List Quantity) → IsOf u us → IsOf (open_from (know t) s u qs).unknown (us ++ unknown_in (told t) (quantities_of qs))
open-unknown t s u us [] h = subst (λ (vs : List spec.Quantity). IsOf u vs) (sym (append-nil us)) h
open-unknown t s u us (q ∷ qs) h =
    let rest = unknown_in (told t) (quantities_of qs) in
    let w : Unknown = (open_from (know t) (min (s + or_zero (know t q)) 18446744073709551615) (unknown_and u (know t q) q) qs).unknown in
    subst (λ (vs : List spec.Quantity). IsOf w vs) (unless-append (know t q) (quantity_of q) us rest ∙ ap (λ (o : Option ℕ). us ++ unless_known o (quantity_of q) rest) (sym (same-told t q)))
    (open-unknown t (min (s + or_zero (know t q)) 18446744073709551615) (unknown_and u (know t q) q) (us ++ unless_known (know t q) (quantity_of q) []) qs (one-more u us q (know t q) h))

-- ---- what is settled

pub record IsRight (es : List spec.Equation) (x : spec.Solution) (s : Settled) : Type 0 where
  pub derived : IsDerived es (quantity_of s.quantity)
  pub value' : s.value ≡ spec.value x (quantity_of s.quantity)

settled-by : (es : List spec.Equation) (x : spec.Solution) (t : Table) → IsSound es x (told t) → (i : ℕ) (e : Equation) → slice_get es i ≡ Some (equation_of e) → spec.Holds x (equation_of e)
    → spec.value x (quantity_of e.whole) ≤ 18446744073709551615 → (sum : ℕ) → sum ≡ min (e.number + known_sum (told t) (quantities_of e.parts.items)) 18446744073709551615
    → (u : Unknown) → IsOf u (unknown_in (told t) (quantities_of e.parts.items)) → (o : Option ℕ) → know t e.whole ≡ o → (s : Settled) → settled_by e.whole sum o u ≡ Some s → IsRight es x s
settled-by es x t sound i e there holds small sum is Nothing of None at s settles =
    let none : told t (quantity_of e.whole) ≡ None = same-told t e.whole ∙ at in
    let open' : unknown_in (told t) ((equation_of e).whole ∷ (equation_of e).parts) ≡ quantity_of e.whole ∷ [] =
    ap (λ (p : Option ℕ). unless_known p (quantity_of e.whole) (unknown_in (told t) (quantities_of e.parts.items))) none ∙ ap (λ us. quantity_of e.whole ∷ us) of in
    let whole = settles_whole es x (told t) sound (equation_of e) holds none of in
    let right : IsRight es x (record { quantity = e.whole; value = sum }) = record {
      derived = settles_derived es x (told t) sound i (equation_of e) (quantity_of e.whole) there open';
      value' = omega (arith, whole, is, small);
    } in
    subst (λ (r : Settled). IsRight es x r) (cc settles) right
settled-by es x t sound i e there holds small sum is (One q) of (Some n) at s settles =
    let some : told t (quantity_of e.whole) ≡ Some n = same-told t e.whole ∙ at in
    let open' : unknown_in (told t) ((equation_of e).whole ∷ (equation_of e).parts) ≡ quantity_of q ∷ [] =
    ap (λ (p : Option ℕ). unless_known p (quantity_of e.whole) (unknown_in (told t) (quantities_of e.parts.items))) some ∙ of in
    let part = settles_part es x (told t) sound (equation_of e) holds n some (quantity_of q) of in
    let whole = sound.valued (quantity_of e.whole) n some in
    let right : IsRight es x (record { quantity = q; value = n - sum }) = record {
      derived = settles_derived es x (told t) sound i (equation_of e) (quantity_of q) there open';
      value' = omega (arith, part, is, small, whole);
    } in
    subst (λ (r : Settled). IsRight es x r) (cc settles) right
settled-by es x t sound i e there holds small sum is Nothing of (Some n) at s settles = absurd (cc settles)
settled-by es x t sound i e there holds small sum is (One q) of None at s settles = absurd (cc settles)
settled-by es x t sound i e there holds small sum is More of None at s settles = absurd (cc settles)
settled-by es x t sound i e there holds small sum is More of (Some n) at s settles = absurd (cc settles)

-- what an equation settles is derived, and has the value of each solution in which the whole is a number of 64 bits
pub settled-right : (es : List spec.Equation) (x : spec.Solution) (t : Table) → IsSound es x (told t) → (i : ℕ) (e : Equation) → slice_get es i ≡ Some (equation_of e) → spec.Holds x (equation_of e)
    → spec.value x (quantity_of e.whole) ≤ 18446744073709551615 → e.number ≤ 18446744073709551615 → (s : Settled) → settled_of (know t) e ≡ Some s → IsRight es x s
settled-right es x t sound i e there holds small fits s settles =
    settled-by es x t sound i e there holds small (open_of (know t) e.number e.parts.items).sum (open-sum t e.number Nothing e.parts.items fits)
    (open_of (know t) e.number e.parts.items).unknown (open-unknown t e.number Nothing [] e.parts.items refl) (know t e.whole) refl s settles

-- ---- rounds

set-value : (xs : List (Option ℕ)) (n v m w : ℕ) → value_at (slice_set xs n (Some v)) m ≡ Some w → ((m ≡ n) × (w ≡ v)) ⊎ (value_at xs m ≡ Some w)
set-value [] n v m w is = inr is
set-value (o ∷ os) zero v zero w is = let same : v ≡ w = cc is in inl (refl, sym same)
set-value (o ∷ os) zero v (suc m) w is = inr is
set-value (o ∷ os) (suc n) v zero w is = inr is
set-value (o ∷ os) (suc n) v (suc m) w is = elim (set-value os n v m w is) [
  | inl same ↦ inl (ap suc same.0, same.1)
  | inr old ↦ inr old
]

from-value : (first : ℕ) (xs : List (Option ℕ)) (n v m w : ℕ) → value_from first (put_from first xs n v) m ≡ Some w → ((m ≡ n) × (w ≡ v)) ⊎ (value_from first xs m ≡ Some w)
from-value first xs n v m w = by (nat_lt m first) refl (nat_lt n first) refl
  where
    by : (a : Bool) → nat_lt m first ≡ a → (b : Bool) → nat_lt n first ≡ b → cond a None (value_at (cond b xs (slice_set xs (n - first) (Some v))) (m - first)) ≡ Some w
        → ((m ≡ n) × (w ≡ v)) ⊎ (cond a None (value_at xs (m - first)) ≡ Some w)
    by true late b early is = inr is
    by false late true early is = inr is
    by false late false early is = elim (set-value xs (n - first) v (m - first) w is) [
      | inl same ↦
          let low = ltb-false m first late in
          let high = ltb-false n first early in
          let place = same.0 in
          inl (omega (arith, place, low, high), same.1)
      | inr old ↦ inr old
    ]

put-value : (t : Table) (q : Quantity) (v : ℕ) (p : spec.Quantity) (w : ℕ) → told (put_at t q v) p ≡ Some w → ((p ≡ quantity_of q) × (w ≡ v)) ⊎ (told t p ≡ Some w)
put-value t (Entries n) v (spec.Entries m) w is = elim (from-value t.first t.entries n v m w is) [
  | inl same ↦ inl (ap spec.Entries same.0, same.1)
  | inr old ↦ inr old
]
put-value t (Exits n) v (spec.Exits m) w is = elim (from-value t.first t.exits n v m w is) [
  | inl same ↦ inl (ap spec.Exits same.0, same.1)
  | inr old ↦ inr old
]
put-value t (Entries n) v (spec.Exits m) w is = inr is
put-value t (Exits n) v (spec.Entries m) w is = inr is

put-sound : (es : List spec.Equation) (x : spec.Solution) (t : Table) (s : Settled) → IsSound es x (told t) → IsRight es x s → IsSound es x (told (put t s))
put-sound es x t s sound right = record {
  derived = λ p w is. elim (put-value t s.quantity s.value p w is) [
    | inl same ↦ subst (λ (r : spec.Quantity). IsDerived es r) (sym same.0) right.derived
    | inr old ↦ sound.derived p w old
  ];
  valued = λ p w is. elim (put-value t s.quantity s.value p w is) [
    | inl same ↦ same.1 ∙ (right.value' ∙ ap (spec.value x) (sym same.0))
    | inr old ↦ sound.valued p w old
  ];
}

-- each of these is one of the equations, and the solution solves it with a whole of 64 bits
abbrev pub AreOf : List spec.Equation → spec.Solution → List Equation → Type 0
AreOf es x [] = ⊤
AreOf es x (e ∷ cs) =
    ((i : ℕ) × (slice_get es i ≡ Some (equation_of e)) × spec.Holds x (equation_of e) × (spec.value x (quantity_of e.whole) ≤ 18446744073709551615) × (e.number ≤ 18446744073709551615)) × AreOf es x cs

step-sound : (es : List spec.Equation) (x : spec.Solution) (t : Table) (e : Equation) → IsSound es x (told t) → ((s : Settled) → settled_of (know t) e ≡ Some s → IsRight es x s) → IsSound es x (told (step t e))
step-sound es x t e sound right = by (settled_of (know t) e) refl
  where
    by : (o : Option Settled) → settled_of (know t) e ≡ o → IsSound es x (told (step_by t o))
    by None at = sound
    by (Some s) at = put-sound es x t s sound (right s at)

pub round-sound : (es : List spec.Equation) (x : spec.Solution) (t : Table) (cs : List Equation) → AreOf es x cs → IsSound es x (told t) → IsSound es x (told (round_of t cs))
round-sound es x t [] of sound = sound
round-sound es x t (e ∷ cs) of sound =
    let here = of.0 in
    round-sound es x (step t e) cs of.1 (step-sound es x t e sound (λ s settles. settled-right es x t sound here.0 e here.1 here.2 here.3 here.4 s settles))

pub back-sound : (es : List spec.Equation) (x : spec.Solution) (t : Table) (cs : List Equation) → AreOf es x cs → IsSound es x (told t) → IsSound es x (told (back_of t cs))
back-sound es x t [] of sound = sound
back-sound es x t (e ∷ cs) of sound =
    let here = of.0 in
    let later = back-sound es x t cs of.1 sound in
    step-sound es x (back_of t cs) e later (λ s settles. settled-right es x (back_of t cs) later here.0 e here.1 here.2 here.3 here.4 s settles)

-- what the rounds come to is derived, and has the values of the solution
pub rounds-sound : (es : List spec.Equation) (x : spec.Solution) (cs : List Equation) → AreOf es x cs → (t u : Table) → Rounds cs t u → IsSound es x (told t) → IsSound es x (told u)
rounds-sound es x cs of t _ (last _ none) sound = round-sound es x t cs of sound
rounds-sound es x cs of t u (more _ _ rest) sound = rounds-sound es x cs of (back_of (round_of t cs) cs) u rest (back-sound es x (round_of t cs) cs of (round-sound es x t cs of sound))

-- ---- where nothing is settled

unsettled-by : (t : Table) (e : Equation) (sum : ℕ) (u : Unknown) → IsOf u (unknown_in (told t) (quantities_of e.parts.items)) → (o : Option ℕ) → know t e.whole ≡ o → settled_by e.whole sum o u ≡ None
    → (q : spec.Quantity) → unless_known o (quantity_of e.whole) (unknown_in (told t) (quantities_of e.parts.items)) ≡ q ∷ [] → ⊥
unsettled-by t e sum Nothing of None at none q one = cc none
unsettled-by t e sum (One p) of None at none q one =
    let long = ap (λ (us : List spec.Quantity). length us) one in let short = ap (λ (us : List spec.Quantity). length us) of in absurd (omega (arith, long, short))
unsettled-by t e sum More of None at none q one = let long = ap (λ (us : List spec.Quantity). length us) one in absurd (omega (arith, long, of))
unsettled-by t e sum Nothing of (Some n) at none q one =
    let long = ap (λ (us : List spec.Quantity). length us) one in let short = ap (λ (us : List spec.Quantity). length us) of in absurd (omega (arith, long, short))
unsettled-by t e sum (One p) of (Some n) at none q one = cc none
unsettled-by t e sum More of (Some n) at none q one = let long = ap (λ (us : List spec.Quantity). length us) one in absurd (omega (arith, long, of))

-- an equation that settles nothing hasn't exactly one quantity that isn't known
pub unsettled : (t : Table) (e : Equation) → settled_of (know t) e ≡ None → (q : spec.Quantity) → unknown_in (told t) ((equation_of e).whole ∷ (equation_of e).parts) ≡ q ∷ [] → ⊥
unsettled t e none q one =
    unsettled-by t e (open_of (know t) e.number e.parts.items).sum (open_of (know t) e.number e.parts.items).unknown (open-unknown t e.number Nothing [] e.parts.items refl) (know t e.whole) refl none q
    (ap (λ (o : Option ℕ). unless_known o (quantity_of e.whole) (unknown_in (told t) (quantities_of e.parts.items))) (sym (same-told t e.whole)) ∙ one)

-- all of these settle nothing
abbrev pub AreUnsettled : Table → List Equation → Type 0
AreUnsettled t [] = ⊤
AreUnsettled t (e ∷ cs) = (settled_of (know t) e ≡ None) × AreUnsettled t cs

pub closed-at : (t : Table) (cs : List Equation) → AreUnsettled t cs → (i : ℕ) (f : spec.Equation) (q : spec.Quantity) → slice_get (equations_of cs) i ≡ Some f → unknown_in (told t) (f.whole ∷ f.parts) ≡ q ∷ [] → ⊥
closed-at t [] h i f q there one = cc there
closed-at t (e ∷ cs) h zero f q there one =
    let same : equation_of e ≡ f = cc there in
    unsettled t e h.0 q (subst (λ (g : spec.Equation). unknown_in (told t) (g.whole ∷ g.parts) ≡ q ∷ []) (sym same) one)
closed-at t (e ∷ cs) h (suc i) f q there one = closed-at t cs h.1 i f q there one

pub all-unsettled-closed : (t : Table) (cs : List Equation) → AreUnsettled t cs → IsClosed (equations_of cs) (told t)
all-unsettled-closed t cs h = record { closed = closed-at t cs h }
