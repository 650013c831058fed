-- A link that finds its seat empty is new, and what tells links apart is kept as they come.
use Rattle.std.proofs.Common.{◌≡◌, ℕ, zero, suc, ◌+◌, ◌*◌, ◌%◌, ◌<◌, Bool, true, false, not, cond, ◌&&◌, ◌||◌, ◌==◌, List, [], ◌∷◌, ◌++◌, length, set, Option, None, Some, inl, inr, refl, sym, ap, ◌∙◌, arith}
use Rattle.std.specs.Prelude.{slice_get}
use Rattle.std.specs.List.{list_any}
use Rattle.std.proofs.lemmas.Bool.{cases_lt, cases_eq, eq-eqb, eqb-true, ne_eqb}
use Rattle.std.proofs.lemmas.List.{length-set, get_or-set_same, get_or-set_other}
use Rattle.std.proofs.lemmas.List.Folds.{list_any-append}
use Rattle.std.proofs.lemmas.Option.{slice_get-get_or, slice_get_past}
use Rattle.md_deepfile.specs.Sets.{is_key, seat_of, is_empty, sits_at, Seating, has_seated, AreSeated}
use Rattle.md_deepfile.specs.declared.seats.Seat.{Seat}
use Rattle.md_deepfile.specs.declared.seats.Seat.TheVariants as seats

or_nothing : (b : Bool) → (b || false) ≡ b
or_nothing true = refl
or_nothing false = refl

or_or : (a b c : Bool) → (a || (b || c)) ≡ ((a || b) || c)
or_or true b c = refl
or_or false b c = refl

or_swap : (a b : Bool) → (a || b) ≡ (b || a)
or_swap true true = refl
or_swap true false = refl
or_swap false true = refl
or_swap false false = refl

-- nobody sits in an empty seat
empty_sits : (o : Option Seat) (s q : ℕ) → is_empty o ≡ true → sits_at o s q ≡ false
empty_sits None s q h = absurd (cc h)
empty_sits (Some seats.Empty) s q h = refl
empty_sits (Some (seats.Of a b)) s q h = absurd (cc h)

pub none_seated : (others : List (ℕ × ℕ × ℕ)) → others ≡ [] → (v s q : ℕ) → has_seated (record { sitting = []; others = others }) v s q ≡ false
none_seated others none v s q = ap (λ (ks : List (ℕ × ℕ × ℕ)). has_seated (record { sitting = []; others = ks }) v s q) none

pub empty_is_new : (sitting : List Seat) (others : List (ℕ × ℕ × ℕ)) (v s q : ℕ) → AreSeated sitting others → is_empty (slice_get sitting (seat_of v s)) ≡ true → has_seated (record { sitting = sitting; others = others }) v s q ≡ false
empty_is_new sitting others v s q are empty =
    ap (λ (b : Bool). b || list_any (is_key v s q) others) (empty_sits (slice_get sitting (seat_of v s)) s q empty) ∙ are v s q empty

-- a link whose seat another one has is told by the others
pub taken_is : (sitting : List Seat) (others : List (ℕ × ℕ × ℕ)) (v s q : ℕ) → sits_at (slice_get sitting (seat_of v s)) s q ≡ false → has_seated (record { sitting = sitting; others = others }) v s q ≡ list_any (is_key v s q) others
taken_is sitting others v s q none = ap (λ (b : Bool). b || list_any (is_key v s q) others) none

pub sits_is : (sitting : List Seat) (others : List (ℕ × ℕ × ℕ)) (v s q : ℕ) → sits_at (slice_get sitting (seat_of v s)) s q ≡ true → has_seated (record { sitting = sitting; others = others }) v s q ≡ true
sits_is sitting others v s q sits = ap (λ (b : Bool). b || list_any (is_key v s q) others) sits

-- whether two keys are one
abbrev same_key : ℕ → ℕ → ℕ → ℕ → ℕ → ℕ → Bool
same_key v s q a b c = is_key a b c (v, s, q)

no_key : (v s q a b c : ℕ) → ((a ≡ v) → (b ≡ s) → ⊥) → is_key a b c (v, s, q) ≡ false
no_key v s q a b c other = elim (cases_eq a v) [
  | inl same ↦ elim (cases_eq b s) [
    | inl too ↦ absurd (other same too)
    | inr not ↦ ap (λ (t : Bool). ((a == v) && t) && (c == q)) (ne_eqb b s not) ∙ and_false (a == v) (c == q)
  ]
  | inr not ↦ ap (λ (t : Bool). (t && (b == s)) && (c == q)) (ne_eqb a v not)
]
  where
    and_false : (x y : Bool) → ((x && false) && y) ≡ false
    and_false true y = refl
    and_false false y = refl

-- one link more among the others
pub other_added : (sitting : List Seat) (others now : List (ℕ × ℕ × ℕ)) (v s q : ℕ) → now ≡ others ++ (v, s, q) ∷ [] → (a b c : ℕ)
    → has_seated (record { sitting = sitting; others = now }) a b c ≡ (has_seated (record { sitting = sitting; others = others }) a b c || is_key a b c (v, s, q))
other_added sitting others now v s q are a b c =
    let sits = sits_at (slice_get sitting (seat_of a b)) b c in
    ap (λ (ks : List (ℕ × ℕ × ℕ)). sits || list_any (is_key a b c) ks) are
    ∙ ap (λ (t : Bool). sits || t) (list_any-append (is_key a b c) others ((v, s, q) ∷ []) ∙ ap (λ (t : Bool). list_any (is_key a b c) others || t) (or_nothing (is_key a b c (v, s, q))))
    ∙ or_or sits (list_any (is_key a b c) others) (is_key a b c (v, s, q))

pub other_seated : (sitting : List Seat) (others now : List (ℕ × ℕ × ℕ)) (v s q : ℕ) → now ≡ others ++ (v, s, q) ∷ [] → is_empty (slice_get sitting (seat_of v s)) ≡ false → AreSeated sitting others → AreSeated sitting now
other_seated sitting others now v s q now_are taken are = λ a b c empty.
    ap (list_any (is_key a b c)) now_are ∙ list_any-append (is_key a b c) others ((v, s, q) ∷ [])
    ∙ ap (λ (t : Bool). t || (is_key a b c (v, s, q) || false)) (are a b c empty) ∙ or_nothing (is_key a b c (v, s, q))
    ∙ no_key v s q a b c (λ one two. let clash : true ≡ false = sym empty ∙ ap (λ (x : ℕ). is_empty (slice_get sitting (seat_of x b))) one ∙ ap (λ (y : ℕ). is_empty (slice_get sitting (seat_of v y))) two ∙ taken in absurd (cc clash))

-- a link that is there already
pub same_seated : (keys : Seating) (v s q : ℕ) → has_seated keys v s q ≡ true → (a b c : ℕ) → has_seated keys a b c ≡ (has_seated keys a b c || is_key a b c (v, s, q))
same_seated keys v s q there a b c = by (has_seated keys a b c) (is_key a b c (v, s, q)) (λ is. same a b c is)
  where
    by : (x y : Bool) → (y ≡ true → x ≡ true) → x ≡ (x || y)
    by true y h = refl
    by false true h = h refl
    by false false h = refl

    both : (x y : Bool) → (x && y) ≡ true → (x ≡ true) × (y ≡ true)
    both true true e = (refl, refl)
    both true false e = absurd (cc e)
    both false y e = absurd (cc e)

    same : (a b c : ℕ) → is_key a b c (v, s, q) ≡ true → has_seated keys a b c ≡ true
    same a b c is =
        let outer = both ((a == v) && (b == s)) (c == q) is in
        let inner = both (a == v) (b == s) outer.0 in
        ap (λ (x : ℕ). has_seated keys x b c) (eqb-true a v inner.0) ∙ ap (λ (x : ℕ). has_seated keys v x c) (eqb-true b s inner.1) ∙ ap (has_seated keys v s) (eqb-true c q outer.1) ∙ there

-- where a seat was taken, the others stay as they were
get_set_same : (xs : List Seat) (i : ℕ) (x : Seat) → i < length xs → slice_get (set xs i x) i ≡ Some x
get_set_same xs i x below = slice_get-get_or (set xs i x) i x (omega (arith, length-set xs i x, below)) ∙ ap (λ (y : Seat). Some y) (get_or-set_same xs i x x below)

get_set_other : (xs : List Seat) (i k : ℕ) (x : Seat) → (k ≡ i → ⊥) → slice_get (set xs i x) k ≡ slice_get xs k
get_set_other xs i k x other = elim (cases_lt k (length xs)) [
  | inl below ↦ slice_get-get_or (set xs i x) k x (omega (arith, length-set xs i x, below)) ∙ ap (λ (y : Seat). Some y) (get_or-set_other xs i k x x other) ∙ sym (slice_get-get_or xs k x below)
  | inr past ↦ slice_get_past (set xs i x) k (omega (arith, length-set xs i x, past)) ∙ sym (slice_get_past xs k past)
]

empty_within : (sitting : List Seat) (i : ℕ) → is_empty (slice_get sitting i) ≡ true → i < length sitting
empty_within sitting i empty = elim (cases_lt i (length sitting)) [
  | inl below ↦ below
  | inr past ↦ let clash : true ≡ false = sym empty ∙ ap is_empty (slice_get_past sitting i past) in absurd (cc clash)
]

-- the first link of a seat
pub sat_down : (sitting now : List Seat) (others : List (ℕ × ℕ × ℕ)) (i v s q : ℕ) → i ≡ seat_of v s → now ≡ set sitting i (seats.Of s q) → is_empty (slice_get sitting i) ≡ true → AreSeated sitting others → (a b c : ℕ)
    → has_seated (record { sitting = now; others = others }) a b c ≡ (has_seated (record { sitting = sitting; others = others }) a b c || is_key a b c (v, s, q))
sat_down sitting now others i v s q at now_are empty are a b c = elim (cases_eq (seat_of a b) i) [
  | inl here ↦
      let below = empty_within sitting i empty in
      let empty_here : is_empty (slice_get sitting (seat_of a b)) ≡ true = ap (λ (k : ℕ). is_empty (slice_get sitting k)) here ∙ empty in
      let seat : slice_get now (seat_of a b) ≡ Some (seats.Of s q) = ap (λ (xs : List Seat). slice_get xs (seat_of a b)) now_are ∙ ap (slice_get (set sitting i (seats.Of s q))) here ∙ get_set_same sitting i (seats.Of s q) below in
      ap (λ (o : Option Seat). sits_at o b c || list_any (is_key a b c) others) seat
      ∙ ap (λ (t : Bool). ((b == s) && (c == q)) || t) (are a b c empty_here)
      ∙ or_nothing ((b == s) && (c == q))
      ∙ same_place v s q a b c (here ∙ at)
      ∙ ap (λ (t : Bool). t || is_key a b c (v, s, q)) (sym (empty_is_new sitting others a b c are empty_here))
  | inr other ↦
      let seat : slice_get now (seat_of a b) ≡ slice_get sitting (seat_of a b) = ap (λ (xs : List Seat). slice_get xs (seat_of a b)) now_are ∙ get_set_other sitting i (seat_of a b) (seats.Of s q) other in
      ap (λ (o : Option Seat). sits_at o b c || list_any (is_key a b c) others) seat
      ∙ sym (or_nothing (has_seated (record { sitting = sitting; others = others }) a b c))
      ∙ ap (λ (t : Bool). has_seated (record { sitting = sitting; others = others }) a b c || t)
      (sym (no_key v s q a b c (λ one two. other (ap (λ (x : ℕ). seat_of x b) one ∙ ap (seat_of v) two ∙ sym at))))
]
  where
    -- within one seat the site tells the caller
    same_place : (v s q a b c : ℕ) → seat_of a b ≡ seat_of v s → ((b == s) && (c == q)) ≡ is_key a b c (v, s, q)
    same_place v s q a b c place = elim (cases_eq b s) [
      | inl same ↦
          let caller : a ≡ v = (let one : a * 4 + s % 4 ≡ v * 4 + s % 4 = ap (λ (y : ℕ). a * 4 + y % 4) (sym same) ∙ place in omega (arith, one)) in
          ap (λ (t : Bool). (t && (b == s)) && (c == q)) (sym (eq-eqb a v caller))
      | inr not ↦ ap (λ (t : Bool). t && (c == q)) (ne_eqb b s not) ∙ sym (no_key v s q a b c (λ one two. not two))
    ]

pub sat_seated : (sitting now : List Seat) (others : List (ℕ × ℕ × ℕ)) (i v s q : ℕ) → i ≡ seat_of v s → now ≡ set sitting i (seats.Of s q) → is_empty (slice_get sitting i) ≡ true → AreSeated sitting others → AreSeated now others
sat_seated sitting now others i v s q at now_are empty are = λ a b c free. elim (cases_eq (seat_of a b) i) [
  | inl here ↦
      let seat : slice_get now (seat_of a b) ≡ Some (seats.Of s q) = ap (λ (xs : List Seat). slice_get xs (seat_of a b)) now_are ∙ ap (slice_get (set sitting i (seats.Of s q))) here ∙ get_set_same sitting i (seats.Of s q) (empty_within sitting i empty) in
      let clash : true ≡ false = sym free ∙ ap is_empty seat in
      absurd (cc clash)
  | inr other ↦
      let seat : slice_get now (seat_of a b) ≡ slice_get sitting (seat_of a b) = ap (λ (xs : List Seat). slice_get xs (seat_of a b)) now_are ∙ get_set_other sitting i (seat_of a b) (seats.Of s q) other in
      are a b c (sym (ap is_empty seat) ∙ free)
]

-- where no link is, none is among the others, however many seats there are
nothing_right : (x y : Bool) → (x || y) ≡ false → y ≡ false
nothing_right true y e = absurd (cc e)
nothing_right false y e = e

pub nobody_seated : (sitting now : List Seat) (others : List (ℕ × ℕ × ℕ)) → ((v s q : ℕ) → has_seated (record { sitting = sitting; others = others }) v s q ≡ false) → AreSeated now others
nobody_seated sitting now others none = λ v s q empty. nothing_right (sits_at (slice_get sitting (seat_of v s)) s q) (list_any (is_key v s q) others) (none v s q)

-- a set to which a key was given has it, whether it had it before or not
pub other_now : (sitting : List Seat) (others now : List (ℕ × ℕ × ℕ)) (v s q : ℕ) (fresh : Bool) → sits_at (slice_get sitting (seat_of v s)) s q ≡ false → fresh ≡ not (list_any (is_key v s q) others)
    → now ≡ cond (list_any (is_key v s q) others) others (others ++ (v, s, q) ∷ []) → (a b c : ℕ)
    → has_seated (record { sitting = sitting; others = now }) a b c ≡ (has_seated (record { sitting = sitting; others = others }) a b c || is_key a b c (v, s, q))
other_now sitting others now v s q fresh stands told put a b c = by (list_any (is_key v s q) others) refl
  where
    by : (there : Bool) → list_any (is_key v s q) others ≡ there → has_seated (record { sitting = sitting; others = now }) a b c ≡ (has_seated (record { sitting = sitting; others = others }) a b c || is_key a b c (v, s, q))
    by true is =
        let same : now ≡ others = put ∙ ap (λ (t : Bool). cond t others (others ++ (v, s, q) ∷ [])) is in
        let have : has_seated (record { sitting = sitting; others = others }) v s q ≡ true = taken_is sitting others v s q stands ∙ is in
        ap (λ (ks : List (ℕ × ℕ × ℕ)). has_seated (record { sitting = sitting; others = ks }) a b c) same ∙ same_seated (record { sitting = sitting; others = others }) v s q have a b c
    by false is = other_added sitting others now v s q (put ∙ ap (λ (t : Bool). cond t others (others ++ (v, s, q) ∷ [])) is) a b c

-- empty seats more change nothing
sits_more : (xs more : List Seat) (i s q : ℕ) → ((k : ℕ) → sits_at (slice_get more k) s q ≡ false) → sits_at (slice_get xs i) s q ≡ false → sits_at (slice_get (xs ++ more) i) s q ≡ false
sits_more [] more i s q none h = none i
sits_more (x ∷ xs) more zero s q none h = h
sits_more (x ∷ xs) more (suc i) s q none h = sits_more xs more i s q none h

four_empty : List Seat
four_empty = seats.Empty ∷ seats.Empty ∷ seats.Empty ∷ seats.Empty ∷ []

nobody_in_four : (k s q : ℕ) → sits_at (slice_get four_empty k) s q ≡ false
unfolding four_empty
nobody_in_four zero s q = refl
nobody_in_four (suc zero) s q = refl
nobody_in_four (suc (suc zero)) s q = refl
nobody_in_four (suc (suc (suc zero))) s q = refl
nobody_in_four (suc (suc (suc (suc k)))) s q = refl

nothing_left : (x y : Bool) → (x || y) ≡ false → x ≡ false
nothing_left true y e = absurd (cc e)
nothing_left false y e = refl

pub seats_more : (sitting now : List Seat) (others : List (ℕ × ℕ × ℕ)) → now ≡ sitting ++ (seats.Empty ∷ seats.Empty ∷ seats.Empty ∷ seats.Empty ∷ []) → ((v s q : ℕ) → has_seated (record { sitting = sitting; others = others }) v s q ≡ false) → (v s q : ℕ)
    → has_seated (record { sitting = now; others = others }) v s q ≡ false
unfolding four_empty
seats_more sitting now others are none v s q =
    ap (λ (xs : List Seat). has_seated (record { sitting = xs; others = others }) v s q) are
    ∙ ap (λ (t : Bool). t || list_any (is_key v s q) others)
    (sits_more sitting four_empty (seat_of v s) s q (λ k. nobody_in_four k s q) (nothing_left (sits_at (slice_get sitting (seat_of v s)) s q) (list_any (is_key v s q) others) (none v s q)))
    ∙ nothing_right (sits_at (slice_get sitting (seat_of v s)) s q) (list_any (is_key v s q) others) (none v s q)
