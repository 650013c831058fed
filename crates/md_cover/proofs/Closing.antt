-- Where a round changes nothing no equation settles anything. So in what rounds come to all that is derived is known.
use Rattle.std.proofs.Common.{◌≡◌, refl, sym, ap, ◌∙◌, subst, arith, inl, inr, ◌⊎◌, ℕ, ◌+◌, ◌-◌, ◌<◌, ◌≤◌, Bool, true, false, ◌||◌, cond, List, [], ◌∷◌, length, min, Option, Some, None, nat_lt, replicate, slice_set}
use Rattle.std.specs.Prelude.{⊤}
use Rattle.std.proofs.lemmas.Bool.{ltb-true, lt-ltb}
use Rattle.std.proofs.lemmas.List.{length-set, length-replicate}
use Rattle.md_cover.specs.declared.equation.Quantity.{Quantity}
use Rattle.md_cover.specs.declared.equation.Quantity.TheVariants.{Entries, Exits}
use Rattle.md_cover.specs.declared.equation.Equation.{Equation}
use Rattle.md_cover.specs.declared.solving.Settled.{Settled}
use Rattle.md_cover.specs.declared.solving.Unknown.{Unknown}
use Rattle.md_cover.specs.declared.solving.Unknown.TheVariants.{Nothing, One, More}
use Rattle.md_cover.specs.Told.{quantity_of, quantities_of, equations_of}
use Rattle.md_cover.specs.Known.{has_place, put_from, Table, nothing_known, know, has, or_zero, unknown_and, open_from, open_of, settled_by, settled_of, put_at, step_by, step, changes_by, changes_at, round_of, back_of, changes, Rounds, last, more}
use Rattle.md_cover.proofs.Numbered.{IsIn, AllIn, AreIn}
use Rattle.md_cover.proofs.SolveLaws.{AreUnsettled}

-- these quantities, and those of these equations, have a place in the table
abbrev pub ArePlaced : Table → List Quantity → Type 0
ArePlaced t [] = ⊤
ArePlaced t (q ∷ qs) = (has t q ≡ true) × ArePlaced t qs

abbrev pub AllPlaced : Table → List Equation → Type 0
AllPlaced t [] = ⊤
AllPlaced t (e ∷ cs) = ArePlaced t (e.whole ∷ e.parts.items) × AllPlaced t cs

-- ---- what is settled has a place

and-one : (u : Unknown) (o : Option ℕ) (p q : Quantity) → unknown_and u o p ≡ One q → (u ≡ One q) ⊎ (p ≡ q)
and-one u (Some n) p q is = inl is
and-one Nothing None p q is = inr (cc is)
and-one (One r) None p q is = absurd (cc is)
and-one More None p q is = absurd (cc is)

one-placed : (t : Table) (k : Quantity → Option ℕ) (sum : ℕ) (u : Unknown) (qs : List Quantity) (q : Quantity) → ArePlaced t qs → (open_from k sum u qs).unknown ≡ One q → (u ≡ One q) ⊎ (has t q ≡ true)
one-placed t k sum u [] q h is = inl is
one-placed t k sum u (p ∷ qs) q h is = elim (one-placed t k (min (sum + or_zero (k p)) 18446744073709551615) (unknown_and u (k p) p) qs q h.1 is) [
  | inl one ↦ elim (and-one u (k p) p q one) [
    | inl before ↦ inl before
    | inr this ↦ inr (subst (λ (r : Quantity). has t r ≡ true) this h.0)
  ]
  | inr there ↦ inr there
]

by-placed : (t : Table) (whole : Quantity) (sum : ℕ) (o : Option ℕ) (u : Unknown) (s : Settled) → has t whole ≡ true → ((q : Quantity) → u ≡ One q → has t q ≡ true) → settled_by whole sum o u ≡ Some s → has t s.quantity ≡ true
by-placed t whole sum None Nothing s there one is = let same : whole ≡ s.quantity = cc is in subst (λ (q : Quantity). has t q ≡ true) same there
by-placed t whole sum None (One q) s there one is = absurd (cc is)
by-placed t whole sum None More s there one is = absurd (cc is)
by-placed t whole sum (Some n) Nothing s there one is = absurd (cc is)
by-placed t whole sum (Some n) (One q) s there one is = let same : q ≡ s.quantity = cc is in subst (λ (p : Quantity). has t p ≡ true) same (one q refl)
by-placed t whole sum (Some n) More s there one is = absurd (cc is)

settled-placed : (t : Table) (k : Quantity → Option ℕ) (e : Equation) (s : Settled) → ArePlaced t (e.whole ∷ e.parts.items) → settled_of k e ≡ Some s → has t s.quantity ≡ true
settled-placed t k e s h is =
    by-placed t e.whole (open_of k e.number e.parts.items).sum (k e.whole) (open_of k e.number e.parts.items).unknown s h.0
    (λ q one. elim (one-placed t k e.number Nothing e.parts.items q h.1 one) [
      | inl not ↦ absurd (cc not)
      | inr there ↦ there
    ]) is

-- ---- a round that changes nothing

quiet : (t : Table) (e : Equation) → ArePlaced t (e.whole ∷ e.parts.items) → changes_at t e ≡ false → settled_of (know t) e ≡ None
quiet t e h = by (settled_of (know t) e) refl
  where
    by : (o : Option Settled) → settled_of (know t) e ≡ o → changes_by t o ≡ false → o ≡ None
    by None at is = refl
    by (Some s) at is = let there = settled-placed t (know t) e s h at in absurd (cc (is, there))

neither : (a b : Bool) → (a || b) ≡ false → (a ≡ false) × (b ≡ false)
neither true b is = absurd (cc is)
neither false b is = (refl, is)

unchanged : (t : Table) (cs : List Equation) → AllPlaced t cs → changes t cs ≡ false → (round_of t cs ≡ t) × AreUnsettled t cs
unchanged t [] h is = (refl, tt)
unchanged t (e ∷ cs) h is =
    let both = neither (changes_at t e) (changes (step t e) cs) is in
    let none : settled_of (know t) e ≡ None = quiet t e h.0 both.0 in
    let same : step t e ≡ t = ap (step_by t) none in
    let rest = unchanged t cs h.1 (subst (λ (u : Table). changes u cs ≡ false) same both.1) in
    (ap (λ (u : Table). round_of u cs) same ∙ rest.0, (none, rest.1))

-- ---- places stay

length-put : (first : ℕ) (xs : List (Option ℕ)) (n v : ℕ) → length (put_from first xs n v) ≡ length xs
length-put first xs n v = by (nat_lt n first)
  where
    by : (b : Bool) → length (cond b xs (slice_set xs (n - first) (Some v))) ≡ length xs
    by true = refl
    by false = length-set xs (n - first) (Some v)

put-has : (t : Table) (q : Quantity) (v : ℕ) (p : Quantity) → has (put_at t q v) p ≡ has t p
put-has t (Entries n) v (Entries m) = ap (λ (c : ℕ). has_place t.first c m) (length-put t.first t.entries n v)
put-has t (Entries n) v (Exits m) = refl
put-has t (Exits n) v (Entries m) = refl
put-has t (Exits n) v (Exits m) = ap (λ (c : ℕ). has_place t.first c m) (length-put t.first t.exits n v)

put-first : (t : Table) (q : Quantity) (v : ℕ) → (put_at t q v).first ≡ t.first
put-first t (Entries n) v = refl
put-first t (Exits n) v = refl

-- two tables have the same places
record SamePlaces (t u : Table) : Type 0 where
  first : u.first ≡ t.first
  places : (q : Quantity) → has u q ≡ has t q

both-same : (t u v : Table) → SamePlaces t u → SamePlaces u v → SamePlaces t v
both-same t u v a b = record { first = b.first ∙ a.first; places = λ q. b.places q ∙ a.places q }

step-same : (t : Table) (e : Equation) → SamePlaces t (step t e)
step-same t e = by (settled_of (know t) e)
  where
    by : (o : Option Settled) → SamePlaces t (step_by t o)
    by None = record { first = refl; places = λ q. refl }
    by (Some s) = record { first = put-first t s.quantity s.value; places = put-has t s.quantity s.value }

round-same : (t : Table) (cs : List Equation) → SamePlaces t (round_of t cs)
round-same t [] = record { first = refl; places = λ q. refl }
round-same t (e ∷ cs) = both-same t (step t e) (round_of (step t e) cs) (step-same t e) (round-same (step t e) cs)

back-same : (t : Table) (cs : List Equation) → SamePlaces t (back_of t cs)
back-same t [] = record { first = refl; places = λ q. refl }
back-same t (e ∷ cs) = both-same t (back_of t cs) (step (back_of t cs) e) (back-same t cs) (step-same (back_of t cs) e)

pub rounds-first : (cs : List Equation) (t u : Table) → Rounds cs t u → u.first ≡ t.first
rounds-first cs t _ (last _ none) = (round-same t cs).first
rounds-first cs t u (more _ _ rest) = rounds-first cs (back_of (round_of t cs) cs) u rest ∙ ((back-same (round_of t cs) cs).first ∙ (round-same t cs).first)

still-placed : (t u : Table) (qs : List Quantity) → SamePlaces t u → ArePlaced t qs → ArePlaced u qs
still-placed t u [] same h = tt
still-placed t u (q ∷ qs) same h = (same.places q ∙ h.0, still-placed t u qs same h.1)

all-still-placed : (t u : Table) (cs : List Equation) → SamePlaces t u → AllPlaced t cs → AllPlaced u cs
all-still-placed t u [] same h = tt
all-still-placed t u (e ∷ cs) same h = (still-placed t u (e.whole ∷ e.parts.items) same h.0, all-still-placed t u cs same h.1)

-- where each quantity has a place, rounds come to a table at which no equation settles anything
pub rounds-unsettled : (cs : List Equation) (t u : Table) → Rounds cs t u → AllPlaced t cs → AreUnsettled u cs
rounds-unsettled cs t _ (last _ none) h = let still = unchanged t cs h none in subst (λ (v : Table). AreUnsettled v cs) (sym still.0) still.1
rounds-unsettled cs t u (more _ _ rest) h =
    let v = back_of (round_of t cs) cs in
    rounds-unsettled cs v u rest (all-still-placed t v cs (both-same t (round_of t cs) v (round-same t cs) (back-same (round_of t cs) cs)) h)

-- ---- places of numbers

place-there : (first count n : ℕ) → first ≤ n → n < first + count → has_place first (length (replicate {A = Option ℕ} count None)) n ≡ true
place-there first count n low high = by (nat_lt n first) refl
  where
    by : (b : Bool) → nat_lt n first ≡ b → cond b false (nat_lt (n - first) (length (replicate {A = Option ℕ} count None))) ≡ true
    by true at = let less = ltb-true n first at in absurd (omega (arith, less, low))
    by false at = let long = length-replicate {A = Option ℕ} count None in lt-ltb (n - first) (length (replicate {A = Option ℕ} count None)) (omega (arith, long, low, high))

quantity-placed : (first count : ℕ) (q : Quantity) → IsIn first (first + count) (quantity_of q) → has (nothing_known first count) q ≡ true
quantity-placed first count (Entries n) h = place-there first count n h.0 h.1
quantity-placed first count (Exits n) h = place-there first count n h.0 h.1

quantities-placed : (first count : ℕ) (qs : List Quantity) → AllIn first (first + count) (quantities_of qs) → ArePlaced (nothing_known first count) qs
quantities-placed first count [] h = tt
quantities-placed first count (q ∷ qs) h = (quantity-placed first count q h.0, quantities-placed first count qs h.1)

pub equations-placed : (first count : ℕ) (cs : List Equation) → AreIn first (first + count) (equations_of cs) → AllPlaced (nothing_known first count) cs
equations-placed first count [] h = tt
equations-placed first count (e ∷ cs) h = (quantities-placed first count (e.whole ∷ e.parts.items) h.0, equations-placed first count cs h.1)
