-- Numbers and links taken at once, and the seats of links, worked out.
use Rattle.std.proofs.Common.{ℕ, ◌≡◌, [], ◌∷◌, Some, Ok, true, false, refl, sym, ap, arith}
use Rattle.std.specs.Prelude.{slice_get}
use Rattle.md_deepfile.specs.Decoding.{FollowsSome, TakesAll}
use Rattle.md_deepfile.specs.Format.{byte, read}
use Rattle.md_deepfile.specs.Sets.{Seating, seat_of, is_empty, sits_at, has_seated, AreSeated}
use Rattle.md_deepfile.specs.State.{State, form_of, number_at, numbers_at}
use Rattle.md_deepfile.specs.declared.seats.Seat.TheVariants as seats

-- refuses a number with its greatest byte first, and one that begins at the front
a_number_behind_a_byte : number_at (9 ∷ 1 ∷ 2 ∷ 0 ∷ 0 ∷ []) 1 ≡ 513
a_number_behind_a_byte = refl

-- refuses numbers that begin one byte after the other
two_numbers : numbers_at 2 (7 ∷ 0 ∷ 0 ∷ 0 ∷ 9 ∷ 1 ∷ 0 ∷ 0 ∷ []) 0 ≡ 7 ∷ 265 ∷ []
two_numbers = refl

-- a byte is taken, and the place is the next one
one_byte : (s : State) → s.at ≡ 4 → TakesAll (byte (λ b. form_of s)) (5 ∷ []) 3 s
one_byte s at = λ rest. ap (λ (place : ℕ). read (form_of s) place rest) (sym at)

-- refuses a count of the bytes that are left
one_byte_of_two : (s : State) → s.at ≡ 4 → FollowsSome (byte (λ b. form_of s)) (5 ∷ 6 ∷ []) 3 s (Ok 1)
one_byte_of_two s at = (omega arith, omega arith, λ rest. ap (λ (place : ℕ). read (form_of s) place (6 ∷ rest)) (sym at))

-- refuses a step that takes nothing, so that none would end
no_byte : (s : State) → FollowsSome (form_of s) (5 ∷ []) 3 s (Ok 0) → ⊥
no_byte s h = omega (arith, h.0)

-- refuses one seat for all sites of a context, and one for each
the_seat_of_a_site : seat_of 3 6 ≡ 14
the_seat_of_a_site = refl

-- refuses a seat in a context that has none
no_seat : is_empty (slice_get [] 0) ≡ false
no_seat = refl

-- refuses a rule by the site alone: a higher-order site calls one procedure and then another
another_procedure : sits_at (Some (seats.Of 5 2)) 5 3 ≡ false
another_procedure = refl

-- in context 0 site 0 came before site 4, whose seat is the same
abbrev two_sites : Seating
two_sites = record { sitting = seats.Of 0 1 ∷ seats.Empty ∷ seats.Empty ∷ seats.Empty ∷ []; others = (0, 4, 1) ∷ [] }

-- refuses a look at the seat alone
the_later_is_there : has_seated two_sites 0 4 1 ≡ true
the_later_is_there = refl

-- refuses a look at the others alone
the_first_is_there : has_seated two_sites 0 0 1 ≡ true
the_first_is_there = refl

an_empty_seat : has_seated two_sites 0 1 1 ≡ false
an_empty_seat = refl

-- refuses that a link is among the others while its seat is empty, where it would be taken for a new one
too_early : AreSeated (seats.Empty ∷ seats.Empty ∷ seats.Empty ∷ seats.Empty ∷ []) ((0, 0, 1) ∷ []) → ⊥
too_early are = (let clash : true ≡ false = are 0 0 1 refl in cc clash)
