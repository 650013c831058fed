-- What the decoder keeps beside the lists, so that a thing that was there before is found at once.
use Rattle.std.specs.Prelude.{ℕ, ◌≡◌, ◌+◌, ◌*◌, ◌%◌, ◌<◌, ◌&&◌, ◌||◌, ◌==◌, Bool, true, false, List, length, Option, None, Some, IfSome, All, slice_get}
use Rattle.std.specs.List.{list_any}
use Rattle.md_static.specs.declared.entry.Proc.{Proc}
use Rattle.md_dynamic.specs.declared.link.LinkRow.{LinkRow}
use Rattle.md_dynamic.specs.Valid.{leads_down}
use Rattle.md_deepfile.specs.Rules.{has_key}
use Rattle.md_deepfile.specs.declared.seats.Seat.{Seat}
use Rattle.md_deepfile.specs.declared.seats.Seat.TheVariants as seats

-- module and name of a procedure
abbrev pub key_of : Proc → ℕ × List ℕ
key_of p = (p.module, p.name)

-- contexts and links
pub record GraphRows : Type 0 where
  pub nodes : List ℕ
  pub links : List LinkRow

abbrev pub is_key : ℕ → ℕ → ℕ → ℕ × ℕ × ℕ → Bool
is_key v s q key = ((v == key.0) && (s == key.1)) && (q == key.2)

-- which of all seats is that of a context's site
abbrev pub seat_of : ℕ → ℕ → ℕ
seat_of v s = v * 4 + s % 4

-- a seat that is there, and that no link has
abbrev pub is_empty : Option Seat → Bool
is_empty None = false
is_empty (Some seats.Empty) = true
is_empty (Some (seats.Of a b)) = false

-- a seat that the link of this site and procedure has
abbrev pub sits_at : Option Seat → ℕ → ℕ → Bool
sits_at None s q = false
sits_at (Some seats.Empty) s q = false
sits_at (Some (seats.Of a b)) s q = (s == a) && (q == b)

-- the seats of contexts, and the keys of links that have none
pub record Seating : Type 0 where
  pub sitting : List Seat
  pub others : List (ℕ × ℕ × ℕ)

-- a link with this caller, site and procedure has its seat, or is among the others
abbrev pub has_seated : Seating → ℕ → ℕ → ℕ → Bool
has_seated x v s q = sits_at (slice_get x.sitting (seat_of v s)) s q || list_any (is_key v s q) x.others

-- a link is among the others only where another one has its seat
abbrev pub AreSeated : List Seat → List (ℕ × ℕ × ℕ) → Type 0
AreSeated sitting others = (v s q : ℕ) → is_empty (slice_get sitting (seat_of v s)) ≡ true → list_any (is_key v s q) others ≡ false

-- The keys are those of the links, each context has a mark whether it is reached from one of a lower number, and a link
-- from a context leads to one.
pub record AreGraph (nodes : List ℕ) (links : List LinkRow) (keys : ℕ → ℕ → ℕ → Bool) (reached : List Bool) : Type 0 where
  pub lead : All (λ l. IfSome l.caller (λ v. l.callee < length nodes)) links
  pub keyed : (v s q : ℕ) → keys v s q ≡ list_any (has_key nodes v s q) links
  pub each : length reached ≡ length nodes
  pub marked : (u : ℕ) → u < length nodes → slice_get reached u ≡ Some (list_any (leads_down u) links)
