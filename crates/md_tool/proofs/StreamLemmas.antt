-- One write after another: counts of faults, and what the stream holds.
use Rattle.std.proofs.Common.{◌≡◌, ◌∙◌, refl, ap, sym, inl, inr, ⊎_elim, ℕ, ◌+◌, ◌<◌, ◌≤◌, List, [], ◌∷◌, ◌++◌, length, take, take_all, append_assoc, length-append, arith, Option, None, Some}
use Rattle.std.proofs.Math.Seq.{take-append-add}
use Rattle.std.proofs.lemmas.Bool.{cases_lt}
use Rattle.std.specs.Prelude.{Result, Ok, Err}
use Rattle.md_base.specs.Outside.{Rose, added, PartAdded}
use Rattle.md_tool.specs.declared.fault.Fault.{Fault}
use Rattle.md_tool.specs.declared.fault.Fault.TheVariants.{Usage, Read, TooLong, Refused, OutOfSteps, Thrown, Damaged, TooLarge, TwoEntries, DamagedLine, AnotherProgram, NoSuchPage, Write, NoMemory, Network}
use Rattle.md_tool.specs.Due.{WriteEnds}

-- ---- a count that never falls

pub rose_before : (a b c : ℕ) → a ≤ b → b ≤ c → Rose a b → Rose a c
rose_before a b c first later (inl rose) = inl (omega (arith, rose, later))
rose_before a b c first later (inr last) = ⊎_elim (λ (less : a < c). inl less) (λ (same : c ≤ a). inr (omega (arith, first, later, last, same))) (cases_lt a c)

pub rose_after : (a b c : ℕ) → a ≤ b → Rose b c → Rose a c
rose_after a b c first (inl rose) = inl (omega (arith, first, rose))
rose_after a b c first (inr last) = inr last

-- ---- pieces

-- a piece and then another are the two as one
pub added_twice : (a b : List ℕ) (before : Option (List ℕ)) → added b (added a before) ≡ added (a ++ b) before
added_twice a b None = refl
added_twice a b (Some bytes) = ap (λ (all : List ℕ). Some all) (append_assoc bytes a b)

-- all of a piece is a part of it
pub all_added : (piece : List ℕ) (before now : Option (List ℕ)) → now ≡ added piece before → PartAdded piece before now
all_added piece before now is_added = record {
  count = length piece;
  within = omega arith;
  is_added = is_added ∙ ap (λ (bytes : List ℕ). added bytes before) (sym (take_all (length piece) piece (omega arith)));
}

nothing : (bytes : List ℕ) → bytes ≡ bytes ++ []
nothing [] = refl
nothing (b ∷ bytes) = ap (λ (all : List ℕ). b ∷ all) (nothing bytes)

-- nothing is a part of any piece
pub none_added : (piece : List ℕ) (before : Option (List ℕ)) → PartAdded piece before before
none_added piece None = record { count = 0; within = omega arith; is_added = refl }
none_added piece (Some bytes) = record { count = 0; within = omega arith; is_added = ap (λ (all : List ℕ). Some all) (nothing bytes) }

-- the first piece, and then a part of the second
part_of_second : (a b : List ℕ) (before between now : Option (List ℕ)) → between ≡ added a before → PartAdded b between now → PartAdded (a ++ b) before now
part_of_second a b before between now first h = record {
  count = length a + h.count;
  within = omega (arith, length-append a b, h.within);
  is_added =
      h.is_added
      ∙ (ap (added (take h.count b)) first
      ∙ (added_twice a (take h.count b) before ∙ ap (λ (bytes : List ℕ). added bytes before) (sym (take-append-add a b h.count))));
}

-- ---- two writes

-- the first is done, and so is the second as far as it is
pub second_ends : (a b : List ℕ) (before between now : Option (List ℕ)) (second both : Type 0) (r : Result (Unit {0}) Fault)
    → (second → both) → between ≡ added a before → WriteEnds b between now second r → WriteEnds (a ++ b) before now both r
second_ends a b before between now second both (Ok done) rises first h = h ∙ (ap (added b) first ∙ added_twice a b before)
second_ends a b before between now second both (Err Write) rises first h = (rises h.0, part_of_second a b before between now first h.1)
second_ends a b before between now second both (Err NoMemory) rises first h = part_of_second a b before between now first h
second_ends a b before between now second both (Err Usage) rises first h = absurd h
second_ends a b before between now second both (Err Network) rises first h = absurd h
second_ends a b before between now second both (Err (Damaged at kind)) rises first h = absurd h
second_ends a b before between now second both (Err (TooLarge most)) rises first h = absurd h
second_ends a b before between now second both (Err (TwoEntries clique x y)) rises first h = absurd h
second_ends a b before between now second both (Err (DamagedLine n)) rises first h = absurd h
second_ends a b before between now second both (Err AnotherProgram) rises first h = absurd h
second_ends a b before between now second both (Err NoSuchPage) rises first h = absurd h
second_ends a b before between now second both (Err Read) rises first h = absurd h
second_ends a b before between now second both (Err TooLong) rises first h = absurd h
second_ends a b before between now second both (Err (Refused line w)) rises first h = absurd h
second_ends a b before between now second both (Err OutOfSteps) rises first h = absurd h
second_ends a b before between now second both (Err (Thrown bytes)) rises first h = absurd h
