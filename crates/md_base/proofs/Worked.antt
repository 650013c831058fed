-- The definitions of the outside, computed on small examples.
use Rattle.std.proofs.Common.{◌≡◌, ℕ, List, [], ◌∷◌, Option, Some, None, true, false, refl, inl, inr, arith, option_map, if◌then◌else◌, Result, Ok, Err}
use Rattle.std.specs.Str.{bytes_eq}
use Rattle.md_base.specs.Outside.{Rose, HasCause, Gives, added, one_more, last_count}
use Rattle.md_base.specs.declared.failed.Failed.{Failed}
use Rattle.md_base.specs.declared.failed.Failed.TheVariants.{Device, NoMemory}
use Rattle.md_base.specs.Files.{Files, with_file, holding, extended}
use Rattle.md_base.specs.Streams.{fresh, after_read}
use Rattle.md_base.specs.Nets.{with_served, connection_of}
use Rattle.md_base.specs.Counts.{count_of, with_more}
use Rattle.md_base.specs.declared.measure.Counts.{Counts}
use Rattle.md_base.specs.declared.measure.Measure.TheVariants.{Redos, Words, Excps}

-- a has 1 2 3, and b has 4
abbrev two_files : Files
two_files name = if bytes_eq name (97 ∷ []) then Some (1 ∷ 2 ∷ 3 ∷ []) else (if bytes_eq name (98 ∷ []) then Some (4 ∷ []) else None)

written : with_file (97 ∷ []) (9 ∷ []) two_files (97 ∷ []) ≡ Some (9 ∷ [])
written = refl

untouched : with_file (97 ∷ []) (9 ∷ []) two_files (98 ∷ []) ≡ Some (4 ∷ [])
untouched = refl

-- what a told content has at a name
abbrev at : List ℕ → Option Files → Option (Option (List ℕ))
at name told = option_map (λ files. files name) told

grown : at (98 ∷ []) (extended (98 ∷ []) (5 ∷ 6 ∷ []) (Some two_files)) ≡ Some (Some (4 ∷ 5 ∷ 6 ∷ []))
grown = refl

begun : at (99 ∷ []) (extended (99 ∷ []) (7 ∷ []) (Some two_files)) ≡ Some (Some (7 ∷ []))
begun = refl

untold : holding (99 ∷ []) (7 ∷ []) None ≡ None
untold = refl

-- two of three bytes are given from place 1, in a buffer of four
given : Gives (2 ∷ 3 ∷ []) 2 (2 ∷ 3 ∷ 0 ∷ 0 ∷ [])
given = record { within = omega arith; enough = omega arith; given = refl; some = λ room left. omega arith }

more_written : added (3 ∷ []) (Some (1 ∷ 2 ∷ [])) ≡ Some (1 ∷ 2 ∷ 3 ∷ [])
more_written = refl

read_two : after_read 2 4 (Some (fresh (1 ∷ 2 ∷ 3 ∷ []))) ≡ Some (record { taken = 1 ∷ 2 ∷ []; left = 3 ∷ []; ended = false })
read_two = refl

-- nothing for a buffer with room is the end, and nothing for an empty buffer says nothing
read_end : after_read 0 4 (Some (fresh [])) ≡ Some (record { taken = []; left = []; ended = true })
read_end = refl

read_nothing : after_read 0 0 (Some (fresh (1 ∷ []))) ≡ Some (fresh (1 ∷ []))
read_nothing = refl

abbrev refused : Failed → Result ℕ Failed
refused fault = Err fault

abbrev done_by_two : Result ℕ Failed
done_by_two = Ok 2

rises : Rose 3 4
rises = inl (omega arith)

stands_at_its_end : Rose last_count (one_more last_count)
stands_at_its_end = inr refl

-- A fault is counted once, and by no other count; and a call that doesn't answer it counts nothing, so that it is not
-- told as want of memory [the count may rise at any call].
fault_counted : HasCause Device 3 4 (refused Device)
fault_counted = record { later = omega arith; raised = λ is. refl; kept = λ is. absurd (is refl) }

counted_twice : HasCause Device 3 5 (refused Device) → ⊥
counted_twice cause = omega (arith, cause.raised refl)

good_call_counted : HasCause Device 3 4 done_by_two → ⊥
good_call_counted cause = omega (arith, cause.kept (λ is. cc is))

fault_told_as_memory : HasCause Device 3 4 (refused NoMemory) → ⊥
fault_told_as_memory cause = omega (arith, cause.kept (λ is. cc is))

served : with_served (connection_of (Some (fresh [])) (Some (5 ∷ [])) 0 1) (Some (record { coming = (8 ∷ []) ∷ []; served = [] }))
    ≡ Some (record { coming = (8 ∷ []) ∷ []; served = record { stream = fresh []; written = 5 ∷ []; read_faults = 0; write_faults = 1 } ∷ [] })
served = refl

abbrev counts : Counts
counts = record { calls = 1; exits = 1; fails = 0; redos = 2; allocs = 0; words = 4294967290; excps = 3 }

counted : count_of (with_more counts Redos 3) Redos ≡ 5
counted = refl

full : count_of (with_more counts Words 9) Words ≡ 4294967295
full = refl

others_stay : count_of (with_more counts Words 9) Redos ≡ 2
others_stay = refl

exceptions : count_of (with_more counts Excps 4) Excps ≡ 7
exceptions = refl
