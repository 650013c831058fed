-- Counts: how often the events of a set of activations fall on each measure.
use Rattle.std.specs.Prelude.{ℕ, ◌+◌, ◌&&◌, Bool, false, List, [], ◌∷◌, min, Option, Some, None, if◌then◌else◌, sum_by}
use Rattle.md_base.specs.declared.measure.Counts.{Counts}
use Rattle.md_base.specs.declared.measure.Measure.{Measure}
use Rattle.md_base.specs.declared.measure.Measure.TheVariants.{Calls, Exits, Fails, Redos, Allocs, Words, Excps}
pub use Rattle.md_base.specs.Counts.{count_of, with_more}
use Rattle.md_trace.specs.declared.event.Event.{Event}
use Rattle.md_trace.specs.declared.event.Event.TheVariants.{Call, Exit, Redo, Fail, Excp, Alloc}
use Rattle.md_trace.specs.Activation.{numbered}
use Rattle.md_trace.specs.Context.{Link, Placed, placed_of, has_link}
use Rattle.md_trace.specs.Links.{links}

-- the activation of an event
abbrev pub activation_of : Event → ℕ
activation_of (Call a p s q) = a
activation_of (Exit a) = a
activation_of (Redo a) = a
activation_of (Fail a) = a
activation_of (Excp a) = a
activation_of (Alloc a w) = a

-- what an event adds to a measure: one to its own, and an allocation its words to the words
abbrev pub amount : Measure → Event → ℕ
amount Calls (Call a p s q) = 1
amount Exits (Exit a) = 1
amount Redos (Redo a) = 1
amount Fails (Fail a) = 1
amount Excps (Excp a) = 1
amount Allocs (Alloc a w) = 1
amount Words (Alloc a w) = w
amount m e = 0

-- the sum of a measure over the events of the activations that pass a test of their numbers
abbrev pub sum_where : (ℕ → Bool) → Measure → List Event → ℕ
sum_where test m [] = 0
sum_where test m (e ∷ h) = (if test (activation_of e) then amount m e else 0) + sum_where test m h

-- the greatest number that a count of a link shows; a greater one stands still there
abbrev pub capped : ℕ → ℕ
capped n = min n 4294967295

-- an activation that may not be there passes a test; one that isn't there fails it
abbrev pub passes : (Placed → Bool) → Option Placed → Bool
passes test None = false
passes test (Some x) = test x

-- a test of what an activation is, as a test of its number
abbrev pub passing : List Placed → (Placed → Bool) → ℕ → Bool
passing xs test a = passes test (numbered xs a)

-- the sum of a measure over the activations that have a link
abbrev pub link_sum : ℕ → List Event → Link → Measure → ℕ
link_sum main h l m = sum_where (passing (placed_of main h) (has_link l)) m h

-- The count of a measure over the activations that pass a test of their numbers. It is made link by link: the sum
-- over those that have the link, or 4,294,967,295 where that is more. Where no link has more it is the plain sum.
abbrev pub count_over : ℕ → List Event → (ℕ → Bool) → Measure → ℕ
count_over main h test m =
    sum_by (λ l. capped (sum_where (λ a. test a && passing (placed_of main h) (has_link l.link) a) m h)) (links main (placed_of main h))

-- seven counts, each given by its measure
abbrev pub counts_by : (Measure → ℕ) → Counts
counts_by f = record { calls = f Calls; exits = f Exits; fails = f Fails; redos = f Redos; allocs = f Allocs; words = f Words; excps = f Excps }

-- the counts of the activations that pass a test of their numbers, each up to the greatest number
abbrev pub counts_where : (ℕ → Bool) → List Event → Counts
counts_where test h = counts_by (λ m. capped (sum_where test m h))

-- the counts of the activations that pass a test, each up to the greatest number
abbrev pub set_counts : ℕ → List Event → (Placed → Bool) → Counts
set_counts main h test = counts_where (passing (placed_of main h) test) h
