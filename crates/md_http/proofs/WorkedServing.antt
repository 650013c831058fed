-- What is counted, and when serving may stop early, on nets of none and one connection.
use Rattle.std.proofs.Common.{ℕ, [], Option, Some, refl, arith}
use Rattle.md_base.specs.Nets.{Connections}
use Rattle.md_cost.specs.View.{View}
use Rattle.md_http.specs.Serving.{AreServed, IsTally, ServesUntilNone, ServesUntilRefused}
use Rattle.md_http.specs.declared.serving.Tally.{Tally}

abbrev tally : (connections answered : ℕ) → Tally
tally c a = record { connections = c; answered = a }

-- one of two that were asked for came, and was answered
one_of_two : IsTally 2 (tally 1 1)
one_of_two = (omega arith, omega arith)

-- refuses a rule by which more may be served than were asked for
more_than_asked_for : IsTally 2 (tally 3 0) → ⊥
more_than_asked_for t = let many = t.0 in omega (arith, many)

-- refuses a rule by which more may be answered than came
more_answered_than_came : IsTally 2 (tally 1 2) → ⊥
more_answered_than_came t = let many = t.1 in omega (arith, many)

-- a net to which nobody comes
abbrev nobody : Connections
nobody = record { coming = []; served = [] }

-- one was asked for, and the net gave none: nothing was taken
gave_none : (v : View) → ServesUntilNone v 1 nobody (Some nobody)
gave_none v = record {
  tally = tally 0 0;
  served = record { inputs = []; connections = []; rest = []; first = refl; given_back = refl; each = AreServed.none; counted = refl };
  fewer = omega arith;
}

-- refuses a rule by which a fault of the net may be told though all that were asked for were served
none_was_asked_for : (v : View) (before : Connections) (now : Option Connections) → ServesUntilNone v 0 before now → ⊥
none_was_asked_for v before now s = let few = s.fewer in omega (arith, few)

-- and a rule by which want of memory may be
none_was_refused : (v : View) (before : Connections) (now : Option Connections) → ServesUntilRefused v 0 before now → ⊥
none_was_refused v before now s = let few = s.fewer in omega (arith, few)
