-- How often a goal has a turn in a run, and how often a procedure, or a call site, has a call and an exit there.
use Rattle.std.specs.Prelude.{ℕ, ◌+◌, Bool, false, cond, nat_eq, List, [], ◌∷◌, Option, Some, None, option_and_then}
use Rattle.md_base.specs.declared.measure.Measure.TheVariants.{Calls, Exits}
use Rattle.md_hlds.specs.Trace.{Turn, Items}
use Rattle.md_trace.specs.declared.event.Event.{Event}
use Rattle.md_trace.specs.Activation.{Activation, activations, numbered, procedure_of}
use Rattle.md_trace.specs.Count.{sum_where}

-- the number of turns whose goal is that of this number
abbrev pub turns_of : Items → ℕ → ℕ
turns_of [] n = 0
turns_of (Turn a (Some g) w ∷ xs) n = cond (nat_eq g n) 1 0 + turns_of xs n
turns_of (x ∷ xs) n = turns_of xs n

-- a number that may not be there is this one
abbrev pub is_number : ℕ → Option ℕ → Bool
is_number n None = false
is_number n (Some m) = nat_eq m n

-- the activation of a number is one of this procedure, or one that was called at this site
abbrev pub is_of_procedure : List Activation → ℕ → ℕ → Bool
is_of_procedure acts q a = is_number q (procedure_of acts a)

abbrev pub is_called_at : List Activation → ℕ → ℕ → Bool
is_called_at acts x a = is_number x (option_and_then (λ y. y.site) (numbered acts a))

-- counts of ports, by the number of a procedure and by that of a call site
pub record PortCounts : Type 0 where
  pub procedure_calls : ℕ → ℕ
  pub procedure_exits : ℕ → ℕ
  pub site_calls : ℕ → ℕ
  pub site_exits : ℕ → ℕ

-- the plain counts of a history: of the Calls and Exits of the activations of a procedure, or of those called at a site
abbrev pub port_counts : List Event → PortCounts
port_counts h = record {
  procedure_calls = λ q. sum_where (is_of_procedure (activations h) q) Calls h;
  procedure_exits = λ q. sum_where (is_of_procedure (activations h) q) Exits h;
  site_calls = λ x. sum_where (is_called_at (activations h) x) Calls h;
  site_exits = λ x. sum_where (is_called_at (activations h) x) Exits h;
}
