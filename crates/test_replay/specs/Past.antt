-- What the events so far tell of those that may follow.
use Rattle.std.specs.Prelude.{ℕ, ◌≡◌, ◌<◌, List, length, Option, Some, IsSomeAnd, MatchOption, slice_get}
use Rattle.md_static.specs.Tables.{Static, callee_of}
use Rattle.md_trace.specs.declared.event.Event.{Event}
use Rattle.md_trace.specs.Activation.{Activation, activations, numbered}
use Rattle.md_trace.specs.PortHistory.{current, has_exited}
use Rattle.test_replay.specs.declared.history.Row.{Row}

-- each activation of h has its row by number, and `now` is the one that runs
pub record IsPast (rows : List Row) (now : Option ℕ) (h : List Event) : Type 0 where
  pub each : length rows ≡ length (activations h)
  pub right : (a : ℕ) (x : Activation) → numbered (activations h) a ≡ Some x → slice_get rows a ≡ Some (record { parent = x.parent; procedure = x.procedure; exited = has_exited h a })
  pub now_is : now ≡ current h

-- the call site is there, this procedure has it, and it may call that one
abbrev pub Sited : Static → ℕ → ℕ → ℕ → Type 0
Sited statics owner site q =
    IsSomeAnd (slice_get statics.sites site) (λ x. (owner ≡ x.owner) × MatchOption (callee_of x.kind) (q < length statics.procs) (λ c. q ≡ c))
