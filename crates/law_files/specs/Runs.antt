-- What holds of each run of an accepted program.
use Rattle.std.specs.Prelude.{ℕ, ◌≡◌, ◌⊎◌, ◌<◌, List, Some}
use Rattle.md_hlds.specs.Hlds.{Hlds}
use Rattle.md_hlds.specs.Run.{run}
use Rattle.md_trace.specs.declared.event.Event.{Event}
use Rattle.md_trace.specs.declared.event.Event.TheVariants.{Exit, Fail, Excp}
use Rattle.md_trace.specs.Balance.{IsEven, IsNotFull, NoneIsFull, WasCut, last_port}
use Rattle.md_trace.specs.Context.{Link, has_link}
use Rattle.md_trace.specs.Count.{set_counts}
use Rattle.law_events.specs.History.{call_count, history}
use Rattle.law_events.specs.Laws.{IsEvenIn}
use Rattle.law_events.specs.Table.{site_table}
use Rattle.law_safety.specs.Answers.{ComesToItsEnd}
use Rattle.law_safety.specs.Safe.{HasNoStuck}

-- a rule applies to each goal that it unfolds, and it is finished or has thrown unless the budget cuts it
pub record GoesOn (program : Hlds) (steps : ℕ) : Type 0 where
  pub never_stuck : HasNoStuck (run program steps)
  pub ends : ComesToItsEnd program steps

-- who was entered was left
pub record IsLeft (program : Hlds) (steps : ℕ) : Type 0 where
  -- each link that isn't full was entered as often as it was left
  pub links : (l : Link) → IsNotFull (set_counts (site_table program).main (history (run program steps)) (has_link l)) → IsEven (set_counts (site_table program).main (history (run program steps)) (has_link l))
  -- and so was each context none of whose links is full
  pub contexts : (c : ℕ) → NoneIsFull (site_table program).main (history (run program steps)) c → IsEvenIn (site_table program).main (history (run program steps)) c
  -- the last port of each activation is an exit, a fail or an exception
  pub activations : (a : ℕ) → a < call_count (run program steps)
      → (last_port (history (run program steps)) a ≡ Some (Exit a)) ⊎ (last_port (history (run program steps)) a ≡ Some (Fail a)) ⊎ (last_port (history (run program steps)) a ≡ Some (Excp a))
  -- of one that was cut an exit
  pub cut : (a : ℕ) → a < call_count (run program steps) → WasCut (history (run program steps)) a → last_port (history (run program steps)) a ≡ Some (Exit a)
