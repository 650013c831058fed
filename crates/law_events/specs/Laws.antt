-- What holds of the events of every run.
use Rattle.std.specs.Prelude.{◌≡◌, ◌⊎◌, ℕ, ◌+◌, ◌<◌, ◌≤◌, ◌^◌, true, List, ◌++◌, map, Some, None}
use Rattle.md_hlds.specs.Hlds.{Hlds, sites_of}
use Rattle.md_hlds.specs.Trace.{Items}
use Rattle.md_hlds.specs.Run.{run, events, is_finished, is_thrown}
use Rattle.md_trace.specs.PortHistory.{CallSite, IsSiteTable, IsPortHistory, current}
use Rattle.md_base.specs.declared.measure.Measure.TheVariants.{Calls, Exits, Fails, Redos, Excps}
use Rattle.md_trace.specs.declared.event.Event.{Event}
use Rattle.md_trace.specs.declared.event.Event.TheVariants.{Exit, Fail, Excp}
use Rattle.md_trace.specs.Context.{Link, has_link}
use Rattle.md_trace.specs.Count.{set_counts}
use Rattle.md_trace.specs.Totals.{own, in_context}
use Rattle.md_trace.specs.Balance.{IsNotFull, IsEven, NoneIsFull, last_port, WasCut}
use Rattle.law_events.specs.History.{told, history, call_count}
use Rattle.law_events.specs.Table.{site_table, HasSites, HasMain}

-- a program whose goals name its sites, run within a budget below 2 ^ 32
pub record IsWithinBounds (s : Hlds) (budget : ℕ) : Type 0 where
  pub main : HasMain s
  pub sites : HasSites s
  pub small : budget < 2 ^ 32

-- the site table of a program with a main is a site table
abbrev pub ProgramsHaveTables : Type 0
ProgramsHaveTables = (s : Hlds) → HasMain s → IsSiteTable (site_table s)

-- the owners of a table's sites, and of a program's, which has the line of each beside it
abbrev pub owner_of_site : CallSite → ℕ
owner_of_site x = x.owner

abbrev pub owner_of_pair : ℕ × ℕ → ℕ
owner_of_pair x = x.0

-- the sites of the table have the owners that the program's call sites have, in text order
abbrev pub OwnersAgree : Type 0
OwnersAgree = (s : Hlds) → map owner_of_site (site_table s).sites ≡ map owner_of_pair (sites_of s)

-- the events of a run are a port history over its program's site table
abbrev pub RunsAreHistories : Type 0
RunsAreHistories = (s : Hlds) (budget : ℕ) → IsWithinBounds s budget → IsPortHistory (site_table s) (history (run s budget))

-- so are the events of each front of the run
abbrev pub FrontsAreHistories : Type 0
FrontsAreHistories = (s : Hlds) (budget : ℕ) (front more : Items) → IsWithinBounds s budget → run s budget ≡ front ++ more → IsPortHistory (site_table s) (history front)

-- the events of the items that come next may follow those of a front
abbrev pub NextEventsFollow : Type 0
NextEventsFollow =
    (s : Hlds) (budget : ℕ) (done next more : Items) → IsWithinBounds s budget → run s budget ≡ done ++ (next ++ more)
    → IsPortHistory (site_table s) (told next (history done))

-- a run that is finished or has thrown
abbrev pub HasEnded : Items → Type 0
HasEnded xs = (is_finished xs ≡ true) ⊎ (is_thrown xs ≡ true)

-- after it nothing runs
abbrev pub EndedRunsAreLeft : Type 0
EndedRunsAreLeft = (s : Hlds) (budget : ℕ) → IsWithinBounds s budget → HasEnded (run s budget) → current (history (run s budget)) ≡ None

-- a context's own calls and redos are as many as its own exits, fails and exceptions
abbrev pub IsEvenIn : (main : ℕ) → List Event → (context : ℕ) → Type 0
IsEvenIn main h c =
    own main h (in_context c) Calls + own main h (in_context c) Redos
    ≡ (own main h (in_context c) Exits + own main h (in_context c) Fails) + own main h (in_context c) Excps

-- in a run that has ended each link that isn't full was entered as often as it was left
abbrev pub LinksOfRunsBalance : Type 0
LinksOfRunsBalance =
    (s : Hlds) (budget : ℕ) (l : Link) → IsWithinBounds s budget → HasEnded (run s budget)
    → IsNotFull (set_counts (site_table s).main (history (run s budget)) (has_link l))
    → IsEven (set_counts (site_table s).main (history (run s budget)) (has_link l))

-- so was each context none of whose links is full
abbrev pub ContextsOfRunsBalance : Type 0
ContextsOfRunsBalance =
    (s : Hlds) (budget c : ℕ) → IsWithinBounds s budget → HasEnded (run s budget)
    → NoneIsFull (site_table s).main (history (run s budget)) c → IsEvenIn (site_table s).main (history (run s budget)) c

-- the last port of each activation of such a run is an exit, a fail or an exception
abbrev pub ActivationsOfRunsEnd : Type 0
ActivationsOfRunsEnd =
    (s : Hlds) (budget a : ℕ) → IsWithinBounds s budget → HasEnded (run s budget) → a < call_count (run s budget)
    → (last_port (history (run s budget)) a ≡ Some (Exit a)) ⊎ (last_port (history (run s budget)) a ≡ Some (Fail a)) ⊎ (last_port (history (run s budget)) a ≡ Some (Excp a))

-- and where the activation was cut it is an exit
abbrev pub CutOnesOfRunsHaveExited : Type 0
CutOnesOfRunsHaveExited =
    (s : Hlds) (budget a : ℕ) → IsWithinBounds s budget → HasEnded (run s budget) → a < call_count (run s budget)
    → WasCut (history (run s budget)) a → last_port (history (run s budget)) a ≡ Some (Exit a)

-- whatever the program, a run has no more calls than its budget
abbrev pub CallsArePaid : Type 0
CallsArePaid = (s : Hlds) (budget : ℕ) → call_count (run s budget) ≤ budget

-- and within a budget below 2 ^ 32 it has fewer calls than the greatest number of 32 bits, since that of main costs 2 or more
abbrev pub CallsAreFew : Type 0
CallsAreFew = (s : Hlds) (budget : ℕ) → HasMain s → budget < 2 ^ 32 → call_count (run s budget) < 4294967295

-- the history of a run's items is that of its events
abbrev pub EventsAreTold : Type 0
EventsAreTold = (xs : Items) → history (events xs) ≡ history xs
