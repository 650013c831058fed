-- What holds of every text that spells a program, and of each that is accepted besides.
use Rattle.std.specs.Prelude.{◌≡◌, ℕ, ◌+◌, ◌<◌, ◌≤◌, ◌^◌, true, List, length, Some, None}
use Rattle.md_hlds.specs.Hlds.{Procedure, Hlds, procedure_called, sites_of}
use Rattle.md_hlds.specs.Run.{main_name, run}
use Rattle.md_trace.specs.PortHistory.{IsPortHistory}
use Rattle.law_events.specs.History.{history}
use Rattle.law_events.specs.Table.{site_table, HasSites, HasMain}
use Rattle.law_events.specs.Laws.{IsWithinBounds}
use Rattle.md_reader.specs.Grammar.{Spells}
use Rattle.md_modes.specs.Modes.{is_main, mode_fault}
use Rattle.law_spelled.specs.Bounds.{HasLines, HasShortNames, HasNames}

-- the goals of a text's program name its call sites in text order
abbrev pub TextsHaveSites : Type 0
TextsHaveSites = (text : List ℕ) (p : Hlds) → Spells text p → HasSites p

-- its lines count from 1
abbrev pub TextsHaveLines : Type 0
TextsHaveLines = (text : List ℕ) (p : Hlds) → Spells text p → HasLines p

-- its names and lists of arguments are within the limits
abbrev pub TextsHaveShortNames : Type 0
TextsHaveShortNames = (text : List ℕ) (p : Hlds) → Spells text p → HasShortNames p

-- those of the module and of predicates are names as the tables of a profile have them
abbrev pub TextsHaveNames : Type 0
TextsHaveNames = (text : List ℕ) (p : Hlds) → Spells text p → HasNames p

-- it has no fewer bytes than its program has call sites, predicates and types together
abbrev pub TextsHaveFewParts : Type 0
TextsHaveFewParts = (text : List ℕ) (p : Hlds) → Spells text p → length (sites_of p) + (length p.procedures + length p.types) ≤ length text

-- where it has no fault of modes, the predicate that `main` names is the one with the io states
abbrev pub MainIsCalled : Type 0
MainIsCalled = (text : List ℕ) (p : Hlds) → Spells text p → mode_fault p ≡ None → (m : ℕ × Procedure) × (procedure_called p main_name ≡ Some m) × (is_main m.1 ≡ true)

-- and its clause has a variable
abbrev pub AcceptedTextsHaveMains : Type 0
AcceptedTextsHaveMains = (text : List ℕ) (p : Hlds) → Spells text p → mode_fault p ≡ None → HasMain p

-- then nothing more is asked of it for its run to be a port history
abbrev pub AcceptedTextsAreWithinBounds : Type 0
AcceptedTextsAreWithinBounds = (text : List ℕ) (p : Hlds) (budget : ℕ) → Spells text p → mode_fault p ≡ None → budget < 2 ^ 32 → IsWithinBounds p budget

abbrev pub AcceptedRunsAreHistories : Type 0
AcceptedRunsAreHistories =
    (text : List ℕ) (p : Hlds) (budget : ℕ) → Spells text p → mode_fault p ≡ None → budget < 2 ^ 32 → IsPortHistory (site_table p) (history (run p budget))
