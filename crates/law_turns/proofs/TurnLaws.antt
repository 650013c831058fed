-- The laws of the turns of finished runs.
use Rattle.std.proofs.Common.{◌≡◌, ℕ, ◌+◌, arith, [], Some, slice_get}
use Rattle.md_hlds.specs.Hlds.{Procedure}
use Rattle.md_hlds.specs.Run.{run}
use Rattle.law_events.specs.History.{history}
use Rattle.law_events.specs.Table.{site_table}
use Rattle.law_events.proofs.RunLaw.{runs_are_histories}
use Rattle.law_spelled.proofs.TextLaws.{accepted_texts_are_within_bounds}
use Rattle.law_turns.specs.Counts.{turns_of, port_counts}
use Rattle.law_turns.specs.Equations.{Entries, Solution, Solves}
use Rattle.law_turns.specs.Laws.{run_equations, TurnsOfRunsSolve, DerivedIsDetermined, DerivedEntriesAreTurns}
use Rattle.law_turns.proofs.Sited.{are_sited}
use Rattle.law_turns.proofs.RunFlow.{agree_told, run_is_even}
use Rattle.law_turns.proofs.Solved.{found, procedure_solves}
use Rattle.law_turns.proofs.Within.{are_within}
use Rattle.law_turns.proofs.FewTurns.{few_turns}
use Rattle.law_turns.proofs.Determined.{determined}

pub turns_of_runs_solve : TurnsOfRunsSolve
turns_of_runs_solve bytes s budget spells modes judged small finished =
    let within = accepted_texts_are_within_bounds bytes s budget spells modes small in
    let even = run_is_even bytes s spells modes judged budget small finished in
    let agree = agree_told (site_table s) (run s budget) [] (runs_are_histories s budget within) in
    let x : Solution = found s (are_sited s within.sites) (run s budget) agree even.marks even.even in
    let solves : (q : ℕ × Procedure) → slice_get s.procedures q.0 ≡ Some q.1 → Solves x (run_equations s budget q) = λ q at. procedure_solves s (are_sited s within.sites) (run s budget) agree even.marks even.even q at in
    record {
      exits = x.exits;
      few = few_turns s budget;
      solves = solves;
      within = λ q at.
          let c = port_counts (history (run s budget)) in
          are_within s c x (budget + c.procedure_exits q.0) q (λ n. let small = few_turns s budget n in omega (arith, small)) (omega arith) (solves q at);
    }

pub derived_is_determined : DerivedIsDetermined
derived_is_determined es x y q h g derived = determined es x y h g q derived

pub derived_entries_are_turns : DerivedEntriesAreTurns
derived_entries_are_turns bytes s budget spells modes judged small finished q at x solves n derived =
    let turns = turns_of_runs_solve bytes s budget spells modes judged small finished in
    determined (run_equations s budget q) x (record { entries = turns_of (run s budget); exits = turns.exits }) solves (turns.solves q at) (Entries n) derived
