-- The numbers of a run's profile have room in a file.
use Rattle.std.proofs.Common.{ℕ, ◌+◌, ◌<◌, ◌≤◌, ◌^◌, Bool, List, length, get_or, All, sym, subst, arith}
use Rattle.std.proofs.lemmas.List.Elements.{All-map, All-weaker}
use Rattle.md_trace.specs.declared.event.Event.{Event}
use Rattle.md_trace.specs.Context.{has_link, placed_of}
use Rattle.md_trace.specs.Count.{capped, counts_where, passing}
use Rattle.md_trace.specs.Links.{Leading, links}
use Rattle.md_static.specs.Tables.{Static}
use Rattle.md_static.specs.declared.entry.Site.{Site}
use Rattle.md_hlds.specs.Hlds.{Hlds}
use Rattle.md_hlds.specs.Run.{run}
use Rattle.md_reader.specs.Grammar.{Spells}
use Rattle.md_dynamic.specs.OfHistory.{row_of}
use Rattle.md_dynamic.specs.Profile.{ProfileRows}
use Rattle.md_dynamic.specs.declared.link.LinkRow.{LinkRow}
use Rattle.md_deepfile.specs.Spells.{AreSmall, HasRoom}
use Rattle.law_events.specs.History.{history}
use Rattle.law_events.specs.Table.{site_table}
use Rattle.md_ports.specs.Ports.{arity_of, proc_of, statics_of}
use Rattle.md_ports.proofs.Spelled.{text_table_lines}
use Rattle.md_profiled.specs.OfRun.{IsProfileOfRun}
use Rattle.md_tool.specs.Due.{longest}

-- a count stands still at the greatest number
below : (n : ℕ) → capped n < 2 ^ 32
below n = omega arith

small : (test : ℕ → Bool) (h : List Event) → AreSmall (counts_where test h)
small test h = record { calls = below _; exits = below _; fails = below _; redos = below _; allocs = below _; words = below _; excps = below _ }

small_row : (main : ℕ) (h : List Event) (x : Leading) → AreSmall (row_of main h x).own
small_row main h x = small (passing (placed_of main h) (has_link x.link)) h

least_arity : (n : ℕ) → arity_of n < 256
least_arity n = omega arith

pub has_room : (text : List ℕ) (program : Hlds) (steps : ℕ) (f : ProfileRows) → Spells text program → length text ≤ longest → IsProfileOfRun program steps f → HasRoom f
has_room text program steps f spells short of =
    let main = (site_table program).main in
    let h = history (run program steps) in
    record {
      arities = subst (λ (s : Static). All (λ p. p.arity < 256) s.procs) (sym of.tables)
          (All-map (λ p. p.arity < 256) (proc_of program) program.procedures (λ k d lt. least_arity (length (get_or program.procedures k d).args)));
      lines = subst (λ (s : Static). All (λ x. x.line < 2 ^ 32) s.sites) (sym of.tables)
          (All-weaker (λ (x : Site). x.line ≤ length text + 1) (λ (x : Site). x.line < 2 ^ 32) (λ x on. omega (arith, on, short)) (statics_of program).sites (text_table_lines text program spells));
      counts = subst (λ (ls : List LinkRow). All (λ l. AreSmall l.own) ls) (sym of.links_are)
          (All-map (λ (l : LinkRow). AreSmall l.own) (row_of main h) (links main (placed_of main h)) (λ k d lt. small_row main h (get_or (links main (placed_of main h)) k d)));
    }
