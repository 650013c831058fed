use Rattle.std.proofs.Common.{sym, arith}
use Rattle.md_hlds.specs.Hlds.{hlds_of}
use Rattle.law_events.specs.Table.{site_table}
use Rattle.test_machine.proofs.tests.came.counted.Goals as goal

pub interpret-requires : goal.interpret-requires
interpret-requires c = record {
  begins = c.in_ok-counter.ensures.stands (site_table (hlds_of c.args.checked.now)) c.has_site_table.ensures (sym c.procedures-procs.ensures);
}

pub sums-requires : goal.sums-requires
sums-requires c = omega (arith, c.procedures-procs.ensures, c.in_ok-ran.ensures.whole.procedures)
