use Rattle.std.proofs.Common.{length}
use Rattle.md_cost.specs.FileView.{module_at, procedure_at, site_above}
use Rattle.md_cost.specs.Walking.{marked}
use Rattle.md_cost.proofs.KeySteps.{Grouped}
use Rattle.md_cost.proofs.kinds.totals_by_kind.Given as goal

abbrev pub invariant-loop-place : goal.invariant-loop-place
invariant-loop-place l = record {
  procedures : Grouped (marked (procedure_at l.profile) l.outermost.procedures.items) l.totals (length l.profile.statics.procs) l.place l.sums.procedures.items;
  modules : Grouped (marked (module_at l.profile) l.outermost.modules.items) l.totals (length l.profile.statics.modules) l.place l.sums.modules.items;
  sites : Grouped (marked (site_above l.profile l.tree.cliques l.tree.entries.items) l.outermost.sites.items) l.totals (length l.profile.statics.sites) l.place l.sums.sites.items;
}
