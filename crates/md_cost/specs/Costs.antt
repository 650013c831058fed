-- The sums of a profile, row kind by row kind.
use Rattle.std.specs.Prelude.{ℕ, List, length}
use Rattle.md_dynamic.specs.Profile.{ProfileRows}
use Rattle.md_cost.specs.declared.costs.Costs.{Costs}
use Rattle.md_cost.specs.Climbing.{AreSmall, AreTotals}
use Rattle.md_cost.specs.FileView.{Gives}
use Rattle.md_cost.specs.Incoming.{AreIncoming}
use Rattle.md_cost.specs.View.{OfProcedure, OfSite, OfModule}

pub record AreCosts (f : ProfileRows) (cliques entries : List ℕ) (costs : Costs) : Type 0 where
  pub incoming : AreIncoming (length f.nodes) f.links costs.incoming.last.items costs.incoming.before.items
  pub contexts : AreTotals cliques entries f.links costs.contexts.items
  pub small : AreSmall f.links
  pub own_procedures : Gives f (λ v. v.own) OfProcedure (length f.statics.procs) costs.own.procedures.items
  pub procedures : Gives f (λ v. v.total) OfProcedure (length f.statics.procs) costs.totals.procedures.items
  pub own_modules : Gives f (λ v. v.own) OfModule (length f.statics.modules) costs.own.modules.items
  pub modules : Gives f (λ v. v.total) OfModule (length f.statics.modules) costs.totals.modules.items
  pub own_sites : Gives f (λ v. v.own) OfSite (length f.statics.sites) costs.own.sites.items
  pub sites : Gives f (λ v. v.total) OfSite (length f.statics.sites) costs.totals.sites.items
