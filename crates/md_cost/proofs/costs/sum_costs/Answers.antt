use Rattle.std.proofs.Common.{length, refl, arith}
use Rattle.std.proofs.lemmas.Grind.{common_steps}
use Rattle.md_cost.specs.FileView.{module_at, procedure_at, site_above}
use Rattle.md_cost.specs.View.{OfModule, OfProcedure, OfSite}
use Rattle.md_cost.proofs.GiveSteps.{gives_own, gives_totals}
use Rattle.md_cost.proofs.costs.sum_costs.Goals as goal

pub returns : goal.returns
returns c =
    let f = c.args.profile.now in
    let cliques = c.args.tree.now.cliques in
    let entries = c.args.tree.now.entries.items in
    record {
      incoming = rw (c.nodes.ensures, c.links.ensures) at c.in_ok-incoming.ensures;
      contexts = c.in_ok-contexts.ensures;
      small = c.in_ok-own.ensures.small;
      own_procedures = gives_own f c.requires.valid cliques entries c.requires.tree (λ q. OfProcedure q) (λ r. procedure_at f r.callee) (length f.statics.procs) (λ q m. refl) c.in_ok-own.own.procedures.items c.in_ok-own.ensures.procedures;
      procedures = gives_totals f c.requires.valid cliques entries c.requires.tree (λ q. OfProcedure q) (procedure_at f) (length f.statics.procs) (λ q m. refl) c.in_ok-totals.totals.procedures.items c.in_ok-totals.ensures.procedures;
      own_modules = gives_own f c.requires.valid cliques entries c.requires.tree (λ q. OfModule q) (λ r. module_at f r.callee) (length f.statics.modules) (λ q m. refl) c.in_ok-own.own.modules.items c.in_ok-own.ensures.modules;
      modules = gives_totals f c.requires.valid cliques entries c.requires.tree (λ q. OfModule q) (module_at f) (length f.statics.modules) (λ q m. refl) c.in_ok-totals.totals.modules.items c.in_ok-totals.ensures.modules;
      own_sites = gives_own f c.requires.valid cliques entries c.requires.tree (λ q. OfSite q) (λ r. r.site) (length f.statics.sites) (λ q m. refl) c.in_ok-own.own.sites.items c.in_ok-own.ensures.sites;
      sites = gives_totals f c.requires.valid cliques entries c.requires.tree (λ q. OfSite q) (site_above f cliques entries) (length f.statics.sites) (λ q m. refl) c.in_ok-totals.totals.sites.items c.in_ok-totals.ensures.sites;
    }

pub context_totals-requires-clause-incoming : goal.context_totals-requires-clause-incoming
context_totals-requires-clause-incoming c = rw (c.nodes.ensures, c.links.ensures) at c.in_ok-incoming.ensures

pub context_totals-requires-clause-small : goal.context_totals-requires-clause-small
context_totals-requires-clause-small c = c.in_ok-own.ensures.small

pub context_totals-requires-clause-rise : goal.context_totals-requires-clause-rise
context_totals-requires-clause-rise c = grind (arith, common_steps)

pub context_totals-requires-clause-tree : goal.context_totals-requires-clause-tree
context_totals-requires-clause-tree c = grind (arith, common_steps)

pub context_totals-requires-clause-valid : goal.context_totals-requires-clause-valid
context_totals-requires-clause-valid c = grind (arith, common_steps)

pub totals_by_kind-requires-clause-outermost : goal.totals_by_kind-requires-clause-outermost
totals_by_kind-requires-clause-outermost c = grind (arith, common_steps)

pub totals_by_kind-requires-clause-rise : goal.totals_by_kind-requires-clause-rise
totals_by_kind-requires-clause-rise c = grind (arith, common_steps)

pub totals_by_kind-requires-clause-small : goal.totals_by_kind-requires-clause-small
totals_by_kind-requires-clause-small c = grind (arith, common_steps)

pub totals_by_kind-requires-clause-totals : goal.totals_by_kind-requires-clause-totals
totals_by_kind-requires-clause-totals c = grind (arith, common_steps)

pub totals_by_kind-requires-clause-tree : goal.totals_by_kind-requires-clause-tree
totals_by_kind-requires-clause-tree c = grind (arith, common_steps)

pub totals_by_kind-requires-clause-valid : goal.totals_by_kind-requires-clause-valid
totals_by_kind-requires-clause-valid c = grind (arith, common_steps)

pub thread_incoming-requires-clause-few : goal.thread_incoming-requires-clause-few
thread_incoming-requires-clause-few c = grind (arith, common_steps)

pub own_by_kind-requires : goal.own_by_kind-requires
own_by_kind-requires c = grind (arith, common_steps)

pub returns-in_err-contexts : goal.returns-in_err-contexts
returns-in_err-contexts c = grind (arith, common_steps)

pub returns-in_err-incoming : goal.returns-in_err-incoming
returns-in_err-incoming c = grind (arith, common_steps)

pub returns-in_err-own : goal.returns-in_err-own
returns-in_err-own c = grind (arith, common_steps)

pub returns-in_err-totals : goal.returns-in_err-totals
returns-in_err-totals c = grind (arith, common_steps)
