use Rattle.std.proofs.Common.{length, take}
use Rattle.md_cost.specs.Climbing.{AreSmall}
use Rattle.md_cost.specs.FileView.{module_at, procedure_at}
use Rattle.md_cost.proofs.KeySteps.{ByLinks}
use Rattle.md_cost.proofs.kinds.own_by_kind.Given as goal

abbrev pub invariant-loop-link : goal.invariant-loop-link
invariant-loop-link l = record {
  small : AreSmall (take l.link-index l.profile.links);
  procedures : ByLinks (λ r. procedure_at l.profile r.callee) l.profile.links (length l.profile.statics.procs) l.link-index l.own.procedures.items;
  modules : ByLinks (λ r. module_at l.profile r.callee) l.profile.links (length l.profile.statics.modules) l.link-index l.own.modules.items;
  sites : ByLinks (λ r. r.site) l.profile.links (length l.profile.statics.sites) l.link-index l.own.sites.items;
}
