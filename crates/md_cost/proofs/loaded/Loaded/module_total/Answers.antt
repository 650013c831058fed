use Rattle.std.proofs.Common.{◌<◌, length, Some, sym, ap, ◌∙◌, arith}
use Rattle.std.proofs.lemmas.List.{get_or_read}
use Rattle.md_cost.specs.declared.sums.Sums.{Sums}
use Rattle.md_cost.specs.SumOf.{sum_of, zero_sums}
use Rattle.md_cost.proofs.loaded.Loaded.module_total.Goals as goal

pub returns : goal.returns
returns c =
    let kept = c.self.invariant.costs.modules in
    let each = kept.each in
    let there : c.args.id < length c.self.inside.profile.statics.modules = rw (← c.self.view_is) at c.requires in
    let read = get_or_read c.self.inside.costs.totals.modules.items c.args.id c.index.result.now (omega arith) c.index.ensures zero_sums in
    λ v m is. kept.is v c.args.id m (rw (← c.self.view_is) at is) there ∙ ap (λ (s : Sums). Some (sum_of s m)) (sym (read))
