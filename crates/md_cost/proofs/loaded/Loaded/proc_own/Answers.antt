use Rattle.std.proofs.Common.{◌<◌, ℕ, length, get_or, Some, sym, ap, ◌∙◌, arith}
use Rattle.std.proofs.lemmas.List.{get_or_read}
use Rattle.md_cost.specs.declared.sums.Sums.{Sums}
use Rattle.md_cost.specs.SumOf.{sum_of, zero_sums}
use Rattle.md_cost.proofs.loaded.Loaded.proc_own.Goals as goal

pub returns : goal.returns
returns c =
    let kept = c.self.invariant.costs.own_procedures in
    let each = kept.each in
    let number = c.number.ensures in
    let there : c.args.id < length c.self.inside.profile.statics.procs = rw (← c.self.view_is) at c.requires in
    let read = get_or_read c.self.inside.costs.own.procedures.items c.number.result c.index.result.now (omega arith) c.index.ensures zero_sums in
    λ v m is. kept.is v c.args.id m (rw (← c.self.view_is) at is) there ∙ ap (λ (s : Sums). Some (sum_of s m)) (sym (read ∙ ap (λ (i : ℕ). get_or c.self.inside.costs.own.procedures.items i zero_sums) number))
