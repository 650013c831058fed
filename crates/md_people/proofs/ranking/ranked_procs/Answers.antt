use Rattle.std.proofs.Common.{ℕ, List, length, map, ap, ◌∙◌, arith}
use Rattle.std.proofs.lemmas.Grind.{common_steps}
use Rattle.std.specs.List.{range_with_len}
use Rattle.std.specs.declared.cmp.Reverse.{Reverse}
use Rattle.std.proofs.lemmas.List.{take_all}
use Rattle.md_people.specs.Hot.{sort_count}
use Rattle.md_people.proofs.Orders.{ranked_from}
use Rattle.md_people.proofs.ranking.ranked_procs.Goals as goal

pub returns : goal.returns
returns c = record {
  ranked = λ v is.
      let n = length c.args.loaded.now.profile.statics.procs in
      let counted = c.in_ok-counted.counted.items in
      let sorted = c.sort_unstable.new.self.items in
      let size = c.deref-pair-items.ensures.len in
      c.loop-pair.invariant ∙ ap (λ (xs : List (Reverse ℕ × ℕ)). map (λ (x : Reverse ℕ × ℕ). x.1) xs) (take_all c.loop-pair.pair-index c.deref-pair-items.result.now (omega arith) ∙ c.deref-pair-items.ensures.value)
      ∙ ranked_from (sort_count v c.args.by c.args.sort) (range_with_len 0 n) counted sorted c.in_ok-counted.ensures.ids (c.in_ok-counted.ensures.counts v is) c.sort_unstable.ensures.permutation c.sort_unstable.ensures.sorted;
}

pub loop-pair-preserved : goal.loop-pair-preserved
loop-pair-preserved c = grind (arith, common_steps)
