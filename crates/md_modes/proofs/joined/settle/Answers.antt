use Rattle.std.proofs.Common.{◌≡◌, ◌∙◌, refl, ap, arith, length}
use Rattle.md_inst.specs.Instantiation.{put}
use Rattle.md_inst.specs.Kinds.{inst_map_of}
use Rattle.md_modes.specs.Joins.{end_of}
use Rattle.md_modes.specs.Shares.{common_at}
use Rattle.md_modes.proofs.InstantiationLemmas.{length-put}
use Rattle.md_modes.proofs.ShareLoops.{settled-more, settled-end}
use Rattle.md_modes.proofs.joined.settle.Goals as goal

pub loop-place-preserved : goal.loop-place-preserved
loop-place-preserved c =
    let now = inst_map_of c.loop-place.common.items in
    let n = c.number_of-number.result in
    let q = end_of c.args.end in
    let is_d : inst_map_of c.set_inst_in.new.insts.items ≡ put now n (common_at now q n) =
    c.set_inst_in.ensures ∙ ap (λ k. put now n k) (c.common-inst.ensures ∙ rw (c.inst_in.ensures, c.inst.ensures, c.deref.ensures.value) refl) in (
      ap length is_d ∙ (length-put now n (common_at now q n) ∙ c.loop-place.invariant.0),
      λ rising size x inside.
          settled-more c.args.end (inst_map_of c.args.common.now.items) now (inst_map_of c.set_inst_in.new.insts.items) c.args.end.own.now c.loop-place.place-index _ n x
          c.loop-place-test.true refl (c.loop-place.invariant.0 ∙ size) inside (c.number_of-number.ensures.found rising x inside) (c.number_of-number.ensures.there rising) is_d
          (c.loop-place.invariant.1 rising size x inside),
    )

pub returns-clause-settled : goal.returns-clause-settled
returns-clause-settled c rising size x inside =
    settled-end c.args.end (inst_map_of c.args.common.now.items) (inst_map_of c.loop-place.common.items) c.args.end.own.now c.loop-place.place-index x
    (omega arith) (c.loop-place.invariant.1 rising size x inside)
