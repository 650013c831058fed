use Rattle.std.proofs.Common.{refl, arith, ◌<◌, length}
use Rattle.md_inst.specs.Kinds.{inst_map_of}
use Rattle.md_inst.proofs.Insts.{length-inst_map_of, known_at-inst}
use Rattle.md_modes.proofs.ViewLoops.{put-loop, put-skip}
use Rattle.md_modes.proofs.view.put_all.Goals.{then-number-view, else-number-view}
use Rattle.md_modes.proofs.view.put_all.Goals as goal

pub loop-number-preserved : goal.loop-number-preserved
loop-number-preserved c =
    let i = c.loop-number.number in
    let ks = inst_map_of c.args.view.now in
    let size = length-inst_map_of c.args.view.now in
    elim c.if-number-view.branch [
      | then-number-view w ↦
          let inside : i < length c.args.view.now = w.if-number-view.true in
          rw w.insts-is
          (put-loop c.args.places.now ks i _ _ (inst_map_of c.loop-number.insts.items) (inst_map_of w.set_inst.new.insts.items) _
          c.loop-number-test.true (omega (arith, inside, size)) refl
          (known_at-inst c.args.view.now i w.index-view-number.result inside w.index-view-number.is) w.set_inst.ensures c.loop-number.invariant)
      | else-number-view w ↦
          let past = w.if-number-view.false in
          rw w.insts-is (put-skip c.args.places.now ks i (inst_map_of c.loop-number.insts.items) _ (omega (arith, past, size)) c.loop-number.invariant)
    ]
