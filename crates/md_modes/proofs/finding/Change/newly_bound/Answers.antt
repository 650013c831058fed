use Rattle.std.proofs.Common.{◌≡◌, ◌∙◌, sym, ap, arith, cond, [], ◌∷◌, ◌++◌, append-nil, length, slice_index}
use Rattle.md_inst.specs.Instantiation.{known_at, is_newly_bound}
use Rattle.md_inst.specs.Kinds.{inst_map_of}
use Rattle.md_inst.proofs.Insts.{length-inst_map_of}
use Rattle.md_modes.proofs.ViewLoops.{picked-loop, picked-end}
use Rattle.md_modes.proofs.finding.Change.newly_bound.Goals.{then-is_newly_bound+in_ok-push, else-is_newly_bound}
use Rattle.md_modes.proofs.finding.Change.newly_bound.Goals as goal

pub loop-number-preserved : goal.loop-number-preserved
loop-number-preserved c =
    let xs = c.args.self.places.now in
    let s = inst_map_of c.args.self.before.now in
    let r = inst_map_of c.args.self.after.now in
    let i = c.loop-number.number in
    let size : length s ≡ length xs = length-inst_map_of c.args.self.before.now ∙ c.args.self.before_all in
    let size' : length r ≡ length xs = length-inst_map_of c.args.self.after.now ∙ c.args.self.after_all in
    let is : is_newly_bound (known_at s i) (known_at r i) ≡ c.is_newly_bound.result =
    rw (← c.inst_in.ensures, ← c.inst_in-in-loop-number.ensures) (sym c.is_newly_bound.ensures) in
    elim c.if-is_newly_bound.branch [
      | then-is_newly_bound+in_ok-push w ↦
          rw w.bound-is
          (picked-loop c.loop-number.bound.items w.push.new.self.items _ xs s r i c.loop-number-test.true size size'
          (w.in_ok-push.ensures.items ∙ ap (λ b. c.loop-number.bound.items ++ cond b (slice_index xs i ∷ []) []) (sym (is ∙ w.if-is_newly_bound.true))) c.loop-number.invariant)
      | else-is_newly_bound w ↦
          rw w.bound-is
          (picked-loop c.loop-number.bound.items c.loop-number.bound.items _ xs s r i c.loop-number-test.true size size'
          (sym (append-nil c.loop-number.bound.items) ∙ ap (λ b. c.loop-number.bound.items ++ cond b (slice_index xs i ∷ []) []) (sym (is ∙ w.if-is_newly_bound.false))) c.loop-number.invariant)
    ]

pub returns : goal.returns
returns c =
    picked-end c.loop-number.bound.items _ c.args.self.places.now (inst_map_of c.args.self.before.now) (inst_map_of c.args.self.after.now) c.loop-number.number
    (omega arith) c.loop-number.invariant
