use Rattle.std.proofs.Common.{◌≡◌, ◌∙◌, sym, ap, arith, cond, [], ◌∷◌, ◌++◌, false, append-nil}
use Rattle.md_inst.specs.Instantiation.{known_at}
use Rattle.md_inst.specs.Kinds.{inst_map_of}
use Rattle.md_inst.proofs.Insts.{length-inst_map_of}
use Rattle.md_modes.specs.Shares.{unsettled}
use Rattle.md_modes.proofs.ShareLoops.{begun-loop, begun-end}
use Rattle.md_modes.proofs.joined.begun.Goals.{then-is_unsettled+in_ok-push, else-is_unsettled}
use Rattle.md_modes.proofs.joined.begun.Goals as goal

pub loop-number-preserved : goal.loop-number-preserved
loop-number-preserved c =
    let s = inst_map_of c.args.before.now in
    let r = inst_map_of c.args.insts.now in
    let i = c.loop-number.number in
    let size = length-inst_map_of c.args.insts.now in
    let is : unsettled (known_at s i) (known_at r i) ≡ c.is_unsettled.result = rw (← c.inst_in.ensures, ← c.inst_in-in-loop-number.ensures) (sym c.is_unsettled.ensures) in
    elim c.if-is_unsettled.branch [
      | then-is_unsettled+in_ok-push w ↦
          rw w.shared-is
          (begun-loop c.loop-number.shared.items w.push.new.self.items _ s r i (omega (arith, size, c.loop-number-test.true))
          (w.in_ok-push.ensures.items ∙ ap (λ b. c.loop-number.shared.items ++ cond b (record { number = i; unlike = false } ∷ []) []) (sym (is ∙ w.if-is_unsettled.true))) c.loop-number.invariant)
      | else-is_unsettled w ↦
          rw w.shared-is
          (begun-loop c.loop-number.shared.items c.loop-number.shared.items _ s r i (omega (arith, size, c.loop-number-test.true))
          (sym (append-nil c.loop-number.shared.items) ∙ ap (λ b. c.loop-number.shared.items ++ cond b (record { number = i; unlike = false } ∷ []) []) (sym (is ∙ w.if-is_unsettled.false))) c.loop-number.invariant)
    ]

pub returns : goal.returns
returns c =
    begun-end c.loop-number.shared.items _ (inst_map_of c.args.before.now) (inst_map_of c.args.insts.now) c.loop-number.number (omega (arith, length-inst_map_of c.args.insts.now)) c.loop-number.invariant
