use Rattle.std.proofs.Common.{◌≡◌, ◌∙◌, sym, arith, length}
use Rattle.md_inst.specs.Kinds.{inst_map_of}
use Rattle.md_inst.proofs.Insts.{length-inst_map_of}
use Rattle.md_modes.proofs.ViewLoops.{state-found, state-missed, state-end}
use Rattle.md_modes.proofs.finding.Change.has_state.Goals as goal

pub returns-then-is_either_state : goal.returns-then-is_either_state
returns-then-is_either_state c =
    let s = inst_map_of c.args.self.before.now in
    let r = inst_map_of c.args.self.after.now in
    let i = c.loop-number.number in
    let size : length s ≡ length c.args.self.places.now = length-inst_map_of c.args.self.before.now ∙ c.args.self.before_all in
    let size' : length r ≡ length c.args.self.places.now = length-inst_map_of c.args.self.after.now ∙ c.args.self.after_all in
    state-found s r i (omega (arith, size, c.loop-number-test.true)) (size' ∙ sym size)
    (rw (← c.inst_in.ensures, ← c.inst_in-in-loop-number.ensures) (sym c.is_either_state.ensures ∙ c.if-is_either_state.true)) c.loop-number.invariant

pub loop-number-preserved : goal.loop-number-preserved
loop-number-preserved c =
    let s = inst_map_of c.args.self.before.now in
    let r = inst_map_of c.args.self.after.now in
    let i = c.loop-number.number in
    let size : length s ≡ length c.args.self.places.now = length-inst_map_of c.args.self.before.now ∙ c.args.self.before_all in
    let size' : length r ≡ length c.args.self.places.now = length-inst_map_of c.args.self.after.now ∙ c.args.self.after_all in
    state-missed s r i (omega (arith, size, c.loop-number-test.true)) (size' ∙ sym size)
    (rw (← c.inst_in.ensures, ← c.inst_in-in-loop-number.ensures) (sym c.is_either_state.ensures ∙ c.if-is_either_state.false)) c.loop-number.invariant

pub returns : goal.returns
returns c =
    let s = inst_map_of c.args.self.before.now in
    let size : length s ≡ length c.args.self.places.now = length-inst_map_of c.args.self.before.now ∙ c.args.self.before_all in
    state-end s (inst_map_of c.args.self.after.now) c.loop-number.number (omega (arith, size)) c.loop-number.invariant
