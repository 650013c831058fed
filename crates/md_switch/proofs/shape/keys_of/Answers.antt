use Rattle.std.proofs.Common.{◌≡◌, ◌∙◌, ◌+◌, sym, ap, arith, List, ◌∷◌, [], ◌++◌, drop, true, Option, ℕ}
use Rattle.std.proofs.lemmas.Grind.{common_steps}
use Rattle.md_hlds.specs.Hlds.{hlds_of}
use Rattle.md_hlds.specs.HldsGoal.{goals_of, gathered}
use Rattle.md_hlds.specs.Switch.{Key, prepend_key, has_key, if_different, all_different}
use Rattle.md_modes.specs.Classes.{size_at}
use Rattle.md_switch.specs.Reading.{read_keys}
use Rattle.md_switch.specs.Keys.{key_of_code, keys_told, tested_told, keys_onto}
use Rattle.md_switch.proofs.KeyLemmas.{any_told, not_true, not_false, told_new, different_more, keys_more, keys_again, read_keys-step}
use Rattle.md_switch.proofs.shape.keys_of.Goals as goal

pub returns-then-not-is_new : goal.returns-then-not-is_new
returns-then-not-is_new c =
    let p = hlds_of c.args.moded.now in
    let x = c.args.var in
    let i = c.loop-arm.arm-index in
    let rest = read_keys p x (c.loop-arm.number + size_at p c.loop-arm.number) (gathered (goals_of (drop (i + 1) c.args.arms.now))) in
    let had = keys_told c.loop-arm.keys.keys in
    let k = key_of_code c.in-Some.key in
    let again : has_key k had ≡ true
    = sym (any_told c.in-Some.key c.loop-arm.keys.keys) ∙ not_false _ _ c.in_ok-is_new.ensures.added c.if-not-is_new.true in
    keys_again x k had rest again
    ∙ sym (c.loop-arm.invariant.all
    ∙ (ap (λ (r : Option (List Key)). if_different x (keys_onto had r)) (read_keys-step p x c.loop-arm.number c.args.arms.now i c.arm-item.result (omega arith) c.arm-item.is)
    ∙ (ap (λ (t : Option (ℕ × Key)). if_different x (keys_onto had (prepend_key x t rest))) (sym c.arm_key.ensures ∙ ap tested_told c.in-Some.is)
    ∙ ap (if_different x) (keys_more x c.in-Some.tested k had rest c.if-tested-var.false))))

pub loop-arm-preserved : goal.loop-arm-preserved
loop-arm-preserved c =
    let p = hlds_of c.args.moded.now in
    let x = c.args.var in
    let i = c.loop-arm.arm-index in
    let rest = read_keys p x (c.loop-arm.number + size_at p c.loop-arm.number) (gathered (goals_of (drop (i + 1) c.args.arms.now))) in
    let had = keys_told c.loop-arm.keys.keys in
    let k = key_of_code c.in-Some.key in
    let unknown = not_true _ _ c.in_ok-is_new.ensures.added c.if-not-is_new.false in
    let new : keys_told c.insert_full.new.self.keys ≡ had ++ k ∷ []
    = ap keys_told c.in_ok-is_new.ensures.keys ∙ told_new c.loop-arm.keys.keys c.in-Some.key unknown in
    let after : c.loop-arm.number + size_at p c.loop-arm.number ≡ c.after-next.result = sym c.after-next.ensures.after in
    record {
      all = c.loop-arm.invariant.all
          ∙ (ap (λ (r : Option (List Key)). if_different x (keys_onto had r)) (read_keys-step p x c.loop-arm.number c.args.arms.now i c.arm-item.result (omega arith) c.arm-item.is)
          ∙ (ap (λ (t : Option (ℕ × Key)). if_different x (keys_onto had (prepend_key x t rest))) (sym c.arm_key.ensures ∙ ap tested_told c.in-Some.is)
          ∙ (ap (if_different x) (keys_more x c.in-Some.tested k had rest c.if-tested-var.false)
          ∙ (ap (λ (js : List Key). if_different x (keys_onto js rest)) (sym new)
          ∙ ap (λ (n : ℕ). if_different x (keys_onto (keys_told c.insert_full.new.self.keys) (read_keys p x n (gathered (goals_of (drop (i + 1) c.args.arms.now)))))) after))));
      small = c.after-next.ensures.small;
      different = ap all_different new ∙ different_more had k c.loop-arm.invariant.different (sym (any_told c.in-Some.key c.loop-arm.keys.keys) ∙ unknown);
    }

pub returns : goal.returns
returns c = grind (arith, common_steps)

pub returns-in_default : goal.returns-in_default
returns-in_default c = grind (arith, common_steps)

pub returns-then-tested-var : goal.returns-then-tested-var
returns-then-tested-var c = grind (arith, common_steps)

pub same-keys-in-loop-arm : goal.same-keys-in-loop-arm
same-keys-in-loop-arm c = grind (arith, common_steps)
