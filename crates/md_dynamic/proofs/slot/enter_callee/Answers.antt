use Rattle.std.proofs.Common.{sym, subst, MatchOption, ℕ, Some, cond, ◌≡◌}
use Rattle.std.specs.Map.{lookup}
use Rattle.md_static.specs.Tables.{callee_of}
use Rattle.md_dynamic.specs.Slots.{is_key}
use Rattle.md_dynamic.proofs.slot.enter_callee.Goals as goal

pub returns-in_ok-insert-in-HigherOrder-clause-callees : goal.returns-in_ok-insert-in-HigherOrder-clause-callees
returns-in_ok-insert-in-HigherOrder-clause-callees c =
    let told : (v s q : ℕ) → lookup (is_key v s q) c.insert.new.self.entries ≡ cond (is_key c.args.key.node c.args.key.site c.args.key.callee (record { node = v; site = s; callee = q })) (Some c.args.link) (lookup (is_key v s q) c.args.callees.now.entries) =
    λ v s q. c.in_ok-insert-in-HigherOrder.ensures.updates.0 (record { node = v; site = s; callee = q }) in
    subst (λ k. MatchOption (callee_of k) ((v s q : ℕ) → lookup (is_key v s q) c.insert.new.self.entries ≡ cond (is_key c.args.key.node c.args.key.site c.args.key.callee (record { node = v; site = s; callee = q })) (Some c.args.link) (lookup (is_key v s q) c.args.callees.now.entries)) (λ d. c.insert.new.self.entries ≡ c.args.callees.now.entries)) (sym c.in-HigherOrder.is) told
