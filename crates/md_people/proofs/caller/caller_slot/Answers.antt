use Rattle.std.proofs.Common.{◌≡◌, ◌<◌, ℕ, length, get_or, Some, None, refl, sym, ap, ◌∙◌}
use Rattle.std.specs.Prelude.{unwrap_or}
use Rattle.std.proofs.lemmas.Bool.{eq-eqb, ne_eqb}
use Rattle.std.proofs.lemmas.List.{get_or_default}
use Rattle.md_dynamic.specs.declared.link.LinkRow.{LinkRow}
use Rattle.md_cost.proofs.TreeSteps.{callees_there}
use Rattle.md_cost.proofs.ValidSteps.{valid_sound}
use Rattle.md_people.specs.Gathered.{caller_slot}
use Rattle.md_people.proofs.caller.caller_slot.Goals as goal

pub returns-then-number : goal.returns-then-number
returns-then-number c row is =
    let f = c.args.loaded.now.profile in
    let own = c.index-links-number.result in
    let own_is : own ≡ get_or f.links c.args.link own = rw (c.links.ensures, c.profile-profile.ensures.profile, c.number.ensures) at c.index-links-number.is in
    let same : own ≡ row = own_is ∙ get_or_default f.links c.args.link own row c.requires.there ∙ sym is in
    let there : own.callee < length f.nodes = rw (← own_is) at (callees_there (length f.nodes) f.links (valid_sound f c.profile-profile.ensures.valid).links c.args.link own c.requires.there) in
    let node_is : c.index-nodes-number.result ≡ get_or f.nodes own.callee c.index-nodes-number.result = rw (c.nodes.ensures, c.profile-profile.ensures.profile, c.number-2.ensures) at c.index-nodes-number.is in
    let node : get_or f.nodes own.callee 0 ≡ c.args.id = get_or_default f.nodes own.callee 0 c.index-nodes-number.result there ∙ sym node_is ∙ sym c.number-3.ensures ∙ c.if-number.true ∙ c.number-4.ensures in
    let size : length c.sites.result.now ≡ length f.statics.sites = rw (c.sites.ensures, c.statics.ensures, c.profile-profile.ensures.profile) refl in
    let told : Some c.slot_of.result ≡ caller_slot f c.args.id own = rw (eq-eqb (get_or f.nodes own.callee 0) c.args.id node) (ap (λ (k : ℕ). Some k) (c.slot_of.ensures ∙ ap (λ (n : ℕ). unwrap_or own.site n) size)) in
    told ∙ ap (λ (r : LinkRow). caller_slot f c.args.id r) same

pub returns-else-number : goal.returns-else-number
returns-else-number c row is =
    let f = c.args.loaded.now.profile in
    let own = c.index-links-number.result in
    let own_is : own ≡ get_or f.links c.args.link own = rw (c.links.ensures, c.profile-profile.ensures.profile, c.number.ensures) at c.index-links-number.is in
    let same : own ≡ row = own_is ∙ get_or_default f.links c.args.link own row c.requires.there ∙ sym is in
    let there : own.callee < length f.nodes = rw (← own_is) at (callees_there (length f.nodes) f.links (valid_sound f c.profile-profile.ensures.valid).links c.args.link own c.requires.there) in
    let node_is : c.index-nodes-number.result ≡ get_or f.nodes own.callee c.index-nodes-number.result = rw (c.nodes.ensures, c.profile-profile.ensures.profile, c.number-2.ensures) at c.index-nodes-number.is in
    let node : get_or f.nodes own.callee 0 ≡ c.number-3.result = get_or_default f.nodes own.callee 0 c.index-nodes-number.result there ∙ sym node_is ∙ sym c.number-3.ensures in
    let apart : get_or f.nodes own.callee 0 ≡ c.args.id → ⊥ = λ e. c.if-number.false (sym node ∙ e ∙ sym c.number-4.ensures) in
    let told : None ≡ caller_slot f c.args.id own = rw (ne_eqb (get_or f.nodes own.callee 0) c.args.id apart) refl in
    told ∙ ap (λ (r : LinkRow). caller_slot f c.args.id r) same
