use Rattle.std.proofs.Common.{◌≡◌, ◌<◌, ℕ, length, get_or, Some, None, refl, sym, ap, ◌∙◌}
use Rattle.std.proofs.lemmas.List.{get_or_default}
use Rattle.md_dynamic.specs.declared.link.LinkRow.{LinkRow}
use Rattle.md_cost.proofs.TreeSteps.{callees_there}
use Rattle.md_cost.proofs.ValidSteps.{valid_sound}
use Rattle.md_people.specs.Gathered.{callee_slot}
use Rattle.md_people.proofs.called.callee_slot.Goals as goal

pub returns-then-is_at : goal.returns-then-is_at
returns-then-is_at c row is =
    let f = c.args.loaded.now.profile in
    let own = c.index-links-number.result in
    let own_is : own ≡ get_or f.links c.args.link own = rw (c.links.ensures, c.profile-profile.ensures.profile, c.number.ensures) at c.index-links-number.is in
    let same : own ≡ row = own_is ∙ get_or_default f.links c.args.link own row c.requires.there ∙ sym is in
    let there : own.callee < length f.nodes = rw (← own_is) at (callees_there (length f.nodes) f.links (valid_sound f c.profile-profile.ensures.valid).links c.args.link own c.requires.there) in
    let node_is : c.index-nodes-number.result ≡ get_or f.nodes own.callee c.index-nodes-number.result = rw (c.nodes.ensures, c.profile-profile.ensures.profile, c.number-2.ensures) at c.index-nodes-number.is in
    let node : c.number-then-is_at.result ≡ get_or f.nodes own.callee 0 = c.number-then-is_at.ensures ∙ node_is ∙ get_or_default f.nodes own.callee c.index-nodes-number.result 0 there in
    let at = sym c.is_at.ensures ∙ c.if-is_at.true in
    let told : Some c.number-then-is_at.result ≡ callee_slot f c.args.site own = rw at (ap (λ (k : ℕ). Some k) node) in
    told ∙ ap (λ (r : LinkRow). callee_slot f c.args.site r) same

pub returns-else-is_at : goal.returns-else-is_at
returns-else-is_at c row is =
    let f = c.args.loaded.now.profile in
    let own = c.index-links-number.result in
    let own_is : own ≡ get_or f.links c.args.link own = rw (c.links.ensures, c.profile-profile.ensures.profile, c.number.ensures) at c.index-links-number.is in
    let same : own ≡ row = own_is ∙ get_or_default f.links c.args.link own row c.requires.there ∙ sym is in
    let at = sym c.is_at.ensures ∙ c.if-is_at.false in
    let told : None ≡ callee_slot f c.args.site own = rw at refl in
    told ∙ ap (λ (r : LinkRow). callee_slot f c.args.site r) same
