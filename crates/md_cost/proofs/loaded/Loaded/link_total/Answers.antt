use Rattle.std.proofs.Common.{◌≡◌, ◌<◌, ℕ, length, get_or, Some, refl, sym, ap, ◌∙◌, arith}
use Rattle.std.specs.List.{slice_get}
use Rattle.std.proofs.lemmas.Option.{slice_get_read}
use Rattle.md_clique.proofs.Naming.{lt_clique_count}
use Rattle.md_cost.specs.View.{OfClique}
use Rattle.md_cost.proofs.ValidSteps.{valid_sound, caller_there}
use Rattle.md_cost.proofs.ViewSteps.{callee_there, some_cliques, link_root, link_inside, link_leaving}
use Rattle.md_cost.proofs.loaded.Loaded.link_total.Goals as goal

pub clique_total-requires : goal.clique_total-requires
clique_total-requires c = rw (← c.self.view_is) (some_cliques c.self.inside.profile (valid_sound c.self.inside.profile c.self.invariant.valid).links c.self.inside.tree.cliques c.self.inside.tree.entries.items c.self.invariant.tree)

pub returns-in_default : goal.returns-in_default
returns-in_default c =
    let there : c.args.link < length c.self.inside.profile.links = rw (← c.self.view_is) at c.requires in
    let row_is = rw (c.links-links.ensures, c.number.ensures) at c.index-links-number.is in
    let at : slice_get c.self.inside.profile.links c.args.link ≡ Some c.index-links-number.result = slice_get_read c.self.inside.profile.links (length c.self.inside.profile.links) c.args.link c.index-links-number.result refl there row_is in
    λ v m is. link_root c.self.inside.profile (valid_sound c.self.inside.profile c.self.invariant.valid).links c.self.inside.tree.cliques c.self.inside.tree.entries.items c.self.invariant.tree v (rw (← c.self.view_is) at is) c.args.link c.index-links-number.result m at c.in_default.is ∙ c.clique_total.ensures v m is

pub clique_of-clique-requires : goal.clique_of-clique-requires
clique_of-clique-requires c =
    let there : c.args.link < length c.self.inside.profile.links = rw (← c.self.view_is) at c.requires in
    let row_is = rw (c.links-links.ensures, c.number.ensures) at c.index-links-number.is in
    let at : slice_get c.self.inside.profile.links c.args.link ≡ Some c.index-links-number.result = slice_get_read c.self.inside.profile.links (length c.self.inside.profile.links) c.args.link c.index-links-number.result refl there row_is in
    let lt = callee_there c.self.inside.profile (valid_sound c.self.inside.profile c.self.invariant.valid).links c.self.inside.tree.cliques c.self.inside.tree.entries.items c.self.invariant.tree c.args.link c.index-links-number.result at in
    let size = c.self.invariant.tree.cliques_are.each in
    rw (← c.self.view_is) (omega arith)

pub clique_of-requires : goal.clique_of-requires
clique_of-requires c =
    let there : c.args.link < length c.self.inside.profile.links = rw (← c.self.view_is) at c.requires in
    let row_is = rw (c.links-links.ensures, c.number.ensures) at c.index-links-number.is in
    let at : slice_get c.self.inside.profile.links c.args.link ≡ Some c.index-links-number.result = slice_get_read c.self.inside.profile.links (length c.self.inside.profile.links) c.args.link c.index-links-number.result refl there row_is in
    rw (← c.self.view_is) (caller_there c.self.inside.profile c.self.invariant.valid c.args.link c.in-Some.caller c.index-links-number.result at c.in-Some.is)

pub clique_total-requires-else-clique_of-clique : goal.clique_total-requires-else-clique_of-clique
clique_total-requires-else-clique_of-clique c =
    let there : c.args.link < length c.self.inside.profile.links = rw (← c.self.view_is) at c.requires in
    let row_is = rw (c.links-links.ensures, c.number.ensures) at c.index-links-number.is in
    let at : slice_get c.self.inside.profile.links c.args.link ≡ Some c.index-links-number.result = slice_get_read c.self.inside.profile.links (length c.self.inside.profile.links) c.args.link c.index-links-number.result refl there row_is in
    let lt = callee_there c.self.inside.profile (valid_sound c.self.inside.profile c.self.invariant.valid).links c.self.inside.tree.cliques c.self.inside.tree.entries.items c.self.invariant.tree c.args.link c.index-links-number.result at in
    let below = lt_clique_count c.self.inside.tree.cliques c.index-links-number.result.callee lt in
    let clique : c.clique_of-clique.result ≡ get_or c.self.inside.tree.cliques c.index-links-number.result.callee 0 = rw (← c.self.view_is) at c.clique_of-clique.ensures.number in
    rw (← c.self.view_is) (omega arith)

pub returns-then-clique_of-clique : goal.returns-then-clique_of-clique
returns-then-clique_of-clique c =
    let there : c.args.link < length c.self.inside.profile.links = rw (← c.self.view_is) at c.requires in
    let row_is = rw (c.links-links.ensures, c.number.ensures) at c.index-links-number.is in
    let at : slice_get c.self.inside.profile.links c.args.link ≡ Some c.index-links-number.result = slice_get_read c.self.inside.profile.links (length c.self.inside.profile.links) c.args.link c.index-links-number.result refl there row_is in
    let clique : c.clique_of-clique.result ≡ get_or c.self.inside.tree.cliques c.index-links-number.result.callee 0 = rw (← c.self.view_is) at c.clique_of-clique.ensures.number in
    let from : c.clique_of.result ≡ get_or c.self.inside.tree.cliques c.in-Some.caller 0 = rw (← c.self.view_is) at c.clique_of.ensures.number in
    let test = c.if-clique_of-clique.true in
    λ v m is. link_inside c.self.inside.profile (valid_sound c.self.inside.profile c.self.invariant.valid).links c.self.inside.tree.cliques c.self.inside.tree.entries.items c.self.invariant.tree v (rw (← c.self.view_is) at is) c.args.link c.in-Some.caller c.index-links-number.result m at c.in-Some.is (omega arith)

pub returns-else-clique_of-clique : goal.returns-else-clique_of-clique
returns-else-clique_of-clique c =
    let there : c.args.link < length c.self.inside.profile.links = rw (← c.self.view_is) at c.requires in
    let row_is = rw (c.links-links.ensures, c.number.ensures) at c.index-links-number.is in
    let at : slice_get c.self.inside.profile.links c.args.link ≡ Some c.index-links-number.result = slice_get_read c.self.inside.profile.links (length c.self.inside.profile.links) c.args.link c.index-links-number.result refl there row_is in
    let clique : c.clique_of-clique.result ≡ get_or c.self.inside.tree.cliques c.index-links-number.result.callee 0 = rw (← c.self.view_is) at c.clique_of-clique.ensures.number in
    let from : c.clique_of.result ≡ get_or c.self.inside.tree.cliques c.in-Some.caller 0 = rw (← c.self.view_is) at c.clique_of.ensures.number in
    let test = c.if-clique_of-clique.false in
    λ v m is. link_leaving c.self.inside.profile (valid_sound c.self.inside.profile c.self.invariant.valid).links c.self.inside.tree.cliques c.self.inside.tree.entries.items c.self.invariant.tree v (rw (← c.self.view_is) at is) c.args.link c.in-Some.caller c.index-links-number.result m at c.in-Some.is (λ e. absurd (omega arith))
    ∙ ap (λ (k : ℕ). v.total (OfClique k) m) (sym clique) ∙ c.clique_total-else-clique_of-clique.ensures v m is
