use Rattle.std.proofs.Common.{◌≡◌, ◌<◌, ◌≤◌, ℕ, length, get_or, ap, ◌∙◌, arith}
use Rattle.std.proofs.lemmas.List.{get_or_read}
use Rattle.md_clique.specs.Cliques.{clique_count}
use Rattle.md_cost.proofs.ValidSteps.{valid_sound}
use Rattle.md_cost.proofs.ViewSteps.{some_cliques}
use Rattle.md_people.specs.Depths.{HasTop, start_up}
use Rattle.md_people.proofs.DepthSteps.{first_depths, more_depths, up_lower, up_there}
use Rattle.md_people.proofs.depths.depths_of.Goals as goal

pub top_of-top-requires-clause-there : goal.top_of-top-requires-clause-there
top_of-top-requires-clause-there c =
    let l = c.args.loaded.now in
    let f = l.profile in
    let sound = (valid_sound f c.profile-profile.ensures.valid).links in
    let tree = c.profile-profile.ensures.loaded.tree in
    let size : length l.cliques ≡ length f.nodes = tree.cliques_are.each in
    let k = c.loop-clique.clique in
    let low : 1 ≤ k = c.loop-clique.auto.clique in
    let count = c.clique_count-clique-end.ensures.count in
    let few : k < clique_count l.cliques = (let lt = c.loop-clique-test.true in omega arith) in
    let start : c.entered_from-start.result ≡ start_up l k = c.entered_from-start.ensures in
    let lower = up_lower l sound tree k low few in
    let there = up_there l sound tree k low few in
    rw start there

pub top_of-top-requires-clause-known : goal.top_of-top-requires-clause-known
top_of-top-requires-clause-known c =
    let l = c.args.loaded.now in
    let f = l.profile in
    let sound = (valid_sound f c.profile-profile.ensures.valid).links in
    let tree = c.profile-profile.ensures.loaded.tree in
    let size : length l.cliques ≡ length f.nodes = tree.cliques_are.each in
    let k = c.loop-clique.clique in
    let low : 1 ≤ k = c.loop-clique.auto.clique in
    let count = c.clique_count-clique-end.ensures.count in
    let few : k < clique_count l.cliques = (let lt = c.loop-clique-test.true in omega arith) in
    let start : c.entered_from-start.result ≡ start_up l k = c.entered_from-start.ensures in
    let lower = up_lower l sound tree k low few in
    let there = up_there l sound tree k low few in
    rw start lower

pub clique_of-requires : goal.clique_of-requires
clique_of-requires c =
    let l = c.args.loaded.now in
    let f = l.profile in
    let sound = (valid_sound f c.profile-profile.ensures.valid).links in
    let tree = c.profile-profile.ensures.loaded.tree in
    let size : length l.cliques ≡ length f.nodes = tree.cliques_are.each in
    let k = c.loop-clique.clique in
    let low : 1 ≤ k = c.loop-clique.auto.clique in
    let count = c.clique_count-clique-end.ensures.count in
    let few : k < clique_count l.cliques = (let lt = c.loop-clique-test.true in omega arith) in
    let start : c.entered_from-start.result ≡ start_up l k = c.entered_from-start.ensures in
    let lower = up_lower l sound tree k low few in
    let there = up_there l sound tree k low few in
    rw start there

pub index-above-requires : goal.index-above-requires
index-above-requires c =
    let l = c.args.loaded.now in
    let f = l.profile in
    let sound = (valid_sound f c.profile-profile.ensures.valid).links in
    let tree = c.profile-profile.ensures.loaded.tree in
    let size : length l.cliques ≡ length f.nodes = tree.cliques_are.each in
    let k = c.loop-clique.clique in
    let low : 1 ≤ k = c.loop-clique.auto.clique in
    let count = c.clique_count-clique-end.ensures.count in
    let few : k < clique_count l.cliques = (let lt = c.loop-clique-test.true in omega arith) in
    let start : c.entered_from-start.result ≡ start_up l k = c.entered_from-start.ensures in
    let lower = up_lower l sound tree k low few in
    let there = up_there l sound tree k low few in
    let each = c.loop-clique.invariant.each in
    let is : c.clique_of.result ≡ get_or l.cliques (start_up l k) 0 = c.clique_of.ensures.number ∙ ap (λ (d : ℕ). get_or l.cliques d 0) start in
    omega arith

pub overflow_add-above : goal.overflow_add-above
overflow_add-above c =
    let l = c.args.loaded.now in
    let f = l.profile in
    let sound = (valid_sound f c.profile-profile.ensures.valid).links in
    let tree = c.profile-profile.ensures.loaded.tree in
    let size : length l.cliques ≡ length f.nodes = tree.cliques_are.each in
    let k = c.loop-clique.clique in
    let low : 1 ≤ k = c.loop-clique.auto.clique in
    let count = c.clique_count-clique-end.ensures.count in
    let few : k < clique_count l.cliques = (let lt = c.loop-clique-test.true in omega arith) in
    let start : c.entered_from-start.result ≡ start_up l k = c.entered_from-start.ensures in
    let lower = up_lower l sound tree k low few in
    let there = up_there l sound tree k low few in
    let each = c.loop-clique.invariant.each in
    let is : c.clique_of.result ≡ get_or l.cliques (start_up l k) 0 = c.clique_of.ensures.number ∙ ap (λ (d : ℕ). get_or l.cliques d 0) start in
    let at = get_or_read c.loop-clique.places.items c.clique_of.result c.index-above.result.now (omega arith) c.index-above.ensures 0 in
    let small = c.loop-clique.invariant.low c.clique_of.result (omega arith) in
    let fits = c.clique_count-clique-end.type_inv in
    omega arith

pub loop-clique-init : goal.loop-clique-init
loop-clique-init c =
    let l = c.args.loaded.now in
    let sound = (valid_sound l.profile c.profile-profile.ensures.valid).links in
    rw (c.in_ok-push.ensures.items, c.in_ok-push-2.ensures.items, c.new-places.ensures.items, c.new-tops.ensures.items) (first_depths l sound c.profile-profile.ensures.loaded.tree)

pub loop-clique-preserved : goal.loop-clique-preserved
loop-clique-preserved c =
    let l = c.args.loaded.now in
    let f = l.profile in
    let sound = (valid_sound f c.profile-profile.ensures.valid).links in
    let tree = c.profile-profile.ensures.loaded.tree in
    let size : length l.cliques ≡ length f.nodes = tree.cliques_are.each in
    let k = c.loop-clique.clique in
    let low : 1 ≤ k = c.loop-clique.auto.clique in
    let count = c.clique_count-clique-end.ensures.count in
    let few : k < clique_count l.cliques = (let lt = c.loop-clique-test.true in omega arith) in
    let start : c.entered_from-start.result ≡ start_up l k = c.entered_from-start.ensures in
    let lower = up_lower l sound tree k low few in
    let there = up_there l sound tree k low few in
    let each = c.loop-clique.invariant.each in
    let is : c.clique_of.result ≡ get_or l.cliques (start_up l k) 0 = c.clique_of.ensures.number ∙ ap (λ (d : ℕ). get_or l.cliques d 0) start in
    let at = get_or_read c.loop-clique.places.items c.clique_of.result c.index-above.result.now (omega arith) c.index-above.ensures 0 in
    let above : c.index-above.result.now ≡ get_or c.loop-clique.places.items (get_or l.cliques (start_up l k) 0) 0 = at ∙ ap (λ (j : ℕ). get_or c.loop-clique.places.items j 0) is in
    let top : HasTop l (start_up l k) c.number.result = rw (c.number.ensures, ← start) c.top_of-top.ensures in
    rw (c.in_ok-push-4.ensures.items, c.in_ok-push-3.ensures.items) (more_depths l sound tree k c.loop-clique.places.items c.loop-clique.tops.items c.number.result c.index-above.result.now low few c.loop-clique.invariant top above)

pub returns : goal.returns
returns c =
    let l = c.args.loaded.now in
    let sound = (valid_sound l.profile c.profile-profile.ensures.valid).links in
    let some = some_cliques l.profile sound l.cliques l.entries c.profile-profile.ensures.loaded.tree in
    let count = c.clique_count-clique-end.ensures.count in
    let last : c.loop-clique.clique ≤ c.clique_count-clique-end.result = c.loop-clique.auto.clique-end (omega arith) in
    let past = c.loop-clique-test.false in
    let end : c.loop-clique.clique ≡ clique_count l.cliques = omega arith in
    rw end at c.loop-clique.invariant
