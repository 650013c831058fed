use Rattle.std.proofs.Common.{◌≡◌, ◌<◌, ◌++◌, ◌∷◌, [], ℕ, List, length, Some, sym, ap, ◌∙◌, arith}
use Rattle.md_clique.specs.Cliques.{clique_count}
use Rattle.md_cost.proofs.ViewSteps.{view_cliques}
use Rattle.md_cost.proofs.ValidSteps.{valid_sound}
use Rattle.md_people.specs.Counts.{whole_of}
use Rattle.md_people.specs.Tree.{clique_total}
use Rattle.md_tree.specs.declared.picture.CliqueBox.{CliqueBox}
use Rattle.md_tree.specs.declared.picture.Twig.{Twig}
use Rattle.md_tree.specs.Children.{AreChildren, Child}
use Rattle.md_tree.specs.Picture.{millionths, width_of}
use Rattle.md_tree.specs.Rests.{IsNext}
use Rattle.md_tree.proofs.Boxes.{box_of}
use Rattle.md_tree.proofs.Left.{of_next}
use Rattle.md_tree.proofs.TwigSteps.{fewer_hidden, fewer_shown, fits_hidden, fits_next, fits_shown, open_hidden, open_shown, room_below, twigs_hidden, twigs_shown}
use Rattle.md_tree.proofs.picture.grow.Goals as goal

pub returns-then-not-is_shown-clause-boxes : goal.returns-then-not-is_shown-clause-boxes
returns-then-not-is_shown-clause-boxes c = λ v viewed.
    let l = c.args.loaded.now in
    let n = clique_count l.cliques in
    let cs = c.args.children.now in
    let t = c.args.twig in
    let by = c.args.scale.by in
    let least = c.args.scale.least in
    let child : Child = (c.in-Some._parent, c.in-Some.total, c.in-Some.clique) in
    let next : IsNext cs t.rest child = c.in-Some.ensures in
    let told = c.requires.view v viewed in
    let total = of_next (λ (x : Child). x.1.0 ≡ clique_total v by x.2) cs t.rest child told.totals next in
    let whole = c.requires.whole v viewed in
    let hidden = sym (c.is_shown.ensures v child.2 whole total) ∙ c.if-not-is_shown.true in
    let after = c.in_ok-push.ensures.items ∙ ap (λ (d : Twig). c.args.twigs.now.items ++ d ∷ []) c.past_hidden.ensures in
    open_hidden v by least cs t child next c.args.boxes.now.items c.args.twigs.now.items c.push.new.self.items hidden after

pub returns-then-not-is_shown-clause-twigs : goal.returns-then-not-is_shown-clause-twigs
returns-then-not-is_shown-clause-twigs c =
    let l = c.args.loaded.now in
    let n = clique_count l.cliques in
    let cs = c.args.children.now in
    let t = c.args.twig in
    let by = c.args.scale.by in
    let least = c.args.scale.least in
    let child : Child = (c.in-Some._parent, c.in-Some.total, c.in-Some.clique) in
    let next : IsNext cs t.rest child = c.in-Some.ensures in
    let after = c.in_ok-push.ensures.items ∙ ap (λ (d : Twig). c.args.twigs.now.items ++ d ∷ []) c.past_hidden.ensures in
    twigs_hidden n cs c.requires.children t c.requires.twig child next c.args.twigs.now.items c.push.new.self.items c.requires.twigs after

pub returns-then-not-is_shown-clause-fit : goal.returns-then-not-is_shown-clause-fit
returns-then-not-is_shown-clause-fit c = λ v viewed.
    let l = c.args.loaded.now in
    let n = clique_count l.cliques in
    let cs = c.args.children.now in
    let t = c.args.twig in
    let by = c.args.scale.by in
    let least = c.args.scale.least in
    let child : Child = (c.in-Some._parent, c.in-Some.total, c.in-Some.clique) in
    let next : IsNext cs t.rest child = c.in-Some.ensures in
    let told = c.requires.view v viewed in
    let total = of_next (λ (x : Child). x.1.0 ≡ clique_total v by x.2) cs t.rest child told.totals next in
    let whole = c.requires.whole v viewed in
    let hidden = sym (c.is_shown.ensures v child.2 whole total) ∙ c.if-not-is_shown.true in
    let after = c.in_ok-push.ensures.items ∙ ap (λ (d : Twig). c.args.twigs.now.items ++ d ∷ []) c.past_hidden.ensures in
    fits_hidden v by least cs t child next c.args.twigs.now.items c.push.new.self.items (c.requires.fits v viewed) (c.requires.all_fit v viewed) hidden after

pub returns-then-not-is_shown-clause-work : goal.returns-then-not-is_shown-clause-work
returns-then-not-is_shown-clause-work c =
    let l = c.args.loaded.now in
    let n = clique_count l.cliques in
    let cs = c.args.children.now in
    let t = c.args.twig in
    let by = c.args.scale.by in
    let least = c.args.scale.least in
    let child : Child = (c.in-Some._parent, c.in-Some.total, c.in-Some.clique) in
    let next : IsNext cs t.rest child = c.in-Some.ensures in
    let after = c.in_ok-push.ensures.items ∙ ap (λ (d : Twig). c.args.twigs.now.items ++ d ∷ []) c.past_hidden.ensures in
    fewer_hidden n cs c.requires.children t c.requires.twig child next c.args.twigs.now.items c.push.new.self.items c.requires.twigs after

pub millionths-width-requires-clause-fits : goal.millionths-width-requires-clause-fits
millionths-width-requires-clause-fits c =
    let l = c.args.loaded.now in
    let n = clique_count l.cliques in
    let cs = c.args.children.now in
    let t = c.args.twig in
    let by = c.args.scale.by in
    let least = c.args.scale.least in
    let child : Child = (c.in-Some._parent, c.in-Some.total, c.in-Some.clique) in
    let next : IsNext cs t.rest child = c.in-Some.ensures in
    let v = c.profile-profile.ensures.viewed.0 in
    let viewed = c.profile-profile.ensures.viewed.1 in
    let told = c.requires.view v viewed in
    let total = of_next (λ (x : Child). x.1.0 ≡ clique_total v by x.2) cs t.rest child told.totals next in
    let whole = c.requires.whole v viewed in
    let shown = sym (c.is_shown.ensures v child.2 whole total) ∙ c.if-not-is_shown.false in
    let part : millionths c.in-Some.total.0 c.args.scale.whole ≡ width_of v by child.2 = ap (λ (m : ℕ). millionths m c.args.scale.whole) total ∙ ap (λ (m : ℕ). millionths (clique_total v by child.2) m) whole in
    let small = fits_next v by least cs t child next (c.requires.fits v viewed) shown in
    omega arith

pub past_box-requires-clause-left : goal.past_box-requires-clause-left
past_box-requires-clause-left c =
    let l = c.args.loaded.now in
    let n = clique_count l.cliques in
    let cs = c.args.children.now in
    let t = c.args.twig in
    let by = c.args.scale.by in
    let least = c.args.scale.least in
    let child : Child = (c.in-Some._parent, c.in-Some.total, c.in-Some.clique) in
    let next : IsNext cs t.rest child = c.in-Some.ensures in
    let v = c.profile-profile.ensures.viewed.0 in
    let viewed = c.profile-profile.ensures.viewed.1 in
    let told = c.requires.view v viewed in
    let total = of_next (λ (x : Child). x.1.0 ≡ clique_total v by x.2) cs t.rest child told.totals next in
    let whole = c.requires.whole v viewed in
    let shown = sym (c.is_shown.ensures v child.2 whole total) ∙ c.if-not-is_shown.false in
    let part : millionths c.in-Some.total.0 c.args.scale.whole ≡ width_of v by child.2 = ap (λ (m : ℕ). millionths m c.args.scale.whole) total ∙ ap (λ (m : ℕ). millionths (clique_total v by child.2) m) whole in
    let is = c.millionths-width.ensures in
    let small = fits_next v by least cs t child next (c.requires.fits v viewed) shown in
    omega arith

pub overflow_add-twig : goal.overflow_add-twig
overflow_add-twig c =
    let l = c.args.loaded.now in
    let n = clique_count l.cliques in
    let cs = c.args.children.now in
    let t = c.args.twig in
    let by = c.args.scale.by in
    let least = c.args.scale.least in
    let child : Child = (c.in-Some._parent, c.in-Some.total, c.in-Some.clique) in
    let next : IsNext cs t.rest child = c.in-Some.ensures in
    let below = room_below n cs c.requires.children t c.requires.twig child next in
    omega arith

pub returns-clause-boxes : goal.returns-clause-boxes
returns-clause-boxes c = λ v viewed.
    let l = c.args.loaded.now in
    let n = clique_count l.cliques in
    let cs = c.args.children.now in
    let t = c.args.twig in
    let by = c.args.scale.by in
    let least = c.args.scale.least in
    let child : Child = (c.in-Some._parent, c.in-Some.total, c.in-Some.clique) in
    let next : IsNext cs t.rest child = c.in-Some.ensures in
    let told = c.requires.view v viewed in
    let total = of_next (λ (x : Child). x.1.0 ≡ clique_total v by x.2) cs t.rest child told.totals next in
    let whole = c.requires.whole v viewed in
    let sound = (valid_sound l.profile c.profile-profile.ensures.valid).links in
    let count : clique_count v.cliques ≡ n = ap (λ (ks : List ℕ). clique_count ks) (view_cliques l.profile sound l.cliques l.entries c.profile-profile.ensures.loaded.tree v viewed) in
    let are : AreChildren (clique_count v.cliques) cs = rw count c.requires.children in
    let shown = sym (c.is_shown.ensures v child.2 whole total) ∙ c.if-not-is_shown.false in
    let part : millionths c.in-Some.total.0 c.args.scale.whole ≡ width_of v by child.2 = ap (λ (m : ℕ). millionths m c.args.scale.whole) total ∙ ap (λ (m : ℕ). millionths (clique_total v by child.2) m) whole in
    let after = c.in_ok-push-4.ensures.items ∙ ap (λ (ts : List Twig). ts ++ c.twig_below.result ∷ []) (c.in_ok-push-3.ensures.items ∙ ap (λ (d : Twig). c.args.twigs.now.items ++ d ∷ []) c.past_box.ensures) in
    let size = c.args.boxes.now.ok.0 in
    let long = c.len-place.ensures in
    let place : c.len-place.result ≡ length c.args.boxes.now.items = omega arith in
    let w_is : c.millionths-width.result ≡ width_of v by child.2 = c.millionths-width.ensures ∙ part in
    let box : CliqueBox = record { clique = c.in-Some.clique; level = t.level; parent = Some t.place; left = t.left; width = c.millionths-width.result } in
    let box_is : box ≡ box_of v by t.level (Some t.place) t.left child.2 = ap (λ (m : ℕ). record { clique = c.in-Some.clique; level = t.level; parent = Some t.place; left = t.left; width = m }) w_is in
    open_shown v by least cs t child next are told c.twig_below.result c.len-place.result c.twig_below.ensures.rest c.twig_below.ensures.twig shown box c.millionths-width.result
    c.args.boxes.now.items c.push-2.new.self.items c.args.twigs.now.items c.push-4.new.self.items w_is box_is place c.in_ok-push-2.ensures.items after

pub returns-clause-twigs : goal.returns-clause-twigs
returns-clause-twigs c =
    let l = c.args.loaded.now in
    let n = clique_count l.cliques in
    let cs = c.args.children.now in
    let t = c.args.twig in
    let by = c.args.scale.by in
    let least = c.args.scale.least in
    let child : Child = (c.in-Some._parent, c.in-Some.total, c.in-Some.clique) in
    let next : IsNext cs t.rest child = c.in-Some.ensures in
    let after = c.in_ok-push-4.ensures.items ∙ ap (λ (ts : List Twig). ts ++ c.twig_below.result ∷ []) (c.in_ok-push-3.ensures.items ∙ ap (λ (d : Twig). c.args.twigs.now.items ++ d ∷ []) c.past_box.ensures) in
    twigs_shown n cs c.requires.children t c.requires.twig child next c.args.twigs.now.items c.push-4.new.self.items c.requires.twigs
    c.twig_below.result c.millionths-width.result c.len-place.result c.twig_below.ensures.rest c.twig_below.ensures.twig after

pub returns-clause-fit : goal.returns-clause-fit
returns-clause-fit c = λ v viewed.
    let l = c.args.loaded.now in
    let n = clique_count l.cliques in
    let cs = c.args.children.now in
    let t = c.args.twig in
    let by = c.args.scale.by in
    let least = c.args.scale.least in
    let child : Child = (c.in-Some._parent, c.in-Some.total, c.in-Some.clique) in
    let next : IsNext cs t.rest child = c.in-Some.ensures in
    let told = c.requires.view v viewed in
    let total = of_next (λ (x : Child). x.1.0 ≡ clique_total v by x.2) cs t.rest child told.totals next in
    let whole = c.requires.whole v viewed in
    let sound = (valid_sound l.profile c.profile-profile.ensures.valid).links in
    let count : clique_count v.cliques ≡ n = ap (λ (ks : List ℕ). clique_count ks) (view_cliques l.profile sound l.cliques l.entries c.profile-profile.ensures.loaded.tree v viewed) in
    let are : AreChildren (clique_count v.cliques) cs = rw count c.requires.children in
    let shown = sym (c.is_shown.ensures v child.2 whole total) ∙ c.if-not-is_shown.false in
    let part : millionths c.in-Some.total.0 c.args.scale.whole ≡ width_of v by child.2 = ap (λ (m : ℕ). millionths m c.args.scale.whole) total ∙ ap (λ (m : ℕ). millionths (clique_total v by child.2) m) whole in
    let after = c.in_ok-push-4.ensures.items ∙ ap (λ (ts : List Twig). ts ++ c.twig_below.result ∷ []) (c.in_ok-push-3.ensures.items ∙ ap (λ (d : Twig). c.args.twigs.now.items ++ d ∷ []) c.past_box.ensures) in
    let some : 0 < whole_of v by = (let positive = c.requires.some in omega arith) in
    fits_shown v by least cs t child next are told c.twig_below.result c.len-place.result c.twig_below.ensures.rest c.twig_below.ensures.twig shown l.profile c.profile-profile.ensures.valid viewed some
    c.millionths-width.result c.args.twigs.now.items c.push-4.new.self.items (c.millionths-width.ensures ∙ part) (c.requires.fits v viewed) (c.requires.all_fit v viewed) after

pub returns-clause-work : goal.returns-clause-work
returns-clause-work c =
    let l = c.args.loaded.now in
    let n = clique_count l.cliques in
    let cs = c.args.children.now in
    let t = c.args.twig in
    let by = c.args.scale.by in
    let least = c.args.scale.least in
    let child : Child = (c.in-Some._parent, c.in-Some.total, c.in-Some.clique) in
    let next : IsNext cs t.rest child = c.in-Some.ensures in
    let after = c.in_ok-push-4.ensures.items ∙ ap (λ (ts : List Twig). ts ++ c.twig_below.result ∷ []) (c.in_ok-push-3.ensures.items ∙ ap (λ (d : Twig). c.args.twigs.now.items ++ d ∷ []) c.past_box.ensures) in
    fewer_shown n cs c.requires.children t c.requires.twig child next c.args.twigs.now.items c.push-4.new.self.items c.requires.twigs
    c.twig_below.result c.millionths-width.result c.twig_below.ensures.rest after
