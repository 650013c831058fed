use Rattle.std.proofs.Common.{◌≡◌, ◌<◌, ◌++◌, ◌∷◌, [], ℕ, List, Some, None, length, reverse, sym, ap, ◌∙◌, arith}
use Rattle.std.specs.List.{filter, sum_by}
use Rattle.std.proofs.lemmas.List.{append-nil, nil_from_length, reverse-append}
use Rattle.std.proofs.lemmas.List.Elements.{All-cons, All-nil, All-pop}
use Rattle.std.proofs.lemmas.List.Sums.{sum_by_push}
use Rattle.md_clique.specs.Cliques.{clique_count}
use Rattle.md_cost.proofs.ViewSteps.{some_cliques, view_cliques}
use Rattle.md_cost.proofs.ValidSteps.{valid_sound}
use Rattle.md_people.specs.Counts.{whole_of}
use Rattle.md_people.specs.Tree.{is_shown, shown_children}
use Rattle.md_tree.specs.declared.picture.CliqueBox.{CliqueBox}
use Rattle.md_tree.specs.declared.picture.Twig.{Twig}
use Rattle.md_tree.specs.Children.{AreChildren}
use Rattle.md_tree.specs.Picture.{boxes_beside, boxes_from, width_of}
use Rattle.md_tree.specs.Rests.{cliques_left}
use Rattle.md_tree.specs.Twigs.{Fits, IsTwig, all_work, open_boxes, twig_boxes, twig_work}
use Rattle.md_tree.proofs.Boxes.{boxes_below}
use Rattle.md_tree.proofs.RestSteps.{whole_rest}
use Rattle.md_tree.proofs.Steps.{lower_told}
use Rattle.md_tree.proofs.Widths.{whole_width, widths_within}
use Rattle.md_tree.proofs.picture.boxes_of.Goals as goal

pub loop-twig-init : goal.loop-twig-init
loop-twig-init c =
    let l = c.args.loaded.now in
    let cs = c.args.children.now in
    let n = clique_count l.cliques in
    let by = c.args.scale.by in
    let least = c.args.scale.least in
    let sound = (valid_sound l.profile c.profile-profile.ensures.valid).links in
    let tree = c.profile-profile.ensures.loaded.tree in
    let some = some_cliques l.profile sound l.cliques l.entries tree in
    let whole = c.twig_below.ensures.rest in
    let its = whole.parent in
    let start : Twig = record { rest = c.twig_below.result.rest; level = 1; place = 0; left = 0 } in
    let box : CliqueBox = record { clique = 0; level = 0; parent = None; left = 0; width = 1000000 } in
    let at : IsTwig n cs start = record { rest = whole_rest n cs c.requires.children 0 start.rest whole some; level = omega arith } in
    let boxes_are : c.push.new.self.items ≡ box ∷ [] = c.in_ok-push.ensures.items ∙ ap (λ (xs : List CliqueBox). xs ++ box ∷ []) c.new-boxes.ensures.items in
    let twigs_are : c.push-2.new.self.items ≡ start ∷ [] =
    c.in_ok-push-2.ensures.items ∙ ap (λ (xs : List Twig). xs ++ c.twig_below.result ∷ []) c.new-twigs.ensures.items ∙ ap (λ (x : Twig). x ∷ []) c.twig_below.ensures.twig in
    record {
      boxes = λ v viewed.
          let told = c.requires.view v viewed in
          let count : clique_count v.cliques ≡ n = ap (λ (ks : List ℕ). clique_count ks) (view_cliques l.profile sound l.cliques l.entries tree v viewed) in
          let are : AreChildren (clique_count v.cliques) cs = rw count c.requires.children in
          let there : 0 < clique_count v.cliques = omega arith in
          let positive : 0 < whole_of v by = (let is = c.requires.whole v viewed in let more = c.requires.some in omega arith) in
          let below : filter (is_shown v by least) (cliques_left cs start.rest) ≡ shown_children v by least 0 = ap (λ (ks : List ℕ). filter (is_shown v by least) ks) (whole.cliques ∙ told.below 0) in
          rw (boxes_are, twigs_are) (
          ap (λ (bs : List CliqueBox). box ∷ bs) (append-nil (twig_boxes v by least cs 1 start))
          ∙ ap (λ (ks : List ℕ). box ∷ boxes_beside (width_of v by) (boxes_from v by least (clique_count v.cliques) 1 (Some 0)) 0 1 ks) below
          ∙ sym (
          boxes_below v by least (lower_told v by least cs are told) 0 None 0 0 0 there
          ∙ ap (λ (w : ℕ). record { clique = 0; level = 0; parent = None; left = 0; width = w } ∷ boxes_beside (width_of v by) (boxes_from v by least (clique_count v.cliques) 1 (Some 0)) 0 1 (shown_children v by least 0)) (whole_width v by positive)));
      twigs = rw twigs_are (All-cons (IsTwig n cs) start [] at (All-nil (IsTwig n cs)));
      fit = λ v viewed.
          let told = c.requires.view v viewed in
          let positive : 0 < whole_of v by = (let is = c.requires.whole v viewed in let more = c.requires.some in omega arith) in
          let within = widths_within l.profile c.profile-profile.ensures.valid v viewed by positive least 0 in
          let full = whole_width v by positive in
          let below : sum_by (width_of v by) (filter (is_shown v by least) (cliques_left cs start.rest)) ≡ sum_by (width_of v by) (shown_children v by least 0) = ap (λ (ks : List ℕ). sum_by (width_of v by) (filter (is_shown v by least) ks)) (whole.cliques ∙ told.below 0) in
          let fits : Fits v by least cs start = omega arith in
          rw twigs_are (All-cons (Fits v by least cs) start [] fits (All-nil (Fits v by least cs)));
    }

pub grow-requires-clause-twig : goal.grow-requires-clause-twig
grow-requires-clause-twig c =
    (All-pop (IsTwig (clique_count c.args.loaded.now.cliques) c.args.children.now) c.loop-twig.twigs.items c.pop.new.self.items (Some c.in-Some.twig) c.in-Some.ensures.items c.loop-twig.invariant.twigs).1

pub grow-requires-clause-twigs : goal.grow-requires-clause-twigs
grow-requires-clause-twigs c =
    (All-pop (IsTwig (clique_count c.args.loaded.now.cliques) c.args.children.now) c.loop-twig.twigs.items c.pop.new.self.items (Some c.in-Some.twig) c.in-Some.ensures.items c.loop-twig.invariant.twigs).0

pub grow-requires-clause-fits : goal.grow-requires-clause-fits
grow-requires-clause-fits c = λ v viewed.
    (All-pop (Fits v c.args.scale.by c.args.scale.least c.args.children.now) c.loop-twig.twigs.items c.pop.new.self.items (Some c.in-Some.twig) c.in-Some.ensures.items (c.loop-twig.invariant.fit v viewed)).1

pub grow-requires-clause-all_fit : goal.grow-requires-clause-all_fit
grow-requires-clause-all_fit c = λ v viewed.
    (All-pop (Fits v c.args.scale.by c.args.scale.least c.args.children.now) c.loop-twig.twigs.items c.pop.new.self.items (Some c.in-Some.twig) c.in-Some.ensures.items (c.loop-twig.invariant.fit v viewed)).0

pub loop-twig-preserved : goal.loop-twig-preserved
loop-twig-preserved c =
    let cs = c.args.children.now in
    record {
      boxes = λ v viewed.
          c.in_ok-grow.ensures.boxes v viewed
          ∙ ap (λ (ts : List Twig). c.loop-twig.boxes.items ++ open_boxes v c.args.scale.by c.args.scale.least cs (length c.loop-twig.boxes.items) ts) (sym (reverse-append c.pop.new.self.items (c.in-Some.twig ∷ [])))
          ∙ ap (λ (ts : List Twig). c.loop-twig.boxes.items ++ open_boxes v c.args.scale.by c.args.scale.least cs (length c.loop-twig.boxes.items) (reverse ts)) (sym c.in-Some.ensures.items)
          ∙ c.loop-twig.invariant.boxes v viewed;
      twigs = c.in_ok-grow.ensures.twigs;
      fit = λ v viewed. c.in_ok-grow.ensures.fit v viewed;
    }

pub loop-twig-smaller : goal.loop-twig-smaller
loop-twig-smaller c =
    let n = clique_count c.args.loaded.now.cliques in
    let cs = c.args.children.now in
    let less = c.in_ok-grow.ensures.work in
    let split = sum_by_push (twig_work cs n) c.pop.new.self.items c.in-Some.twig in
    let whole : all_work cs n c.loop-twig.twigs.items ≡ all_work cs n (c.pop.new.self.items ++ c.in-Some.twig ∷ []) = ap (λ (ts : List Twig). all_work cs n ts) c.in-Some.ensures.items in
    let fewer : all_work cs n c.grow.new.twigs.items < all_work cs n c.loop-twig.twigs.items = omega arith in
    fewer

pub returns : goal.returns
returns c = λ v viewed.
    let cs = c.args.children.now in
    let size = c.loop-twig.twigs.ok.0 in
    let empty = c.in_default.ensures.cases.0 in
    let none : c.loop-twig.twigs.items ≡ [] = nil_from_length c.loop-twig.twigs.items (omega arith) in
    sym (
    ap (λ (ts : List Twig). c.loop-twig.boxes.items ++ open_boxes v c.args.scale.by c.args.scale.least cs (length c.loop-twig.boxes.items) (reverse ts)) none
    ∙ append-nil c.loop-twig.boxes.items)
    ∙ c.loop-twig.invariant.boxes v viewed
