use Rattle.std.proofs.Common.{◌≡◌, ◌-◌, ◌<◌, ℕ, length, min, take, ap, ◌∙◌, arith}
use Rattle.std.proofs.lemmas.List.{take_min}
use Rattle.std.proofs.lemmas.List.Elements.{All-take}
use Rattle.md_clique.specs.Cliques.{clique_count}
use Rattle.md_tree.specs.declared.picture.CliqueBox.{CliqueBox}
use Rattle.md_render.proofs.Chains.{two-words}
use Rattle.md_render.proofs.icicle.add_drawn.Goals as goal

pub add_svg-requires : goal.add_svg-requires
add_svg-requires c = record { there = All-take (λ (b : CliqueBox). b.clique < clique_count c.args.loaded.now.cliques) c.min-shown.result c.args.boxes.now c.requires.there }

pub returns : goal.returns
returns c = λ v is.
    let boxes = c.args.boxes.now in
    let few : c.min-shown.result ≡ min 10000 (length boxes) = omega (arith, c.min-shown.ensures) in
    let first : take c.min-shown.result boxes ≡ take 10000 boxes = ap (λ (n : ℕ). take n boxes) few ∙ take_min 10000 boxes in
    let more : length boxes - c.min-shown.result ≡ length boxes - 10000 = omega (arith, few) in
    two-words c.args.out.now.items _ _ _ _ (rw first at (c.in_ok-add_svg.ensures v is)) (rw more at c.in_ok-add_more.ensures)
