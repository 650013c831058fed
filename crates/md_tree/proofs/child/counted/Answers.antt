use Rattle.std.proofs.Common.{◌≡◌, ℕ, ◌<◌, ◌+◌, ◌-◌, ◌≤◌, List, [], ◌∷◌, ◌++◌, Option, map, sym, ap, ◌∙◌, arith}
use Rattle.std.specs.Prelude.{unwrap_or}
use Rattle.std.specs.List.{range_with_len}
use Rattle.std.proofs.lemmas.List.{map_push}
use Rattle.std.proofs.lemmas.List.Elements.{All-push}
use Rattle.md_clique.specs.Cliques.{clique_count}
use Rattle.md_people.specs.Tree.{clique_total, parent_of}
use Rattle.md_tree.specs.Children.{Child}
use Rattle.md_tree.proofs.Ranges.{range_from_more}
use Rattle.md_tree.proofs.child.counted.Goals as goal

pub loop-clique-preserved : goal.loop-clique-preserved
loop-clique-preserved c =
    let k = c.loop-clique.clique in
    let l = c.args.loaded.now in
    let count = c.clique_count-clique-end.ensures.count in
    let low : 1 ≤ k = c.loop-clique.auto.clique in
    let few : k < clique_count l.cliques = (let lt = c.loop-clique-test.true in omega arith) in
    let child : Child = (c.parent_of-parent.result, record { 0 = c.of-total.result }, k) in
    let is_lower = c.parent_of-parent.ensures.lower in
    let place : 1 + (k - 1) ≡ k = omega arith in
    let next : k + 1 - 1 ≡ (k - 1) + 1 = omega arith in
    record {
      cliques =
          ap (λ (xs : List Child). map (λ (x : Child). x.2) xs) c.in_ok-push.ensures.items ∙ map_push (λ (x : Child). x.2) c.loop-clique.children.items child
          ∙ ap (λ (xs : List ℕ). xs ++ k ∷ []) c.loop-clique.invariant.cliques
          ∙ ap (λ (n : ℕ). range_with_len 1 (k - 1) ++ n ∷ []) (sym place)
          ∙ sym (range_from_more 1 (k - 1)) ∙ ap (λ (n : ℕ). range_with_len 1 n) (sym next);
      lower = rw c.in_ok-push.ensures.items (All-push (λ (x : Child). (x.0 < x.2) × (x.2 < clique_count l.cliques)) c.loop-clique.children.items child c.loop-clique.invariant.lower (is_lower, few));
      view = λ v is.
          rw c.in_ok-push.ensures.items (All-push (λ (x : Child). (x.0 ≡ parent_of v x.2) × (x.1.0 ≡ clique_total v c.args.by x.2)) c.loop-clique.children.items child (c.loop-clique.invariant.view v is) (
            c.parent_of-parent.ensures.view v is,
            c.of-total.ensures ∙ sym (ap (λ (o : Option ℕ). unwrap_or o 0) (c.clique_total.ensures v c.args.by is)),
          ));
    }
