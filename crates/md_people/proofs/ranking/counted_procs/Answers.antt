use Rattle.std.proofs.Common.{◌≡◌, ℕ, List, [], ◌∷◌, ◌++◌, map, sym, ap, ◌∙◌}
use Rattle.std.specs.declared.cmp.Reverse.{Reverse}
use Rattle.std.proofs.lemmas.List.{map_push}
use Rattle.std.proofs.lemmas.List.Elements.{All-push}
use Rattle.md_people.specs.Hot.{sort_count}
use Rattle.md_people.proofs.Ranges.{range_more}
use Rattle.md_people.proofs.ranking.counted_procs.Goals as goal

pub loop-id-preserved : goal.loop-id-preserved
loop-id-preserved c =
    let id = c.loop-id.id in
    let pair : Reverse ℕ × ℕ = (record { 0 = c.sort_count-count.result }, id) in
    record {
      ids =
          ap (λ (xs : List (Reverse ℕ × ℕ)). map (λ (x : Reverse ℕ × ℕ). x.1) xs) c.in_ok-push.ensures.items ∙ map_push (λ (x : Reverse ℕ × ℕ). x.1) c.loop-id.counted.items pair
          ∙ ap (λ (xs : List ℕ). xs ++ id ∷ []) c.loop-id.invariant.ids ∙ sym (range_more id);
      counts = λ v is.
          rw c.in_ok-push.ensures.items (All-push (λ (x : Reverse ℕ × ℕ). x.0.0 ≡ sort_count v c.args.by c.args.sort x.1) c.loop-id.counted.items pair (c.loop-id.invariant.counts v is)
          (c.sort_count-count.ensures v is ∙ ap (λ (q : ℕ). sort_count v c.args.by c.args.sort q) c.new.ensures));
    }
