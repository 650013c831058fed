use Rattle.std.proofs.Common.{◌≡◌, ◌<◌, true, ℕ, Some, List, Bool, slice_get, length, ◌∙◌, ap, arith}
use Rattle.std.proofs.lemmas.List.Folds.{Any-from_list_any, list_any-from_Any}
use Rattle.std.specs.List.{list_any}
use Rattle.md_dynamic.specs.Valid.{leads_down}
use Rattle.md_dynamic.proofs.check.all_reached.Goals as goal

pub returns : goal.returns
returns c =
    let links = c.args.links.now in
    let marks = c.deref.result.now in
    let right : (v : ℕ) → v < c.args.contexts → slice_get marks v ≡ Some (list_any (leads_down v) links) =
    λ v there. ap (λ (xs : List Bool). slice_get xs v) c.deref.ensures.value ∙ c.in_ok-reached.ensures.right v there in
    let size : length marks ≡ c.args.contexts = ap length c.deref.ensures.value ∙ c.in_ok-reached.ensures.each in (
      λ yes v above there.
          let marked : slice_get marks v ≡ Some true = c.all_but_first.ensures.0 yes v above (omega (arith, size)) in
          Any-from_list_any (leads_down v) links (let is = right v there in cc (marked, is)),
      λ all. c.all_but_first.ensures.1 (λ v above there.
          let long : v < c.args.contexts = omega (arith, size) in
          right v long ∙ ap (λ (b : Bool). Some b) (list_any-from_Any (leads_down v) links (all v above long))),
    )
