use Rattle.std.proofs.Common.{◌≡◌, ◌+◌, ℕ, List, length, Some, slice_get, sym, ap, subst, ◌∙◌, inl, inr}
use Rattle.std.proofs.lemmas.List.{length_push}
use Rattle.md_trace.proofs.Lists.{get-push-either}
use Rattle.md_people.specs.Words.{full_name}
use Rattle.md_people.proofs.full_names.all_names.Goals as goal

pub loop-id-preserved : goal.loop-id-preserved
loop-id-preserved c =
    let s = c.args.statics.now in
    let old = c.loop-id.names.items in
    let id = c.loop-id.id in
    let one : c.in_ok-from_bytes.field-0 ≡ full_name s id = c.in_ok-from_bytes.ensures ∙ (c.deref.ensures.value ∙ c.in_ok-name.ensures) in
    record {
      each = ap (λ (ns : List (List ℕ)). length ns) c.in_ok-push.ensures.items ∙ (length_push old c.in_ok-from_bytes.field-0 ∙ ap (λ (n : ℕ). n + 1) c.loop-id.invariant.each);
      are = λ q name at. elim (get-push-either old c.in_ok-from_bytes.field-0 name q (subst (λ (ns : List (List ℕ)). slice_get ns q ≡ Some name) c.in_ok-push.ensures.items at)) [
        | inl last ↦ last.1 ∙ (one ∙ ap (λ (n : ℕ). full_name s n) (sym (last.0 ∙ c.loop-id.invariant.each)))
        | inr before ↦ c.loop-id.invariant.are q name before
      ];
    }
