use Rattle.std.proofs.Common.{◌≡◌, ◌∙◌, sym, ap, arith, ℕ, suc, ◌-◌, ◌||◌, Bool, List, drop, nat_eq}
use Rattle.std.specs.List.{list_any}
use Rattle.std.specs.Cmp.Lexicographic.{pointwise}
use Rattle.md_hlds.specs.Hlds.{HldsTypeDef, type_defs_of}
use Rattle.md_names.specs.Named.{is_type}
use Rattle.md_names.proofs.Lookups.{any-insert, pointwise-bytes_eq}
use Rattle.md_names.proofs.Steps.{same_bytes, text_fits, families-step}
use Rattle.md_names.proofs.types.type_names.Goals as goal

pub loop-place-preserved : goal.loop-place-preserved
loop-place-preserved c name =
    let at : c.loop-place.place ≡ suc (c.loop-place.place - 1) = omega arith in
    ap (λ ks. list_any (λ k. pointwise nat_eq name k.now) ks) c.in_ok-insert.ensures.keys
    ∙ (any-insert (λ k. pointwise nat_eq name k.now) same_bytes c.as_bytes.result c.loop-place.names.keys (text_fits name c.as_bytes.result)
    ∙ (ap (λ (b : Bool). pointwise nat_eq name c.as_bytes.result.now || b) (c.loop-place.invariant name)
    ∙ (ap (λ (xs : List ℕ). pointwise nat_eq name xs || is_type name (type_defs_of (drop c.loop-place.place c.args.program.now.types.items))) c.as_bytes.ensures.bytes
    ∙ (ap (λ (b : Bool). b || is_type name (type_defs_of (drop c.loop-place.place c.args.program.now.types.items))) (pointwise-bytes_eq name c.index.result.now.name)
    ∙ ap (λ (ts : List HldsTypeDef). is_type name ts) (sym (families-step c.args.program.now.types.items (c.loop-place.place - 1) c.loop-place.place c.index.result.now at
    (omega (arith, c.loop-place.auto.place, c.len-place.ensures, c.args.program.now.types.ok)) c.index.ensures))))))
