use Rattle.std.proofs.Common.{◌≡◌, ◌∙◌, ◌+◌, sym, ap, arith, List, drop, false, true, ◌&&◌}
use Rattle.std.proofs.lemmas.Grind.{common_steps}
use Rattle.md_hlds.specs.Switch.{Key, has_key}
use Rattle.md_hlds.specs.Hlds.{HldsFunctor, hlds_functor_of, hlds_functors_of}
use Rattle.md_switch.specs.declared.key.Key.TheVariants.{Functor}
use Rattle.md_switch.specs.Keys.{keys_told}
use Rattle.md_det.specs.Switches.{key_of, all_have_keys}
use Rattle.md_switch.proofs.KeyLemmas.{any_told}
use Rattle.md_det.proofs.KeyLemmas.{constructs-step, key_is}
use Rattle.md_det.proofs.switch.all_have_keys.Goals as goal

pub returns-then-not-contains : goal.returns-then-not-contains
returns-then-not-contains c =
    let ks = keys_told c.args.keys.now.keys in
    let i = c.loop-functor.functor-index in
    let f = c.functor-item.result in
    let has : has_key (key_of (hlds_functor_of f)) ks ≡ false
    = ap (λ (k : Key). has_key k ks) (sym (key_is c.as_bytes.result.now c.len.result f c.as_bytes.ensures.bytes (omega (arith, c.len.ensures, f.args.ok))))
    ∙ (sym (any_told (Functor c.as_bytes.result c.len.result) c.args.keys.now.keys) ∙ (sym c.contains.ensures ∙ c.if-not-contains.true)) in
    sym (c.loop-functor.invariant
    ∙ (ap (λ (fs : List HldsFunctor). all_have_keys ks fs) (constructs-step c.args.functors.now i f (omega arith) c.functor-item.is)
    ∙ ap (λ b. b && all_have_keys ks (hlds_functors_of (drop (i + 1) c.args.functors.now))) has))

pub loop-functor-preserved : goal.loop-functor-preserved
loop-functor-preserved c =
    let ks = keys_told c.args.keys.now.keys in
    let i = c.loop-functor.functor-index in
    let f = c.functor-item.result in
    let has : has_key (key_of (hlds_functor_of f)) ks ≡ true
    = ap (λ (k : Key). has_key k ks) (sym (key_is c.as_bytes.result.now c.len.result f c.as_bytes.ensures.bytes (omega (arith, c.len.ensures, f.args.ok))))
    ∙ (sym (any_told (Functor c.as_bytes.result c.len.result) c.args.keys.now.keys) ∙ (sym c.contains.ensures ∙ c.if-not-contains.false)) in
    c.loop-functor.invariant
    ∙ (ap (λ (fs : List HldsFunctor). all_have_keys ks fs) (constructs-step c.args.functors.now i f (omega arith) c.functor-item.is)
    ∙ (ap (λ b. b && all_have_keys ks (hlds_functors_of (drop (i + 1) c.args.functors.now))) has))

pub loop-functor-init : goal.loop-functor-init
loop-functor-init c = grind (arith, common_steps)

pub loop-functor-smaller : goal.loop-functor-smaller
loop-functor-smaller c = grind (arith, common_steps)

pub returns : goal.returns
returns c = grind (arith, common_steps)
