use Rattle.std.proofs.Common.{◌≡◌, ◌∙◌, ◌<◌, subst, arith, length, List, get_or}
use Rattle.md_hlds.specs.declared.program.TypeDef.{TypeDef}
use Rattle.md_code.specs.Numbers.{number_in}
use Rattle.md_code.proofs.NumberLemmas.{family-numbers, family-count}
use Rattle.md_code.proofs.functors.functors_of.Goals as goal

pub loop-family-preserved : goal.loop-family-preserved
loop-family-preserved c =
    let ts = c.args.program.now.types.items in
    let i = c.loop-family.family-index in
    let t = c.family-item.result in
    let lt : i < length ts = subst (λ (us : List TypeDef). i < length us) c.as_slice-family-items.ensures.value (omega arith) in
    let is : t ≡ get_or ts i t = subst (λ (us : List TypeDef). t ≡ get_or us i t) c.as_slice-family-items.ensures.value c.family-item.is in
    record {
      numbers = λ name arity. family-numbers name arity (number_in c.loop-family.numbers name arity) (number_in c.add_functors.new.numbers name arity) ts i t c.as_slice.result.now
          c.loop-family.number c.in_ok-number.number lt is c.as_slice.ensures.value c.in_ok-number.ensures.next (c.in_ok-number.ensures.adds name arity)
          ∙ c.loop-family.invariant.numbers name arity;
      count = family-count ts i t c.as_slice.result.now c.loop-family.number c.in_ok-number.number lt is c.as_slice.ensures.value c.in_ok-number.ensures.next
          ∙ c.loop-family.invariant.count;
    }
