use Rattle.std.proofs.Common.{◌≡◌, ◌∙◌, ℕ, List, ◌∷◌, All, ap, subst, sym, rules, arith}
use Rattle.std.proofs.lemmas.Grind.{common_steps}
use Rattle.std.proofs.lemmas.List.Elements.{All-head, All-tail}
use Rattle.form_urlencoded.specs.Parse.{raw_pairs_left}
use Rattle.md_query.specs.Pair.{first_value, IsPlainPair}
use Rattle.md_query.proofs.pair.value_of.Goals as goal

plain_first : {pair : List ℕ × List ℕ} {left rest : List (List ℕ × List ℕ)} → left ≡ pair ∷ rest → All IsPlainPair left → IsPlainPair pair
plain_first {pair} {left} {rest} is plain = All-head IsPlainPair pair rest (subst (All IsPlainPair) is plain)

plain_rest : {pair : List ℕ × List ℕ} {left rest : List (List ℕ × List ℕ)} → left ≡ pair ∷ rest → All IsPlainPair left → All IsPlainPair rest
plain_rest {pair} {left} {rest} is plain = All-tail IsPlainPair pair rest (subst (All IsPlainPair) is plain)

pub loop-key-init : goal.loop-key-init
loop-key-init c =
    let e = ap raw_pairs_left c.into_iter-key-iterator.ensures.into_iter_gives ∙ c.raw_pairs-key-items.ensures.value in
    (tt, tt, ap (first_value c.args.name.now) e, λ plain. subst (All IsPlainPair) (sym e) plain)

pub returns-in_err-value-clause-plain : goal.returns-in_err-value-clause-plain
returns-in_err-value-clause-plain c plain =
    absurd (c.in_err-value.ensures.borrows (plain_first c.in-Some.ensures.steps (c.loop-key.invariant.3 plain)).1)

pub loop-key-preserved-else-eq : goal.loop-key-preserved-else-eq
loop-key-preserved-else-eq c = (tt, tt, search rules, λ plain. plain_rest c.in-Some.ensures.steps (c.loop-key.invariant.3 plain))

pub loop-key-preserved : goal.loop-key-preserved
loop-key-preserved c = (tt, tt, search rules, λ plain. plain_rest c.in-Some.ensures.steps (c.loop-key.invariant.3 plain))

pub loop-key-preserved-else-eq-derived : goal.loop-key-preserved-else-eq-derived
loop-key-preserved-else-eq-derived c = grind (arith, common_steps)

pub loop-key-smaller-else-eq : goal.loop-key-smaller-else-eq
loop-key-smaller-else-eq c = grind (arith, common_steps)

pub loop-key-preserved-derived : goal.loop-key-preserved-derived
loop-key-preserved-derived c = grind (arith, common_steps)

pub returns-clause-plain : goal.returns-clause-plain
returns-clause-plain c = grind (arith, common_steps)

pub returns-clause-value : goal.returns-clause-value
returns-clause-value c = grind (arith, common_steps)

pub loop-key-init-derived : goal.loop-key-init-derived
loop-key-init-derived c = grind (arith, common_steps)

pub returns-then-eq-clause-plain : goal.returns-then-eq-clause-plain
returns-then-eq-clause-plain c = grind (arith, common_steps)

pub returns-then-eq-clause-value : goal.returns-then-eq-clause-value
returns-then-eq-clause-value c = grind (arith, common_steps)
