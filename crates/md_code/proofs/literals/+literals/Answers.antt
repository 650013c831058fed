use Rattle.std.proofs.Common.{◌≡◌, sym, subst, List, ℕ, OnOk}
use Rattle.md_code.specs.Numbers.{texts_of}
use Rattle.md_code.proofs.NumberLemmas.{with-Conj, with-Disj}
use Rattle.md_code.proofs.literals.+literals.Goals as goal

pub add_literals-returns-in-Conj : goal.add_literals-returns-in-Conj
add_literals-returns-in-Conj t c =
    subst (λ (ls : List (List ℕ)). OnOk c.add_literals_of_all.result (texts_of c.add_literals_of_all.new.literals.keys ≡ ls))
    (sym (with-Conj (texts_of c.args.literals.now.keys) c.args.goal.now.kind c.in-Conj.goals c.as_slice.result.now c.in-Conj.is c.as_slice.ensures.value)) c.add_literals_of_all.ensures

pub add_literals-returns-in-Disj : goal.add_literals-returns-in-Disj
add_literals-returns-in-Disj t c =
    subst (λ (ls : List (List ℕ)). OnOk c.add_literals_of_all-in-Disj.result (texts_of c.add_literals_of_all-in-Disj.new.literals.keys ≡ ls))
    (sym (with-Disj (texts_of c.args.literals.now.keys) c.args.goal.now.kind c.in-Disj.arms c.as_slice-in-Disj.result.now c.in-Disj.is c.as_slice-in-Disj.ensures.value)) c.add_literals_of_all-in-Disj.ensures
