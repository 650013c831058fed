-- Values and their types, computed on a small program: a list of integers, and a predicate that adds.
use Rattle.std.proofs.Common.{refl, pos, [], ◌∷◌, None, codes}
use Rattle.std.proofs.lemmas.Bool.{false≢true}
use Rattle.std.proofs.lemmas.Slice.Eq.{bytes_eq-Decides}
use Rattle.md_hlds.specs.declared.types.Mode.TheVariants.{In, Out}
use Rattle.md_hlds.specs.declared.types.Det.TheVariants as det
use Rattle.md_hlds.specs.HldsGoal.{At, SimpleGoal, Computes}
use Rattle.md_hlds.specs.declared.goal.Op.TheVariants.{Add}
use Rattle.md_hlds.specs.Hlds.{HldsType, number, text, world, named, closure, no_types, also_type, Procedure, Hlds}
use Rattle.md_hlds.specs.Value.{Value, Number, Literal, Built, Closure, no_values, also_value}
use Rattle.law_safety.specs.Values.{HasType}

abbrev list_type : HldsType
list_type = named (codes "list")

-- add(A::in, B::in, C::out) is det
abbrev add : Procedure
add = record {
  qualifier = None;
  name = codes "add";
  line = 2;
  clause_line = 3;
  args = (number, In) ∷ (number, In) ∷ (number, Out) ∷ [];
  det = det.Det;
  vars = codes "A" ∷ codes "B" ∷ codes "C" ∷ [];
  head = 0 ∷ 1 ∷ 2 ∷ [];
  body = At 3 (SimpleGoal (Computes 2 0 Add 1));
}

-- list ---> nil ; cons(int, list)
abbrev sample : Hlds
sample = record {
  module_name = codes "m";
  module_line = 1;
  types = record { name = codes "list"; line = 1; functors = record { name = codes "nil"; args = [] } ∷ record { name = codes "cons"; args = number ∷ list_type ∷ [] } ∷ [] } ∷ [];
  procedures = add ∷ [];
}

abbrev nil : Value
nil = Built (codes "nil") no_values

abbrev cons : Value → Value → Value
cons v w = Built (codes "cons") (also_value v (also_value w no_values))

-- what is open of `add` after one argument
abbrev adder : HldsType
adder = closure (also_type number (also_type number no_types)) (In ∷ Out ∷ []) det.Det

an_integer : HasType sample (Number (pos 7)) number
an_integer = tt

no_integer : HasType sample (Literal (codes "7")) number → ⊥
no_integer h = h

a_string : HasType sample (Literal (codes "7")) text
a_string = tt

no_string : HasType sample (Number (pos 7)) text → ⊥
no_string h = h

a_state : HasType sample (Number (pos 0)) world
a_state = refl

no_state : HasType sample (Number (pos 1)) world → ⊥
no_state h = absurd (cc h)

a_list : HasType sample (cons (Number (pos 1)) (cons (Number (pos 2)) nil)) list_type
a_list = (refl, (tt, ((refl, (tt, ((refl, tt), tt))), tt)))

-- a part of another type, a part too few, another type's name
no_list : HasType sample (cons (Literal (codes "1")) nil) list_type → ⊥
no_list h = h.1.0

no_short_list : HasType sample (Built (codes "cons") (also_value nil no_values)) list_type → ⊥
no_short_list h = h

no_tree : HasType sample nil (named (codes "tree")) → ⊥
no_tree h = false≢true ((bytes_eq-Decides (codes "list") (codes "tree")).1 h.0)

-- one argument is captured
an_adder : HasType sample (Closure 0 (also_value (Number (pos 1)) no_values)) adder
an_adder = ((number, In) ∷ (number, Out) ∷ [], (refl, (tt, refl)), refl)

-- a captured value of another type, another determinism, and a predicate that isn't there
no_adder : HasType sample (Closure 0 (also_value (Literal (codes "1")) no_values)) adder → ⊥
no_adder h = h.1.1.0

no_test : HasType sample (Closure 0 (also_value (Number (pos 1)) no_values)) (closure (also_type number (also_type number no_types)) (In ∷ Out ∷ []) det.Semidet) → ⊥
no_test h = absurd (cc (h.2))

no_predicate : HasType sample (Closure 1 no_values) adder → ⊥
no_predicate h = h
