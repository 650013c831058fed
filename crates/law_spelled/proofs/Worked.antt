-- Bounds that hold of a small program, and that fail of others; and the laws at a text whose program is known.
use Rattle.std.proofs.Common.{◌≤◌, refl, arith, ℕ, negsuc, List, [], ◌∷◌, None}
use Rattle.std.specs.Prelude.{codes}
use Rattle.md_hlds.specs.declared.types.Mode.TheVariants.{Di, Uo}
use Rattle.md_hlds.specs.declared.types.Det.TheVariants.{Det as One}
use Rattle.md_hlds.specs.declared.goal.Term.TheVariants.{Var, Int}
use Rattle.md_hlds.specs.HldsGoal.{At, SimpleGoal, CallGoal, ConjGoal, gathered, Unifies}
use Rattle.md_hlds.specs.Hlds.{Hlds, Procedure, world}
use Rattle.md_hlds.proofs.Worked.{hello}
use Rattle.md_reader.proofs.Worked.{spells_a_conjunction}
use Rattle.law_events.specs.Table.{HasSites}
use Rattle.law_spelled.specs.Bounds.{line_of, HasLines, IsShort, HasShortNames, IsNamed, HasNames}
use Rattle.law_spelled.proofs.LeadsPrograms.{all_of}
use Rattle.law_spelled.proofs.TextLaws.{texts_have_sites, texts_have_names}

-- a.m: main(IO0, IO) :- IO = IO0.
abbrev main_of_a : Procedure
main_of_a = record {
  qualifier = None;
  name = codes "main";
  line = 2;
  clause_line = 3;
  args = (world, Di) ∷ (world, Uo) ∷ [];
  det = One;
  vars = codes "IO0" ∷ codes "IO" ∷ [];
  head = 0 ∷ 1 ∷ [];
  body = At 3 (SimpleGoal (Unifies 1 (Var 0)));
}

abbrev a : Hlds
a = record { module_name = codes "t"; module_line = 1; types = []; procedures = main_of_a ∷ [] }

a_lines : HasLines a
a_lines = record {
  heading = omega arith;
  types = all_of _ [] tt;
  procedures = all_of (λ (p : Procedure). (1 ≤ p.line) × (1 ≤ p.clause_line)) (main_of_a ∷ []) ((omega arith, omega arith), tt);
  goals = all_of (λ g. 1 ≤ line_of g) (main_of_a.body ∷ []) (omega arith, tt);
  sites = all_of _ [] tt;
}

a_short : HasShortNames a
a_short = record {
  module_name = omega arith;
  types = all_of _ [] tt;
  procedures = all_of IsShort (main_of_a ∷ []) (record { qualifier = tt; name = omega arith; args = omega arith; head = refl }, tt);
}

a_names : HasNames a
a_names = record { module_name = refl; procedures = all_of IsNamed (main_of_a ∷ []) (record { name = refl; qualifier = tt }, tt) }

-- a program without lines, whose main has two variables in its head and no arguments
hello_has_none : HasLines hello → ⊥
hello_has_none has = omega (arith, has.heading)

hello_is_odd : HasShortNames hello → ⊥
hello_is_odd has = let main = has.procedures 0 main_of_a (omega arith) in omega (arith, main.head)

-- names begin with a lower-case letter, and have no other bytes than letters, digits and `_`
abbrev with_name : List ℕ → Hlds
with_name m = record { module_name = m; module_line = 1; types = []; procedures = [] }

upper_case : HasNames (with_name (codes "T")) → ⊥
upper_case has = absurd (let e = has.module_name in cc)

a_dash : HasNames (with_name (codes "a-b")) → ⊥
a_dash has = absurd (let e = has.module_name in cc)

-- :- module t.   :- pred p is det.   p :- X = -5, ( t.p ).
abbrev loops : Hlds
loops = record {
  module_name = codes "t";
  module_line = 1;
  types = [];
  procedures = record {
    qualifier = None;
    name = codes "p";
    line = 2;
    clause_line = 3;
    args = [];
    det = One;
    vars = codes "X" ∷ [];
    head = [];
    body = At 3 (ConjGoal (gathered (At 3 (SimpleGoal (Unifies 0 (Int (negsuc 4)))) ∷ At 4 (CallGoal 0 (record { qualifier = None; name = codes "p" }) []) ∷ [])));
  } ∷ [];
}

loops_sites : HasSites loops
loops_sites = texts_have_sites _ loops spells_a_conjunction

loops_names : HasNames loops
loops_names = texts_have_names _ loops spells_a_conjunction
