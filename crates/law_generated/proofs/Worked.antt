-- The generated texts and programs, worked out by hand.
use Rattle.std.proofs.Common.{◌≡◌, refl, ℕ, List, [], ◌∷◌, None, Some, codes}
use Rattle.std.specs.Prelude.{⊤}
use Rattle.std.specs.Fmt.{digits}
use Rattle.md_hlds.specs.declared.types.Mode.TheVariants.{Di, Uo}
use Rattle.md_hlds.specs.declared.types.Det.TheVariants.{Det as One}
use Rattle.md_hlds.specs.declared.goal.Term.TheVariants.{Var}
use Rattle.md_hlds.specs.HldsGoal.{HldsGoal, At, SimpleGoal, CallGoal, ConjGoal, gathered, Succeeds, Unifies}
use Rattle.md_hlds.specs.Hlds.{Procedure, world}
use Rattle.md_inst.specs.declared.fault.ModeFault.TheVariants.{UnknownName}
use Rattle.md_modes.specs.Modes.{mode_fault}
use Rattle.law_generated.specs.Generated.{level, gen_text, level_procedure, generated}

unfoldable on_numbers : ⊤
unfolding digits
on_numbers = tt

-- ---- texts

one-procedure-does-nothing :
    gen_text 1 ≡ codes ":- module gen.\n:- pred main(io::di, io::uo) is det.\nmain(IO0, IO) :- p1, IO = IO0.\n:- pred p1 is det.\np1 :- true.\n"
unfolding on_numbers
one-procedure-does-nothing = refl

the-first-of-two-calls-the-second-twice :
    gen_text 2 ≡ codes ":- module gen.\n:- pred main(io::di, io::uo) is det.\nmain(IO0, IO) :- p1, IO = IO0.\n:- pred p1 is det.\np1 :- p2, p2.\n:- pred p2 is det.\np2 :- true.\n"
unfolding on_numbers
the-first-of-two-calls-the-second-twice = refl

-- refuses a rule by which a name has one digit, or its digits backwards
numbers-have-two-digits : level 20 12 ≡ codes ":- pred p12 is det.\np12 :- p13, p13.\n"
unfolding on_numbers
numbers-have-two-digits = refl

-- ---- programs

abbrev calls : (line site : ℕ) → List ℕ → HldsGoal
calls line site name = At line (CallGoal site (record { qualifier = None; name = name }) [])

-- a procedure without arguments and variables
abbrev without_arguments : List ℕ → (line clause_line : ℕ) → HldsGoal → Procedure
without_arguments name line clause_line body =
    record { qualifier = None; name = name; line = line; clause_line = clause_line; args = []; det = One; vars = []; head = []; body = body }

abbrev main_of_two : Procedure
main_of_two = record {
  qualifier = None;
  name = codes "main";
  line = 2;
  clause_line = 3;
  args = (world, Di) ∷ (world, Uo) ∷ [];
  det = One;
  vars = codes "IO0" ∷ codes "IO" ∷ [];
  head = 0 ∷ 1 ∷ [];
  body = At 3 (ConjGoal (gathered (calls 3 0 (codes "p1") ∷ At 3 (SimpleGoal (Unifies 1 (Var 0))) ∷ [])));
}

-- refuses sites that are counted anew in each clause
the-program-of-two-has-three-sites :
    generated 2
    ≡ record {
      module_name = codes "gen";
      module_line = 1;
      types = [];
      procedures =
          main_of_two
          ∷ without_arguments (codes "p1") 4 5 (At 5 (ConjGoal (gathered (calls 5 1 (codes "p2") ∷ calls 5 2 (codes "p2") ∷ []))))
          ∷ without_arguments (codes "p2") 6 7 (At 7 (SimpleGoal Succeeds))
          ∷ [];
    }
unfolding on_numbers
the-program-of-two-has-three-sites = refl

-- refuses a rule by which each procedure has one site more, or one line more, than that before it
the-second-of-three-has-the-next-two-sites :
    level_procedure 3 1 ≡ without_arguments (codes "p2") 6 7 (At 7 (ConjGoal (gathered (calls 7 3 (codes "p3") ∷ calls 7 4 (codes "p3") ∷ []))))
unfolding on_numbers
the-second-of-three-has-the-next-two-sites = refl

-- with no procedure main calls one that there isn't: so the laws are of numbers from 1 on
without-procedures-a-name-is-unknown : mode_fault (generated 0) ≡ Some (UnknownName 3)
unfolding on_numbers mode_fault
without-procedures-a-name-is-unknown = refl
