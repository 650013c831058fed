-- The generated programs: the text for each number, and the program that it spells.
use Rattle.std.specs.Prelude.{ℕ, zero, suc, ◌+◌, ◌==◌, List, [], ◌∷◌, ◌++◌, None, codes, if◌then◌else◌}
use Rattle.std.specs.Fmt.{decimal}
use Rattle.md_hlds.specs.declared.types.Mode.TheVariants.{Di, Uo}
use Rattle.md_hlds.specs.declared.types.Det.TheVariants.{Det as One}
use Rattle.md_hlds.specs.declared.goal.PredName.{PredName}
use Rattle.md_hlds.specs.declared.goal.Term.TheVariants.{Var}
use Rattle.md_hlds.specs.HldsGoal.{At, GoalExpr, SimpleGoal, Succeeds, Unifies, CallGoal, ConjGoal, gathered}
use Rattle.md_hlds.specs.Hlds.{Hlds, Procedure, world}

-- ---- the text

-- the name of procedure i
abbrev pub level_name : ℕ → List ℕ
level_name i = codes "p" ++ decimal i

-- the last of n procedures does nothing, and each other one calls the next one twice
abbrev pub level_body : ℕ → ℕ → List ℕ
level_body n i = if i == n then codes "true" else (level_name (i + 1) ++ (codes ", " ++ level_name (i + 1)))

abbrev pub level : ℕ → ℕ → List ℕ
level n i = codes ":- pred " ++ (level_name i ++ (codes " is det.\n" ++ (level_name i ++ (codes " :- " ++ (level_body n i ++ codes ".\n")))))

abbrev pub generated_main : List ℕ
generated_main = codes ":- module gen.\n:- pred main(io::di, io::uo) is det.\nmain(IO0, IO) :- p1, IO = IO0.\n"

-- k of the n procedures, from procedure i on
abbrev pub levels : ℕ → ℕ → ℕ → List ℕ
levels n i zero = []
levels n i (suc k) = level n i ++ levels n (suc i) k

-- the program of n procedures below main, whose run has 2 ^ n contexts
abbrev pub gen_text : ℕ → List ℕ
gen_text n = generated_main ++ levels n 1 n

-- ---- the program

abbrev pub level_called : ℕ → PredName
level_called i = record { qualifier = None; name = level_name i }

-- main calls procedure 1 at the first site
abbrev pub main_procedure : Procedure
main_procedure = record {
  qualifier = None;
  name = codes "main";
  line = 2;
  clause_line = 3;
  args = (world, Di) ∷ (world, Uo) ∷ [];
  det = One;
  vars = codes "IO0" ∷ codes "IO" ∷ [];
  head = 0 ∷ 1 ∷ [];
  body = At 3 (ConjGoal (gathered (At 3 (CallGoal 0 (level_called 1) []) ∷ At 3 (SimpleGoal (Unifies 1 (Var 0))) ∷ [])));
}

-- Procedure i has lines 2 + 2 i and 3 + 2 i, and its sites are 2 i - 1 and 2 i; here i is one more than j.
abbrev pub level_goal : (n j line : ℕ) → GoalExpr
level_goal n j line =
    if suc j == n
    then SimpleGoal Succeeds
    else ConjGoal (gathered (At line (CallGoal (1 + (j + j)) (level_called (suc (suc j))) []) ∷ At line (CallGoal (2 + (j + j)) (level_called (suc (suc j))) []) ∷ []))

abbrev pub level_procedure : (n j : ℕ) → Procedure
level_procedure n j = record {
  qualifier = None;
  name = level_name (suc j);
  line = 4 + (j + j);
  clause_line = 5 + (j + j);
  args = [];
  det = One;
  vars = [];
  head = [];
  body = At (5 + (j + j)) (level_goal n j (5 + (j + j)));
}

-- k of the n procedures, from procedure j + 1 on
abbrev pub level_procedures : (n j k : ℕ) → List Procedure
level_procedures n j zero = []
level_procedures n j (suc k) = level_procedure n j ∷ level_procedures n (suc j) k

-- the program that the text for n spells
abbrev pub generated : ℕ → Hlds
generated n = record {
  module_name = codes "gen";
  module_line = 1;
  types = [];
  procedures = main_procedure ∷ level_procedures n 0 n;
}

-- the most steps that a run may be given
abbrev pub most_steps : ℕ
most_steps = 16777216
