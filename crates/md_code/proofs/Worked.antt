-- The code of a small program, worked out by hand.
use Rattle.std.proofs.Common.{◌≡◌, refl, ℕ, [], ◌∷◌, ◌++◌, None}
use Rattle.md_hlds.specs.declared.types.Det.TheVariants.{Semidet}
use Rattle.md_hlds.specs.HldsGoal.{HldsGoal, At, SimpleGoal, ConjGoal, IfGoal, NotGoal, Succeeds, Fails, nothing, also}
use Rattle.md_hlds.specs.Hlds.{Hlds}
use Rattle.md_flat.specs.declared.instruction.Instruction.{Instruction}
use Rattle.md_flat.specs.declared.instruction.Operation.TheVariants as act
use Rattle.md_code.specs.Blocks.{instruction, common_code, program_code}

abbrev program : HldsGoal → Hlds
program body = record {
  module_name = [];
  module_line = 1;
  types = [];
  procedures = record { qualifier = None; name = 112 ∷ []; line = 1; clause_line = 2; args = []; det = Semidet; vars = []; head = []; body = body } ∷ [];
}

abbrev pass : ℕ → Instruction
pass next = instruction 0 next act.Pass

-- true, \+ fail: the negation is charged with what is pending, at the goal that it negates, and goes on at the body's end
conjunction : program_code (program (At 2 (ConjGoal (also (At 2 (SimpleGoal Succeeds)) (also (At 2 (NotGoal (At 2 (SimpleGoal Fails)))) nothing)))))
    ≡ common_code
    ++ (pass 12 ∷ pass 0 ∷ pass 0 ∷ pass 10 ∷ instruction 0 0 (act.Exit 0) ∷ pass 0
    ∷ pass 18 ∷ pass 0 ∷ pass 0 ∷ pass 0 ∷ pass 0 ∷ pass 0
    ∷ pass 24 ∷ pass 0 ∷ pass 0 ∷ pass 0 ∷ pass 0 ∷ pass 0
    ∷ instruction 4 9 act.Charge ∷ pass 0 ∷ pass 0 ∷ pass 28 ∷ instruction 0 1 act.Charge ∷ pass 0 ∷ [])
conjunction = refl

-- (true -> fail ; true): the then part and the else part end at the end of the whole, where the else part's weight is charged
test : program_code (program (At 2 (IfGoal (At 2 (SimpleGoal Succeeds)) (At 2 (SimpleGoal Fails)) (At 2 (SimpleGoal Succeeds)))))
    ≡ common_code
    ++ (pass 12 ∷ pass 0 ∷ pass 0 ∷ pass 10 ∷ instruction 0 0 (act.Exit 0) ∷ pass 0
    ∷ pass 15 ∷ pass 0 ∷ pass 0 ∷ pass 18 ∷ pass 0 ∷ pass 0
    ∷ instruction 3 1 act.Charge ∷ pass 0 ∷ pass 0 ∷ instruction 0 22 act.Charge ∷ pass 9 ∷ pass 0
    ∷ pass 27 ∷ pass 0 ∷ pass 0 ∷ instruction 1 28 act.Charge ∷ pass 9 ∷ pass 0 ∷ [])
test = refl
