use Rattle.law_safety.proofs.Whole.{proper}
use Rattle.law_frames.specs.Ways.{goals_of}
use Rattle.law_frames.specs.Moves.{env_of}
use Rattle.law_fits.proofs.InstructionLemmas.{assignments, tests_of_variables, constants, tests_of_constants}
use Rattle.law_runs.proofs.Joining.{known_here}
use Rattle.law_runs.proofs.FitTurns.{instructs}
use Rattle.md_hlds.specs.HldsGoal.{At, SimpleGoal, numbered_goal, Unifies}
use Rattle.md_hlds.specs.declared.goal.Term.TheVariants.{Var}
use Rattle.std.proofs.Common.{refl, inl, inr}
use Rattle.law_runs.proofs.instructions.instructions_on_variables.Goals as goal

pub returns-clause-assigns : goal.returns-clause-assigns
returns-clause-assigns c text s spells h S a n l v u to w x cl cs k st stands fits role = elim (assignments s (λ i. S.values x.index i) (env_of st) (numbered_goal n (At l (SimpleGoal (Unifies v (Var u))))) (goals_of w) l v u to (known_here s stands fits) refl role) [ inl d ↦ inl (d.0, instructs s (proper text s spells h) stands fits _ (d.1)) | inr d ↦ inr (d.0, instructs s (proper text s spells h) stands fits _ (d.1)) ]

pub returns-clause-tests : goal.returns-clause-tests
returns-clause-tests c text s spells h S a n l v u w x cl cs k st stands fits role = instructs s (proper text s spells h) stands fits _ (tests_of_variables s (λ i. S.values x.index i) (env_of st) (numbered_goal n (At l (SimpleGoal (Unifies v (Var u))))) (goals_of w) l v u (known_here s stands fits) refl role)

pub returns-clause-constant : goal.returns-clause-constant
returns-clause-constant c text s spells h S a n l v t o w x cl cs k st stands fits is role = instructs s (proper text s spells h) stands fits _ (constants s (λ i. S.values x.index i) (env_of st) (numbered_goal n (At l (SimpleGoal (Unifies v t)))) (goals_of w) l v t o (known_here s stands fits) refl is role)

pub returns-clause-tests_constant : goal.returns-clause-tests_constant
returns-clause-tests_constant c text s spells h S a n l v t o bound w x cl cs k st stands fits is role = instructs s (proper text s spells h) stands fits _ (tests_of_constants s (λ i. S.values x.index i) (env_of st) (numbered_goal n (At l (SimpleGoal (Unifies v t)))) (goals_of w) l v t o bound (known_here s stands fits) refl is role)
