use Rattle.law_safety.proofs.Whole.{proper}
use Rattle.law_frames.specs.Ways.{goals_of}
use Rattle.law_frames.specs.Moves.{env_of}
use Rattle.law_fits.proofs.InstructionLemmas.{constructions, closings, deconstructions, free_deconstructions}
use Rattle.law_runs.proofs.Joining.{known_here}
use Rattle.law_runs.proofs.FitTurns.{slots_hold, instructs}
use Rattle.md_hlds.specs.HldsGoal.{At, SimpleGoal, numbered_goal, Unifies}
use Rattle.md_hlds.specs.declared.goal.Term.TheVariants.{Name}
use Rattle.std.proofs.Common.{refl}
use Rattle.law_runs.proofs.instructions.instructions_on_terms.Goals as goal

pub returns-clause-constructs : goal.returns-clause-constructs
returns-clause-constructs c text s spells h S a n l v q ys w x cl cs k st stands fits role = instructs s (proper text s spells h) stands fits _ (constructions s (λ i. S.values x.index i) (env_of st) (numbered_goal n (At l (SimpleGoal (Unifies v (Name q ys))))) (goals_of w) l v q ys (known_here s stands fits) refl role)

pub returns-clause-closes : goal.returns-clause-closes
returns-clause-closes c text s spells h S a n l v q ys r w x cl cs k st stands fits role called = instructs s (proper text s spells h) stands fits _ (closings s (λ i. S.values x.index i) (env_of st) (numbered_goal n (At l (SimpleGoal (Unifies v (Name q ys))))) (goals_of w) l v q ys r (known_here s stands fits) refl role called)

pub returns-clause-takes_apart : goal.returns-clause-takes_apart
returns-clause-takes_apart c text s spells h S a n l v q ys bound w x cl cs k st stands fits role = let d = deconstructions s (λ i. S.values x.index i) (env_of st) (numbered_goal n (At l (SimpleGoal (Unifies v (Name q ys))))) (goals_of w) l v q ys bound (known_here s stands fits) refl role (slots_hold s stands) in (d.0, (d.1.0, d.1.1, instructs s (proper text s spells h) stands fits _ (d.1.2)))

pub returns-clause-takes_all : goal.returns-clause-takes_all
returns-clause-takes_all c text s spells h S a n l v q ys w x cl cs k st stands fits role = let d = free_deconstructions s (λ i. S.values x.index i) (env_of st) (numbered_goal n (At l (SimpleGoal (Unifies v (Name q ys))))) (goals_of w) l v q ys (known_here s stands fits) refl role (slots_hold s stands) in (d.0, (d.1.0, d.1.1, instructs s (proper text s spells h) stands fits _ (d.1.2)))
