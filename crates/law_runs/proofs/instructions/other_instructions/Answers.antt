use Rattle.law_safety.proofs.Whole.{proper}
use Rattle.law_frames.specs.Ways.{goals_of}
use Rattle.law_frames.specs.Moves.{env_of}
use Rattle.law_fits.proofs.InstructionLemmas.{sums, comparisons, writes_of_integers, writes_of_texts, ends_of_lines, throws}
use Rattle.law_runs.proofs.Joining.{known_here}
use Rattle.law_runs.proofs.FitTurns.{slots_hold, instructs}
use Rattle.md_hlds.specs.HldsGoal.{At, SimpleGoal, numbered_goal, Computes, Compares, WritesInt, WritesText, EndsLine, Raises}
use Rattle.std.proofs.Common.{refl}
use Rattle.law_runs.proofs.instructions.other_instructions.Goals as goal

pub returns-clause-computes : goal.returns-clause-computes
returns-clause-computes c text s spells h S a n l v u op y w x cl cs k st stands fits = let d = sums s (λ i. S.values x.index i) (env_of st) (numbered_goal n (At l (SimpleGoal (Computes v u op y)))) (goals_of w) l v u op y (known_here s stands fits) refl (slots_hold s stands) in (d.0, d.1, d.2, d.3, instructs s (proper text s spells h) stands fits _ (d.4))

pub returns-clause-compares : goal.returns-clause-compares
returns-clause-compares c text s spells h S a n l u cmp y w x cl cs k st stands fits = let d = comparisons s (λ i. S.values x.index i) (env_of st) (numbered_goal n (At l (SimpleGoal (Compares u cmp y)))) (goals_of w) l u cmp y (known_here s stands fits) refl (slots_hold s stands) in (d.0, d.1, d.2, d.3, instructs s (proper text s spells h) stands fits _ (d.4))

pub returns-clause-writes_int : goal.returns-clause-writes_int
returns-clause-writes_int c text s spells h S a n l v u y w x cl cs k st stands fits = let d = writes_of_integers s (λ i. S.values x.index i) (env_of st) (numbered_goal n (At l (SimpleGoal (WritesInt v u y)))) (goals_of w) l v u y (known_here s stands fits) refl (slots_hold s stands) in (d.0, d.1, instructs s (proper text s spells h) stands fits _ (d.2))

pub returns-clause-writes_text : goal.returns-clause-writes_text
returns-clause-writes_text c text s spells h S a n l v u y w x cl cs k st stands fits = let d = writes_of_texts s (λ i. S.values x.index i) (env_of st) (numbered_goal n (At l (SimpleGoal (WritesText v u y)))) (goals_of w) l v u y (known_here s stands fits) refl (slots_hold s stands) in (d.0, d.1, instructs s (proper text s spells h) stands fits _ (d.2))

pub returns-clause-ends_line : goal.returns-clause-ends_line
returns-clause-ends_line c text s spells h S a n l u y w x cl cs k st stands fits = instructs s (proper text s spells h) stands fits _ (ends_of_lines s (λ i. S.values x.index i) (env_of st) (numbered_goal n (At l (SimpleGoal (EndsLine u y)))) (goals_of w) l u y (known_here s stands fits) refl)

pub returns-clause-throws : goal.returns-clause-throws
returns-clause-throws c text s spells h S a n l v w x cl cs k st stands fits = let d = throws s (λ i. S.values x.index i) (env_of st) (numbered_goal n (At l (SimpleGoal (Raises v)))) (goals_of w) l v (known_here s stands fits) refl (slots_hold s stands) in (d.0, d.1, instructs s (proper text s spells h) stands fits _ (d.2))
