-- The turns of a small clause, computed: `( if fail then true else true ), true`. Its goals are numbered 0 for the
-- conjunction, 1 for the if-then-else, 2, 3 and 4 for that one's parts, and 5 for the last.
use Rattle.std.proofs.Common.{◌≡◌, refl, arith, true, false, [], ◌∷◌, None, codes}
use Rattle.md_hlds.specs.declared.types.Det.TheVariants as det
use Rattle.md_hlds.specs.HldsGoal.{HldsGoal, At, SimpleGoal, ConjGoal, IfGoal, Succeeds, Fails, HldsGoals, nothing, also, Numbered, numbered_goal}
use Rattle.md_hlds.specs.Hlds.{Procedure, Hlds}
use Rattle.md_hlds.specs.Trace.{Frame, trace}
use Rattle.law_safety.specs.Known as known
use Rattle.law_safety.specs.Known.{Begins}
use Rattle.law_safety.specs.Unfolding.{Job, job, parts, fails, goes, first_answer, Comes, here, further, ComesToTurn}

abbrev succeeds : HldsGoal
succeeds = At 1 (SimpleGoal Succeeds)

abbrev fail : HldsGoal
fail = At 1 (SimpleGoal Fails)

abbrev chooses : HldsGoal
chooses = At 1 (IfGoal fail succeeds succeeds)

abbrev both : HldsGoals
both = also chooses (also succeeds nothing)

abbrev clause : Procedure
clause = record {
  qualifier = None;
  name = codes "p";
  line = 1;
  clause_line = 1;
  args = [];
  det = det.Det;
  vars = [];
  head = [];
  body = At 1 (ConjGoal both);
}

abbrev sample : Hlds
sample = record { module_name = codes "m"; module_line = 1; types = []; procedures = clause ∷ [] }

-- the clause's job with these goals to do
abbrev doing : Numbered → Frame
doing g = record { act = 0; env = []; goals = g ∷ []; pairs = [] }

abbrev before_last : Numbered → Frame
before_last g = record { act = 0; env = []; goals = g ∷ numbered_goal 5 succeeds ∷ []; pairs = [] }

abbrev begin : Job
begin = job 4 (doing (numbered_goal 0 (At 1 (ConjGoal both)))) [] 1

-- the condition has no answer, and so the else part is come to, and after it the last goal
no_answer : first_answer (trace sample 2 (doing (numbered_goal 2 fail)) [] 1) 1 ≡ None
no_answer = refl

to_the_else_part : Comes sample begin (job 2 (before_last (numbered_goal 4 succeeds)) [] 1)
to_the_else_part =
    further begin (job 3 (before_last (numbered_goal 1 chooses)) [] 1) _ (parts both)
    (further (job 3 (before_last (numbered_goal 1 chooses)) [] 1) (job 2 (before_last (numbered_goal 4 succeeds)) [] 1) _ (fails fail succeeds succeeds 1 refl)
    (here (job 2 (before_last (numbered_goal 4 succeeds)) [] 1)))

to_the_last : ComesToTurn sample (job 2 (before_last (numbered_goal 4 succeeds)) [] 1) 0 5
to_the_last = record {
  to = job 1 (doing (numbered_goal 5 succeeds)) [] 1;
  comes = further (job 2 (before_last (numbered_goal 4 succeeds)) [] 1) (job 1 (doing (numbered_goal 5 succeeds)) [] 1) _ (goes Succeeds [] 0 0 None refl) (here (job 1 (doing (numbered_goal 5 succeeds)) [] 1));
  deep = omega arith;
  act = refl;
  goal = refl;
}

-- the mode rules come to the else part, and to the last goal
the_else_part : Begins sample (0, clause) false 4 succeeds []
the_else_part = known.else false 1 1 fail succeeds succeeds [] (known.part false 1 chooses (also succeeds nothing) [] (known.parts false 0 1 both [] known.body))

the_last : Begins sample (0, clause) false 5 succeeds []
the_last =
    known.part false 5 succeeds nothing []
    (known.next_parts false 1 chooses (also succeeds nothing) [] (record { known = []; reach = true }) (known.parts false 0 1 both [] known.body) refl)
