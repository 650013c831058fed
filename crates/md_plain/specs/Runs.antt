-- The frames, items and runs of the program as those of the definition.
use Rattle.std.specs.Prelude.{List, [], ◌∷◌, ◌++◌, Option, Some, None}
use denote.Ref.{Bor}
use Rattle.md_hlds.specs.declared.goal.Goal.{Goal}
use Rattle.md_hlds.specs.HldsGoal.{HldsGoal, goal_of}
use Rattle.md_hlds.specs.Trace.{Items}
use Rattle.md_hlds.specs.Trace as trace
use Rattle.md_plain.specs.Told as meant
use Rattle.md_plain.specs.declared.job.Frame.{Frame}
use Rattle.md_plain.specs.declared.job.Job.{Job}
use Rattle.md_plain.specs.declared.job.Place.{Place}
use Rattle.md_plain.specs.declared.told.Item.{Item}
use Rattle.md_plain.specs.declared.told.Item.TheVariants.{Turn, Call, Exit, Redo, Fail, Excp, Alloc, Out, Throw, Answer, Stuck, Deep}
use Rattle.md_plain.specs.declared.told.Made.{Made, Nothing, Also'}
use Rattle.md_plain.specs.declared.told.Run.{Run}
use Rattle.md_plain.specs.declared.told.End.{End}
use Rattle.md_plain.specs.declared.told.End.TheVariants.{Answered, Missed, Thrown, Over}
use Rattle.md_plain.specs.declared.told.Told.{Told}
use Rattle.md_plain.specs.Values.{env_of}
use Rattle.md_plain.specs.Goals.{numbereds_of}

abbrev pub frame_of : Frame → trace.Frame
frame_of f = record { act = f.act; env = env_of f.env.now; goals = numbereds_of f.goals.now; pairs = f.pairs.now }

abbrev pub frames_of : List Frame → List trace.Frame
frames_of [] = []
frames_of (f ∷ fs) = frame_of f ∷ frames_of fs

abbrev pub job_of : Job → meant.Job
job_of j = meant.in_job (frame_of j.frame) (frames_of j.callers.now)

abbrev pub place_of : Place → meant.Place
place_of p = record { frame = frame_of p.frame; number = p.number; goals = numbereds_of p.goals.now; callers = frames_of p.callers.now }

abbrev pub option_job : Option Job → Option meant.Job
option_job None = None
option_job (Some j) = Some (job_of j)

abbrev pub option_front : Option (Place × Bor Goal) → Option (meant.Place × HldsGoal)
option_front None = None
option_front (Some p) = Some (place_of p.0, goal_of p.1.now)

abbrev pub item_of : Item → trace.Item
item_of (Turn a goal weight) = trace.Turn a goal weight
item_of (Call a parent site procedure) = trace.Call a parent site procedure
item_of (Exit a) = trace.Exit a
item_of (Redo a) = trace.Redo a
item_of (Fail a) = trace.Fail a
item_of (Excp a) = trace.Excp a
item_of (Alloc a words) = trace.Alloc a words
item_of (Out bytes) = trace.Out bytes.now
item_of (Throw bytes) = trace.Throw bytes.now
item_of (Answer e) = trace.Answer (env_of e.now)
item_of Stuck = trace.Stuck
item_of Deep = trace.Deep

abbrev pub items_told : List Item → Items
items_told [] = []
items_told (x ∷ xs) = item_of x ∷ items_told xs

abbrev pub made_of : Made → Items
made_of Nothing = []
made_of (Also' r before x) = made_of before ++ (item_of x ∷ [])

abbrev pub run_of : Run → meant.Run
run_of r = record { items = made_of r.items.now; left = r.left; next = r.next }

abbrev pub option_run : Option Run → Option meant.Run
option_run None = None
option_run (Some r) = Some (run_of r)

abbrev pub end_of : End → meant.End
end_of (Answered e) = meant.Answered (env_of e.now)
end_of Missed = meant.Missed
end_of Thrown = meant.Thrown
end_of Over = meant.Over

abbrev pub told_of : Told → meant.Told
told_of t = meant.ended (run_of t.run) (end_of t.end)
