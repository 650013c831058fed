-- Places of the code as the definitions have them.
use Rattle.std.specs.Prelude.{ℕ, Bool, true, false}
use Rattle.md_hlds.specs.HldsGoal.{GoalExpr, SimpleGoal}
use Rattle.md_hlds.specs.declared.goal.Term.{Term}
use Rattle.md_hlds.specs.declared.goal.Term.TheVariants.{Var, Int, Str, Name}
use Rattle.md_code.specs.declared.place.End as code
use Rattle.md_code.specs.declared.place.End.TheVariants as end
use Rattle.md_code.specs.declared.place.Trial as code'
use Rattle.md_code.specs.declared.place.Trial.TheVariants as trial
use Rattle.md_code.specs.declared.place.Place as code''
use Rattle.md_code.specs.Tables.{fail_address}
use Rattle.md_code.specs.Blocks.{End, Along, Joining, Holding, Denying, Exiting, Yielding, Trial, NoArm, LastArm, ArmBefore, Keeping, Place, other_after, height_if}

abbrev pub end_told : code.End → End
end_told end.Along = Along
end_told (end.Joining other next) = Joining other next
end_told (end.Holding height next) = Holding height next
end_told (end.Denying height other) = Denying height other
end_told (end.Exiting procedure height) = Exiting procedure height
end_told (end.Yielding procedure other) = Yielding procedure other

abbrev pub trial_told : code'.Trial → Trial
trial_told trial.NoArm = NoArm
trial_told trial.LastArm = LastArm
trial_told (trial.ArmBefore other) = ArmBefore other
trial_told (trial.Keeping height) = Keeping height

abbrev pub place_told : code''.Place → Place
place_told p = record {
  next = p.next;
  other = p.other;
  pending = p.pending;
  height = p.height;
  size = p.size;
  end = end_told p.end;
  trial = trial_told p.trial;
}

-- an integer or a literal
abbrev pub is_plain : Term → Bool
is_plain (Var y) = false
is_plain (Int n) = true
is_plain (Str bytes) = true
is_plain (Name q ys) = false

-- a goal with neither parts nor calls
abbrev pub is_simple : GoalExpr → Bool
is_simple (SimpleGoal g) = true
is_simple t = false

-- the end of the body of that procedure, which may have more answers or not, and leave a choice or not
abbrev pub body_end_by : (procedure : ℕ) → (many leaves : Bool) → (variables : ℕ) → End
body_end_by q true leaves variables = Yielding q (other_after fail_address leaves)
body_end_by q false leaves variables = Exiting q (height_if leaves variables)
