-- How a run ends, and which answer tells of it.
use Rattle.std.specs.Prelude.{ℕ, ◌≡◌, Bool, true, false, List, Option, Some, None, Result, Ok, Err}
use Rattle.md_hlds.specs.Trace.{Items}
use Rattle.md_hlds.specs.Run.{is_finished, error}
use Rattle.md_machine.specs.declared.ran.End.{End}
use Rattle.md_machine.specs.declared.ran.End.TheVariants as end
use Rattle.md_machine.specs.declared.ran.Ran.{Ran}
use Rattle.md_tool.specs.declared.fault.Fault.{Fault}
use Rattle.md_tool.specs.declared.fault.Fault.TheVariants.{OutOfSteps, Thrown}

pub data RunEnd : Type 0 where
  -- `main` succeeded
  Finished : RunEnd
  -- an exception with these bytes left `main`
  Threw : (bytes : List ℕ) → RunEnd
  -- the next turn is heavier than what is left of the steps
  RanOut : RunEnd

abbrev pub end_by : (finished : Bool) → (thrown : Option (List ℕ)) → RunEnd
end_by true thrown = Finished
end_by false (Some bytes) = Threw bytes
end_by false None = RanOut

-- a run that is neither finished nor thrown is out of steps
abbrev pub end_of : Items → RunEnd
end_of xs = end_by (is_finished xs) (error xs)

-- the end that the code tells
abbrev pub end_told : End → (bytes : List ℕ) → RunEnd
end_told end.Finished bytes = Finished
end_told end.Thrown bytes = Threw bytes
end_told end.OutOfSteps bytes = RanOut

abbrev pub ran_end : Ran → RunEnd
ran_end ran = end_told ran.end ran.error.items

-- the answer of a command that does all that is due after a run with this end
abbrev pub TellsEnd : RunEnd → Result (Unit {0}) Fault → Type 0
TellsEnd e (Ok done) = e ≡ Finished
TellsEnd e (Err OutOfSteps) = e ≡ RanOut
TellsEnd e (Err (Thrown bytes)) = e ≡ Threw bytes.items
TellsEnd e (Err fault) = ⊥
