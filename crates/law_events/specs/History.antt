-- The events of a run as a history: ports and allocations, the latest first. What is unfolded, written and answered, and
-- the bytes of an exception, are no events.
use Rattle.std.specs.Prelude.{ℕ, suc, List, [], ◌∷◌}
use Rattle.md_hlds.specs.Trace.{Turn, Call, Exit, Redo, Fail, Excp, Alloc, Out, Throw, Answer, Stuck, Deep, Items}
use Rattle.md_trace.specs.declared.event.Event.{Event}
use Rattle.md_trace.specs.declared.event.Event.TheVariants.{Call as CallOf, Exit as ExitOf, Redo as RedoOf, Fail as FailOf, Excp as ExcpOf, Alloc as AllocOf}

-- a history with the events of these items after it
abbrev pub told : Items → List Event → List Event
told [] h = h
told (Call a p s q ∷ xs) h = told xs (CallOf a p s q ∷ h)
told (Exit a ∷ xs) h = told xs (ExitOf a ∷ h)
told (Redo a ∷ xs) h = told xs (RedoOf a ∷ h)
told (Fail a ∷ xs) h = told xs (FailOf a ∷ h)
told (Excp a ∷ xs) h = told xs (ExcpOf a ∷ h)
told (Alloc a w ∷ xs) h = told xs (AllocOf a w ∷ h)
told (Turn a g w ∷ xs) h = told xs h
told (Out bytes ∷ xs) h = told xs h
told (Throw bytes ∷ xs) h = told xs h
told (Answer e ∷ xs) h = told xs h
told (Stuck ∷ xs) h = told xs h
told (Deep ∷ xs) h = told xs h

-- the history of these items
abbrev pub history : Items → List Event
history xs = told xs []

-- how many calls these items have
abbrev pub call_count : Items → ℕ
call_count [] = 0
call_count (Call a p s q ∷ xs) = suc (call_count xs)
call_count (x ∷ xs) = call_count xs
