-- Items that lead lawfully on from a history: each event may follow, and what holds at the first answer, at the end and
-- after an exception is given. A budget goes along, which each turn takes its weight from.
use Rattle.std.specs.Prelude.{⊤}
use Rattle.std.proofs.Common.{◌≡◌, sym, ap, subst, ℕ, suc, ◌-◌, ◌≤◌, List, [], ◌∷◌, ◌++◌, length}
use Rattle.md_hlds.specs.Value.{Env}
use Rattle.md_hlds.specs.Trace.{Turn, Call, Exit, Redo, Fail, Excp, Alloc, Out, Throw, Answer, Stuck, Deep, Items, joined, first}
use Rattle.md_trace.specs.declared.event.Event.{Event}
use Rattle.md_trace.specs.declared.event.Event.TheVariants.{Call as CallOf, Exit as ExitOf, Redo as RedoOf, Fail as FailOf, Excp as ExcpOf, Alloc as AllocOf}
use Rattle.md_trace.specs.Activation.{activations}
use Rattle.md_trace.specs.PortHistory.{SiteTable, MayFollow}

-- how many calls a history has
abbrev pub count : List Event → ℕ
count h = length (activations h)

-- what holds with so much of the budget left, after a history
abbrev pub Then : Type 1
Then = ℕ → List Event → Type 0

-- what holds at an answer
abbrev pub AtAnswer : Type 1
AtAnswer = Env → ℕ → List Event → Type 0

-- exceptions that may follow, and then `out`
abbrev pub Leaves : SiteTable → Then → ℕ → List Event → Items → Type 0
Leaves t out left h [] = out left h
Leaves t out left h (Excp a ∷ xs) = MayFollow t h (ExcpOf a) × Leaves t out left (ExcpOf a ∷ h) xs
Leaves t out left h (x ∷ xs) = ⊥

-- items each of whose events may follow, up to their first answer, where `good` holds, their end, where `over` holds, or
-- the end of an exception, where `out` holds
abbrev pub Goes : SiteTable → AtAnswer → Then → Then → ℕ → List Event → Items → Type 0
Goes t good over out left h [] = over left h
Goes t good over out left h (Turn a g w ∷ xs) = w ≤ left → Goes t good over out (left - w) h xs
Goes t good over out left h (Call a p s q ∷ xs) = MayFollow t h (CallOf a p s q) × Goes t good over out left (CallOf a p s q ∷ h) xs
Goes t good over out left h (Exit a ∷ xs) = MayFollow t h (ExitOf a) × Goes t good over out left (ExitOf a ∷ h) xs
Goes t good over out left h (Redo a ∷ xs) = MayFollow t h (RedoOf a) × Goes t good over out left (RedoOf a ∷ h) xs
Goes t good over out left h (Fail a ∷ xs) = MayFollow t h (FailOf a) × Goes t good over out left (FailOf a ∷ h) xs
Goes t good over out left h (Excp a ∷ xs) = MayFollow t h (ExcpOf a) × Goes t good over out left (ExcpOf a ∷ h) xs
Goes t good over out left h (Alloc a w ∷ xs) = MayFollow t h (AllocOf a w) × Goes t good over out left (AllocOf a w ∷ h) xs
Goes t good over out left h (Out bytes ∷ xs) = Goes t good over out left h xs
Goes t good over out left h (Throw bytes ∷ xs) = Leaves t out left h xs
Goes t good over out left h (Answer e ∷ xs) = good e left h
Goes t good over out left h (Stuck ∷ xs) = ⊤
Goes t good over out left h (Deep ∷ xs) = ⊤

-- exceptions, and then more of them
pub leaves_append : (t : SiteTable) (out : Then) (xs more : Items) (left : ℕ) (h : List Event)
    → Leaves t (λ l i. Leaves t out l i more) left h xs → Leaves t out left h (xs ++ more)
leaves_append t out [] more left h g = g
leaves_append t out (Excp a ∷ xs) more left h g = (g.0, leaves_append t out xs more left (ExcpOf a ∷ h) g.1)
leaves_append t out (Turn a n w ∷ xs) more left h g = elim g [ ]
leaves_append t out (Call a p s q ∷ xs) more left h g = elim g [ ]
leaves_append t out (Exit a ∷ xs) more left h g = elim g [ ]
leaves_append t out (Redo a ∷ xs) more left h g = elim g [ ]
leaves_append t out (Fail a ∷ xs) more left h g = elim g [ ]
leaves_append t out (Alloc a w ∷ xs) more left h g = elim g [ ]
leaves_append t out (Out bytes ∷ xs) more left h g = elim g [ ]
leaves_append t out (Throw bytes ∷ xs) more left h g = elim g [ ]
leaves_append t out (Answer e ∷ xs) more left h g = elim g [ ]
leaves_append t out (Stuck ∷ xs) more left h g = elim g [ ]
leaves_append t out (Deep ∷ xs) more left h g = elim g [ ]

-- one trace and then another
pub goes_joined : (t : SiteTable) (good : AtAnswer) (over out : Then) (rest : ℕ → Items) (xs : Items) (k left : ℕ) (h : List Event) → k ≡ count h
    → Goes t good (λ l i. Goes t good over out l i (rest (count i))) out left h xs → Goes t good over out left h (joined xs k rest)
goes_joined t good over out rest [] k left h is g = subst (λ n. Goes t good over out left h (rest n)) (sym is) g
goes_joined t good over out rest (Turn a n w ∷ xs) k left h is g = λ fits. goes_joined t good over out rest xs k (left - w) h is (g fits)
goes_joined t good over out rest (Call a p s q ∷ xs) k left h is g = (g.0, goes_joined t good over out rest xs (suc k) left (CallOf a p s q ∷ h) (ap suc is) g.1)
goes_joined t good over out rest (Exit a ∷ xs) k left h is g = (g.0, goes_joined t good over out rest xs k left (ExitOf a ∷ h) is g.1)
goes_joined t good over out rest (Redo a ∷ xs) k left h is g = (g.0, goes_joined t good over out rest xs k left (RedoOf a ∷ h) is g.1)
goes_joined t good over out rest (Fail a ∷ xs) k left h is g = (g.0, goes_joined t good over out rest xs k left (FailOf a ∷ h) is g.1)
goes_joined t good over out rest (Excp a ∷ xs) k left h is g = (g.0, goes_joined t good over out rest xs k left (ExcpOf a ∷ h) is g.1)
goes_joined t good over out rest (Alloc a w ∷ xs) k left h is g = (g.0, goes_joined t good over out rest xs k left (AllocOf a w ∷ h) is g.1)
goes_joined t good over out rest (Out bytes ∷ xs) k left h is g = goes_joined t good over out rest xs k left h is g
goes_joined t good over out rest (Throw bytes ∷ xs) k left h is g = g
goes_joined t good over out rest (Answer e ∷ xs) k left h is g = g
goes_joined t good over out rest (Stuck ∷ xs) k left h is g = tt
goes_joined t good over out rest (Deep ∷ xs) k left h is g = tt

-- a trace up to its first answer, and what follows that, its end or its exception
pub goes_first : (t : SiteTable) (good : AtAnswer) (over out : Then) (found : Env → ℕ → Items) (missed : ℕ → Items) (thrown : Items) (xs : Items) (k left : ℕ) (h : List Event) → k ≡ count h
    → Goes t (λ e l i. Goes t good over out l i (found e (count i))) (λ l i. Goes t good over out l i (missed (count i))) (λ l i. Leaves t out l i thrown) left h xs
    → Goes t good over out left h (first xs k found missed thrown)
goes_first t good over out found missed thrown [] k left h is g = subst (λ n. Goes t good over out left h (missed n)) (sym is) g
goes_first t good over out found missed thrown (Turn a n w ∷ xs) k left h is g = λ fits. goes_first t good over out found missed thrown xs k (left - w) h is (g fits)
goes_first t good over out found missed thrown (Call a p s q ∷ xs) k left h is g = (g.0, goes_first t good over out found missed thrown xs (suc k) left (CallOf a p s q ∷ h) (ap suc is) g.1)
goes_first t good over out found missed thrown (Exit a ∷ xs) k left h is g = (g.0, goes_first t good over out found missed thrown xs k left (ExitOf a ∷ h) is g.1)
goes_first t good over out found missed thrown (Redo a ∷ xs) k left h is g = (g.0, goes_first t good over out found missed thrown xs k left (RedoOf a ∷ h) is g.1)
goes_first t good over out found missed thrown (Fail a ∷ xs) k left h is g = (g.0, goes_first t good over out found missed thrown xs k left (FailOf a ∷ h) is g.1)
goes_first t good over out found missed thrown (Excp a ∷ xs) k left h is g = (g.0, goes_first t good over out found missed thrown xs k left (ExcpOf a ∷ h) is g.1)
goes_first t good over out found missed thrown (Alloc a w ∷ xs) k left h is g = (g.0, goes_first t good over out found missed thrown xs k left (AllocOf a w ∷ h) is g.1)
goes_first t good over out found missed thrown (Out bytes ∷ xs) k left h is g = goes_first t good over out found missed thrown xs k left h is g
goes_first t good over out found missed thrown (Throw bytes ∷ xs) k left h is g = leaves_append t out xs thrown left h g
goes_first t good over out found missed thrown (Answer e ∷ xs) k left h is g = subst (λ n. Goes t good over out left h (found e n)) (sym is) g
goes_first t good over out found missed thrown (Stuck ∷ xs) k left h is g = tt
goes_first t good over out found missed thrown (Deep ∷ xs) k left h is g = tt
