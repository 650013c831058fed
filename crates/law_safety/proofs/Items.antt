-- Traces that aren't stuck and whose answers are good.
use Rattle.std.proofs.Common.{ℕ, zero, suc, List, [], ◌∷◌, ◌++◌, Option, Some, None}
use Rattle.std.specs.Prelude.{⊤}
use Rattle.md_hlds.specs.Value.{Env}
use Rattle.md_hlds.specs.Trace.{Turn, Call, Exit, Redo, Fail, Excp, Alloc, Out, Throw, Answer, Stuck, Deep, Items, joined, first, allocated, written}
use Rattle.md_hlds.proofs.DepthLemmas.{AreExcps, both_excps}

-- no item is Stuck, each answer is good, and after a Throw come only exceptions
abbrev pub Fine : (Env → Type 0) → Items → Type 0
Fine good [] = ⊤
Fine good (Stuck ∷ xs) = ⊥
Fine good (Answer e ∷ xs) = good e × Fine good xs
Fine good (Throw bytes ∷ xs) = AreExcps xs
Fine good (x ∷ xs) = Fine good xs

pub fine_joined : (good : Env → Type 0) (xs : Items) (k : ℕ) (rest : ℕ → Items) → Fine good xs → ((n : ℕ) → Fine good (rest n)) → Fine good (joined xs k rest)
fine_joined good [] k rest h g = g k
fine_joined good (Turn a p w ∷ xs) k rest h g = fine_joined good xs k rest h g
fine_joined good (Call a p s q ∷ xs) k rest h g = fine_joined good xs (suc k) rest h g
fine_joined good (Exit a ∷ xs) k rest h g = fine_joined good xs k rest h g
fine_joined good (Redo a ∷ xs) k rest h g = fine_joined good xs k rest h g
fine_joined good (Fail a ∷ xs) k rest h g = fine_joined good xs k rest h g
fine_joined good (Excp a ∷ xs) k rest h g = fine_joined good xs k rest h g
fine_joined good (Alloc a w ∷ xs) k rest h g = fine_joined good xs k rest h g
fine_joined good (Out bytes ∷ xs) k rest h g = fine_joined good xs k rest h g
fine_joined good (Throw bytes ∷ xs) k rest h g = h
fine_joined good (Answer e ∷ xs) k rest h g = (h.0, fine_joined good xs k rest h.1 g)
fine_joined good (Stuck ∷ xs) k rest h g = elim h [ ]
fine_joined good (Deep ∷ xs) k rest h g = tt

-- what follows the first answer has the property of the answers that are cut off
pub fine_first : (inner good : Env → Type 0) (xs : Items) (k : ℕ) (found : Env → ℕ → Items) (missed : ℕ → Items) (thrown : Items)
    → Fine inner xs → ((e : Env) (n : ℕ) → inner e → Fine good (found e n)) → ((n : ℕ) → Fine good (missed n)) → AreExcps thrown
    → Fine good (first xs k found missed thrown)
fine_first inner good [] k found missed thrown h f g t = g k
fine_first inner good (Turn a p w ∷ xs) k found missed thrown h f g t = fine_first inner good xs k found missed thrown h f g t
fine_first inner good (Call a p s q ∷ xs) k found missed thrown h f g t = fine_first inner good xs (suc k) found missed thrown h f g t
fine_first inner good (Exit a ∷ xs) k found missed thrown h f g t = fine_first inner good xs k found missed thrown h f g t
fine_first inner good (Redo a ∷ xs) k found missed thrown h f g t = fine_first inner good xs k found missed thrown h f g t
fine_first inner good (Fail a ∷ xs) k found missed thrown h f g t = fine_first inner good xs k found missed thrown h f g t
fine_first inner good (Excp a ∷ xs) k found missed thrown h f g t = fine_first inner good xs k found missed thrown h f g t
fine_first inner good (Alloc a w ∷ xs) k found missed thrown h f g t = fine_first inner good xs k found missed thrown h f g t
fine_first inner good (Out bytes ∷ xs) k found missed thrown h f g t = fine_first inner good xs k found missed thrown h f g t
fine_first inner good (Throw bytes ∷ xs) k found missed thrown h f g t = both_excps xs thrown h t
fine_first inner good (Answer e ∷ xs) k found missed thrown h f g t = f e k h.0
fine_first inner good (Stuck ∷ xs) k found missed thrown h f g t = elim h [ ]
fine_first inner good (Deep ∷ xs) k found missed thrown h f g t = tt

pub fine_allocated : (good : Env → Type 0) (a words : ℕ) (xs : Items) → Fine good xs → Fine good (allocated a words ++ xs)
fine_allocated good a zero xs h = h
fine_allocated good a (suc n) xs h = h

pub fine_written : (good : Env → Type 0) (out : Option (List ℕ)) (xs : Items) → Fine good xs → Fine good (written out ++ xs)
fine_written good None xs h = h
fine_written good (Some bytes) xs h = h
