-- Walks, one after another.
use Rattle.std.proofs.Common.{ℕ, List}
use Rattle.md_trace.specs.Reaches.{Reaches, here, more}

pub walk_on : (links : List (ℕ × ℕ)) (a b c : ℕ) → Reaches links a b → Reaches links b c → Reaches links a c
walk_on links a b c (here x) next = next
walk_on links a b c (more k x y z is rest) next = more k a y c is (walk_on links y b c rest next)
