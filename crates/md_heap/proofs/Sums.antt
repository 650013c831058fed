-- Sums of comparisons: first one, then another.
use Rattle.std.proofs.Common.{ℕ, ◌+◌, ◌≡◌, ◌≤◌, Bool, true, false, List, [], ◌∷◌, ◌++◌, refl, sym, ap, ◌∙◌, arith}
use Rattle.md_heap.specs.declared.same.Frame.{Frame}
use Rattle.md_heap.specs.Cells.{Cells}
use Rattle.md_heap.specs.Tree.{Compared, below_pair, then_compared, compared, all_compared, Tree, Number, Literal, Built}
use Rattle.md_heap.specs.Pending.{frame_due, due, more}

-- two comparisons with the same numbers are the same
pub same-compared : (m n : ℕ) (b : Bool) → m ≡ n → ◌≡◌ {A = Compared} (record { pairs = m; equal = b }) (record { pairs = n; equal = b })
same-compared m n b e = ap (λ (k : ℕ). let r : Compared = record { pairs = k; equal = b } in r) e

assoc : (m : ℕ) (s : Bool) (n : ℕ) (t : Bool) (c : Compared) → then_compared (then_compared (record { pairs = m; equal = s }) (record { pairs = n; equal = t })) c ≡ then_compared (record { pairs = m; equal = s }) (then_compared (record { pairs = n; equal = t }) c)
assoc m false n t c = refl
assoc m true n false c = refl
assoc m true n true c = same-compared (m + n + c.pairs) (m + (n + c.pairs)) c.equal (omega arith)

pub then-assoc : (a b c : Compared) → then_compared (then_compared a b) c ≡ then_compared a (then_compared b c)
then-assoc a b c = assoc a.pairs a.equal b.pairs b.equal c

nothing : (m : ℕ) (s : Bool) → ◌≡◌ {A = Compared} (then_compared (record { pairs = m; equal = s }) (record { pairs = 0; equal = true })) (record { pairs = m; equal = s })
nothing m false = refl
nothing m true = same-compared (m + 0) m true (omega arith)

-- nothing after
pub then-nothing : (c : Compared) → then_compared c (record { pairs = 0; equal = true }) ≡ c
then-nothing c = nothing c.pairs c.equal

pub nothing-then : (c : Compared) → then_compared (record { pairs = 0; equal = true }) c ≡ c
nothing-then c = same-compared (0 + c.pairs) c.pairs c.equal (omega arith)

moved : (n m : ℕ) (s : Bool) (rest : Compared) → then_compared (more n (record { pairs = m; equal = s })) rest ≡ more n (then_compared (record { pairs = m; equal = s }) rest)
moved n m false rest = refl
moved n m true rest = same-compared (n + m + rest.pairs) (n + (m + rest.pairs)) rest.equal (omega arith)

-- a pair that was equal, before what comes then
pub more-then : (n : ℕ) (c rest : Compared) → then_compared (more n c) rest ≡ more n (then_compared c rest)
more-then n c rest = moved n c.pairs c.equal rest

pub more-more : (m n : ℕ) (c : Compared) → more m (more n c) ≡ more (m + n) c
more-more m n c = same-compared (m + (n + c.pairs)) (m + n + c.pairs) c.equal (omega arith)

-- the innermost frame is the last
pub due-push : (h : Cells) (fs : List Frame) (f : Frame) → due h (fs ++ f ∷ []) ≡ then_compared (frame_due h f) (due h fs)
due-push h [] f = nothing-then (frame_due h f) ∙ sym (then-nothing (frame_due h f))
due-push h (g ∷ fs) f = ap (λ x. then_compared x (frame_due h g)) (due-push h fs f) ∙ then-assoc (frame_due h f) (due h fs) (frame_due h g)

-- a comparison looks at one pair at least
pub below-some : (b : Bool) (rest : Compared) → 1 ≤ (below_pair b rest).pairs
below-some true rest = omega arith
below-some false rest = omega arith

pub some-pairs : (v w : Tree) → 1 ≤ (compared v w).pairs
some-pairs (Number m) (Number n) = omega arith
some-pairs (Number m) (Literal b) = omega arith
some-pairs (Number m) (Built g ys) = omega arith
some-pairs (Literal a) (Number n) = omega arith
some-pairs (Literal a) (Literal b) = omega arith
some-pairs (Literal a) (Built g ys) = omega arith
some-pairs (Built f xs) (Number n) = omega arith
some-pairs (Built f xs) (Literal b) = omega arith
some-pairs (Built f xs) (Built g ys) = below-some _ (all_compared xs ys)

first-some : (m : ℕ) (s : Bool) (rest : Compared) → 1 ≤ m → 1 ≤ (then_compared (record { pairs = m; equal = s }) rest).pairs
first-some m false rest some = some
first-some m true rest some = omega arith

pub then-some : (c rest : Compared) → 1 ≤ c.pairs → 1 ≤ (then_compared c rest).pairs
then-some c rest some = first-some c.pairs c.equal rest some
