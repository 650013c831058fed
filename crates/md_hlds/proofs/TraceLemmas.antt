-- Laws of traces: what `first` and `joined` do one inside the other, and what the budget does at a turn.
use Rattle.std.proofs.Common.{◌≡◌, refl, ap, ℕ, suc, ◌-◌, ◌<◌, ◌≤◌, Option, [], ◌∷◌, ◌++◌, append_assoc}
use Rattle.std.proofs.lemmas.Bool.{le-leb, lt-leb}
use Rattle.md_hlds.specs.Value.{Env}
use Rattle.md_hlds.specs.Trace.{Turn, Call, Exit, Redo, Fail, Excp, Alloc, Out, Throw, Answer, Stuck, Deep, Items, joined, first}
use Rattle.md_hlds.specs.Run.{cut, cut_turn}

-- the first answer of what follows a first answer
pub first-first : (xs : Items) (k : ℕ) (found : Env → ℕ → Items) (missed : ℕ → Items) (thrown : Items) (later : Env → ℕ → Items) (never : ℕ → Items) (last : Items)
    → first (first xs k found missed thrown) k later never last
    ≡ first xs k (λ e n. first (found e n) n later never last) (λ n. first (missed n) n later never last) (thrown ++ last)
first-first [] k found missed thrown later never last = refl
first-first (Turn a g w ∷ xs) k found missed thrown later never last = ap (λ ys. Turn a g w ∷ ys) (first-first xs k found missed thrown later never last)
first-first (Call a p s q ∷ xs) k found missed thrown later never last = ap (λ ys. Call a p s q ∷ ys) (first-first xs (suc k) found missed thrown later never last)
first-first (Exit a ∷ xs) k found missed thrown later never last = ap (λ ys. Exit a ∷ ys) (first-first xs k found missed thrown later never last)
first-first (Redo a ∷ xs) k found missed thrown later never last = ap (λ ys. Redo a ∷ ys) (first-first xs k found missed thrown later never last)
first-first (Fail a ∷ xs) k found missed thrown later never last = ap (λ ys. Fail a ∷ ys) (first-first xs k found missed thrown later never last)
first-first (Excp a ∷ xs) k found missed thrown later never last = ap (λ ys. Excp a ∷ ys) (first-first xs k found missed thrown later never last)
first-first (Alloc a w ∷ xs) k found missed thrown later never last = ap (λ ys. Alloc a w ∷ ys) (first-first xs k found missed thrown later never last)
first-first (Out bytes ∷ xs) k found missed thrown later never last = ap (λ ys. Out bytes ∷ ys) (first-first xs k found missed thrown later never last)
first-first (Throw bytes ∷ xs) k found missed thrown later never last = ap (λ ys. Throw bytes ∷ ys) (append_assoc xs thrown last)
first-first (Answer e ∷ xs) k found missed thrown later never last = refl
first-first (Stuck ∷ xs) k found missed thrown later never last = refl
first-first (Deep ∷ xs) k found missed thrown later never last = refl

-- the first answer of one trace and then another: the second is asked only where the first has none
pub first-joined : (xs : Items) (k : ℕ) (rest : ℕ → Items) (found : Env → ℕ → Items) (missed : ℕ → Items) (thrown : Items)
    → first (joined xs k rest) k found missed thrown ≡ first xs k found (λ n. first (rest n) n found missed thrown) thrown
first-joined [] k rest found missed thrown = refl
first-joined (Turn a g w ∷ xs) k rest found missed thrown = ap (λ ys. Turn a g w ∷ ys) (first-joined xs k rest found missed thrown)
first-joined (Call a p s q ∷ xs) k rest found missed thrown = ap (λ ys. Call a p s q ∷ ys) (first-joined xs (suc k) rest found missed thrown)
first-joined (Exit a ∷ xs) k rest found missed thrown = ap (λ ys. Exit a ∷ ys) (first-joined xs k rest found missed thrown)
first-joined (Redo a ∷ xs) k rest found missed thrown = ap (λ ys. Redo a ∷ ys) (first-joined xs k rest found missed thrown)
first-joined (Fail a ∷ xs) k rest found missed thrown = ap (λ ys. Fail a ∷ ys) (first-joined xs k rest found missed thrown)
first-joined (Excp a ∷ xs) k rest found missed thrown = ap (λ ys. Excp a ∷ ys) (first-joined xs k rest found missed thrown)
first-joined (Alloc a w ∷ xs) k rest found missed thrown = ap (λ ys. Alloc a w ∷ ys) (first-joined xs k rest found missed thrown)
first-joined (Out bytes ∷ xs) k rest found missed thrown = ap (λ ys. Out bytes ∷ ys) (first-joined xs k rest found missed thrown)
first-joined (Throw bytes ∷ xs) k rest found missed thrown = refl
first-joined (Answer e ∷ xs) k rest found missed thrown = refl
first-joined (Stuck ∷ xs) k rest found missed thrown = refl
first-joined (Deep ∷ xs) k rest found missed thrown = refl

-- what follows all that follows a first answer
pub joined-first : (xs : Items) (k : ℕ) (found : Env → ℕ → Items) (missed : ℕ → Items) (thrown : Items) (rest : ℕ → Items)
    → joined (first xs k found missed thrown) k rest ≡ first xs k (λ e n. joined (found e n) n rest) (λ n. joined (missed n) n rest) thrown
joined-first [] k found missed thrown rest = refl
joined-first (Turn a g w ∷ xs) k found missed thrown rest = ap (λ ys. Turn a g w ∷ ys) (joined-first xs k found missed thrown rest)
joined-first (Call a p s q ∷ xs) k found missed thrown rest = ap (λ ys. Call a p s q ∷ ys) (joined-first xs (suc k) found missed thrown rest)
joined-first (Exit a ∷ xs) k found missed thrown rest = ap (λ ys. Exit a ∷ ys) (joined-first xs k found missed thrown rest)
joined-first (Redo a ∷ xs) k found missed thrown rest = ap (λ ys. Redo a ∷ ys) (joined-first xs k found missed thrown rest)
joined-first (Fail a ∷ xs) k found missed thrown rest = ap (λ ys. Fail a ∷ ys) (joined-first xs k found missed thrown rest)
joined-first (Excp a ∷ xs) k found missed thrown rest = ap (λ ys. Excp a ∷ ys) (joined-first xs k found missed thrown rest)
joined-first (Alloc a w ∷ xs) k found missed thrown rest = ap (λ ys. Alloc a w ∷ ys) (joined-first xs k found missed thrown rest)
joined-first (Out bytes ∷ xs) k found missed thrown rest = ap (λ ys. Out bytes ∷ ys) (joined-first xs k found missed thrown rest)
joined-first (Throw bytes ∷ xs) k found missed thrown rest = refl
joined-first (Answer e ∷ xs) k found missed thrown rest = refl
joined-first (Stuck ∷ xs) k found missed thrown rest = refl
joined-first (Deep ∷ xs) k found missed thrown rest = refl

-- to join is associative
pub joined-joined : (xs : Items) (k : ℕ) (rest : ℕ → Items) (last : ℕ → Items)
    → joined (joined xs k rest) k last ≡ joined xs k (λ n. joined (rest n) n last)
joined-joined [] k rest last = refl
joined-joined (Turn a g w ∷ xs) k rest last = ap (λ ys. Turn a g w ∷ ys) (joined-joined xs k rest last)
joined-joined (Call a p s q ∷ xs) k rest last = ap (λ ys. Call a p s q ∷ ys) (joined-joined xs (suc k) rest last)
joined-joined (Exit a ∷ xs) k rest last = ap (λ ys. Exit a ∷ ys) (joined-joined xs k rest last)
joined-joined (Redo a ∷ xs) k rest last = ap (λ ys. Redo a ∷ ys) (joined-joined xs k rest last)
joined-joined (Fail a ∷ xs) k rest last = ap (λ ys. Fail a ∷ ys) (joined-joined xs k rest last)
joined-joined (Excp a ∷ xs) k rest last = ap (λ ys. Excp a ∷ ys) (joined-joined xs k rest last)
joined-joined (Alloc a w ∷ xs) k rest last = ap (λ ys. Alloc a w ∷ ys) (joined-joined xs k rest last)
joined-joined (Out bytes ∷ xs) k rest last = ap (λ ys. Out bytes ∷ ys) (joined-joined xs k rest last)
joined-joined (Throw bytes ∷ xs) k rest last = refl
joined-joined (Answer e ∷ xs) k rest last = ap (λ ys. Answer e ∷ ys) (joined-joined xs k rest last)
joined-joined (Stuck ∷ xs) k rest last = refl
joined-joined (Deep ∷ xs) k rest last = refl

-- a turn that the budget allows, and one that it doesn't
pub cut_allowed : (left a : ℕ) (g : Option ℕ) (w : ℕ) (xs : Items) → w ≤ left → cut left (Turn a g w ∷ xs) ≡ Turn a g w ∷ cut (left - w) xs
cut_allowed left a g w xs fits = ap (cut_turn a g w (cut (left - w) xs)) (le-leb w left fits)

pub cut_refused : (left a : ℕ) (g : Option ℕ) (w : ℕ) (xs : Items) → left < w → cut left (Turn a g w ∷ xs) ≡ []
cut_refused left a g w xs over = ap (cut_turn a g w (cut (left - w) xs)) (lt-leb w left over)
