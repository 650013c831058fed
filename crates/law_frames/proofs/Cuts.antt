-- Cuts: choices are dropped down to a height that a frame keeps.
use Rattle.std.proofs.Common.{◌++◌, ◌≡◌, refl, ap, sym, ◌∙◌, arith, ℕ, suc, ◌≤◌, Bool, true, false, cond, nat_le, List, [], ◌∷◌, length, true≢false}
use Rattle.std.proofs.lemmas.Bool.{le-leb, lt-leb, leb-true, leb-false}
use Rattle.law_frames.specs.Stores.{Act, Choice, Store, Perm, KeepsHeight, trimmed, trimmed_if}

trimmed_more : (h : ℕ) (ch : Choice) (cs : List Choice) → h ≤ length cs → trimmed h (ch ∷ cs) ≡ trimmed h cs
trimmed_more h ch cs le = ap (λ b. cond b (ch ∷ cs) (trimmed h cs)) (lt-leb (suc (length cs)) h (omega (arith, le)))

pub trimmed_all : (cs : List Choice) → trimmed (length cs) cs ≡ cs
trimmed_all [] = refl
trimmed_all (ch ∷ cs) = ap (λ b. cond b (ch ∷ cs) (trimmed (length (ch ∷ cs)) cs)) (le-leb (suc (length cs)) (length (ch ∷ cs)) (omega arith))

by_test : (h : ℕ) (ch : Choice) (cs : List Choice) → h ≤ length (ch ∷ cs) → (h ≤ length cs → length (trimmed h cs) ≡ h) → (b : Bool) → nat_le (suc (length cs)) h ≡ b
    → length (cond b (ch ∷ cs) (trimmed h cs)) ≡ h
by_test h ch cs le rest true is = let more = leb-true (suc (length cs)) h is in omega (arith, more, le)
by_test h ch cs le rest false is = rest (let less = leb-false (suc (length cs)) h is in omega (arith, less))

-- so many are left
pub trimmed_length : (h : ℕ) (cs : List Choice) → h ≤ length cs → length (trimmed h cs) ≡ h
trimmed_length h [] le = omega (arith, le)
trimmed_length h (ch ∷ cs) le = by_test h ch cs le (λ less. trimmed_length h cs less) (nat_le (suc (length cs)) h) refl

-- an end cuts these choices to those
pub record Cutting (cut : Bool) (h : ℕ) (cs rest : List Choice) : Type 0 where
  pub low : cut ≡ true → h ≤ length cs
  pub is : rest ≡ trimmed_if cut h cs

pub cut_here : (S : Store) (W : Perm) (x : Act) (cut : Bool) (n : ℕ) (cs : List Choice) → KeepsHeight S W x cut n (length cs) → Cutting cut (S.heights x.index n) cs cs
cut_here S W x true n cs keeps = record { low = λ t. omega (arith, keeps.0); is = sym (ap (λ h. trimmed h cs) keeps.0 ∙ trimmed_all cs) }
cut_here S W x false n cs keeps = record { low = λ t. absurd (true≢false (sym t)); is = refl }

pub cut_past : (cut : Bool) (h : ℕ) (cs rest : List Choice) (ch : Choice) → cut ≡ true → Cutting cut h cs rest → Cutting cut h (ch ∷ cs) rest
cut_past true h cs rest ch t cuts = record { low = λ t. (let low = cuts.low t in omega (arith, low)); is = cuts.is ∙ sym (trimmed_more h ch cs (cuts.low t)) }
cut_past false h cs rest ch t cuts = absurd (true≢false (sym t))

cut_rest : (h : ℕ) (ch : Choice) (cs : List Choice) → (dropped : List Choice) × (cs ≡ dropped ++ trimmed h cs) → (b : Bool) → (dropped : List Choice) × ((ch ∷ cs) ≡ dropped ++ cond b (ch ∷ cs) (trimmed h cs))
cut_rest h ch cs rest true = ([], refl)
cut_rest h ch cs rest false = (ch ∷ rest.0, ap (λ ds. ch ∷ ds) rest.1)

-- what is left is the older end of the stack
pub trimmed_rest : (h : ℕ) (cs : List Choice) → (dropped : List Choice) × (cs ≡ dropped ++ trimmed h cs)
trimmed_rest h [] = ([], refl)
trimmed_rest h (ch ∷ cs) = cut_rest h ch cs (trimmed_rest h cs) (nat_le (suc (length cs)) h)
