-- Words joined by a byte, and cut at it again.
use Rattle.std.proofs.Common.{◌≡◌, ℕ, false, ◌==◌, List, [], ◌∷◌, ◌++◌, refl, sym, ap, ◌∙◌, append_assoc}
use Rattle.std.specs.List.{slice_split, join_with_byte, flat_map, AllByRecursion}
use Rattle.std.proofs.lemmas.List.Splits.{slice_split_none, slice_split_at, join_with_byte-slice_split}
use Rattle.std.proofs.lemmas.List.Elements.{All-from_recursion}
use Rattle.std.proofs.lemmas.Bool.{eq-eqb}
use Rattle.std.proofs.lemmas.List.{append-nil}

-- a word without this byte
abbrev pub IsWithout : ℕ → List ℕ → Type 0
IsWithout c w = AllByRecursion (λ b. (b == c) ≡ false) w

-- words, of which none has the byte, are cut as they were joined
pub split_joined : (c : ℕ) (w : List ℕ) (ws : List (List ℕ)) → AllByRecursion (IsWithout c) (w ∷ ws) → slice_split (λ b. b == c) (join_with_byte c (w ∷ ws)) ≡ w ∷ ws
split_joined c w [] clean = slice_split_none (λ b. b == c) w (All-from_recursion (λ b. (b == c) ≡ false) w clean.0)
split_joined c w (v ∷ ws) clean =
    slice_split_at (λ b. b == c) w c (join_with_byte c (v ∷ ws)) (All-from_recursion (λ b. (b == c) ≡ false) w clean.0) (eq-eqb c c refl)
    ∙ ap (λ (vs : List (List ℕ)). w ∷ vs) (split_joined c v ws clean.1)

-- and what is cut is joined again
pub joined_split : (c : ℕ) (bs : List ℕ) (ws : List (List ℕ)) → slice_split (λ b. b == c) bs ≡ ws → bs ≡ join_with_byte c ws
joined_split c bs ws e = sym (join_with_byte-slice_split c bs) ∙ ap (join_with_byte c) e

-- lines, each of which a byte ends
abbrev pub ended_by : ℕ → List ℕ → List ℕ
ended_by c l = l ++ c ∷ []

pub split_lines : (c : ℕ) (ls : List (List ℕ)) → AllByRecursion (IsWithout c) ls → slice_split (λ b. b == c) (flat_map (ended_by c) ls) ≡ ls ++ [] ∷ []
split_lines c [] clean = refl
split_lines c (l ∷ ls) clean =
    ap (slice_split (λ b. b == c)) (append_assoc l (c ∷ []) (flat_map (ended_by c) ls))
    ∙ slice_split_at (λ b. b == c) l c (flat_map (ended_by c) ls) (All-from_recursion (λ b. (b == c) ≡ false) l clean.0) (eq-eqb c c refl)
    ∙ ap (λ (vs : List (List ℕ)). l ∷ vs) (split_lines c ls clean.1)

joined_lines : (c : ℕ) (ls : List (List ℕ)) → join_with_byte c (ls ++ [] ∷ []) ≡ flat_map (ended_by c) ls
joined_lines c [] = refl
joined_lines c (l ∷ []) = sym (append-nil (l ++ c ∷ []))
joined_lines c (l ∷ m ∷ ls) =
    ap (λ (xs : List ℕ). l ++ c ∷ xs) (joined_lines c (m ∷ ls)) ∙ sym (append_assoc l (c ∷ []) (flat_map (ended_by c) (m ∷ ls)))

pub lines_split : (c : ℕ) (bs : List ℕ) (ls : List (List ℕ)) → slice_split (λ b. b == c) bs ≡ ls ++ [] ∷ [] → bs ≡ flat_map (ended_by c) ls
lines_split c bs ls e = joined_split c bs (ls ++ [] ∷ []) e ∙ joined_lines c ls
