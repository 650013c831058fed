-- A stream of which more bytes were read.
use Rattle.std.proofs.Common.{◌≡◌, ℕ, zero, suc, ◌+◌, Bool, List, [], ◌∷◌, ◌++◌, take, drop, Some, sym, ◌∙◌, ap, arith}
use Rattle.std.proofs.lemmas.List.{drop_all}
use Rattle.md_base.specs.Streams.{Stream}
use Rattle.md_base.proofs.Told.{take_add}

abbrev pub stream_at : List ℕ → List ℕ → Bool → Stream
stream_at taken left ended = record { taken = taken; left = left; ended = ended }

-- a stream of which n more bytes were read
pub read_on : (input : List ℕ) (place n : ℕ) (ended now : Bool) → now ≡ ended
    → Some (stream_at (take (place + n) input) (drop (place + n) input) now) ≡ Some (stream_at (take place input ++ take n (drop place input)) (drop n (drop place input)) ended)
read_on input place n ended now same =
    ap (λ (flag : Bool). Some (stream_at (take (place + n) input) (drop (place + n) input) flag)) same
    ∙ ap (λ (front : List ℕ). Some (stream_at front (drop (place + n) input) ended)) (sym (take_add place n input))
    ∙ ap (λ (rest : List ℕ). Some (stream_at (take place input ++ take n (drop place input)) rest ended)) (drop_add place n input)
  where
    drop_add : (m k : ℕ) (xs : List ℕ) → drop (m + k) xs ≡ drop k (drop m xs)
    drop_add zero k xs = let same : 0 + k ≡ k = omega arith in ap (λ (j : ℕ). drop j xs) same
    drop_add (suc m) k [] = drop_all (suc m + k) [] (omega arith) ∙ sym (drop_all k [] (omega arith))
    drop_add (suc m) k (x ∷ xs) = let same : suc m + k ≡ suc (m + k) = omega arith in ap (λ (j : ℕ). drop j (x ∷ xs)) same ∙ drop_add m k xs
