-- A name at the front of a text.
use Rattle.std.proofs.Common.{◌≡◌, ℕ, ◌+◌, ◌≤◌, List, [], ◌∷◌, length, get_or, take, drop, add-one, false, ap, arith}
use Rattle.std.specs.List.{prefix_len}
use Rattle.md_token.specs.Token.{name_at, word_kind, qualifies, is_word_byte}
use Rattle.md_token.specs.declared.kind.Kind.{Kind}

-- a name that is no qualifier, whose kind goes by all of its bytes
pub plain_name : (text : List ℕ) (k : Kind) (n : ℕ) → 1 ≤ length text → n ≡ prefix_len is_word_byte (drop 1 text) → qualifies (drop n (drop 1 text)) ≡ false → k ≡ word_kind (take (n + 1) text) → (k, n) ≡ name_at (get_or text 0 0) (drop 1 text)
unfolding name_at
plain_name [] k n h e f g = absurd (omega arith)
plain_name (b ∷ bytes) k n h e f g = rw (← e, f) (ap (λ (j : Kind). (j, n)) (rw (add-one n) at g))
