-- Texts in names, and numbers in order, worked out by hand.
use Rattle.std.proofs.Common.{◌≡◌, ℕ, zero, suc, [], ◌∷◌, true, false, codes, refl}
use Rattle.md_people.specs.Texts.{has_text}
use Rattle.md_people.specs.Ranked.{ranked}

a-name-begins-with-a-text : has_text (codes "t.") (codes "t.n/0") ≡ true
a-name-begins-with-a-text = refl

a-text-ends-a-name : has_text (codes "/0") (codes "t.n/0") ≡ true
a-text-ends-a-name = refl

a-name-has-itself : has_text (codes "t.n/0") (codes "t.n/0") ≡ true
a-name-has-itself = refl

-- after a false start
a-text-begins-again : has_text (codes "ab") (codes "aab") ≡ true
a-text-begins-again = refl

-- its bytes are there, but not behind each other
a-text-stands-in-one-piece : has_text (codes "t0") (codes "t.n/0") ≡ false
a-text-stands-in-one-piece = refl

a-text-may-not-hang-over : has_text (codes "0/") (codes "t.n/0") ≡ false
a-text-may-not-hang-over = refl

capitals-differ : has_text (codes "T") (codes "t.n/0") ≡ false
capitals-differ = refl

abbrev count : ℕ → ℕ
count zero = 5
count (suc zero) = 9
count n = 5

-- 0 and 2 have as many
the-lower-number-is-first : ranked count (2 ∷ 1 ∷ 0 ∷ []) ≡ 1 ∷ 0 ∷ 2 ∷ []
the-lower-number-is-first = refl
