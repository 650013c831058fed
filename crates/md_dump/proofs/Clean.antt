-- Words without spaces and line ends, joined to lines and cut into words again.
use Rattle.std.proofs.Common.{◌≡◌, ℕ, ◌<◌, ◌≤◌, ◌^◌, true, ◌==◌, ◌&&◌, ◌||◌, nat_le, List, [], ◌∷◌, ◌++◌, length, map, Option, None, Some, IfSome, inl, inr, arith}
use Rattle.std.specs.Fmt.{decimal}
use Rattle.std.specs.List.{join_with_byte, AllByRecursion}
use Rattle.std.proofs.lemmas.Bool.{and_parts, or_cases, leb-true, eqb-true, ne_eqb, false≢true}
use Rattle.md_base.specs.declared.measure.Counts.{Counts}
use Rattle.md_static.specs.Names.{is_lower, is_upper, is_digit, is_word, are_words, is_name}
use Rattle.md_deepfile.specs.Bytes.{numbers_of}
use Rattle.md_deepfile.specs.Spells.{AreSmall}
use Rattle.md_dump.specs.Forms.{words_of}
use Rattle.md_dump.specs.Text.{Words, or_dash}
use Rattle.md_dump.proofs.Decimal.{IsClean, decimal_clean}
use Rattle.md_dump.proofs.Joined.{IsWithout, split_joined, joined_split}

-- the words of a line, with single spaces between them
abbrev pub row : Words → List ℕ
row ws = join_with_byte 32 ws

abbrev pub AreClean : Words → Type 0
AreClean ws = AllByRecursion IsClean ws

without_space : (w : List ℕ) → IsClean w → IsWithout 32 w
without_space [] clean = tt
without_space (b ∷ bs) clean = (ne_eqb b 32 (λ e. absurd (omega (arith, clean.0, e))), without_space bs clean.1)

no_spaces : (ws : Words) → AreClean ws → AllByRecursion (IsWithout 32) ws
no_spaces [] clean = tt
no_spaces (w ∷ ws) clean = (without_space w clean.0, no_spaces ws clean.1)

without_lf : (w : List ℕ) → IsClean w → IsWithout 10 w
without_lf [] clean = tt
without_lf (b ∷ bs) clean = (ne_eqb b 10 (λ e. absurd (omega (arith, clean.0, e))), without_lf bs clean.1)

both_without : (v w : List ℕ) → IsWithout 10 v → IsWithout 10 w → IsWithout 10 (v ++ w)
both_without [] w first second = second
both_without (b ∷ bs) w first second = (first.0, both_without bs w first.1 second)

-- a line of clean words has no line end, and is cut into them
pub row_without : (ws : Words) → AreClean ws → IsWithout 10 (row ws)
row_without [] clean = tt
row_without (w ∷ []) clean = without_lf w clean.0
row_without (w ∷ v ∷ ws) clean = both_without w (32 ∷ row (v ∷ ws)) (without_lf w clean.0) (ne_eqb 32 10 (λ e. absurd (omega (arith, e))), row_without (v ∷ ws) clean.1)

pub words_again : (w : List ℕ) (ws : Words) → AreClean (w ∷ ws) → words_of (row (w ∷ ws)) ≡ w ∷ ws
words_again w ws clean = split_joined 32 w ws (no_spaces (w ∷ ws) clean)

pub row_again : (l : List ℕ) (ws : Words) → words_of l ≡ ws → l ≡ row ws
row_again l ws is = joined_split 32 l ws is

-- names
word_above : (c : ℕ) → is_word c ≡ true → 32 < c
word_above c h = elim (or_cases (is_lower c || is_upper c || is_digit c) (c == 95) h) [
  | inl more ↦ elim (or_cases (is_lower c || is_upper c) (is_digit c) more) [
    | inl letter ↦ elim (or_cases (is_lower c) (is_upper c) letter) [
      | inl lower ↦ omega (arith, leb-true 97 c (and_parts (nat_le 97 c) (nat_le c 122) lower).0)
      | inr upper ↦ omega (arith, leb-true 65 c (and_parts (nat_le 65 c) (nat_le c 90) upper).0)
    ]
    | inr digit ↦ omega (arith, leb-true 48 c (and_parts (nat_le 48 c) (nat_le c 57) digit).0)
  ]
  | inr line ↦ omega (arith, eqb-true c 95 line)
]

words_clean : (cs : List ℕ) → are_words cs ≡ true → IsClean cs
words_clean [] h = tt
words_clean (c ∷ cs) h = let both = and_parts (is_word c) (are_words cs) h in (word_above c both.0, words_clean cs both.1)

pub name_clean : (name : List ℕ) → is_name name ≡ true → IsClean name
name_clean [] h = absurd (false≢true h)
name_clean (c ∷ cs) h =
    let both = and_parts (is_lower c && are_words cs) (nat_le (length cs) 254) h in
    let front = and_parts (is_lower c) (are_words cs) both.0 in
    (omega (arith, leb-true 97 c (and_parts (nat_le 97 c) (nat_le c 122) front.0).0), words_clean cs front.1)

-- numbers
pub number_clean : (n : ℕ) → n ≤ 4294967295 → IsClean (decimal n)
number_clean n below = decimal_clean n (omega arith)

pub maybe_clean : (o : Option ℕ) → IfSome o (λ n. n ≤ 4294967295) → IsClean (or_dash o)
maybe_clean None below = (omega arith, tt)
maybe_clean (Some n) below = number_clean n below

word_clean : (n : ℕ) → n < 2 ^ 32 → IsClean (decimal n)
word_clean n below = decimal_clean n (omega arith)

pub counts_clean : (own : Counts) → AreSmall own → AreClean (map decimal (numbers_of own))
counts_clean own small =
    (word_clean own.calls small.calls, (word_clean own.exits small.exits, (word_clean own.fails small.fails, (word_clean own.redos small.redos, (word_clean own.allocs small.allocs, (word_clean own.words small.words, (word_clean own.excps small.excps, tt)))))))
