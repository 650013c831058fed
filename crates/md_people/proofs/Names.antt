-- Names of modules and procedures.
use Rattle.std.proofs.Common.{◌≡◌, ℕ, Bool, true, false, List, [], ◌∷◌, length, refl}
use Rattle.std.specs.Prelude.{◌&&◌, ◌||◌, ◌==◌, nat_le}
use Rattle.md_static.specs.Names.{are_words, is_digit, is_lower, is_name, is_upper}

lower_and_words : (lower upper digit under words short : Bool) → (lower && words && short) ≡ true → ((lower || upper || digit || under) && words) ≡ true
lower_and_words true upper digit under true short e = refl
lower_and_words true upper digit under false short e = cc
lower_and_words false upper digit under words short e = cc

-- each byte of a name is one of a word
pub words_of_name : (name : List ℕ) → is_name name ≡ true → are_words name ≡ true
words_of_name [] e = cc
words_of_name (c ∷ cs) e = lower_and_words (is_lower c) (is_upper c) (is_digit c) (c == 95) (are_words cs) (nat_le (length cs) 254) e
