-- Texts in names.
use Rattle.std.specs.Prelude.{ℕ, ◌+◌, Bool, nat_eq, List, length, drop}
use Rattle.std.specs.List.{list_any, range_with_len, starts_with}

-- from one of its places on the name begins with the text
abbrev pub has_text : (text name : List ℕ) → Bool
has_text text name = list_any (λ place. starts_with nat_eq (drop place name) text) (range_with_len 0 (length name + 1))
