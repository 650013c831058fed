-- The pairs behind a path, and what their values are.
use Rattle.std.specs.Prelude.{ℕ, Bool, not, ◌&&◌, ◌==◌, nat_le, List, [], ◌∷◌, length, Option, Some, None, codes, cond, All}
use Rattle.std.specs.Str.{bytes_eq}
use Rattle.std.specs.Str.Lossy.{utf8_lossy}
use Rattle.std.specs.List.{list_all}
use Rattle.std.specs.Char.{is_ascii_digit}
use Rattle.form_urlencoded.specs.Form.{raw_pairs, decode, IsPlainText}
use Rattle.md_base.specs.declared.measure.Measure.{Measure}
use Rattle.md_base.specs.declared.measure.Measure.TheVariants.{Calls, Exits, Fails, Redos, Allocs, Words, Excps}
use Rattle.md_people.specs.declared.sort.Sort.{Sort}
use Rattle.md_people.specs.declared.sort.Sort.TheVariants.{Total, Own}
use Rattle.md_token.specs.Literal.{number_of}

-- ---- texts

-- the text that a name or a value is written for: `+` is a space, percent escapes are decoded, and bytes that aren't UTF-8 replaced
abbrev pub text_of : List ℕ → List ℕ
text_of written = utf8_lossy (decode written)

-- the value of the first of these pairs that has the name
abbrev pub first_value : (name : List ℕ) → List (List ℕ × List ℕ) → Option (List ℕ)
first_value name [] = None
first_value name ((key, value) ∷ pairs) = cond (bytes_eq (text_of key) name) (Some (text_of value)) (first_value name pairs)

-- the pairs stand between `&`, name and value on the two sides of the first `=`; without one there is a name, and its value is empty
abbrev pub value_of : (name pairs : List ℕ) → Option (List ℕ)
value_of name pairs = first_value name (raw_pairs pairs)

-- nothing of the pairs is to be decoded: neither `+` nor `%` is in them, and names and values are UTF-8
abbrev pub IsPlainPair : List ℕ × List ℕ → Type 0
IsPlainPair (name, value) = IsPlainText name × IsPlainText value

abbrev pub ArePlain : (pairs : List ℕ) → Type 0
ArePlain pairs = All IsPlainPair (raw_pairs pairs)

-- ---- numbers

-- one or more digits
abbrev pub is_number : List ℕ → Bool
is_number text = not (length text == 0) && list_all is_ascii_digit text

abbrev pub within : (least most : ℕ) → ℕ → Option ℕ
within least most n = cond (nat_le least n && nat_le n most) (Some n) None

-- the number that the text is, where it is one from `least` to `most`
abbrev pub number_within : (least most : ℕ) → List ℕ → Option ℕ
number_within least most text = cond (is_number text) (within least most (number_of text)) None

abbrev pub number_from : (least most : ℕ) → Option (List ℕ) → Option ℕ
number_from least most None = None
number_from least most (Some text) = number_within least most text

abbrev pub number_in : (name : List ℕ) (least most : ℕ) (pairs : List ℕ) → Option ℕ
number_in name least most pairs = number_from least most (value_of name pairs)

-- the number of a context
abbrev pub id_in : (pairs : List ℕ) → Option ℕ
id_in pairs = number_in (codes "id") 0 4294967295 pairs

-- the number of a clique or of a procedure
abbrev pub id_within : List ℕ → Option ℕ
id_within text = number_within 0 4294967295 text

-- how many procedures are to be listed
abbrev pub count_in : (pairs : List ℕ) → Option ℕ
count_in pairs = number_in (codes "n") 1 1000 pairs

-- ---- measures

-- the measure of this name
abbrev pub measure_named : List ℕ → Option Measure
measure_named name =
    cond (bytes_eq name (codes "calls")) (Some Calls)
    (cond (bytes_eq name (codes "exits")) (Some Exits)
    (cond (bytes_eq name (codes "fails")) (Some Fails)
    (cond (bytes_eq name (codes "redos")) (Some Redos)
    (cond (bytes_eq name (codes "allocs")) (Some Allocs)
    (cond (bytes_eq name (codes "words")) (Some Words)
    (cond (bytes_eq name (codes "excps")) (Some Excps) None))))))

abbrev pub measure_from : Option (List ℕ) → Option Measure
measure_from None = None
measure_from (Some name) = measure_named name

abbrev pub measure_in : (pairs : List ℕ) → Option Measure
measure_in pairs = measure_from (value_of (codes "by") pairs)

-- ---- pairs with a default: one that is missing has it, and one that is there with another value makes no query

-- by which measure
abbrev pub measure_or : (default : Measure) → Option (List ℕ) → Option Measure
measure_or default None = Some default
measure_or default (Some name) = measure_named name

abbrev pub measure_asked : (pairs : List ℕ) → Option Measure
measure_asked pairs = measure_or Calls (value_of (codes "by") pairs)

-- how many rows
abbrev pub number_or : (default least most : ℕ) → Option (List ℕ) → Option ℕ
number_or default least most None = Some default
number_or default least most (Some text) = number_within least most text

abbrev pub count_asked : (pairs : List ℕ) → Option ℕ
count_asked pairs = number_or 30 1 1000 (value_of (codes "n") pairs)

-- how many thousandths of the whole are enough
abbrev pub least_asked : (default : ℕ) (pairs : List ℕ) → Option ℕ
least_asked default pairs = number_or default 0 1000 (value_of (codes "least") pairs)

-- by totals or by own counts
abbrev pub sort_named : List ℕ → Option Sort
sort_named name = cond (bytes_eq name (codes "total")) (Some Total) (cond (bytes_eq name (codes "own")) (Some Own) None)

abbrev pub sort_or : (default : Sort) → Option (List ℕ) → Option Sort
sort_or default None = Some default
sort_or default (Some name) = sort_named name

abbrev pub sort_asked : (pairs : List ℕ) → Option Sort
sort_asked pairs = sort_or Total (value_of (codes "sort") pairs)
