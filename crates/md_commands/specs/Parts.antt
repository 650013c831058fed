-- The words after a command: its options, and the other words.
use Rattle.std.specs.Prelude.{ℕ, Bool, true, false, not, ◌==◌, ◌&&◌, ◌||◌, List, [], ◌∷◌, Option, Some, None, cond}
use Rattle.std.specs.List.{before_first, after_first, list_any}
use Rattle.std.specs.Str.{bytes_eq}

abbrev pub Text : Type 0
Text = List ℕ

-- ---- the options of a command

-- the names of the options that a command takes, without the dashes: those with a value, and those without
pub record Usage : Type 0 where
  pub valued : List Text
  pub flags : List Text

abbrev pub is_one_of : List Text → Text → Bool
is_one_of names name = list_any (λ n. bytes_eq n name) names

abbrev pub takes_value : Usage → Text → Bool
takes_value usage name = is_one_of usage.valued name

abbrev pub is_flag : Usage → Text → Bool
is_flag usage name = is_one_of usage.flags name

-- ---- words, before `--` has come

pub data Kind : Type 0 where
  -- `--`
  Dashes : Kind
  -- `--name` or `--name=value`
  Long : (name : Text) (value : Option Text) → Kind
  -- `-name`
  Short : Kind
  -- a word that doesn't begin with `-`, or `-` alone
  Plain : Kind

-- what stands behind the first `=`, where there is one
abbrev pub behind_equals : Text → Option Text
behind_equals word = cond (list_any (λ b. b == 61) word) (Some (after_first (λ b. b == 61) word)) None

abbrev pub behind_two_dashes : Text → Kind
behind_two_dashes [] = Dashes
behind_two_dashes (b ∷ bytes) = Long (before_first (λ b. b == 61) (b ∷ bytes)) (behind_equals (b ∷ bytes))

abbrev pub behind_dash : Text → Kind
behind_dash [] = Plain
behind_dash (b ∷ bytes) = cond (b == 45) (behind_two_dashes bytes) Short

abbrev pub kind_of : Text → Kind
kind_of [] = Plain
kind_of (b ∷ bytes) = cond (b == 45) (behind_dash bytes) Plain

-- ---- parts

pub data Part : Type 0 where
  -- an option without a value
  Flagged : (name : Text) → Part
  -- an option with its value
  Valued : (name value : Text) → Part
  -- what is none of any command: another word that begins with a dash, or an option that lacks its value
  Refused : Part
  -- a word that is no option
  Other : (word : Text) → Part

-- what the next word may be
pub data Place : Type 0 where
  -- an option or another word
  Front : Place
  -- the value of the option that came just before
  Value : (name : Text) → Place
  -- no option: `--` has come
  Rest : Place

-- the part that a word ends, if it ends one
abbrev pub part_at : Usage → Place → Text → Kind → Option Part
part_at usage Front word Dashes = None
part_at usage Front word (Long name (Some value)) = Some (Valued name value)
part_at usage Front word (Long name None) = cond (takes_value usage name) None (Some (Flagged name))
part_at usage Front word Short = Some Refused
part_at usage Front word Plain = Some (Other word)
part_at usage (Value name) word Dashes = Some Refused
part_at usage (Value name) word (Long other value) = Some Refused
part_at usage (Value name) word Short = Some Refused
part_at usage (Value name) word Plain = Some (Valued name word)
part_at usage Rest word kind = Some (Other word)

-- what a word makes of the next one: behind the name of an option comes its value, and behind `--` all words are ordinary
abbrev pub after : Usage → Place → Kind → Place
after usage Front Dashes = Rest
after usage Front (Long name (Some value)) = Front
after usage Front (Long name None) = cond (takes_value usage name) (Value name) Front
after usage Front Short = Front
after usage Front Plain = Front
after usage (Value name) kind = Front
after usage Rest kind = Rest

abbrev pub with_part : Option Part → List Part → List Part
with_part None parts = parts
with_part (Some part) parts = part ∷ parts

-- no word is left, also none for an option that waits for its value
abbrev pub at_end : Place → List Part
at_end Front = []
at_end (Value name) = Refused ∷ []
at_end Rest = []

-- the parts of the words from a place on
abbrev pub parts_from : Usage → Place → List Text → List Part
parts_from usage place [] = at_end place
parts_from usage place (word ∷ words) = with_part (part_at usage place word (kind_of word)) (parts_from usage (after usage place (kind_of word)) words)

-- ---- what is read of them

-- the words that are no options, in order
abbrev pub others : List Part → List Text
others [] = []
others (Flagged name ∷ parts) = others parts
others (Valued name value ∷ parts) = others parts
others (Refused ∷ parts) = others parts
others (Other word ∷ parts) = word ∷ others parts

-- the option of this name comes, with a value or without
abbrev pub is_given : Text → List Part → Bool
is_given name [] = false
is_given name (Flagged n ∷ parts) = bytes_eq n name || is_given name parts
is_given name (Valued n value ∷ parts) = bytes_eq n name || is_given name parts
is_given name (Refused ∷ parts) = is_given name parts
is_given name (Other word ∷ parts) = is_given name parts

-- the value of the option of this name, where it comes with one
abbrev pub value_of : Text → List Part → Option Text
value_of name [] = None
value_of name (Flagged n ∷ parts) = value_of name parts
value_of name (Valued n value ∷ parts) = cond (bytes_eq n name) (Some value) (value_of name parts)
value_of name (Refused ∷ parts) = value_of name parts
value_of name (Other word ∷ parts) = value_of name parts

-- each option is one of the command's, with a value where it takes one, and comes once
abbrev pub are_right : Usage → List Part → Bool
are_right usage [] = true
are_right usage (Flagged name ∷ parts) = is_flag usage name && (not (is_given name parts) && are_right usage parts)
are_right usage (Valued name value ∷ parts) = takes_value usage name && (not (is_given name parts) && are_right usage parts)
are_right usage (Refused ∷ parts) = false
are_right usage (Other word ∷ parts) = are_right usage parts
