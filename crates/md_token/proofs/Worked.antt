-- Texts cut into tokens, and what strings stand for, worked out by hand.
use Rattle.std.proofs.Common.{◌≡◌, refl, arith, ℕ, List, [], ◌∷◌}
use Rattle.std.specs.Prelude.{codes}
use Rattle.md_token.specs.declared.kind.Kind.{Kind}
use Rattle.md_token.specs.declared.kind.Kind.TheVariants as kind
use Rattle.md_token.specs.Kinds.{same_kind}
use Rattle.md_token.specs.Literal.{string_value, meaning}
use Rattle.md_token.specs.Token.{HasParts, Lexeme, tokens_of}
use Rattle.md_token.specs.Token as token

abbrev at : ℕ → Kind → List ℕ → Lexeme
at line k text = record { kind = k; text = text; line = line }

-- refuses a rule by which a comment ends with the text's first line, or takes the line feed with it, so that lines are lost
a_comment_ends_with_its_line : tokens_of (codes "a % b ( \nc%\n%d") ≡ at 1 kind.Name (codes "a") ∷ at 2 kind.Name (codes "c") ∷ at 3 kind.Stop [] ∷ []
unfolding same_kind token.tokens_of token.prefix_at token.token_at token.name_at token.word_kind token.sign_at token.colon_at token.single_at token.variable_at token.dash_at
a_comment_ends_with_its_line = refl

-- refuses a rule by which spaces and line feeds alone are white space, and one by which a carriage return ends a line
tabs_and_returns_are_blank : tokens_of (97 ∷ 9 ∷ 98 ∷ 13 ∷ 99 ∷ 13 ∷ 10 ∷ 100 ∷ []) ≡ at 1 kind.Name (codes "a") ∷ at 1 kind.Name (codes "b") ∷ at 1 kind.Name (codes "c") ∷ at 2 kind.Name (codes "d") ∷ at 2 kind.Stop [] ∷ []
unfolding same_kind token.tokens_of token.prefix_at token.token_at token.name_at token.word_kind token.sign_at token.colon_at token.single_at token.variable_at token.dash_at
tabs_and_returns_are_blank = refl

-- refuses a rule by which other bytes that aren't shown are blank
a_form_feed_is_not_blank : tokens_of (97 ∷ 12 ∷ 98 ∷ []) ≡ at 1 kind.Name (codes "a") ∷ at 1 kind.Bad [] ∷ []
unfolding same_kind token.tokens_of token.prefix_at token.token_at token.name_at token.word_kind token.sign_at token.colon_at token.single_at token.variable_at token.dash_at
a_form_feed_is_not_blank = refl

-- refuses a rule by which `_` alone is a variable, as in Mercury, or by which none begins with it
an_underscore_alone_is_no_token : tokens_of (codes "_a _9 __ _") ≡ at 1 kind.Variable (codes "_a") ∷ at 1 kind.Variable (codes "_9") ∷ at 1 kind.Variable (codes "__") ∷ at 1 kind.Bad [] ∷ []
unfolding same_kind token.tokens_of token.prefix_at token.token_at token.name_at token.word_kind token.sign_at token.colon_at token.single_at token.variable_at token.dash_at
an_underscore_alone_is_no_token = refl

-- refuses a rule that takes the end sign before the longest token, and one by which a name behind it may begin with another letter
a_point_before_a_small_letter_qualifies : tokens_of (codes "a.b a.") ≡ at 1 kind.Qualified (codes "a.b") ∷ at 1 kind.Name (codes "a") ∷ at 1 kind.End (codes ".") ∷ at 1 kind.Stop [] ∷ []
unfolding same_kind token.tokens_of token.prefix_at token.token_at token.name_at token.word_kind token.sign_at token.colon_at token.single_at token.variable_at token.dash_at
a_point_before_a_small_letter_qualifies = refl

a_point_before_a_great_letter_is_no_token : tokens_of (codes "a.B") ≡ at 1 kind.Name (codes "a") ∷ at 1 kind.Bad [] ∷ []
unfolding same_kind token.tokens_of token.prefix_at token.token_at token.name_at token.word_kind token.sign_at token.colon_at token.single_at token.variable_at token.dash_at
a_point_before_a_great_letter_is_no_token = refl

-- refuses a rule by which one qualifier may stand behind another
a_name_has_one_qualifier : tokens_of (codes "a.b.c") ≡ at 1 kind.Qualified (codes "a.b") ∷ at 1 kind.Bad [] ∷ []
unfolding same_kind token.tokens_of token.prefix_at token.token_at token.name_at token.word_kind token.sign_at token.colon_at token.single_at token.variable_at token.dash_at
a_name_has_one_qualifier = refl

-- refuses a rule by which the end sign needs a line feed behind it
a_comment_may_follow_an_end : tokens_of (codes "a.%b") ≡ at 1 kind.Name (codes "a") ∷ at 1 kind.End (codes ".") ∷ at 1 kind.Stop [] ∷ []
unfolding same_kind token.tokens_of token.prefix_at token.token_at token.name_at token.word_kind token.sign_at token.colon_at token.single_at token.variable_at token.dash_at
a_comment_may_follow_an_end = refl

-- refuses a rule by which a string has bytes of ASCII alone, and one by which letters from 128 may stand in names
bytes_from_128_stand_in_strings : tokens_of (34 ∷ 195 ∷ 169 ∷ 34 ∷ 195 ∷ []) ≡ at 1 kind.Text (34 ∷ 195 ∷ 169 ∷ 34 ∷ []) ∷ at 1 kind.Bad [] ∷ []
unfolding same_kind token.tokens_of token.prefix_at token.token_at token.name_at token.word_kind token.sign_at token.colon_at token.single_at token.variable_at token.dash_at token.string_at token.past
bytes_from_128_stand_in_strings = refl

-- refuses a rule by which a string may have the byte 127, or a line feed as it is
no_string_has_what_is_not_shown : tokens_of (34 ∷ 127 ∷ 34 ∷ []) ≡ at 1 kind.Bad [] ∷ []
unfolding same_kind token.tokens_of token.prefix_at token.token_at token.name_at token.word_kind token.sign_at token.colon_at token.single_at token.variable_at token.dash_at token.string_at token.past
no_string_has_what_is_not_shown = refl

no_string_is_on_two_lines : tokens_of (34 ∷ 10 ∷ 34 ∷ []) ≡ at 1 kind.Bad [] ∷ []
unfolding same_kind token.tokens_of token.prefix_at token.token_at token.name_at token.word_kind token.sign_at token.colon_at token.single_at token.variable_at token.dash_at token.string_at token.past
no_string_is_on_two_lines = refl

-- refuses a rule by which a quote behind a backslash ends the string
an_escaped_quote_ends_no_string : tokens_of (34 ∷ 92 ∷ 34 ∷ 34 ∷ []) ≡ at 1 kind.Text (34 ∷ 92 ∷ 34 ∷ 34 ∷ []) ∷ at 1 kind.Stop [] ∷ []
unfolding same_kind token.tokens_of token.prefix_at token.token_at token.name_at token.word_kind token.sign_at token.colon_at token.single_at token.variable_at token.dash_at token.string_at token.past
an_escaped_quote_ends_no_string = refl

-- refuses a rule by which a backslash is a byte as others are, or has other escapes
no_other_escape : tokens_of (34 ∷ 92 ∷ 114 ∷ 34 ∷ []) ≡ at 1 kind.Bad [] ∷ []
unfolding same_kind token.tokens_of token.prefix_at token.token_at token.name_at token.word_kind token.sign_at token.colon_at token.single_at token.variable_at token.dash_at token.string_at token.past
no_other_escape = refl

-- "\n\t\\\"n": refuses a rule by which what stands behind a backslash stands for itself, and one that reads a backslash behind a
-- backslash as the beginning of another escape
escapes_stand_for_a_byte : string_value (34 ∷ 92 ∷ 110 ∷ 92 ∷ 116 ∷ 92 ∷ 92 ∷ 92 ∷ 34 ∷ 110 ∷ 34 ∷ []) ≡ 10 ∷ 9 ∷ 92 ∷ 34 ∷ 110 ∷ []
unfolding string_value meaning
escapes_stand_for_a_byte = refl

-- ---- the two parts of a qualified name

-- refuses a rule by which a part has two bytes or more
two_parts : HasParts (codes "a.b")
two_parts = (omega arith, omega arith)

-- refuse rules by which the part behind, the part in front or the byte between them may be missing
no_part_behind : HasParts (codes "ab.") → ⊥
no_part_behind has = absurd (let some = has.1 in omega (arith, some))

no_part_in_front : HasParts (codes ".ab") → ⊥
no_part_in_front has = absurd (let some = has.0 in omega (arith, some))

one_part : HasParts (codes "abc") → ⊥
one_part has = absurd (let some = has.1 in omega (arith, some))
