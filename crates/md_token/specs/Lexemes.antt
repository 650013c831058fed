-- Tokens without where their bytes lie.
use Rattle.std.specs.Prelude.{List, map}
use Rattle.md_token.specs.declared.token.Token.{Token}
use Rattle.md_token.specs.Token.{Lexeme}

abbrev pub lexeme_of : Token → Lexeme
lexeme_of t = record { kind = t.kind; text = t.text.now; line = t.line }

abbrev pub lexemes_of : List Token → List Lexeme
lexemes_of ts = map lexeme_of ts
