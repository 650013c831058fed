-- Kinds of tokens: `==`, and those that stand behind all tokens.
use Rattle.std.specs.Prelude.{Bool, true, false}
use denote.Enum.Bare.{sameb}
use Rattle.md_token.specs.contracts.kind.Kind.{the_type}
use Rattle.md_token.specs.declared.kind.Kind.{Kind}
use Rattle.md_token.specs.declared.kind.Kind.TheVariants as kind

unfoldable pub same_kind : Kind → Kind → Bool
same_kind = sameb the_type

-- the end of the text, or bytes that make no token
abbrev pub is_final : Kind → Bool
is_final kind.Stop = true
is_final kind.Bad = true
is_final _ = false
