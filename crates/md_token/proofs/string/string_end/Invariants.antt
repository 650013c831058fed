use Rattle.std.proofs.Common.{◌≡◌, drop}
use Rattle.md_token.specs.Token.{string_end}
use Rattle.md_token.specs.declared.string.Within.TheVariants as within
use Rattle.md_token.proofs.Strings.{open_at}
use Rattle.md_token.proofs.string.string_end.Given as goal

-- what is left decides as the whole does
abbrev pub invariant-loop-place : goal.invariant-loop-place
invariant-loop-place l = string_end within.Whole 0 l.bytes ≡ string_end (open_at l.escaped) l.place (drop l.place l.bytes)
