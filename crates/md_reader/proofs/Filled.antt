-- A token that is seen isn't empty.
use Rattle.std.proofs.Common.{◌≡◌, ◌≤◌, false, true, length, ap, ◌∙◌}
use Rattle.md_token.specs.declared.kind.Kind.{Kind}
use Rattle.md_token.specs.declared.token.Token.{Token}
use Rattle.md_token.specs.Kinds.{is_final}
use Rattle.md_token.specs.Lexemes.{lexeme_of}
use Rattle.md_token.specs.Token.{Lexeme}
use Rattle.md_reader.specs.Input.{Input, sees, token}
use Rattle.md_reader.proofs.Taking.{kind_seen}

pub filled : (k : Kind) (t : Token) (i : Input) → lexeme_of t ≡ token i → sees k i ≡ true → is_final k ≡ false → 1 ≤ length t.text.now
filled k t i e s f = t.filled (ap (λ (l : Lexeme). is_final l.kind) e ∙ ap is_final (kind_seen k i s) ∙ f)
