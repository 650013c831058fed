use Rattle.std.proofs.Common.{◌≡◌, ◌+◌, ◌≤◌, ◌++◌, length}
use Rattle.md_token.specs.Lexemes.{lexemes_of}
use Rattle.md_token.specs.Token.{lexemes}
use Rattle.md_token.proofs.scan.scanned.Given as goal

-- the tokens so far and those of the rest are those of the text
abbrev pub invariant-loop-rest : goal.invariant-loop-rest
invariant-loop-rest l = record {
  told : lexemes_of l.found.items ++ lexemes 0 l.line l.rest ≡ lexemes 0 1 l.fn.text;
  line : l.line + length l.rest ≤ 1 + length l.fn.text;
}

abbrev pub decreases-loop-rest : goal.decreases-loop-rest
decreases-loop-rest l = length l.rest
