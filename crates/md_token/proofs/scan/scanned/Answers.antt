use Rattle.std.proofs.Common.{◌≡◌, ◌+◌, ◌≤◌, get_or, length, arith}
use Rattle.std.proofs.lemmas.Grind.{common_steps}
use Rattle.std.proofs.lemmas.List.{map-append}
use Rattle.md_token.specs.Lexemes.{lexemes_of, lexeme_of}
use Rattle.md_token.specs.Token.{line_past, tokens_of}
use Rattle.md_token.specs.declared.scan.Prefix.TheVariants as prefix
use Rattle.md_token.proofs.Scans.{past_gap, past_piece}
use Rattle.md_token.proofs.Parts.{piece_parts}
use Rattle.md_token.proofs.scan.scanned.Goals as goal
use Rattle.md_token.proofs.scan.scanned.Goals.{then-rest-eq10, else-rest-eq10}

pub loop-rest-preserved-in-Gap : goal.loop-rest-preserved-in-Gap
loop-rest-preserved-in-Gap c =
    let rest = c.loop-rest.rest.now in
    let line : c.if-rest-eq10.line ≡ line_past (prefix.Gap c.in-Gap.more) (get_or rest 0 0) c.loop-rest.line = elim c.if-rest-eq10.branch [
      | then-rest-eq10 w ↦ rw w.if-rest-eq10.true w.line-is
      | else-rest-eq10 w ↦ grind (arith, w.line-is, w.if-rest-eq10.false)
    ] in
    record {
      told = rw c.split_at.ensures.back (past_gap _ _ c.loop-rest.line c.if-rest-eq10.line c.in-Gap.more rest (omega arith) c.in-Gap.ensures.prefix line c.loop-rest.invariant.told);
      line =
          let n : length c.split_at.result.1.now + (c.in-Gap.more + 1) ≡ length rest = c.split_at.ensures.back_len in
          let up : c.if-rest-eq10.line ≤ c.loop-rest.line + 1 = elim c.if-rest-eq10.branch [
            | then-rest-eq10 w ↦ omega (arith, w.line-is)
            | else-rest-eq10 w ↦ omega (arith, w.line-is)
          ] in
          omega (arith, c.loop-rest.invariant.line);
    }

pub loop-rest-preserved : goal.loop-rest-preserved
loop-rest-preserved c =
    let rest = c.loop-rest.rest.now in
    record {
      told = rw (c.split_at-in-Piece.ensures.back, c.in_ok-push-in-Piece.ensures.items, map-append lexeme_of c.loop-rest.found.items)
          (rw c.split_at-in-Piece.ensures.front (past_piece (lexemes_of c.loop-rest.found.items) _ c.loop-rest.line c.in-Piece.more c.in-Piece.kind rest (omega arith) c.in-Piece.ensures.prefix c.loop-rest.invariant.told));
      line =
          let n : length c.split_at-in-Piece.result.1.now + (c.in-Piece.more + 1) ≡ length rest = c.split_at-in-Piece.ensures.back_len in
          omega (arith, c.loop-rest.invariant.line);
    }

pub invariant_of-push-clause-qualified : goal.invariant_of-push-clause-qualified
invariant_of-push-clause-qualified c is =
    rw c.split_at-in-Piece.ensures.front (piece_parts c.in-Piece.kind c.in-Piece.more c.loop-rest.rest.now (omega arith) c.in-Piece.ensures.prefix is)

pub loop-rest-init : goal.loop-rest-init
unfolding tokens_of
loop-rest-init c = grind (arith, common_steps)

pub loop-rest-smaller : goal.loop-rest-smaller
unfolding tokens_of
loop-rest-smaller c = grind (arith, common_steps)

pub loop-rest-smaller-in-Gap : goal.loop-rest-smaller-in-Gap
unfolding tokens_of
loop-rest-smaller-in-Gap c = grind (arith, common_steps)

pub returns : goal.returns
unfolding tokens_of
returns c = grind (arith, common_steps)

pub returns-in-Unknown : goal.returns-in-Unknown
unfolding tokens_of
returns-in-Unknown c = grind (arith, common_steps)

pub returns-in_err-push : goal.returns-in_err-push
unfolding tokens_of
returns-in_err-push c = grind (arith, common_steps)

pub returns-in_err-push-in-Piece : goal.returns-in_err-push-in-Piece
unfolding tokens_of
returns-in_err-push-in-Piece c = grind (arith, common_steps)

pub returns-in_err-push-in-Unknown : goal.returns-in_err-push-in-Unknown
unfolding tokens_of
returns-in_err-push-in-Unknown c = grind (arith, common_steps)
