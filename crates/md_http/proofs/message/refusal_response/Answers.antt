use Rattle.std.proofs.Common.{◌≡◌, ◌++◌, codes, arith}
use Rattle.std.proofs.lemmas.Grind.{common_steps}
use Rattle.md_http.specs.Message.{response_of, status_words}
use Rattle.md_http.proofs.message.refusal_response.Goals as goal

pub returns : goal.returns
unfolding response_of
returns c =
    let body : c.push.new.self.items ≡ status_words c.args.refusal ++ codes "\n" = grind (arith, common_steps, c.in_ok-push.ensures.items, c.in_ok-extend_from_slice.ensures.items, c.new-body.ensures.items, c.status_words-status.ensures) in
    rw (c.allow_line.ensures, c.status_words-status.ensures, c.deref.ensures.value, body) at c.message.ensures
