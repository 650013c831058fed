use Rattle.std.proofs.Common.{refl}
use Rattle.std.proofs.lemmas.Result.{IfOk-weaker}
use Rattle.md_http.proofs.Responses.{head_response, refused_response, open_response}
use Rattle.md_http.proofs.response.respond.Goals as goal

pub returns-in-Head : goal.returns-in-Head
returns-in-Head c = λ v is.
    let holds = rw c.in-Head.is at c.requires.holds in
    IfOk-weaker c.answer.result _ _ (λ response told. head_response v c.args.bytes.now holds.0 c.in-Head.spans _ _ response.items holds.1 c.of.ensures c.of-in-Head.ensures told) (c.answer.ensures v is)

pub returns-in-Refused : goal.returns-in-Refused
returns-in-Refused c = λ v is.
    let holds = rw c.in-Refused.is at c.requires.holds in
    IfOk-weaker c.refusal_response.result _ _ (λ response told. refused_response v c.args.bytes.now response.items holds told) c.refusal_response.ensures

pub returns-in-Open : goal.returns-in-Open
returns-in-Open c = λ v is.
    let holds = rw c.in-Open.is at c.requires.holds in
    IfOk-weaker c.open_response.result _ _ (λ response told. open_response v c.args.bytes.now response.items _ holds c.requires.within refl told) c.open_response.ensures
