use Rattle.std.proofs.Common.{ℕ, subst, ap, ◌∙◌, Err}
use Rattle.httparse.specs.Spans.{RequestExceeds}
use Rattle.httparse.specs.declared.Error.{Error}
use Rattle.md_http.proofs.Fields.{never_exceeds}
use Rattle.md_http.proofs.heard.hear.Goals as goal

pub returns-in-Err-TooManyHeaders : goal.returns-in-Err-TooManyHeaders
returns-in-Err-TooManyHeaders c =
    let told = c.in-Err-TooManyHeaders in
    let exceeds : RequestExceeds 2731 c.args.bytes.now =
    subst (λ (room : ℕ). RequestExceeds room c.args.bytes.now) c.requires.room (c.parse_request.ensures.too_many (told.is ∙ ap (λ (e : Error). Err e) told.field-0-is)) in
    absurd (never_exceeds c.args.bytes.now c.requires.within exceeds)
