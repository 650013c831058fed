use Rattle.std.proofs.Common.{length, ap, ◌∙◌, arith}
use Rattle.std.proofs.lemmas.List.{length-map}
use Rattle.std.proofs.lemmas.Result.{IfOk-weaker}
use Rattle.md_token.specs.Lexemes.{lexeme_of, lexemes_of}
use Rattle.md_token.proofs.Few.{few_tokens}
use Rattle.md_reader.proofs.CompleteTexts.{answer_read, answer_repeated}
use Rattle.md_reader.proofs.FaultTexts.{answer_of, answer_spelled, answer_cause, answer_fault, answer_syntax, answer_limit}
use Rattle.md_reader.proofs.reading.read.Goals as goal

-- each clause follows from what is answered
pub returns : goal.returns
returns c =
    let r = c.read_tokens.result in
    let text = c.args.text.now in
    let answer = answer_of r text _ (ap lexemes_of c.deref.ensures.value ∙ c.in_ok-tokens.ensures.scanned) c.read_tokens.ensures in
    record {
      spelled = answer_spelled r text answer;
      of_text = IfOk-weaker r _ _ (λ program s. record { text = text; short = c.requires; spells = s }) (answer_spelled r text answer);
      complete = λ l s. answer_read r text l answer s;
      cause = answer_cause r text answer;
      repeated = λ line s. answer_repeated r text line answer s;
      fault = λ line f. answer_fault r text line answer f;
      syntax = λ line f. answer_syntax r text line answer f;
      limit = λ line f. answer_limit r text line answer f;
      answer = answer;
    }

pub read_tokens-requires : goal.read_tokens-requires
read_tokens-requires c =
    let e = ap length (ap lexemes_of c.deref.ensures.value ∙ c.in_ok-tokens.ensures.scanned) in
    let l = length-map c.deref.result.now lexeme_of in
    let few = few_tokens c.args.text.now in
    omega (arith, e, l, few, c.requires)
