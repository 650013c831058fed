use Rattle.std.proofs.Common.{◌≡◌, ◌+◌, drop, take, false}
use Rattle.std.specs.List.{prefix_len}
use Rattle.md_token.specs.Token.{qualifies, is_word_byte, word_kind}
use Rattle.md_token.proofs.Words.{plain_name}
use Rattle.md_token.proofs.word.name_at.Goals as goal

pub returns-clause-name : goal.returns-clause-name
returns-clause-name c =
    let text = c.args.text.now in
    let n = c.word_length-length.result in
    let e : n ≡ prefix_len is_word_byte (drop 1 text) = cc in
    let q : qualifies (drop n (drop 1 text)) ≡ false = cc in
    let k : c.word_kind.result ≡ word_kind (take (n + 1) text) = cc in
    plain_name text c.word_kind.result n c.requires e q k
