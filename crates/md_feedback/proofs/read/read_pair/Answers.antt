use Rattle.std.proofs.Common.{◌≡◌, ◌++◌, [], ◌∷◌, true}
use Rattle.md_feedback.specs.Text.{Rise}
use Rattle.md_feedback.proofs.FaultLemmas.{wrong_pair}
use Rattle.md_feedback.proofs.read.read_pair.Goals as goal

pub returns-else-may_be_followed_by : goal.returns-else-may_be_followed_by
returns-else-may_be_followed_by c =
    let falls : Rise (c.args.pairs.now ++ c.in_ok-pair.pair ∷ []) → ⊥
    = λ rise. let may : c.may_be_followed_by.result ≡ true = (c.may_be_followed_by.ensures c.requires).1 rise in absurd (cc (may, c.if-may_be_followed_by.false)) in
    wrong_pair c.args.pairs.now c.args.text.now c.in_ok-words.words.now c.in_ok-words.after.now c.in_ok-pair.pair c.in_ok-words.ensures.0 c.in_ok-words.ensures.1 c.in_ok-pair.ensures falls
