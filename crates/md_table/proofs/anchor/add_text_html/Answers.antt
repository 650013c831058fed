use Rattle.std.proofs.Common.{◌≡◌, ◌++◌, ℕ, List, ap, ◌∙◌}
use Rattle.std.proofs.lemmas.List.{drop_all}
use Rattle.std.proofs.lemmas.Result.{on_ok_weaker}
use Rattle.md_table.specs.Anchors.{text_html, word_html}
use Rattle.md_table.proofs.Words.{text_is}
use Rattle.md_table.proofs.anchor.add_text_html.Goals as goal

pub returns : goal.returns
returns c =
    let all : c.loop-byte.out.items ++ word_html c.args.by.now c.loop-byte.before.items c.loop-byte.word.items ≡ c.args.out.now.items ++ text_html c.args.by.now c.args.text.now =
    (rw (drop_all c.loop-byte.byte-index c.args.text.now c.loop-byte-test.false) at c.loop-byte.invariant)
    ∙ ap (λ (xs : List ℕ). c.args.out.now.items ++ xs) (text_is c.args.by.now c.args.text.now) in
    on_ok_weaker c.add_word-2.result (λ added. added ∙ all) (rw (c.deref-2.ensures.value, c.deref-3.ensures.value) at c.add_word-2.ensures)
