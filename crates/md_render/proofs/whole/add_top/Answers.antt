use Rattle.std.proofs.Common.{◌≡◌, ◌∙◌}
use Rattle.md_table.specs.Anchors.{escaped}
use Rattle.md_render.specs.Lines.{title_words}
use Rattle.md_render.proofs.whole.add_top.Goals as goal

pub returns : goal.returns
returns c =
    let words : c.deref.result.now ≡ escaped (title_words c.args.statics.now c.args.title.now) =
    c.deref.ensures.value ∙ (rw c.new-words.ensures.items at c.in_ok-add_title_html.ensures) in
    rw words at c.add_opening.ensures
