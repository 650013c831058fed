use Rattle.std.proofs.Common.{◌≡◌, ◌++◌, List, subst, ◌∙◌, OnOk}
use Rattle.md_tree.specs.declared.picture.CliqueBox.{CliqueBox}
use Rattle.md_render.specs.Icicle.{drawn_of, icicle_words}
use Rattle.md_render.proofs.icicle.add_icicle.Goals as goal

pub returns : goal.returns
unfolding icicle_words
returns c = λ v is.
    subst (λ (boxes : List CliqueBox). OnOk c.add_drawn.result (c.add_drawn.new.out.items ≡ c.args.out.now.items ++ drawn_of v c.args.by boxes)) (c.deref.ensures.value ∙ c.in_ok-boxes.ensures.boxes v is) (c.add_drawn.ensures v is)
