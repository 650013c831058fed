use Rattle.std.proofs.Common.{◌≡◌, ℕ, Bool, Vec, sym, ap, ◌∙◌}
use Rattle.std.specs.declared.alloc.Global.{Global}
use Rattle.std.proofs.lemmas.Result.{IfOk-weaker}
use Rattle.md_cost.specs.FileView.{IsFileView}
use Rattle.md_cost.specs.View.{View}
use Rattle.md_table.specs.Table.{TableCells}
use Rattle.md_compare.specs.Text.{compare_text, words_over}
use Rattle.md_compare.proofs.text.compare_text.Goals as goal

pub returns : goal.returns
returns c =
    let by = c.args.by in
    let least = c.args.least in
    IfOk-weaker c.words_over.result (λ (text : Vec ℕ Global). text.items ≡ words_over by least c.finished-old.result c.finished-new.result c.in_ok-table.table)
    (λ (text : Vec ℕ Global). (v w : View) → IsFileView c.args.old.now.profile v → IsFileView c.args.new.now.profile w → text.items ≡ compare_text v w by least)
    (λ text is v w is_v is_w.
    let old : c.finished-old.result ≡ v.finished = c.finished-old.ensures ∙ ap (λ f. f.finished) c.profile.ensures.profile ∙ sym (ap (λ (u : View). u.finished) is_v.is) in
    let new : c.finished-new.result ≡ w.finished = c.finished-new.ensures ∙ ap (λ f. f.finished) c.profile-2.ensures.profile ∙ sym (ap (λ (u : View). u.finished) is_w.is) in
    is
    ∙ ap (λ (b : Bool). words_over by least b c.finished-new.result c.in_ok-table.table) old
    ∙ ap (λ (b : Bool). words_over by least v.finished b c.in_ok-table.table) new
    ∙ ap (λ (t : TableCells). words_over by least v.finished w.finished t) (c.in_ok-table.ensures v w is_v is_w))
    c.words_over.ensures
