use Rattle.std.proofs.Common.{ap, ◌∙◌, sym, [], ◌∷◌, ◌++◌, append_assoc}
use Rattle.md_hlds.specs.Trace.{Items}
use Rattle.md_plain.specs.declared.told.Made.{Made}
use Rattle.md_plain.specs.Runs.{item_of, items_told, made_of}
use Rattle.md_plain.proofs.RunLemmas.{items_told-append}
use Rattle.md_plain.proofs.told.+gather.Goals as goal

pub returns-in_ok-push-in-Also : goal.returns-in_ok-push-in-Also
returns-in_ok-push-in-Also t c =
    let olds : Items = items_told c.args.items.now.items in
    ap items_told c.in_ok-push-in-Also.ensures.items
    ∙ (items_told-append c.gather.new.items.items (c.in-Also.item ∷ [])
    ∙ (ap (λ (xs : Items). xs ++ (item_of c.in-Also.item ∷ [])) c.in_ok-gather-in-Also.ensures
    ∙ (append_assoc olds (made_of c.in-Also.before.now) (item_of c.in-Also.item ∷ [])
    ∙ ap (λ (m : Made). olds ++ made_of m) (sym c.in-Also.is))))
