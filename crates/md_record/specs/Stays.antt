-- A mark belongs to its activation for ever.
use Rattle.std.specs.Prelude.{ℕ, List, ◌∷◌, Option}
use Rattle.std.proofs.Common.{length, sym, ap, ◌∙◌, arith}
use Rattle.md_trace.specs.declared.event.Event.{Event}
use Rattle.md_trace.specs.declared.event.Event.TheVariants.{Call, Exit, Redo, Fail, Excp, Alloc}
use Rattle.md_trace.specs.PortHistory.{SiteTable, IsPortHistory}
use Rattle.md_trace.specs.Context.{placed_of}
use Rattle.md_trace.proofs.Chains.{below-more, chain-more, parent-below}
use Rattle.md_trace.proofs.Histories.{orderly}
use Rattle.md_trace.proofs.LinkFacts.{leading, links-more}
use Rattle.md_trace.proofs.Numbered.{numbered-more, numbered-below}
use Rattle.md_trace.proofs.Setwise.{newest}
use Rattle.md_record.specs.Marks.{BelongsTo}
use Rattle.md_record.specs.Parts.{nearest}

pub mark-stays : (top middle : ℕ) (old : Option ℕ) (t : SiteTable) (h : List Event) (e : Event) (a : ℕ) → IsPortHistory t (e ∷ h) → BelongsTo top middle old t h a → BelongsTo top middle old t (e ∷ h) a
mark-stays top middle old t h (Call n p s q) a is was =
    let m = t.main in
    let xs = placed_of m h in
    let x = newest m h p s q in
    let y = was.activation in
    let below = numbered-below xs a y was.there in
    let order = orderly t m h is.0 in
    let parent = below-more y.parent a (length xs) (omega arith) (parent-below xs a y order.parents was.there) in
    record {
      activation = y;
      there = numbered-more x xs a below ∙ was.there;
      top_is = was.top_is;
      middle_is = links-more m x xs middle (leading y.link y.context) was.middle_is;
      old_is = was.old_is ∙ ap (nearest y.link.procedure) (sym (chain-more x xs y.parent parent));
    }
mark-stays top middle old t h (Exit b) a is was = record { activation = was.activation; there = was.there; top_is = was.top_is; middle_is = was.middle_is; old_is = was.old_is }
mark-stays top middle old t h (Redo b) a is was = record { activation = was.activation; there = was.there; top_is = was.top_is; middle_is = was.middle_is; old_is = was.old_is }
mark-stays top middle old t h (Fail b) a is was = record { activation = was.activation; there = was.there; top_is = was.top_is; middle_is = was.middle_is; old_is = was.old_is }
mark-stays top middle old t h (Excp b) a is was = record { activation = was.activation; there = was.there; top_is = was.top_is; middle_is = was.middle_is; old_is = was.old_is }
mark-stays top middle old t h (Alloc b w) a is was = record { activation = was.activation; there = was.there; top_is = was.top_is; middle_is = was.middle_is; old_is = was.old_is }
