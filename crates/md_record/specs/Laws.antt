-- The laws of the recorder as a sink.
use Rattle.std.specs.Prelude.{ℕ, ◌≡◌, List, ◌∷◌}
use Rattle.std.proofs.Common.{refl, ◌∙◌}
use Rattle.md_trace.specs.declared.event.Event.{Event}
use Rattle.md_trace.specs.PortHistory.{SiteTable, IsPortHistory}
use Rattle.md_record.specs.Kept.{Kept, Stands}
use Rattle.md_record.specs.Belongs.{Belongs}
use Rattle.md_record.specs.Stays.{mark-stays}
use Rattle.md_record.specs.declared.saved.Saved.{Saved}

pub stands-history : (k : Kept) (t : SiteTable) (h : List Event) → Stands k t h → IsPortHistory t h
stands-history k t h st = st.history

pub belongs-stays : (m : Saved) (t : SiteTable) (h : List Event) (e : Event) (a : ℕ) → IsPortHistory t (e ∷ h) → Belongs m t h a → Belongs m t (e ∷ h) a
belongs-stays m t h e a is was = mark-stays m.top m.middle m.old t h e a is was

-- what no event changes: the program's tables
pub same-tables : (s : Kept) → s.rows.statics ≡ s.rows.statics
same-tables s = refl

pub tables-on : (s t u : Kept) → t.rows.statics ≡ s.rows.statics → u.rows.statics ≡ t.rows.statics → u.rows.statics ≡ s.rows.statics
tables-on s t u p q = q ∙ p
