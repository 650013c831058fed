use Rattle.std.proofs.Common.{ℕ, List, ◌+◌, ◌-◌, ◌%◌, ◌≡◌, ◌∷◌, [], None, length, replicate, refl, ap, ◌∙◌, subst, arith}
use Rattle.std.proofs.lemmas.Grind.{common_steps}
use Rattle.md_static.specs.declared.entry.Site.{Site}
use Rattle.md_dynamic.specs.Links.{root_row}
use Rattle.md_dynamic.specs.Slots.{slot_of}
use Rattle.md_dynamic.specs.Spans.{AreSpans}
use Rattle.md_dynamic.proofs.Growth.{first-tables}
use Rattle.md_dynamic.proofs.tables.Tables.new.Goals as goal

pub invariant_of-result : goal.invariant_of-result
invariant_of-result c =
    let s = c.args.statics in
    let spans = c.in_ok-spans.spans.items in
    let P : List Site → Type 0 = λ zs. AreSpans zs (length c.procs-procs.result.now) spans in
    let Q : ℕ → Type 0 = λ n. AreSpans s.sites n spans in
    let right = subst Q (ap length c.procs-procs.ensures) (subst P c.sites.ensures c.in_ok-spans.ensures) in
    let slots : c.in_ok-slots.slots.items ≡ replicate c.index-own.result.now.count (slot_of None) = c.in_ok-slots.ensures in
    let active : c.in_ok-active.active.items ≡ replicate (length s.procs) None = c.in_ok-active.ensures ∙ ap (λ zs. replicate (length zs) None) c.procs-procs.ensures in
    let root : c.in_ok-links.links.items ≡ root_row ∷ [] = c.in_ok-links.ensures.items ∙ ap (λ r. r ∷ []) c.root_link.ensures in
    first-tables s spans c.args.main ((0 + (4294967296 - c.index-own.result.now.first)) % 4294967296) c.number.result c.index-own.result.now c.in_ok-nodes.nodes.items c.in_ok-bases.bases.items c.in_ok-slots.slots.items c.new.result.entries c.in_ok-links.links.items c.in_ok-active.active.items
    c.requires.sound right c.requires.main_there c.number.ensures c.index-own.ensures refl c.in_ok-nodes.ensures.items c.in_ok-bases.ensures.items slots c.new.ensures.empty root active

pub returns : goal.returns
returns c = grind (arith, common_steps)
