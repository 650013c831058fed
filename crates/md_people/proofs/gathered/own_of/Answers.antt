use Rattle.std.proofs.Common.{◌≡◌, ℕ, length, Option, Some, refl, sym, ap, ◌∙◌}
use Rattle.std.specs.List.{slice_get}
use Rattle.std.proofs.lemmas.Option.{slice_get_read}
use Rattle.md_base.specs.Counts.{count_of}
use Rattle.md_dynamic.specs.declared.link.LinkRow.{LinkRow}
use Rattle.md_cost.specs.Totals.{count_at}
use Rattle.md_cost.specs.View.{View, OfLink}
use Rattle.md_people.proofs.gathered.own_of.Goals as goal

pub returns-clause-own : goal.returns-clause-own
returns-clause-own c v m is =
    let links = c.args.loaded.now.profile.links in
    let row = c.index-links-number.result in
    let row_is = rw (c.links.ensures, c.profile.ensures.profile, c.number.ensures) at c.index-links-number.is in
    let at : slice_get links c.args.link ≡ Some row = slice_get_read links (length links) c.args.link row refl c.requires.there row_is in
    ap (λ (w : View). w.own (OfLink c.args.link) m) is.is
    ∙ ap (λ (o : Option LinkRow). Some (count_at o m)) at
    ∙ ap (λ (r : LinkRow). Some (count_of r.own m)) c.index-links-number.is
    ∙ ap (λ (n : ℕ). Some n) (sym (c.from_counts.ensures.value m))
