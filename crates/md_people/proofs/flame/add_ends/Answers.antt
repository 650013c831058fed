use Rattle.std.proofs.Common.{ℕ, List, ◌++◌, map, codes, ap, ◌∙◌}
use Rattle.std.proofs.lemmas.List.{append_assoc}
use Rattle.md_people.specs.Flame.{joined, name_at, station_names}
use Rattle.md_people.proofs.flame.add_ends.Goals as goal

pub returns : goal.returns
returns c = λ v is.
    let old = c.args.out.now.items in
    let first = joined (station_names v c.args.top) in
    let last = joined (map (name_at v) c.in_ok-last.last.items) in (
      c.in_ok-last.last.items,
      c.in_ok-last.ensures.last,
      c.in_ok-add_names.ensures v is ∙ ap (λ (ds : List ℕ). c.add.new.out.items ++ joined (map (name_at v) ds)) c.deref.ensures.value
          ∙ ap (λ (w : List ℕ). w ++ last) (c.in_ok-add.ensures ∙ ap (λ (w : List ℕ). w ++ codes ";..;") (c.in_ok-add_all.ensures v is))
          ∙ append_assoc (old ++ first) (codes ";..;") last ∙ append_assoc old first (codes ";..;" ++ last),
    )
