use Rattle.std.proofs.Common.{ℕ, List, ◌++◌, map, ap, ◌∙◌}
use Rattle.md_people.specs.Flame.{joined, name_at}
use Rattle.md_people.proofs.flame.add_all.Goals as goal

pub returns : goal.returns
returns c = λ v is.
    c.in_ok-add_names.ensures v is
    ∙ ap (λ (ds : List ℕ). c.args.out.now.items ++ joined (map (name_at v) ds)) (c.deref.ensures.value ∙ c.in_ok-stations.ensures.stations v is)
