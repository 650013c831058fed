use Rattle.std.proofs.Common.{ap, ◌∙◌, List, [], ◌∷◌, ◌++◌}
use Rattle.md_cover.specs.declared.equation.Quantity.{Quantity}
use Rattle.md_cover.specs.Told.{quantity_of, quantities_of, equations_of}
use Rattle.md_cover.proofs.ToldLemmas.{told-pushed}
use Rattle.md_cover.proofs.equation.add_count.Goals as goal

pub returns : goal.returns
returns c =
    told-pushed c.args.equations.now.items c.push.new.self.items _ c.in_ok-push.ensures.items
    ∙ ap (λ (qs : List Quantity). equations_of c.args.equations.now.items ++ record { whole = quantity_of c.args.whole; parts = quantities_of qs; number = c.args.number } ∷ []) c.new-parts.ensures.items
