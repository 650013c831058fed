use Rattle.std.proofs.Common.{◌≡◌, ◌∙◌, ◌++◌, sym, subst, List, OnOk}
use Rattle.law_turns.specs.Equations as spec
use Rattle.md_cover.specs.Told.{equations_of}
use Rattle.md_cover.proofs.BuildingLemmas.{enters-one, none-of, some-there}
use Rattle.md_cover.proofs.building.enter_first.Goals as goal

pub returns : goal.returns
returns c =
    subst (λ (es : List spec.Equation). OnOk c.add_equal.result (equations_of c.add_equal.new.equations.items ≡ equations_of c.args.equations.now.items ++ es))
    (sym (enters-one c.args.number c.args.first c.args.arms.now c.args.switch (none-of c.args.switch (sym c.is_some.ensures ∙ c.if-is_some.false)) (some-there c.args.arms.now (sym c.is_empty.ensures ∙ c.if-is_empty.false))))
    c.add_equal.ensures
