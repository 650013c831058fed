-- Lists of the code's equations and quantities, one member longer.
use Rattle.std.proofs.Common.{◌≡◌, refl, ap, ◌∙◌, List, [], ◌∷◌, ◌++◌}
use Rattle.md_cover.specs.declared.equation.Quantity.{Quantity}
use Rattle.md_cover.specs.declared.equation.Equation.{Equation}
use Rattle.md_cover.specs.Told.{quantity_of, quantities_of, equation_of, equations_of}

pub told-append : (es : List Equation) (e : Equation) → equations_of (es ++ e ∷ []) ≡ equations_of es ++ equation_of e ∷ []
told-append [] e = refl
told-append (d ∷ es) e = ap (λ fs. equation_of d ∷ fs) (told-append es e)

pub told-pushed : (es news : List Equation) (e : Equation) → news ≡ es ++ e ∷ [] → equations_of news ≡ equations_of es ++ equation_of e ∷ []
told-pushed es news e is = ap equations_of is ∙ told-append es e

pub quantities-append : (qs : List Quantity) (q : Quantity) → quantities_of (qs ++ q ∷ []) ≡ quantities_of qs ++ quantity_of q ∷ []
quantities-append [] q = refl
quantities-append (r ∷ qs) q = ap (λ ps. quantity_of r ∷ ps) (quantities-append qs q)
