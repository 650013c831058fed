use Rattle.std.proofs.Common.{◌≡◌, ◌∙◌, ◌<◌, ◌-◌, sym, ap, arith, ℕ, suc, List, ◌∷◌, length, get_or, drop, drop-cons}
use Rattle.md_cover.specs.declared.equation.Equation.{Equation}
use Rattle.md_cover.specs.Known.{Table, table_of, step, back_of}
use Rattle.md_cover.proofs.solving.Known.round_back.Goals as goal

-- one equation more
back-more : (t : Table) (es : List Equation) (i place : ℕ) (e : Equation) → place ≡ suc i → i < length es → e ≡ get_or es i e → back_of t (drop i es) ≡ step (back_of t (drop place es)) e
back-more t es i place e at lt is =
    ap (back_of t) (drop-cons es i e lt ∙ ap (λ (f : Equation). f ∷ drop (suc i) es) (sym is)) ∙ ap (λ (k : ℕ). step (back_of t (drop k es)) e) (sym at)

pub loop-place-preserved : goal.loop-place-preserved
loop-place-preserved c =
    c.take.ensures.known
    ∙ (ap (λ (t : Table). step t c.index-equations-place.result) c.loop-place.invariant
    ∙ sym (back-more (table_of c.args.self.now) c.args.equations.now (c.loop-place.place - 1) c.loop-place.place c.index-equations-place.result (omega arith) (omega arith) c.index-equations-place.is))
