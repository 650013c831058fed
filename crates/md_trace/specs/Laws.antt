-- What the sinks' laws need.
use Rattle.std.specs.Prelude.{ℕ, ◌≡◌, ◌<◌, List, [], ◌∷◌, length, Some}
use Rattle.std.proofs.Common.{inl, inr, arith}
use Rattle.std.proofs.lemmas.Bool.{ne_eqb}
use Rattle.std.proofs.lemmas.Bool.Decides.{eqb_tells}
use Rattle.md_trace.specs.declared.event.Event.{Event}
use Rattle.md_trace.specs.declared.event.Event.TheVariants.{Call, Exit, Redo, Fail, Excp, Alloc}
use Rattle.md_trace.specs.Activation.{Activation, activations, procedure_of}
use Rattle.md_trace.specs.PortHistory.{SiteTable, IsPortHistory}

-- who has a procedure was called
pub procedure-below : (xs : List Activation) (a q : ℕ) → procedure_of xs a ≡ Some q → a < length xs
procedure-below [] a q is = absurd (cc)
procedure-below (x ∷ xs) a q is =
    elim (eqb_tells a (length xs)) [
      | inl p ↦ omega (arith, p.1)
      | inr p ↦ let rest = rw p.0 at is in omega (arith, procedure-below xs a q rest)
    ]

-- an activation keeps its procedure
pub procedure-stays : (q : ℕ) (t : SiteTable) (h : List Event) (e : Event) (a : ℕ) → IsPortHistory t (e ∷ h) → procedure_of (activations h) a ≡ Some q → procedure_of (activations (e ∷ h)) a ≡ Some q
procedure-stays q t h (Call b p s r) a is was = rw (ne_eqb a (length (activations h)) (λ e. absurd (let below = procedure-below (activations h) a q was in omega arith))) was
procedure-stays q t h (Exit b) a is was = was
procedure-stays q t h (Redo b) a is was = was
procedure-stays q t h (Fail b) a is was = was
procedure-stays q t h (Excp b) a is was = was
procedure-stays q t h (Alloc b w) a is was = was
