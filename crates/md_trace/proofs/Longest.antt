-- No chain of a history is longer than its longest current chain.
use Rattle.std.proofs.Common.{ℕ, ◌≡◌, ◌<◌, ◌≤◌, inl, inr, List, [], ◌∷◌, length, Some, ap, arith}
use Rattle.std.proofs.lemmas.Bool.{cases_eq}
use Rattle.md_trace.specs.declared.event.Event.{Event}
use Rattle.md_trace.specs.declared.event.Event.TheVariants.{Call, Exit, Redo, Fail, Excp, Alloc}
use Rattle.md_trace.specs.Activation.{activations}
use Rattle.md_trace.specs.PortHistory.{SiteTable, IsPortHistory}
use Rattle.md_trace.specs.Context.{chain, placed_of, current_chain}
use Rattle.md_trace.specs.Counted.{longest}
use Rattle.md_trace.proofs.Placing.{length-placed}
use Rattle.md_trace.proofs.Chains.{chain-more}
use Rattle.md_trace.proofs.Setwise.{newest}

pub chain-longest : (t : SiteTable) (m : ℕ) (h : List Event) (a : ℕ) → IsPortHistory t h → a < length (activations h) → length (chain (placed_of m h) (Some a)) ≤ longest m h
chain-longest t m [] a is below = absurd (omega arith)
chain-longest t m (Call b p s q ∷ h) a is below =
    elim (cases_eq a b) [
      | inl e ↦
          let same : length (chain (placed_of m (Call b p s q ∷ h)) (Some a)) ≡ length (current_chain m (Call b p s q ∷ h)) = ap (λ n. length (chain (placed_of m (Call b p s q ∷ h)) (Some n))) e in
          omega (arith, same)
      | inr ne ↦
          let older : a < length (activations h) = omega (arith, is.1.0) in
          let same : length (chain (placed_of m (Call b p s q ∷ h)) (Some a)) ≡ length (chain (placed_of m h) (Some a)) = ap length (chain-more (newest m h p s q) (placed_of m h) (Some a) (omega (arith, length-placed m (activations h)))) in
          omega (arith, same, chain-longest t m h a is.0 older)
    ]
chain-longest t m (Exit b ∷ h) a is below = omega (arith, chain-longest t m h a is.0 below)
chain-longest t m (Redo b ∷ h) a is below = omega (arith, chain-longest t m h a is.0 below)
chain-longest t m (Fail b ∷ h) a is below = omega (arith, chain-longest t m h a is.0 below)
chain-longest t m (Excp b ∷ h) a is below = omega (arith, chain-longest t m h a is.0 below)
chain-longest t m (Alloc b w ∷ h) a is below = omega (arith, chain-longest t m h a is.0 below)

pub current-longest : (m : ℕ) (h : List Event) → length (current_chain m h) ≤ longest m h
current-longest m [] = omega arith
current-longest m (e ∷ h) = omega arith
