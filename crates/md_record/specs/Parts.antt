-- What each table holds where a recorder stands for a history, part by part. `xs` are the activations of the history in
-- their contexts, and `ls` its links.
use Rattle.std.specs.Prelude.{ℕ, ◌≡◌, ◌<◌, List, [], ◌∷◌, length, find, Option, Some, slice_get}
use Rattle.std.specs.Option.{option_map}
use Rattle.md_trace.specs.declared.event.Event.{Event}
use Rattle.md_trace.specs.Context.{Placed, has_procedure}
use Rattle.md_trace.specs.Links.{Leading}
use Rattle.md_dynamic.specs.OfHistory.{row_of}
use Rattle.md_dynamic.specs.declared.link.LinkRow.{LinkRow}

-- each link has its row, by number
pub record RowsAre (main : ℕ) (h : List Event) (ls : List Leading) (rows : List LinkRow) : Type 0 where
  pub each : length rows ≡ length ls
  pub right : (j : ℕ) (x : Leading) → slice_get ls j ≡ Some x → slice_get rows j ≡ Some (row_of main h x)

-- the context of the nearest activation of procedure q in a chain, if there is one
abbrev pub nearest : ℕ → List Placed → Option ℕ
nearest q c = option_map (λ x. x.context) (find (has_procedure q) c)

-- each procedure's active context is that of its nearest activation in the current chain
pub record ActiveIs (procs : ℕ) (c : List Placed) (active : List (Option ℕ)) : Type 0 where
  pub each : length active ≡ procs
  pub right : (q : ℕ) → q < procs → slice_get active q ≡ Some (nearest q c)

-- the link of each activation of a chain by number, with the context to which it leads, in order
abbrev pub AreSteps : List Leading → List Placed → List (ℕ × ℕ) → Type 0
AreSteps ls [] [] = Unit {0}
AreSteps ls [] (e ∷ es) = ⊥
AreSteps ls (x ∷ xs) [] = ⊥
AreSteps ls (x ∷ xs) (e ∷ es) = (slice_get ls e.0 ≡ Some (record { link = x.link; to = x.context })) × (e.1 ≡ x.context) × AreSteps ls xs es
