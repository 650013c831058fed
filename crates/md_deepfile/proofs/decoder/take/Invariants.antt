use Rattle.std.proofs.Common.{◌≡◌, ◌≤◌, ◌-◌, List, ℕ, ◌++◌, length, drop}
use Rattle.md_deepfile.specs.Format.{read}
use Rattle.md_deepfile.specs.State.{state_of, form_of, IsReady}
use Rattle.md_deepfile.proofs.decoder.take.Given as goal

abbrev pub invariant-loop-done : goal.invariant-loop-done
invariant-loop-done l = record {
  within : l.done ≤ length l.piece;
  ready : IsReady (state_of l.reader);
  so_far : (rest : List ℕ) → read (form_of (state_of l.fn.reader)) l.fn.reader.at (l.piece ++ rest) ≡ read (form_of (state_of l.reader)) l.reader.at (drop l.done l.piece ++ rest);
}

abbrev pub decreases-loop-done : goal.decreases-loop-done
decreases-loop-done l = length l.piece - l.done
