-- The program for each number has no fault: all of them are checked.
use Rattle.std.proofs.Common.{◌≡◌, refl, ℕ, ◌≤◌, None, map}
use Rattle.std.specs.Fmt.{digits}
use Rattle.std.specs.List.{range_with_len}
use Rattle.md_modes.specs.Modes.{mode_fault}
use Rattle.md_det.specs.Faults.{det_fault}
use Rattle.law_generated.specs.Generated.{generated}
use Rattle.law_generated.proofs.Numbers.{same_at}

no_mode_fault : map (λ n. mode_fault (generated n)) (range_with_len 1 20) ≡ map (λ n. None) (range_with_len 1 20)
unfolding digits mode_fault
no_mode_fault = refl

pub each_moded : (n : ℕ) → 1 ≤ n → n ≤ 20 → mode_fault (generated n) ≡ None
each_moded n some few = same_at (λ n. mode_fault (generated n)) (λ n. None) 20 n no_mode_fault some few

no_det_fault : map (λ n. det_fault (generated n)) (range_with_len 1 20) ≡ map (λ n. None) (range_with_len 1 20)
unfolding digits det_fault
no_det_fault = refl

pub each_as_declared : (n : ℕ) → 1 ≤ n → n ≤ 20 → det_fault (generated n) ≡ None
each_as_declared n some few = same_at (λ n. det_fault (generated n)) (λ n. None) 20 n no_det_fault some few
