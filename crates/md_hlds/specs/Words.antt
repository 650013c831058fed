-- The words of a program's text that more than one crate writes.
use Rattle.std.specs.Prelude.{ℕ, List, codes}
use Rattle.md_hlds.specs.declared.types.Det.{Det}
use Rattle.md_hlds.specs.declared.types.Det.TheVariants as det

-- the word for a determinism
abbrev pub det_word : Det → List ℕ
det_word det.Det = codes "det"
det_word det.Semidet = codes "semidet"
det_word det.Multi = codes "multi"
det_word det.Nondet = codes "nondet"
det_word det.Failure = codes "failure"
