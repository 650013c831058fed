use Rattle.std.proofs.Common.{◌≡◌, All}
use Rattle.form_urlencoded.specs.Parse.{raw_pairs_left}
use Rattle.md_query.specs.Pair.{value_of, first_value, IsPlainPair, ArePlain}
use Rattle.md_query.proofs.pair.value_of.Given as goal

-- the first value among the pairs that are left is the first of all, and they are plain where all are
abbrev pub invariant-loop-key : goal.invariant-loop-key
invariant-loop-key l =
    (goal.iterator-loop-key).can_next l.key-iterator ×
    (goal.iterator-loop-key).is_finite l.key-iterator ×
    (first_value l.name (raw_pairs_left l.key-iterator) ≡ value_of l.name l.pairs) ×
    (ArePlain l.pairs → All IsPlainPair (raw_pairs_left l.key-iterator))
