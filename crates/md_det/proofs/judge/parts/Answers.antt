use Rattle.md_det.proofs.Counted.{conj_size, disj_size}
use Rattle.md_det.proofs.judge.parts.Goals as goal

pub returns-clause-conj : goal.returns-clause-conj
returns-clause-conj c = conj_size c.args.goals.now c.as_slice.result.now c.as_slice.ensures.value

pub returns-clause-disj : goal.returns-clause-disj
returns-clause-disj c = disj_size c.args.goals.now c.as_slice.result.now c.as_slice.ensures.value
