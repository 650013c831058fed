use Rattle.std.proofs.Common.{suc}
use Rattle.md_det.specs.Findings.{program_findings, switch_at}
use Rattle.law_flat.proofs.Lying.{conj_lies, disj_lies, if_lies, not_lies, some_lies, parts_laid, arms_laid}
use Rattle.law_flat.proofs.laid.parts_are_laid.Goals as goal

pub returns-clause-conjunction : goal.returns-clause-conjunction
returns-clause-conjunction c s code f n l ps at h = parts_laid s code f (suc n) ps at at.other (suc at.pending) at.height (conj_lies s code f n l ps at h)

pub returns-clause-disjunction : goal.returns-clause-disjunction
returns-clause-disjunction c s code f n l ps at h = arms_laid s code f n (suc n) ps at (switch_at (program_findings s) n) (suc at.pending) at.height (disj_lies s code f n l ps at h)

pub returns-clause-condition : goal.returns-clause-condition
returns-clause-condition c s code f n l p t e at h = (if_lies s code f n l p t e at h).condition

pub returns-clause-then : goal.returns-clause-then
returns-clause-then c s code f n l p t e at h = (if_lies s code f n l p t e at h).then

pub returns-clause-otherwise : goal.returns-clause-otherwise
returns-clause-otherwise c s code f n l p t e at h = (if_lies s code f n l p t e at h).else

pub returns-clause-negation : goal.returns-clause-negation
returns-clause-negation c s code f n l p at h = (not_lies s code f n l p at h).part

pub returns-clause-quantified : goal.returns-clause-quantified
returns-clause-quantified c s code f n l vs p at h = (some_lies s code f n l vs p at h).part
