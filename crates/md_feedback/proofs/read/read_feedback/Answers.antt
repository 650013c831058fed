use Rattle.std.proofs.Common.{◌≡◌}
use Rattle.md_feedback.specs.Text.{IsFaultAt}
use Rattle.md_feedback.specs.Lines.{HasNo, IsTitle, GivesLeast, GivesModule, IsPairFault}
use Rattle.md_feedback.proofs.FaultLemmas.{handed_on, title_fault_at, least_fault_at, module_fault_at, pair_fault, no_feedback, SpellsNothing, spelled}
use Rattle.md_feedback.proofs.read.read_feedback.Goals as goal

pub returns-in_err-text-clause-line : goal.returns-in_err-text-clause-line
returns-in_err-text-clause-line c =
    handed_on c.from_residual.result c.in_err-text.field-0.0 (λ n. (n ≡ 1) × HasNo IsTitle c.args.text.now) (IsFaultAt c.args.text.now) c.from_residual.ensures.1 c.in_err-text.ensures
    (title_fault_at c.args.text.now)

pub returns-in_err-text-clause-none : goal.returns-in_err-text-clause-none
returns-in_err-text-clause-none c =
    handed_on c.from_residual.result c.in_err-text.field-0.0 (λ n. (n ≡ 1) × HasNo IsTitle c.args.text.now) (SpellsNothing c.args.text.now) c.from_residual.ensures.1 c.in_err-text.ensures
    (λ n h. no_feedback c.args.text.now n (title_fault_at c.args.text.now n h))

pub returns-in_err-least-clause-line : goal.returns-in_err-least-clause-line
returns-in_err-least-clause-line c =
    handed_on c.from_residual-in_err-least.result c.in_err-least.field-0.0 (λ n. (n ≡ 2) × HasNo GivesLeast c.in_ok-text.text.now) (IsFaultAt c.args.text.now)
    c.from_residual-in_err-least.ensures.1 c.in_err-least.ensures (least_fault_at c.args.text.now c.in_ok-text.text.now c.in_ok-text.ensures)

pub returns-in_err-least-clause-none : goal.returns-in_err-least-clause-none
returns-in_err-least-clause-none c =
    handed_on c.from_residual-in_err-least.result c.in_err-least.field-0.0 (λ n. (n ≡ 2) × HasNo GivesLeast c.in_ok-text.text.now) (SpellsNothing c.args.text.now)
    c.from_residual-in_err-least.ensures.1 c.in_err-least.ensures
    (λ n h. no_feedback c.args.text.now n (least_fault_at c.args.text.now c.in_ok-text.text.now c.in_ok-text.ensures n h))

pub returns-in_err-module-clause-line : goal.returns-in_err-module-clause-line
returns-in_err-module-clause-line c =
    handed_on c.from_residual-in_err-module.result c.in_err-module.field-0.0 (λ n. (n ≡ 3) × HasNo GivesModule c.in_ok-least.text.now) (IsFaultAt c.args.text.now)
    c.from_residual-in_err-module.ensures.1 c.in_err-module.ensures
    (module_fault_at c.args.text.now c.in_ok-text.text.now c.in_ok-least.text.now c.in_ok-least.least c.in_ok-text.ensures c.in_ok-least.ensures)

pub returns-in_err-module-clause-none : goal.returns-in_err-module-clause-none
returns-in_err-module-clause-none c =
    handed_on c.from_residual-in_err-module.result c.in_err-module.field-0.0 (λ n. (n ≡ 3) × HasNo GivesModule c.in_ok-least.text.now) (SpellsNothing c.args.text.now)
    c.from_residual-in_err-module.ensures.1 c.in_err-module.ensures
    (λ n h. no_feedback c.args.text.now n
    (module_fault_at c.args.text.now c.in_ok-text.text.now c.in_ok-least.text.now c.in_ok-least.least c.in_ok-text.ensures c.in_ok-least.ensures n h))

pub returns-in_err-pairs-clause-line : goal.returns-in_err-pairs-clause-line
returns-in_err-pairs-clause-line c =
    handed_on c.from_residual-in_err-pairs.result c.in_err-pairs.field-0.0 (IsPairFault c.in_ok-module.text.now) (IsFaultAt c.args.text.now)
    c.from_residual-in_err-pairs.ensures.1 c.in_err-pairs.ensures
    (λ n h. pair_fault c.args.text.now c.in_ok-text.text.now c.in_ok-least.text.now c.in_ok-module.text.now c.in_ok-least.least n c.in_ok-module.module
    c.in_ok-text.ensures c.in_ok-least.ensures c.in_ok-module.ensures h)

pub returns-in_err-pairs-clause-none : goal.returns-in_err-pairs-clause-none
returns-in_err-pairs-clause-none c =
    handed_on c.from_residual-in_err-pairs.result c.in_err-pairs.field-0.0 (IsPairFault c.in_ok-module.text.now) (SpellsNothing c.args.text.now)
    c.from_residual-in_err-pairs.ensures.1 c.in_err-pairs.ensures
    (λ n h. no_feedback c.args.text.now n
    (pair_fault c.args.text.now c.in_ok-text.text.now c.in_ok-least.text.now c.in_ok-module.text.now c.in_ok-least.least n c.in_ok-module.module
    c.in_ok-text.ensures c.in_ok-least.ensures c.in_ok-module.ensures h))

pub returns-clause-feedback : goal.returns-clause-feedback
returns-clause-feedback c =
    spelled c.args.text.now c.in_ok-text.text.now c.in_ok-least.text.now c.in_ok-module.text.now _ c.in_ok-text.ensures c.in_ok-least.ensures c.in_ok-module.ensures
    c.in_ok-pairs.ensures.0 c.in_ok-pairs.ensures.1
