use Rattle.std.proofs.Common.{◌∙◌, ap, ◌++◌, ◌∷◌, [], arith}
use Rattle.std.proofs.lemmas.Grind.{common_steps}
use Rattle.md_ports.proofs.Names.{known_module, new_module, was_new, was_known}
use Rattle.md_ports.proofs.modules.add_module.Goals as goal

pub returns-in_ok-push-clause-names : goal.returns-in_ok-push-clause-names
returns-in_ok-push-clause-names c =
    c.in_ok-push.ensures.items
    ∙ (ap (λ x. c.args.names.now.items ++ x ∷ []) c.in_ok-copy.ensures
    ∙ new_module c.args.name.now c.as_bytes.result c.args.numbers.now.keys c.args.names.now.items c.as_bytes.ensures.bytes c.requires
    (was_new _ _ c.in_ok-insert.ensures.added c.if-branch.true))

pub returns-else-branch-clause-names : goal.returns-else-branch-clause-names
returns-else-branch-clause-names c =
    known_module c.args.name.now c.as_bytes.result c.args.numbers.now.keys c.args.names.now.items c.as_bytes.ensures.bytes c.requires
    (was_known _ _ c.in_ok-insert.ensures.added c.if-branch.false)

pub returns-else-branch-clause-numbers : goal.returns-else-branch-clause-numbers
returns-else-branch-clause-numbers c = grind (arith, common_steps)

pub returns-in_ok-push-clause-numbers : goal.returns-in_ok-push-clause-numbers
returns-in_ok-push-clause-numbers c = grind (arith, common_steps)
