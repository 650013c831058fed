use Rattle.std.proofs.Common.{◌≡◌, ◌∙◌, sym, ap, length, arith}
use Rattle.md_reader.specs.Input.{with_variable}
use Rattle.md_reader.proofs.Words.{words, known_variable, new_variable, few_variables}
use Rattle.md_reader.proofs.scope.Scope.add.Goals as goal

pub returns-then-contains-clause-ok : goal.returns-then-contains-clause-ok
returns-then-contains-clause-ok c =
    let known : words c.self.inside.names.keys ≡ with_variable c.args.name.now (words c.self.inside.names.keys) = known_variable c.args.name.now c.self.inside.names.keys (sym c.contains.ensures ∙ c.if-contains.true) in
    let view = c.self.view_is in
    cc

pub returns : goal.returns
returns c =
    let new : words c.insert.new.self.keys ≡ with_variable c.args.name.now (words c.self.inside.names.keys) = ap words c.in_ok-insert.ensures.keys ∙ new_variable c.args.name.now c.in_ok-name.name c.self.inside.names.keys c.in_ok-name.ensures.items (sym c.contains.ensures ∙ c.if-contains.false) in
    let view = c.self.view_is in
    let few = few_variables c.args.name.now (words c.self.inside.names.keys) in
    record { ok = cc; more = let l = ap length new in let m = ap length view in omega (arith, l, few, m) }
