use Rattle.std.proofs.Common.{rules, ◌||◌, ◌≡◌, ◌∙◌, ap, ap₂, false}
use Rattle.std.proofs.lemmas.Result.{IfOk-weaker}
use Rattle.clap.specs.Words.{new_app, rule_of, with_rule}
use Rattle.md_commands.specs.Tools.{name_of}
use Rattle.md_commands.specs.Lines.{words_arg}
use Rattle.md_commands.proofs.LineLemmas.{tool_app}
use Rattle.md_commands.proofs.usage.subcommand_of.Goals as goal

pub returns : goal.returns
returns c =
    let words_are : rule_of c.action-words.result ≡ words_arg = search rules in
    let local : c.action-words.result.global ≡ false = search rules in
    let start = c.in_ok-command.ensures (new_app (name_of c.args.tool)) (record { shape = c.new.ensures.app ∙ ap new_app c.name_of.ensures; globals = c.new.ensures.local }) in
    IfOk-weaker c.arg.result _ _
    (λ r added. record {
      shape = added.shape local ∙ ap₂ with_rule start.shape words_are ∙ tool_app c.args.tool;
      globals = added.globals ∙ ap₂ (λ a b. a || b) start.globals local;
    })
    c.arg.ensures
