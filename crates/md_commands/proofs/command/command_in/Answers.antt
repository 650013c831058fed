use Rattle.std.proofs.Common.{IfOk, ap, subst, sym, ◌≡◌, ◌∙◌, true≢false}
use Rattle.std.specs.Prelude.{is_some, option_map}
use Rattle.clap.specs.Walk.{Row, rows_of}
use Rattle.clap.specs.Matches.{found_of}
use Rattle.std.proofs.Common.{List}
use Rattle.md_commands.specs.declared.tool.Tool.{Tool}
use Rattle.md_commands.specs.Form.{form_by}
use Rattle.md_commands.specs.Told.{command_told}
use Rattle.md_commands.specs.Tools.{usage_of}
use Rattle.md_commands.specs.Reading.{Tells}
use Rattle.md_commands.proofs.ReadingLemmas.{entered_tool, some_same}
use Rattle.md_commands.proofs.command.command_in.Goals as goal

pub returns-in-Some-tool_named : goal.returns-in-Some-tool_named
returns-in-Some-tool_named c t parts reading =
    let named = entered_tool c.args.matches.now t reading.rows c.in-Some.name.now reading.entered c.in-Some.ensures.name in
    let same : c.in-Some-tool_named.tool ≡ t = some_same _ _ (c.in-Some-tool_named.ensures ∙ named) in
    let rows = some_same _ _ (c.in-Some.ensures.rows ∙ ap (option_map (λ p. p.1)) reading.entered) in
    let tells = subst (λ (u : Tool). Tells (usage_of u) parts (rows_of (found_of c.in-Some.values.now))) (sym same) (subst (λ (rs : List Row). Tells (usage_of t) parts rs) (sym rows) reading.tells) in
    subst (λ (u : Tool). IfOk c.command_by.result (λ found. command_told found ≡ form_by u parts)) same (c.command_by.ensures parts tells)

pub returns-in-None : goal.returns-in-None
returns-in-None c t parts reading =
    let named = entered_tool c.args.matches.now t reading.rows c.in-Some.name.now reading.entered c.in-Some.ensures.name in
    absurd (true≢false (sym (ap is_some (c.in-None.ensures ∙ named))))
