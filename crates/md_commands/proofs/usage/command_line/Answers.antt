use Rattle.std.proofs.Common.{◌∙◌, ◌||◌, ap, ap₂, drop, ◌+◌, arith}
use Rattle.std.proofs.lemmas.Grind.{common_steps}
use Rattle.clap.specs.Words.{App, app_of, with_subcommand}
use Rattle.md_commands.specs.Tools.{tools}
use Rattle.md_commands.specs.Lines.{with_tools}
use Rattle.md_commands.proofs.LineLemmas.{tools_more}
use Rattle.md_commands.proofs.usage.command_line.Goals as goal

pub loop-tool-preserved : goal.loop-tool-preserved
loop-tool-preserved c =
    let sub = c.in_ok-subcommand_of.ensures in
    let added = c.in_ok-line.ensures in
    record {
      shape = ap (λ (a : App). with_tools a (drop (c.loop-tool.tool-index + 1) tools)) (added.shape sub.globals ∙ ap (λ (a : App). with_subcommand (app_of c.loop-tool.line) a.top) sub.shape)
          ∙ tools_more (app_of c.loop-tool.line) c.loop-tool.tool-index _ c.loop-tool-test.true c.loop-tool.invariant.shape;
      globals = added.globals ∙ ap₂ (λ a b. a || b) c.loop-tool.invariant.globals sub.globals;
    }

pub returns : goal.returns
returns c = grind (arith, common_steps)
