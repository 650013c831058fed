use Rattle.std.proofs.Common.{◌≡◌, drop, false}
use Rattle.clap.specs.Words.{app_of}
use Rattle.clap.specs.declared.builder.command.Command.TheViews.{out-Command}
use Rattle.md_commands.specs.Tools.{tools}
use Rattle.md_commands.specs.Lines.{line_of, with_tools}
use Rattle.md_commands.proofs.usage.command_line.Given as goal

-- with the commands that are left it is the whole line
abbrev pub invariant-loop-tool : goal.invariant-loop-tool
invariant-loop-tool l = record {
  shape : with_tools (app_of l.line) (drop l.tool-index l.tool-items) ≡ line_of tools;
  globals : (out-Command l.line).has_globals ≡ false;
}
