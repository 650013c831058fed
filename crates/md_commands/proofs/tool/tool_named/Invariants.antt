use Rattle.std.proofs.Common.{◌≡◌, drop}
use Rattle.md_commands.specs.Tools.{named_in, tools}
use Rattle.md_commands.proofs.tool.tool_named.Given as goal

-- none of those before has this name
abbrev pub invariant-loop-tool : goal.invariant-loop-tool
invariant-loop-tool l = named_in tools l.name ≡ named_in (drop l.tool-index l.tool-items) l.name
