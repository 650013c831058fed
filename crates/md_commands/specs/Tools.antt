-- The commands: their names, and the options that each takes.
use Rattle.std.specs.Prelude.{List, [], ◌∷◌, Option, codes, find}
use Rattle.std.specs.Str.{bytes_eq}
use Rattle.md_commands.specs.declared.tool.Tool.{Tool}
use Rattle.md_commands.specs.declared.tool.Tool.TheVariants as tool
use Rattle.md_commands.specs.Parts.{Text, Usage}

abbrev pub name_of : Tool → Text
name_of tool.Check = codes "check"
name_of tool.Run = codes "run"
name_of tool.Report = codes "report"
name_of tool.Page = codes "page"
name_of tool.Serve = codes "serve"
name_of tool.Gen = codes "gen"
name_of tool.Migrate = codes "migrate"
name_of tool.Feedback = codes "feedback"
name_of tool.Dump = codes "dump"
name_of tool.Undump = codes "undump"
name_of tool.Cover = codes "cover"
name_of tool.Sum = codes "sum"
name_of tool.Compare = codes "compare"

-- those that look further into a profile
abbrev pub later_tools : List Tool
later_tools = tool.Feedback ∷ tool.Dump ∷ tool.Undump ∷ tool.Cover ∷ tool.Sum ∷ tool.Compare ∷ []

abbrev pub tools : List Tool
tools = tool.Check ∷ tool.Run ∷ tool.Report ∷ tool.Page ∷ tool.Serve ∷ tool.Gen ∷ tool.Migrate ∷ later_tools

abbrev pub named_in : List Tool → Text → Option Tool
named_in all name = find (λ t. bytes_eq name (name_of t)) all

-- the command of this name
abbrev pub tool_named : Text → Option Tool
tool_named name = named_in tools name

-- the options of each command
abbrev pub usage_of : Tool → Usage
usage_of tool.Check = record { valued = []; flags = codes "print" ∷ [] }
usage_of tool.Run = record { valued = codes "steps" ∷ codes "profile" ∷ []; flags = [] }
usage_of tool.Report = record { valued = codes "steps" ∷ []; flags = [] }
usage_of tool.Page = record { valued = []; flags = [] }
usage_of tool.Serve = record { valued = codes "port" ∷ codes "requests" ∷ []; flags = [] }
usage_of tool.Gen = record { valued = []; flags = codes "summary" ∷ [] }
usage_of tool.Migrate = record { valued = []; flags = [] }
usage_of tool.Feedback = record { valued = codes "steps" ∷ codes "least" ∷ []; flags = [] }
usage_of tool.Dump = record { valued = []; flags = [] }
usage_of tool.Undump = record { valued = []; flags = [] }
usage_of tool.Cover = record { valued = codes "steps" ∷ []; flags = [] }
usage_of tool.Sum = record { valued = []; flags = [] }
usage_of tool.Compare = record { valued = codes "by" ∷ codes "least" ∷ []; flags = [] }
