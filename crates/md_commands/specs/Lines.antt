-- The command line as clap is given it.
use Rattle.std.specs.Prelude.{◌≡◌, true, false, List, [], ◌∷◌, ◌++◌, Some, codes, map, fold}
use Rattle.clap.specs.Walk.{Rule}
use Rattle.clap.specs.Simple.{App, Shape, app_of, new_rule, new_shape, with_rule, with_subcommand}
use Rattle.clap.specs.declared.builder.action.ArgAction.TheVariants.{Append, SetTrue}
use Rattle.clap.specs.declared.builder.command.Command.{Command}
use Rattle.clap.specs.declared.builder.command.Command.TheViews.{out-Command}
use Rattle.md_commands.specs.declared.tool.Tool.{Tool}
use Rattle.md_commands.specs.Parts.{Text, Usage}
use Rattle.md_commands.specs.Tools.{name_of, usage_of}

-- an option with a value
abbrev pub valued_arg : Text → Rule
valued_arg name = record (new_rule name) { long = Some name }

-- an option without one
abbrev pub flag_arg : Text → Rule
flag_arg name = record (new_rule name) { long = Some name; action = Some SetTrue }

-- the id of the words that are no options
abbrev pub words_id : Text
words_id = codes "words"

-- the words that are no options, as many as there are
abbrev pub words_arg : Rule
words_arg = record (new_rule words_id) { action = Some Append }

abbrev pub options_of : Usage → List Rule
options_of usage = map valued_arg usage.valued ++ map flag_arg usage.flags

abbrev pub subcommand_of : Tool → Shape
subcommand_of tool = record (new_shape (name_of tool)) { rules = options_of (usage_of tool) ++ words_arg ∷ [] }

abbrev pub with_rules : App → List Rule → App
with_rules app rules = fold with_rule app rules

abbrev pub with_tools : App → List Tool → App
with_tools app tools = fold (λ a t. with_subcommand a (subcommand_of t)) app tools

-- there is no name of the program before the words, no help and no version, and a command has to be there
abbrev pub bare_line : App
bare_line = record {
  top = record (new_shape (codes "mdprof")) {
    no_binary_name = true;
    disable_help_flag = true;
    disable_help_subcommand = true;
    subcommand_required = true;
  };
  subs = [];
}

-- the command line with these commands
abbrev pub line_of : List Tool → App
line_of tools = with_tools bare_line tools

-- a command of clap that is this one, with no argument for all of its subcommands
pub record IsApp (app : App) (command : Command) : Type 0 where
  pub shape : app_of command ≡ app
  pub globals : (out-Command command).has_globals ≡ false
