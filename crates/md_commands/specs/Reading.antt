-- What the matches of clap tell of the words.
use Rattle.std.specs.Prelude.{◌≡◌, List, [], Option, Some, None, true, codes, cond, unwrap_or}
use Rattle.clap.specs.Walk.{Row, all_of, first_of, one_of}
use Rattle.clap.specs.Simple.{subcommand_rows_of}
use Rattle.clap.specs.declared.parser.matches.ArgMatches.{ArgMatches}
use Rattle.md_commands.specs.declared.tool.Tool.{Tool}
use Rattle.md_commands.specs.Parts.{Part, Text, Usage, are_right, is_flag, is_given, others, takes_value, value_of}
use Rattle.md_commands.specs.Tools.{name_of, usage_of}
use Rattle.md_commands.specs.Lines.{words_id}

-- the rows of a subcommand's matches tell what the parts of its words are
pub record Tells (usage : Usage) (parts : List Part) (rows : List Row) : Type 0 where
  pub right : are_right usage parts ≡ true
  pub valued : (name : Text) → takes_value usage name ≡ true → first_of name rows ≡ value_of name parts
  pub flags : (name : Text) → is_flag usage name ≡ true → one_of name rows ≡ Some (cond (is_given name parts) (codes "true") (codes "false"))
  pub words : unwrap_or (all_of words_id rows) [] ≡ others parts

-- the matches enter the subcommand of a command, and tell its parts
pub record IsReadingOf (tool : Tool) (parts : List Part) (matches : ArgMatches) : Type 0 where
  pub rows : List Row
  pub entered : subcommand_rows_of matches ≡ Some (name_of tool, rows)
  pub tells : Tells (usage_of tool) parts rows

-- there are matches where there is a command, and they tell it
abbrev pub IsReading : Option (Tool × List Part) → Option ArgMatches → Type 0
IsReading None None = Unit {0}
IsReading (Some a) (Some matches) = IsReadingOf a.0 a.1 matches
IsReading None (Some matches) = ⊥
IsReading (Some a) None = ⊥
