-- The command line as clap is given it, and as clap builds it.
use Rattle.std.proofs.Common.{◌≡◌, refl, [], Option}
use Rattle.std.specs.Prelude.{option_map, slice_get, unwrap_or}
use Rattle.clap.specs.Walk.{Rule}
use Rattle.md_commands.specs.Parts.{Text}
use Rattle.clap.specs.Simple.{App, built, new_app, with_rule}
use Rattle.clap.specs.Faults.{is_simple_and_free}
use Rattle.std.proofs.Common.{true, sym, ap, ◌∙◌, ◌+◌, ◌<◌, ℕ, suc, length, drop, drop-cons, arith}
use Rattle.std.specs.List.{slice_index_or}
use Rattle.clap.specs.Simple.{with_subcommand, is_simple}
use Rattle.md_commands.specs.declared.tool.Tool.{Tool}
use Rattle.md_commands.specs.declared.tool.Tool.TheVariants as tool
use Rattle.md_commands.specs.Tools.{name_of, usage_of, tools}
use Rattle.md_commands.specs.Lines.{flag_arg, line_of, options_of, subcommand_of, valued_arg, with_rules, with_tools, words_arg}
use Rattle.md_commands.proofs.Apps.{built_app}

-- a command with its options and words
pub tool_app : (t : Tool) → with_rule (with_rules (new_app (name_of t)) (options_of (usage_of t))) words_arg ≡ record { top = subcommand_of t; subs = [] }
tool_app tool.Check = refl
tool_app tool.Run = refl
tool_app tool.Report = refl
tool_app tool.Page = refl
tool_app tool.Serve = refl
tool_app tool.Gen = refl
tool_app tool.Migrate = refl
tool_app tool.Feedback = refl
tool_app tool.Dump = refl
tool_app tool.Undump = refl
tool_app tool.Cover = refl
tool_app tool.Sum = refl
tool_app tool.Compare = refl

-- a command with an option more, where there is one
abbrev pub with_any : (Text → Rule) → App → Option Text → App
with_any rule app name = unwrap_or (option_map (λ n. with_rule app (rule n)) name) app

options_at : (t : Tool) (app : App) → with_any flag_arg (with_any valued_arg (with_any valued_arg app (slice_get (usage_of t).valued 0)) (slice_get (usage_of t).valued 1)) (slice_get (usage_of t).flags 0) ≡ with_rules app (options_of (usage_of t))
options_at tool.Check app = refl
options_at tool.Run app = refl
options_at tool.Report app = refl
options_at tool.Page app = refl
options_at tool.Serve app = refl
options_at tool.Gen app = refl
options_at tool.Migrate app = refl
options_at tool.Feedback app = refl
options_at tool.Dump app = refl
options_at tool.Undump app = refl
options_at tool.Cover app = refl
options_at tool.Sum app = refl
options_at tool.Compare app = refl

-- the options of a command, one after the other
pub options_more : (t : Tool) (app : App) (a b c : Option Text) → a ≡ slice_get (usage_of t).valued 0 → b ≡ slice_get (usage_of t).valued 1 → c ≡ slice_get (usage_of t).flags 0
    → with_any flag_arg (with_any valued_arg (with_any valued_arg app a) b) c ≡ with_rules app (options_of (usage_of t))
options_more t app a b c is_first is_second is_flag = rw (is_first, is_second, is_flag) (options_at t app)

-- what clap makes of it
pub line_built : built (line_of tools) ≡ built_app tools
line_built = refl

-- clap's contract tells all of it
pub line_simple : is_simple_and_free (line_of tools) ≡ true
line_simple = refl

-- one of the commands more
pub tools_more : (line : App) (i : ℕ) (t : Tool) → i < length tools → with_tools line (drop i tools) ≡ line_of tools
    → with_tools (with_subcommand line (subcommand_of (slice_index_or tools i t))) (drop (i + 1) tools) ≡ line_of tools
tools_more line i t lt whole =
    let next : i + 1 ≡ suc i = omega arith in
    ap (λ n. with_tools (with_subcommand line (subcommand_of (slice_index_or tools i t))) (drop n tools)) next
    ∙ sym (ap (with_tools line) (drop-cons tools i t lt)) ∙ whole

pub line_simple_only : is_simple (line_of tools) ≡ true
line_simple_only = refl
