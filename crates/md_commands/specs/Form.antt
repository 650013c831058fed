-- Which words are a command, and with which values.
use Rattle.std.specs.Prelude.{ℕ, ◌≤◌, Bool, true, false, ◌==◌, ◌&&◌, nat_le, List, [], ◌∷◌, length, Option, Some, None, codes, cond, map, option_map, String, string_bytes, unwrap_or}
use Rattle.std.specs.Char.{is_ascii_digit}
use Rattle.std.specs.List.{before_first, after_first, list_all}
use Rattle.std.specs.Str.{bytes_eq}
use Rattle.std.specs.declared.alloc.Global.{Global}
use Rattle.md_base.specs.declared.measure.Measure.{Measure}
use Rattle.md_base.specs.declared.measure.Measure.TheVariants.{Calls}
use Rattle.md_query.specs.Asked.{Asked, query_of}
use Rattle.md_query.specs.Pair.{measure_or, number_from, number_within}
use Rattle.md_commands.specs.declared.tool.Tool.{Tool}
use Rattle.md_commands.specs.declared.tool.Tool.TheVariants as tool
use Rattle.md_commands.specs.Parts.{Part, Front, are_right, is_given, others, parts_from, value_of}
use Rattle.md_commands.specs.Tools.{tool_named, usage_of}

-- the words of the code as bytes
abbrev pub words_of : List (String Global) → List (List ℕ)
words_of words = map string_bytes words

-- the procedure that a word means: the one of a number, or the one of a full name
pub data Meant : Type 0 where
  Number : (number : ℕ) → Meant
  Name : (name : List ℕ) → Meant

pub data Form : Type 0 where
  -- `check FILE [--print]`
  Check : (file : List ℕ) (print : Bool) → Form
  -- `run FILE [--steps N] [--profile NAME]`
  Run : (file : List ℕ) (steps : ℕ) (profile : List ℕ) → Form
  -- `report FILE QUERY [--steps N]`
  Report : (file : List ℕ) (query : Asked) (steps : ℕ) → Form
  -- `page NAME QUERY`
  Page : (name : List ℕ) (query : Asked) → Form
  -- `serve NAME --port P --requests N`
  Serve : (name : List ℕ) (port requests : ℕ) → Form
  -- `gen N [--summary]`
  Gen : (n : ℕ) (summary : Bool) → Form
  -- `migrate NAME NEW`
  Migrate : (name new : List ℕ) → Form
  -- `feedback FILE NEW [--steps N] [--least K]`
  Feedback : (file new : List ℕ) (steps least : ℕ) → Form
  -- `dump NAME`
  Dump : (name : List ℕ) → Form
  -- `undump TEXT NEW`
  Undump : (text new : List ℕ) → Form
  -- `cover FILE PROC [--steps N]`
  Cover : (file : List ℕ) (procedure : Meant) (steps : ℕ) → Form
  -- `sum NAME { NAME }`
  Sum : (names : List (List ℕ)) → Form
  -- `compare OLD NEW [--by M] [--least L]`
  Compare : (old new : List ℕ) (by : Measure) (least : ℕ) → Form

-- ---- the command and the parts of the words after it

abbrev pub right_parts : Tool → List Part → Option (Tool × List Part)
right_parts tool parts = cond (are_right (usage_of tool) parts) (Some (tool, parts)) None

abbrev pub parts_by : Option Tool → List (List ℕ) → Option (Tool × List Part)
parts_by None words = None
parts_by (Some tool) words = right_parts tool (parts_from (usage_of tool) Front words)

-- the command that the first word names, and the parts of the other words, where the options are right
abbrev pub parts_of : List (List ℕ) → Option (Tool × List Part)
parts_of [] = None
parts_of (command ∷ words) = parts_by (tool_named command) words

-- ---- values of options

-- a number within bounds, or the usual one where the option doesn't come
abbrev pub number_or : (least most usual : ℕ) → Option (List ℕ) → Option ℕ
number_or least most usual None = Some usual
number_or least most usual (Some text) = number_within least most text

abbrev pub usual_steps : ℕ
usual_steps = 1000000

-- the steps that a run is given
abbrev pub steps_of : List Part → Option ℕ
steps_of parts = number_or 1 16777216 usual_steps (value_of (codes "steps") parts)

abbrev pub usual_profile : List ℕ
usual_profile = codes "mdprof.data"

-- where a run's profile goes
abbrev pub profile_of : List Part → List ℕ
profile_of parts = unwrap_or (value_of (codes "profile") parts) usual_profile

abbrev pub usual_least : ℕ
usual_least = 100

-- the least number of calls below a costly one
abbrev pub least_of : List Part → Option ℕ
least_of parts = number_or 1 4294967295 usual_least (value_of (codes "least") parts)

-- by which measure profiles are compared
abbrev pub by_of : List Part → Option Measure
by_of parts = measure_or Calls (value_of (codes "by") parts)

abbrev pub usual_thousandths : ℕ
usual_thousandths = 5

-- how many thousandths of the whole are told
abbrev pub thousandths_of : List Part → Option ℕ
thousandths_of parts = number_or 0 1000 usual_thousandths (value_of (codes "least") parts)

-- port and connections, neither of which is left out
abbrev pub port_of : List Part → Option ℕ
port_of parts = number_from 1 65535 (value_of (codes "port") parts)

abbrev pub requests_of : List Part → Option ℕ
requests_of parts = number_from 1 1000000 (value_of (codes "requests") parts)

-- ---- queries

-- one `/` in front is dropped
abbrev pub without_slash : List ℕ → List ℕ
without_slash [] = []
without_slash (b ∷ bytes) = cond (b == 47) bytes (b ∷ bytes)

-- a path, and behind the first `?` the pairs
abbrev pub query_at : List ℕ → Option Asked
query_at address = query_of (before_first (λ b. b == 63) address) (after_first (λ b. b == 63) address)

abbrev pub query_in : List ℕ → Option Asked
query_in word = query_at (without_slash word)

-- ---- the other words

-- the one word, where there is one
abbrev pub only : List (List ℕ) → Option (List ℕ)
only (word ∷ []) = Some word
only words = None

-- the two words, where there are two
abbrev pub two : List (List ℕ) → Option (List ℕ × List ℕ)
two (a ∷ b ∷ []) = Some (a, b)
two words = None

-- a word of digits alone is a number, and any other one a full name
abbrev pub meant_by : Bool → List ℕ → Option Meant
meant_by true word = option_map Number (number_within 0 4294967295 word)
meant_by false word = Some (Name word)

abbrev pub meant_in : List ℕ → Option Meant
meant_in word = meant_by (list_all is_ascii_digit word) word

-- ---- commands, by the values of their options and the other words

abbrev pub check_of : (print : Bool) (file : Option (List ℕ)) → Option Form
check_of print None = None
check_of print (Some file) = Some (Check file print)

-- the profile isn't written over the program
abbrev pub run_of : (steps : Option ℕ) (profile : List ℕ) (file : Option (List ℕ)) → Option Form
run_of (Some steps) profile (Some file) = cond (bytes_eq profile file) None (Some (Run file steps profile))
run_of steps profile file = None

abbrev pub report_with : List ℕ → ℕ → Option Asked → Option Form
report_with file steps None = None
report_with file steps (Some query) = Some (Report file query steps)

abbrev pub report_of : (steps : Option ℕ) (words : Option (List ℕ × List ℕ)) → Option Form
report_of (Some steps) (Some (file, query)) = report_with file steps (query_in query)
report_of steps words = None

abbrev pub page_with : List ℕ → Option Asked → Option Form
page_with name None = None
page_with name (Some query) = Some (Page name query)

abbrev pub page_of : (words : Option (List ℕ × List ℕ)) → Option Form
page_of None = None
page_of (Some (name, query)) = page_with name (query_in query)

abbrev pub serve_of : (port requests : Option ℕ) (name : Option (List ℕ)) → Option Form
serve_of (Some port) (Some requests) (Some name) = Some (Serve name port requests)
serve_of port requests name = None

abbrev pub gen_with : Bool → Option ℕ → Option Form
gen_with summary None = None
gen_with summary (Some n) = Some (Gen n summary)

abbrev pub gen_of : (summary : Bool) (word : Option (List ℕ)) → Option Form
gen_of summary None = None
gen_of summary (Some word) = gen_with summary (number_within 1 20 word)

-- a file isn't written over itself
abbrev pub migrate_of : (words : Option (List ℕ × List ℕ)) → Option Form
migrate_of None = None
migrate_of (Some (name, new)) = cond (bytes_eq name new) None (Some (Migrate name new))

-- a program isn't written over
abbrev pub feedback_of : (steps least : Option ℕ) (words : Option (List ℕ × List ℕ)) → Option Form
feedback_of (Some steps) (Some least) (Some (file, new)) = cond (bytes_eq file new) None (Some (Feedback file new steps least))
feedback_of steps least words = None

abbrev pub dump_of : (name : Option (List ℕ)) → Option Form
dump_of None = None
dump_of (Some name) = Some (Dump name)

abbrev pub undump_of : (words : Option (List ℕ × List ℕ)) → Option Form
undump_of None = None
undump_of (Some (text, new)) = cond (bytes_eq text new) None (Some (Undump text new))

abbrev pub cover_with : List ℕ → ℕ → (procedure : Option Meant) → Option Form
cover_with file steps None = None
cover_with file steps (Some q) = Some (Cover file q steps)

abbrev pub cover_of : (steps : Option ℕ) (words : Option (List ℕ × List ℕ)) → Option Form
cover_of (Some steps) (Some (file, word)) = cover_with file steps (meant_in word)
cover_of steps words = None

-- 1 to 16
abbrev pub are_few : List (List ℕ) → Bool
are_few names = nat_le 1 (length names) && nat_le (length names) 16

abbrev pub sum_of : (names : List (List ℕ)) → Option Form
sum_of names = cond (are_few names) (Some (Sum names)) None

-- nothing is written, so both names may be of one file
abbrev pub compare_of : (by : Option Measure) (least : Option ℕ) (words : Option (List ℕ × List ℕ)) → Option Form
compare_of (Some by) (Some least) (Some (old, new)) = Some (Compare old new by least)
compare_of by least words = None

-- what a command and the parts of the words after it ask for
abbrev pub form_by : Tool → List Part → Option Form
form_by tool.Check parts = check_of (is_given (codes "print") parts) (only (others parts))
form_by tool.Run parts = run_of (steps_of parts) (profile_of parts) (only (others parts))
form_by tool.Report parts = report_of (steps_of parts) (two (others parts))
form_by tool.Page parts = page_of (two (others parts))
form_by tool.Serve parts = serve_of (port_of parts) (requests_of parts) (only (others parts))
form_by tool.Gen parts = gen_of (is_given (codes "summary") parts) (only (others parts))
form_by tool.Migrate parts = migrate_of (two (others parts))
form_by tool.Feedback parts = feedback_of (steps_of parts) (least_of parts) (two (others parts))
form_by tool.Dump parts = dump_of (only (others parts))
form_by tool.Undump parts = undump_of (two (others parts))
form_by tool.Cover parts = cover_of (steps_of parts) (two (others parts))
form_by tool.Sum parts = sum_of (others parts)
form_by tool.Compare parts = compare_of (by_of parts) (thousandths_of parts) (two (others parts))

abbrev pub form_at : Option (Tool × List Part) → Option Form
form_at None = None
form_at (Some (tool, parts)) = form_by tool parts

-- what the words ask for, where they are a command
unfoldable pub form : List (List ℕ) → Option Form
form words = form_at (parts_of words)

-- ---- what holds of every command

-- a generated program has 1 to 20 procedures, a costly call 1 to 4,294,967,295 calls below it, 1 to 16 profiles are added up,
-- and the margin of a difference is at most the whole
abbrev pub HasBounds : Form → Type 0
HasBounds (Check file print) = Unit {0}
HasBounds (Run file steps profile) = Unit {0}
HasBounds (Report file query steps) = Unit {0}
HasBounds (Page name query) = Unit {0}
HasBounds (Serve name port requests) = Unit {0}
HasBounds (Gen n summary) = (1 ≤ n) × (n ≤ 20)
HasBounds (Migrate name new) = Unit {0}
HasBounds (Feedback file new steps least) = (1 ≤ least) × (least ≤ 4294967295)
HasBounds (Dump name) = Unit {0}
HasBounds (Undump text new) = Unit {0}
HasBounds (Cover file procedure steps) = Unit {0}
HasBounds (Sum names) = (1 ≤ length names) × (length names ≤ 16)
HasBounds (Compare old new by least) = least ≤ 1000
