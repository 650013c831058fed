-- Names and words in tables. A number that isn't there stands for 0 or for no name.
use Rattle.std.specs.Prelude.{ℕ, ◌≡◌, Bool, List, [], Option, Some, None, ◌++◌, length, codes, slice_get, slice_index, unwrap_or, if◌then◌else◌}
use Rattle.std.specs.Fmt.{decimal}
use Rattle.std.specs.List.{find, range_with_len}
use Rattle.std.specs.Str.{bytes_eq}
use Rattle.md_base.specs.declared.measure.Measure.{Measure}
use Rattle.md_base.specs.declared.measure.Measure.TheVariants.{Calls, Exits, Fails, Redos, Allocs, Words, Excps}
use Rattle.md_static.specs.declared.entry.Proc.{Proc}
use Rattle.md_static.specs.declared.entry.Site.{Site}
use Rattle.md_static.specs.declared.entry.SiteKind.TheVariants.{HigherOrder}
use Rattle.md_static.specs.Tables.{Static}
use Rattle.md_cost.specs.View.{View, Join}
use Rattle.md_people.specs.declared.led.Led.{Led}

abbrev pub measure_word : Measure → List ℕ
measure_word Calls = codes "calls"
measure_word Exits = codes "exits"
measure_word Fails = codes "fails"
measure_word Redos = codes "redos"
measure_word Allocs = codes "allocs"
measure_word Words = codes "words"
measure_word Excps = codes "excps"

-- ---- what the words name

-- the name of a module
abbrev pub module_name : Static → ℕ → List ℕ
module_name s k = unwrap_or (slice_get s.modules k) []

-- a procedure's module, name and number of arguments
abbrev pub full_name_of : Static → Option Proc → List ℕ
full_name_of s None = []
full_name_of s (Some p) = module_name s p.«module» ++ (codes "." ++ (p.name ++ (codes "/" ++ decimal p.arity)))

abbrev pub full_name : Static → ℕ → List ℕ
full_name s q = full_name_of s (slice_get s.procs q)

-- the full name of each procedure
pub record AreFullNames (s : Static) (names : List (List ℕ)) : Type 0 where
  pub each : length names ≡ length s.procs
  pub are : (q : ℕ) (name : List ℕ) → slice_get names q ≡ Some name → name ≡ full_name s q

-- the first procedure of this full name
abbrev pub proc_named : Static → (name : List ℕ) → Option ℕ
proc_named s name = find (λ q. bytes_eq (full_name s q) name) (range_with_len 0 (length s.procs))

-- the procedure of a context, and its clique
abbrev pub proc_at : View → ℕ → ℕ
proc_at v c = slice_index v.nodes c

abbrev pub clique_at : View → ℕ → ℕ
clique_at v c = slice_index v.cliques c

-- a link
abbrev pub join_at : View → ℕ → Join
join_at v l = unwrap_or (slice_get v.links l) (record { caller = None; site = None; callee = 0 })

abbrev pub site_at : View → ℕ → ℕ
site_at v l = unwrap_or (join_at v l).site 0

abbrev pub callee_at : View → ℕ → ℕ
callee_at v l = (join_at v l).callee

-- the procedure of the context to which a link leads
abbrev pub proc_to : View → ℕ → ℕ
proc_to v l = proc_at v (callee_at v l)

-- the owner of a call site, and its line
abbrev pub call_site : Static → ℕ → Site
call_site t s = unwrap_or (slice_get t.sites s) (record { owner = 0; line = 0; kind = HigherOrder })

abbrev pub owner_of : Static → ℕ → ℕ
owner_of t s = (call_site t s).owner

abbrev pub line_at : Static → ℕ → ℕ
line_at t s = (call_site t s).line

-- ---- the words

abbrev pub context_words : ℕ → List ℕ
context_words c = codes " context " ++ decimal c

abbrev pub clique_words : ℕ → List ℕ
clique_words k = codes " clique " ++ decimal k

-- a line of the text, and a call site there
abbrev pub line_words : Static → (site : ℕ) → List ℕ
line_words t s = codes " line " ++ decimal (line_at t s)

abbrev pub site_words : ℕ → List ℕ
site_words s = codes " site " ++ decimal s

-- a site with its owner
abbrev pub caller_words : Static → (site : ℕ) → List ℕ
caller_words t s = full_name t (owner_of t s) ++ (line_words t s ++ site_words s)

-- from where a callee is called
abbrev pub from_words : Static → (site : ℕ) → List ℕ
from_words t s = codes " from" ++ (line_words t s ++ site_words s)

-- the procedure of a context, the context and its clique
abbrev pub station_words : Static → (procedure context clique : ℕ) → List ℕ
station_words t q c k = full_name t q ++ (context_words c ++ clique_words k)

-- a procedure that is called at a site
abbrev pub called_words : Static → (site procedure : ℕ) → List ℕ
called_words t s r = full_name t r ++ from_words t s

-- ---- the words of a link

-- the call site of a link, and the context to which it leads with its procedure and its clique
abbrev pub led_by : View → ℕ → Led
led_by v l = record { site = site_at v l; callee = callee_at v l; proc = proc_to v l; clique = clique_at v (callee_at v l) }

-- the clique is told of a link that leaves its own
abbrev pub left_words : (leaves : Bool) (clique : ℕ) → List ℕ
left_words leaves k = if leaves then clique_words k else []

abbrev pub led_words : Static → Led → (leaves : Bool) → List ℕ
led_words t led leaves = full_name t led.proc ++ (from_words t led.site ++ (context_words led.callee ++ left_words leaves led.clique))
