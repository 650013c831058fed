-- The words of which rows are made. A clique, a procedure and a module are plain words in a text, and anchors in HTML.
use Rattle.std.specs.Prelude.{ℕ, ◌==◌, ◌&&◌, nat_le, List, [], ◌++◌, map, codes, if◌then◌else◌}
use Rattle.std.specs.Fmt.{decimal}
use Rattle.percent_encoding.specs.Percent.{percent_encode}
use Rattle.percent_encoding.specs.declared.ascii_set.TheConstants.{NON_ALPHANUMERIC}
use Rattle.md_base.specs.declared.measure.Measure.{Measure}
use Rattle.md_base.specs.declared.measure.Measure.TheVariants.{Calls, Exits, Fails, Redos, Allocs, Words, Excps}
use Rattle.md_cost.specs.declared.sums.Sums.{Sums}
use Rattle.md_people.specs.declared.sort.Sort.{Sort}
use Rattle.md_people.specs.declared.sort.Sort.TheVariants.{Total, Own}
use Rattle.md_query.specs.declared.row.What.{What}
use Rattle.md_query.specs.declared.row.What.TheVariants as what
use Rattle.md_render.specs.declared.form.Form.{Form}
use Rattle.md_render.specs.declared.form.Form.TheVariants.{Text, Html}
use Rattle.md_render.specs.Names.{Names, full_name, proc_at, clique_at, site_at}

-- ---- what stands in an anchor

abbrev pub linked : Form → (address words : List ℕ) → List ℕ
linked Text address words = words
linked Html address words = codes "<a href=\"" ++ (address ++ (codes "\">" ++ (words ++ codes "</a>")))

abbrev pub clique_words : Form → ℕ → List ℕ
clique_words form k = linked form (codes "/clique?id=" ++ decimal k) (codes "clique " ++ decimal k)

abbrev pub proc_words : Form → ℕ → List ℕ
proc_words form q = linked form (codes "/proc?id=" ++ decimal q) (codes "proc " ++ decimal q)

-- in the address each byte that is no letter and no digit is escaped
abbrev pub module_words : Form → (name : List ℕ) → List ℕ
module_words form name = linked form (codes "/module?name=" ++ percent_encode NON_ALPHANUMERIC name) (codes "module " ++ name)

-- ---- numbers

abbrev pub measure_word : Measure → List ℕ
measure_word Calls = codes "calls"
measure_word Exits = codes "exits"
measure_word Fails = codes "fails"
measure_word Redos = codes "redos"
measure_word Allocs = codes "allocs"
measure_word Words = codes "words"
measure_word Excps = codes "excps"

abbrev pub sort_word : Sort → List ℕ
sort_word Total = codes "total"
sort_word Own = codes "own"

-- a text of any bytes as it stands in a title: those that aren't printed are told as `?`
abbrev pub shown_byte : ℕ → ℕ
shown_byte byte = if nat_le 32 byte && nat_le byte 126 then byte else 63

abbrev pub shown : List ℕ → List ℕ
shown text = map shown_byte text

abbrev pub what_word : What → List ℕ
what_word what.Contexts = codes "contexts"
what_word what.Links = codes "links"
what_word what.Cliques = codes "cliques"
what_word what.Calls = codes "calls"
what_word what.Exits = codes "exits"
what_word what.Fails = codes "fails"
what_word what.Redos = codes "redos"
what_word what.Allocs = codes "allocs"
what_word what.Words = codes "words"
what_word what.Excps = codes "excps"

-- exceptions are told where there are any
abbrev pub excps_words : ℕ → List ℕ
excps_words n = if n == 0 then [] else codes " excps " ++ decimal n

-- six counts, and the seventh where it isn't 0
abbrev pub counts_words : Sums → List ℕ
counts_words s =
    decimal s.calls ++ (codes " " ++ (decimal s.exits ++ (codes " " ++ (decimal s.fails ++ (codes " " ++ (decimal s.redos
    ++ (codes " " ++ (decimal s.allocs ++ (codes " " ++ (decimal s.words ++ excps_words s.excps))))))))))

abbrev pub own_words : (own : Sums) → List ℕ
own_words own = codes " own " ++ counts_words own

abbrev pub both_words : (own total : Sums) → List ℕ
both_words own total = own_words own ++ (codes " total " ++ counts_words total)

-- ---- contexts and links

-- a context, with the full name of its procedure
abbrev pub context_words : Names → ℕ → List ℕ
context_words n c = codes "context " ++ (decimal c ++ (codes " " ++ full_name n.statics (proc_at n c)))

-- the same, with its clique
abbrev pub placed_words : Form → Names → ℕ → List ℕ
placed_words form n c = context_words n c ++ (codes " " ++ clique_words form (clique_at n c))

-- a link, with its call site
abbrev pub link_words : Names → ℕ → List ℕ
link_words n l = codes "link " ++ (decimal l ++ (codes " site " ++ decimal (site_at n l)))

-- ---- what is left out

-- how many more rows or boxes there are than are shown, where there are any
abbrev pub more_words : ℕ → List ℕ
more_words n = if n == 0 then [] else codes "<p>" ++ (decimal n ++ codes " more</p>\n")
