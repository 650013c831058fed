-- The addresses of pages that are asked for by a measure, as they stand in HTML. In a text that is asked for each byte that is no letter
-- and no digit is escaped.
use Rattle.std.specs.Prelude.{ℕ, List, [], ◌++◌, codes, Option, Some, None}
use Rattle.std.specs.Fmt.{decimal}
use Rattle.percent_encoding.specs.Percent.{percent_encode}
use Rattle.percent_encoding.specs.declared.ascii_set.TheConstants.{NON_ALPHANUMERIC}
use Rattle.md_base.specs.declared.measure.Measure.{Measure}
use Rattle.md_query.specs.declared.row.Title.{Title}
use Rattle.md_query.specs.declared.row.Title.TheVariants as title
use Rattle.md_render.specs.Words.{measure_word, sort_word}

-- the measure by which a page for people is asked for
abbrev pub by_of : Title → Option Measure
by_of (title.Hot by n sort) = Some by
by_of (title.Tree by least) = Some by
by_of (title.Flame by least) = Some by
by_of (title.Find by text) = Some by
by_of (title.Context by c q) = Some by
by_of (title.Callers by q) = Some by
by_of t = None

-- its address up to the measure; other pages have none
abbrev pub path_of : Title → List ℕ
path_of (title.Hot by n sort) = codes "/hot?by="
path_of (title.Tree by least) = codes "/tree?by="
path_of (title.Flame by least) = codes "/flame?by="
path_of (title.Find by text) = codes "/find?by="
path_of (title.Context by c q) = codes "/context?by="
path_of (title.Callers by q) = codes "/callers?by="
path_of t = []

-- the pairs behind the measure
abbrev pub pairs_of : Title → List ℕ
pairs_of (title.Hot by n sort) = (codes "&amp;n=" ++ decimal n) ++ (codes "&amp;sort=" ++ sort_word sort)
pairs_of (title.Tree by least) = codes "&amp;least=" ++ decimal least
pairs_of (title.Flame by least) = codes "&amp;least=" ++ decimal least
pairs_of (title.Find by text) = codes "&amp;name=" ++ percent_encode NON_ALPHANUMERIC text
pairs_of (title.Context by c q) = codes "&amp;id=" ++ decimal c
pairs_of (title.Callers by q) = codes "&amp;id=" ++ decimal q
pairs_of t = []

-- the same page by this measure
abbrev pub address_words : Title → Measure → List ℕ
address_words t by = path_of t ++ (measure_word by ++ pairs_of t)

-- procedures by a measure, the first n of them, as they are sorted by what is put behind
abbrev pub sorting_words : Measure → ℕ → List ℕ
sorting_words by n = codes "/hot?by=" ++ (measure_word by ++ ((codes "&amp;n=" ++ decimal n) ++ codes "&amp;sort="))

-- where the headings of a page lead; those of other pages lead nowhere
abbrev pub sort_of : Title → List ℕ
sort_of (title.Hot by n sort) = sorting_words by n
sort_of t = []
