-- How pages for people look (Cascading Style Sheets of the W3C): one sheet, which stands inside each page.
use Rattle.std.specs.Prelude.{ℕ, List, ◌++◌, codes}

-- colours by day and by night
abbrev pub colours_words : List ℕ
colours_words = codes ":root{color-scheme:light dark;--ink:#222;--dim:#666;--line:#ddd;--page:#fff;--link:#04a;--bar:#fd9;--box:#fc8}\n@media(prefers-color-scheme:dark){:root{--ink:#ddd;--dim:#999;--line:#444;--page:#181818;--link:#8bf;--bar:#653;--box:#854}}\n"

-- the page
abbrev pub page_words : List ℕ
page_words = codes "body{font:15px/1.5 system-ui,sans-serif;max-width:75em;margin:1em auto;padding:0 1em;color:var(--ink);background:var(--page)}h1{font-size:1.3em;overflow-wrap:anywhere}p{margin:.2em 0;color:var(--dim)}a{color:var(--link);text-decoration:none}a:hover{text-decoration:underline}nav a,footer a{margin-right:.7em}.on{color:inherit;font-weight:700}footer,form{margin:1em 0}\n"

-- tables: numbers stand at the right, and shares have bars
abbrev pub table_words : List ℕ
table_words = codes "table{border-collapse:collapse;margin:1em 0;font-variant-numeric:tabular-nums}th,td{padding:.1em .6em;text-align:right;white-space:pre;border-bottom:1px solid var(--line)}th{color:var(--dim);font-weight:400}th:last-child,td:last-child{text-align:left}td[style]{min-width:4em;background:linear-gradient(var(--bar),var(--bar)) no-repeat;background-size:var(--w) 100%}\n"

-- on a narrow page what the row is of stands in a line of its own above the numbers
abbrev pub narrow_words : List ℕ
narrow_words = codes "@media(max-width:600px){table,tbody{display:block}tr{display:grid;grid-template-columns:repeat(auto-fill,minmax(4.6em,1fr));padding:.3em 0;border-bottom:1px solid var(--line)}th,td{padding:0 .3em;border:0;overflow-wrap:anywhere}td[style]{min-width:0}th:last-child,td:last-child{grid-column:1/-1;order:-1;white-space:pre-wrap}}\n"

-- the picture, which is never narrower than its letters ask
abbrev pub picture_words : List ℕ
picture_words = codes "figure{margin:1em 0;overflow-x:auto}svg{display:block;min-width:1000px;font:12px monospace}rect{fill:var(--box);stroke:var(--page);stroke-width:.5}text{fill:var(--ink)}svg a:nth-child(3n) rect{fill:var(--bar)}\n"

abbrev pub sheet_words : List ℕ
sheet_words = colours_words ++ (page_words ++ (table_words ++ (narrow_words ++ picture_words)))
