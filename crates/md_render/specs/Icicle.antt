-- The picture of a flame graph as HTML: each clique that has a row in the tree is a box below its parent's box, in Scalable Vector
-- Graphics (W3C). The whole is 1000 wide, a level 20 high, and the box of a level 19.
use Rattle.std.specs.Prelude.{ℕ, ◌+◌, ◌-◌, ◌*◌, ◌/◌, ◌%◌, ◌==◌, max, List, [], ◌++◌, length, take, codes, if◌then◌else◌}
use Rattle.std.specs.List.{flat_map, fold}
use Rattle.std.specs.Fmt.{decimal}
use Rattle.md_base.specs.declared.measure.Measure.{Measure}
use Rattle.md_cost.specs.View.{View}
use Rattle.md_table.specs.Cells.{share_words}
use Rattle.md_table.specs.Anchors.{escaped}
use Rattle.md_people.specs.Counts.{whole_of}
use Rattle.md_people.specs.Tree.{clique_own, clique_total, where_words}
use Rattle.md_tree.specs.declared.picture.CliqueBox.{CliqueBox}
use Rattle.md_tree.specs.Picture.{picture}
use Rattle.md_render.specs.declared.icicle.Cost.{Cost}
use Rattle.md_render.specs.Words.{measure_word, more_words}

-- ---- what a clique costs

abbrev pub cost_of : View → Measure → (clique : ℕ) → Cost
cost_of v by k = record { by = by; total = clique_total v by k; whole = whole_of v by; own = clique_own v by k }

-- the total, its share in the whole, and the own counts
abbrev pub part_words : Cost → List ℕ
part_words c = codes ", " ++ (share_words c.total c.whole ++ (codes " %, own " ++ decimal c.own))

abbrev pub cost_words : Cost → List ℕ
cost_words c = (codes ": " ++ decimal c.total) ++ (codes " " ++ (measure_word c.by ++ part_words c))

-- ---- a box

-- millionths of the whole, as the picture measures them: thousandths of what the whole is wide, with three digits behind the point
abbrev pub edge_words : (millionths : ℕ) → List ℕ
edge_words n = decimal (n / 1000) ++ ((codes "." ++ decimal (n / 100 % 10)) ++ (decimal (n / 10 % 10) ++ decimal (n % 10)))

abbrev pub rect_words : CliqueBox → List ℕ
rect_words b = (codes "<rect x=\"" ++ edge_words b.left) ++ ((codes "\" y=\"" ++ decimal (20 * b.level)) ++ ((codes "\" width=\"" ++ edge_words b.width) ++ codes "\" height=\"19\"/>"))

-- how many letters a box of this width holds: a text begins 2000 millionths behind the left edge, and a letter takes 7300
abbrev pub letters_in : (width : ℕ) → ℕ
letters_in width = (width - 2000) / 7300

abbrev pub held_words : CliqueBox → (text : List ℕ) → List ℕ
held_words b text = (codes "<text x=\"" ++ edge_words (b.left + 2000)) ++ ((codes "\" y=\"" ++ decimal (20 * b.level + 14)) ++ (codes "\">" ++ (escaped text ++ codes "</text>")))

-- as much of a text as the box holds
abbrev pub label_words : CliqueBox → (text : List ℕ) → List ℕ
label_words b text = if letters_in b.width == 0 then [] else held_words b (take (letters_in b.width) text)

-- where a clique is and what it costs, as a browser tells at the box
abbrev pub tip_words : (text : List ℕ) → Cost → List ℕ
tip_words text c = codes "\"><title>" ++ (escaped text ++ (cost_words c ++ codes "</title>"))

-- the box is an anchor to the page of its clique
abbrev pub drawn_words : CliqueBox → (text : List ℕ) → Cost → List ℕ
drawn_words b text c = (codes "<a href=\"/clique?id=" ++ decimal b.clique) ++ (tip_words text c ++ (rect_words b ++ (label_words b text ++ codes "</a>\n")))

abbrev pub box_words : View → Measure → CliqueBox → List ℕ
box_words v by b = drawn_words b (where_words v b.clique) (cost_of v by b.clique)

-- ---- the picture

-- how many levels have boxes
abbrev pub levels_of : List CliqueBox → ℕ
levels_of boxes = fold (λ most b. max most (b.level + 1)) 0 boxes

abbrev pub svg_words : View → Measure → List CliqueBox → List ℕ
svg_words v by boxes = (codes "<figure><svg viewBox=\"0 0 1000 " ++ decimal (20 * levels_of boxes)) ++ (codes "\">\n" ++ (flat_map (box_words v by) boxes ++ codes "</svg></figure>\n"))

-- the first 10,000 boxes, and how many more there are
abbrev pub drawn_of : View → Measure → List CliqueBox → List ℕ
drawn_of v by boxes = svg_words v by (take 10000 boxes) ++ more_words (length boxes - 10000)

unfoldable pub icicle_words : View → Measure → (least : ℕ) → List ℕ
icicle_words v by least = drawn_of v by (picture v by least)
