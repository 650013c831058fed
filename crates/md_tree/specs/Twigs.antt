-- Twigs of the picture under way: the children of a clique that are still to be looked at, and where the next one's box begins.
use Rattle.std.specs.Prelude.{ℕ, ◌≤◌, ◌+◌, List, [], ◌∷◌, ◌++◌, length, sum_by, Some}
use Rattle.std.specs.List.{filter}
use Rattle.md_base.specs.declared.measure.Measure.{Measure}
use Rattle.md_clique.specs.Cliques.{clique_count}
use Rattle.md_cost.specs.View.{View}
use Rattle.md_people.specs.Tree.{is_shown}
use Rattle.md_tree.specs.declared.picture.CliqueBox.{CliqueBox}
use Rattle.md_tree.specs.declared.picture.Twig.{Twig}
use Rattle.md_tree.specs.Children.{Child}
use Rattle.md_tree.specs.Picture.{boxes_beside, boxes_from, width_of}
use Rattle.md_tree.specs.Rests.{IsRest, cliques_left, past, rest_work}

-- those of the children that are left that have a box
abbrev pub shown_left : View → Measure → (least : ℕ) → List Child → Twig → List ℕ
shown_left v by least cs t = filter (is_shown v by least) (cliques_left cs t.rest)

-- their boxes with all that is below them, where the next box has this place
abbrev pub twig_boxes : View → Measure → (least : ℕ) → List Child → (place : ℕ) → Twig → List CliqueBox
twig_boxes v by least cs place t = boxes_beside (width_of v by) (boxes_from v by least (clique_count v.cliques) t.level (Some t.place)) t.left place (shown_left v by least cs t)

abbrev pub open_boxes : View → Measure → (least : ℕ) → List Child → (place : ℕ) → List Twig → List CliqueBox
open_boxes v by least cs place [] = []
open_boxes v by least cs place (t ∷ ts) = twig_boxes v by least cs place t ++ open_boxes v by least cs (place + length (twig_boxes v by least cs place t)) ts

-- past the child at its place, which has a box of this width
abbrev pub past_box : Twig → (width : ℕ) → Twig
past_box t w = record t { rest = past t.rest; left = t.left + w }

-- there is room for the boxes that are left
abbrev pub Fits : View → Measure → (least : ℕ) → List Child → Twig → Type 0
Fits v by least cs t = t.left + sum_by (width_of v by) (shown_left v by least cs t) ≤ 1000000

-- a twig of a tree of so many cliques
pub record IsTwig (count : ℕ) (cs : List Child) (t : Twig) : Type 0 where
  pub rest : IsRest count cs t.rest
  pub level : t.level ≤ t.rest.parent + 1

abbrev pub twig_work : List Child → (levels : ℕ) → Twig → ℕ
twig_work cs n t = rest_work cs n t.rest

abbrev pub all_work : List Child → (levels : ℕ) → List Twig → ℕ
all_work cs n ts = sum_by (twig_work cs n) ts
