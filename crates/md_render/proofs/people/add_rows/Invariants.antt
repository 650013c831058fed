use Rattle.std.proofs.Common.{◌≡◌, ◌++◌, drop}
use Rattle.md_render.specs.Kept.{names_in}
use Rattle.md_render.specs.People.{rows_html}
use Rattle.md_render.proofs.people.add_rows.Given as goal

-- what was added and the HTML of the rest, for which there is so much room left, are the HTML of the whole
abbrev pub invariant-loop-row : goal.invariant-loop-row
invariant-loop-row l =
    l.out.items ++ rows_html (names_in l.loaded) l.by l.sort l.room (drop l.row-index l.rows)
    ≡ l.fn.out.items ++ rows_html (names_in l.loaded) l.by l.sort 1000 l.rows
