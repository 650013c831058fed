-- The text of two profiles compared.
use Rattle.std.specs.Prelude.{ℕ, Bool, List, ◌++◌, codes, if◌then◌else◌}
use Rattle.std.specs.Fmt.{decimal}
use Rattle.md_base.specs.declared.measure.Measure.{Measure}
use Rattle.md_cost.specs.View.{View}
use Rattle.md_people.specs.Compare.{compare_table}
use Rattle.md_people.specs.Words.{measure_word}
use Rattle.md_table.specs.Table.{TableCells, text_of}

-- what is compared
abbrev pub title_words : Measure → (least : ℕ) → List ℕ
title_words by least = codes "mdprof compare " ++ (measure_word by ++ (codes " " ++ (decimal least ++ codes "\n")))

-- whether the run of a profile was finished
abbrev pub finished_words : (profile : List ℕ) → Bool → List ℕ
finished_words profile finished = profile ++ (if finished then codes " finished yes\n" else codes " finished no\n")

-- the title, a line for each profile, and a table
abbrev pub words_over : Measure → (least : ℕ) → (old new : Bool) → TableCells → List ℕ
words_over by least old new table = title_words by least ++ (finished_words (codes "old") old ++ (finished_words (codes "new") new ++ text_of table))

abbrev pub compare_text : (old new : View) → Measure → (least : ℕ) → List ℕ
compare_text old new by least = words_over by least old.finished new.finished (compare_table old new by least)
