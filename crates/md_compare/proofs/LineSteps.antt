-- The lines of names that are told are those of the definition.
use Rattle.std.proofs.Common.{◌≡◌, ℕ, List, [], ◌∷◌, map, refl, ap, ◌∙◌}
use Rattle.std.specs.Prelude.{All}
use Rattle.std.proofs.lemmas.List.Elements.{All-head, All-tail}
use Rattle.md_base.specs.declared.measure.Measure.{Measure}
use Rattle.md_cost.specs.View.{View}
use Rattle.md_people.specs.Compare.{compare_heading, compare_table, name_row, told_names, whole_row}
use Rattle.md_people.specs.Counts.{whole_of}
use Rattle.md_compare.specs.Lines.{told_line, told_table, whole_line}
use Rattle.md_compare.specs.Told.{IsToldOf, name_in}
use Rattle.md_compare.specs.declared.told.Told.{Told}
use Rattle.md_compare.proofs.ToldSteps.{own_told, total_told}

module _ (v w : View) (by : Measure) (whole : ℕ) (whole_is : whole ≡ whole_of v by) where
  line_told : (x : Told) → IsToldOf v w by x → told_line whole x ≡ name_row v w by x.name.items
  line_told x is =
      let name = x.name.items in
      rw (is.apart, is.old, is.new, own_told v by name, own_told w by name, total_told v by name, total_told w by name, whole_is) refl

  lines_told : (xs : List Told) → All (IsToldOf v w by) xs → map (told_line whole) xs ≡ map (name_row v w by) (map name_in xs)
  lines_told [] all = refl
  lines_told (x ∷ xs) all =
      rw (line_told x (All-head (IsToldOf v w by) x xs all), lines_told xs (All-tail (IsToldOf v w by) x xs all)) refl

whole_told : (v w : View) (by : Measure) (old new : ℕ) → old ≡ whole_of v by → new ≡ whole_of w by → whole_line old new ≡ whole_row v w by
whole_told v w by old new a b = ap (λ (n : ℕ). whole_line n new) a ∙ ap (λ (n : ℕ). whole_line (whole_of v by) n) b

pub table_told : (v w : View) (by : Measure) (least : ℕ) (old new : ℕ) (told : List Told) → old ≡ whole_of v by → new ≡ whole_of w by → All (IsToldOf v w by) told → map name_in told ≡ told_names v w by least
    → told_table old new told ≡ compare_table v w by least
table_told v w by least old new told old_is new_is each names =
    let first = whole_told v w by old new old_is new_is in
    let lines : map (told_line old) told ≡ map (name_row v w by) (told_names v w by least) = lines_told v w by old old_is told each ∙ ap (map (name_row v w by)) names in
    λ i. record { heading = compare_heading; rows = first i ∷ lines i }
