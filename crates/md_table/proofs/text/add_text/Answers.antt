use Rattle.std.proofs.Common.{◌≡◌, ℕ, ◌∷◌, ◌++◌, arith, subst}
use Rattle.std.specs.List.{flat_map}
use Rattle.std.proofs.lemmas.Grind.{common_steps}
use Rattle.md_table.specs.Table.{text_of, lines_of, line_words, width_in, width_of}
use Rattle.md_table.proofs.text.add_text.Goals as goal

pub returns : goal.returns
unfolding text_of
returns c =
    let same : width_in c.in_ok-widths.widths.items ≡ width_of (lines_of c.args.table.now) = λ i column. c.in_ok-widths.ensures column i in
    subst (λ (w : ℕ → ℕ). c.add_rows.new.out.items ≡ c.args.out.now.items ++ 10 ∷ (line_words w c.args.table.now.heading ++ flat_map (line_words w) c.args.table.now.rows)) same
    (grind (arith, common_steps))
