use Rattle.std.proofs.Common.{◌≡◌, ◌++◌, List, ℕ, length, take, sym, ap, ◌∙◌, arith}
use Rattle.std.specs.List.{flat_map}
use Rattle.std.proofs.Math.Seq.{take-length}
use Rattle.std.proofs.lemmas.List.Folds.{flat_map-map}
use Rattle.md_dump.specs.Text.{line, count_words}
use Rattle.md_dump.proofs.told.put_each.Goals as goal

pub returns : goal.returns
returns g c =
    let done : c.loop-thing.thing-index ≡ length c.args.things.now = omega arith in
    let all = ap (λ (k : ℕ). take k c.args.things.now) done ∙ take-length c.args.things.now in
    c.loop-thing.invariant
    ∙ ap (λ xs. c.args.out.now.items ++ (line (count_words c.args.name.now (length c.args.things.now)) ++ flat_map (λ x. line (g.T.Told.words x)) xs)) all
    ∙ ap (λ (bs : List ℕ). c.args.out.now.items ++ (line (count_words c.args.name.now (length c.args.things.now)) ++ bs)) (sym (flat_map-map line g.T.Told.words c.args.things.now))
