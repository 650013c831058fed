use Rattle.std.specs.List.{filter}
use Rattle.std.proofs.Common.{map}
use Rattle.std.proofs.lemmas.List.Elements.{filter-append}
use Rattle.md_compare.specs.Told.{is_told_in, name_in}
use Rattle.md_compare.proofs.ToldSteps.{names_more}
use Rattle.md_compare.proofs.told.add_old.Goals as goal

pub loop-id-preserved : goal.loop-id-preserved
loop-id-preserved c =
    let p = is_told_in c.args.both.now c.args.margin in
    record {
      names = names_more (filter p) (filter-append p) c.args.old.now c.loop-id.id c.in_ok-full_name.field-0.items (map name_in c.args.told.now.items) (map name_in c.loop-id.told.items) (map name_in c.add_name.new.told.items)
          c.loop-id.invariant.names c.in_ok-add_name.ensures.names c.in_ok-full_name.ensures;
      each = λ all. c.in_ok-add_name.ensures.each (c.loop-id.invariant.each all);
    }
