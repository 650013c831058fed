use Rattle.std.proofs.Common.{[]}
use Rattle.std.proofs.lemmas.List.Elements.{All-nil, All-same}
use Rattle.md_compare.specs.Told.{IsToldBy}
use Rattle.md_compare.proofs.told.all_told.Goals as goal

pub returns-clause-each : goal.returns-clause-each
returns-clause-each c =
    let P = IsToldBy c.args.both.now in
    c.in_ok-add_new.ensures.each (c.in_ok-add_old.ensures.each (All-same P c.new-told.result.items [] c.new-told.ensures.items (All-nil P)))
