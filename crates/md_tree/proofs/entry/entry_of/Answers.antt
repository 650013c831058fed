use Rattle.std.proofs.Common.{arith}
use Rattle.md_people.proofs.StationSteps.{entry_within}
use Rattle.md_tree.proofs.entry.entry_of.Goals as goal

pub led_by-requires : goal.led_by-requires
led_by-requires c =
    let l = c.args.loaded.now in
    let within = entry_within l.cliques l.entries l.profile.links c.args.clique c.profile-profile.ensures.loaded.tree.entries_are c.requires.there in
    let is = c.entering.ensures.link in
    omega arith
