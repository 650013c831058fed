use Rattle.md_hlds.specs.Hlds.{hlds_of}
use Rattle.md_tool.proofs.CoverLemmas.{counted_in, covered}
use Rattle.md_tool.proofs.turns.turns_of.Goals as goal

pub returns-in_ok-cover_text-in-Ok : goal.returns-in_ok-cover_text-in-Ok
returns-in_ok-cover_text-in-Ok c budget bounds p =
    let program = hlds_of c.args.checked.now in
    covered program budget c.args.id c.args.loaded.now.profile c.in-Ok.coverage _ p c.in-Ok.ensures.found
    (λ q at there counted. c.in-Ok.ensures.coverage budget q at there counted)
    (counted_in c.runs_are_histories.ensures c.profiles_of_runs_have_their_counts.ensures program budget c.args.loaded.now.profile bounds p c.requires.valid) c.in_ok-cover_text-in-Ok.ensures
