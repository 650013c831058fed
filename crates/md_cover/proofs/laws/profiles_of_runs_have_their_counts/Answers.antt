use Rattle.md_cover.proofs.RunCounts.{profile_is_counted}
use Rattle.md_cover.proofs.laws.profiles_of_runs_have_their_counts.Goals as goal

pub returns : goal.returns
returns c = profile_is_counted
