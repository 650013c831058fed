use Rattle.md_cover.proofs.RunCounts.{counts_told}
use Rattle.md_cover.proofs.laws.profiles_of_runs_tell_their_calls.Goals as goal

pub returns : goal.returns
returns c = λ t s program budget f is of valid free v seen. counts_told t s program budget f is of valid free v seen
