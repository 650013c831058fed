use Rattle.md_machine.proofs.Following.{stays_history}
use Rattle.md_machine.proofs.rounds.what_is_seen_is_a_history.Goals as goal

pub returns : goal.returns
returns types known s code marks b seen st within stays = stays_history s code marks b seen st within stays
