use Rattle.law_frames.proofs.AnyTurns.{any_turn}
use Rattle.law_frames.proofs.turns.every_turn.Goals as goal

pub returns : goal.returns
returns c = record { leads = λ s lv S a p w x d cs k st stands leaves hands. any_turn s stands leaves hands }
