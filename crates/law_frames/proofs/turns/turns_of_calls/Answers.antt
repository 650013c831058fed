use Rattle.std.proofs.Common.{sym, ◌∙◌}
use Rattle.law_frames.proofs.Calling.{calls_of, cut_called, whole_called}
use Rattle.law_frames.proofs.AnyTurns.{frame_of_call}
use Rattle.law_frames.proofs.turns.turns_of_calls.Goals as goal

pub returns-clause-cut : goal.returns-clause-cut
returns-clause-cut c s lv S T a p w x d cs k st site q vs ys outs stands call fits many leaves hands new = cut_called s site q vs ys outs stands (calls_of s st x p site q vs ys call fits) many (leaves ∙ sym many) hands new

pub returns-clause-whole : goal.returns-clause-whole
returns-clause-whole c s lv S T a p w x d cs k st site q vs ys outs h stands call fits many leaves hands new = whole_called s site q vs ys outs h stands (calls_of s st x p site q vs ys call fits) many (leaves ∙ sym many) hands new

pub returns-clause-frame : goal.returns-clause-frame
returns-clause-frame c s lv S a p w x d cs k st site q vs ys outs ins stands call fits passes = frame_of_call s site q vs ys outs ins stands (calls_of s st x p site q vs ys call fits) passes
