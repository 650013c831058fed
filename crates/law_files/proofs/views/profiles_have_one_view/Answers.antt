use Rattle.law_files.proofs.ViewsThere.{one_view}
use Rattle.law_files.proofs.views.profiles_have_one_view.Goals as goal

pub returns : goal.returns
returns c = one_view
