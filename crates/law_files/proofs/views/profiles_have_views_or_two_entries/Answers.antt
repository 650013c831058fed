use Rattle.law_files.proofs.ViewsThere.{never_both, view_or_twice}
use Rattle.law_files.proofs.views.profiles_have_views_or_two_entries.Goals as goal

pub returns-clause-one : goal.returns-clause-one
returns-clause-one c = view_or_twice

pub returns-clause-never_both : goal.returns-clause-never_both
returns-clause-never_both c = never_both
