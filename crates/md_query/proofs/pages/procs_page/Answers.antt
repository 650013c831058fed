use Rattle.std.proofs.Common.{length}
use Rattle.md_query.proofs.ListSteps.{range_there}
use Rattle.md_query.proofs.pages.procs_page.Goals as goal

pub push_procs-requires : goal.push_procs-requires
push_procs-requires c = rw (c.deref.ensures.value, c.in_ok-ids.ensures, c.procs.ensures, c.statics.ensures, c.profile.ensures.profile) (range_there (length c.args.loaded.now.profile.statics.procs))
