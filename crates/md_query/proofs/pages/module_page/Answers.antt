use Rattle.std.proofs.Common.{eqb}
use Rattle.md_static.specs.declared.entry.Proc.{Proc}
use Rattle.md_people.proofs.Links.{places_there}
use Rattle.md_query.proofs.pages.module_page.Goals as goal

pub push_procs-requires : goal.push_procs-requires
push_procs-requires c =
    rw (c.deref.ensures.value, c.in_ok-ids.ensures, c.procs.ensures, c.statics.ensures, c.profile.ensures.profile) (places_there (λ (p : Proc). eqb p.module c.args.id) c.args.loaded.now.profile.statics.procs)
