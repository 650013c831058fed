use Rattle.std.proofs.Common.{ℕ, eqb, arith}
use Rattle.std.proofs.lemmas.Grind.{common_steps}
use Rattle.md_static.specs.declared.entry.Site.{Site}
use Rattle.md_people.proofs.Links.{places_there}
use Rattle.md_query.proofs.pages.proc_page.Goals as goal

pub push_contexts-requires : goal.push_contexts-requires
push_contexts-requires c = rw c.contexts_of.ensures.contexts (places_there (λ (p : ℕ). eqb p c.args.id) c.args.loaded.now.profile.nodes)

pub push_sites-requires : goal.push_sites-requires
push_sites-requires c =
    rw (c.deref.ensures.value, c.in_ok-sites.ensures, c.sites.ensures, c.statics.ensures, c.profile.ensures.profile) (places_there (λ (s : Site). eqb s.owner c.args.id) c.args.loaded.now.profile.statics.sites)

pub returns-in_err-push : goal.returns-in_err-push
returns-in_err-push c = grind (arith, common_steps)

pub returns-in_err-push-2 : goal.returns-in_err-push-2
returns-in_err-push-2 c = grind (arith, common_steps)

pub returns-in_err-push_contexts : goal.returns-in_err-push_contexts
returns-in_err-push_contexts c = grind (arith, common_steps)

pub returns-in_err-push_sites : goal.returns-in_err-push_sites
returns-in_err-push_sites c = grind (arith, common_steps)

pub returns-in_err-sites : goal.returns-in_err-sites
returns-in_err-sites c = grind (arith, common_steps)
