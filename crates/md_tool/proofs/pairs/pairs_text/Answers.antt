use Rattle.std.proofs.Common.{sym, subst}
use Rattle.md_cost.specs.FileView.{IsFileView}
use Rattle.md_dynamic.specs.Profile.{ProfileRows}
use Rattle.md_feedback.specs.Search.{HasSitesOf}
use Rattle.md_hlds.specs.Hlds.{hlds_of}
use Rattle.md_tool.proofs.PairLemmas.{has_sites, pairs_due}
use Rattle.md_tool.proofs.pairs.pairs_text.Goals as goal

pub loaded_pairs-requires-clause-sites : goal.loaded_pairs-requires-clause-sites
loaded_pairs-requires-clause-sites c =
    subst (λ (f : ProfileRows). HasSitesOf (hlds_of c.args.checked.now) f.statics) (sym c.in_ok-loaded.ensures.profile)
    (has_sites c.tables_give_the_site_table.ensures c.a_site_table_has_the_sites.ensures (hlds_of c.args.checked.now) c.requires.of_run.0 c.args.profile c.requires.of_run.1 c.requires.of_run.2)

pub returns : goal.returns
returns c =
    pairs_due (hlds_of c.args.checked.now) c.args.least c.args.profile c.in_ok-loaded.loaded.profile c.loaded_pairs.result c.loaded_pairs.ensures
    (λ budget bounds p v is. c.in_ok-loaded.ensures.view (hlds_of c.args.checked.now) budget v bounds p (subst (λ (f : ProfileRows). IsFileView f v) c.in_ok-loaded.ensures.profile is))
