use Rattle.std.proofs.Common.{rules, ◌<◌, ◌^◌, All, subst}
use Rattle.std.proofs.lemmas.List.{take_all}
use Rattle.std.proofs.lemmas.List.Elements.{All-more}
use Rattle.md_static.specs.declared.entry.Site.{Site}
use Rattle.law_files.proofs.room.lines_have_room.Goals as goal

pub loop-site-preserved : goal.loop-site-preserved
loop-site-preserved c = All-more (λ (x : Site). x.line < 2 ^ 32) c.args.sites.now c.loop-site.site-index c.site-item.result (search rules) c.loop-site.invariant (search rules)

pub returns : goal.returns
returns c = subst (All (λ (x : Site). x.line < 2 ^ 32)) (take_all c.loop-site.site-index c.args.sites.now (search rules)) c.loop-site.invariant
