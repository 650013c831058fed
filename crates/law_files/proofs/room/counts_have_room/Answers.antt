use Rattle.std.proofs.Common.{rules, All, subst}
use Rattle.std.proofs.lemmas.List.{take_all}
use Rattle.std.proofs.lemmas.List.Elements.{All-more}
use Rattle.md_dynamic.specs.declared.link.LinkRow.{LinkRow}
use Rattle.md_deepfile.specs.Spells.{AreSmall}
use Rattle.law_files.proofs.room.counts_have_room.Goals as goal

pub loop-link-preserved : goal.loop-link-preserved
loop-link-preserved c = All-more (λ (k : LinkRow). AreSmall k.own) c.args.links.now c.loop-link.link-index c.link-item.result (search rules) c.loop-link.invariant (search rules)

pub returns : goal.returns
returns c = subst (All (λ (k : LinkRow). AreSmall k.own)) (take_all c.loop-link.link-index c.args.links.now (search rules)) c.loop-link.invariant
